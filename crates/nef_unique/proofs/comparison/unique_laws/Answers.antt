-- The laws of what is unique, from the lemmas.
use Rattle.nef_unique.proofs.Prelude.{least-unique, label-direction, map_of}
use Rattle.nef_unique.proofs.Injective.{map_of-one}
use Rattle.nef_unique.proofs.Vertices.{set-vertices}
use Rattle.nef_unique.proofs.Sets.{vertices-set}
use Rattle.nef_unique.proofs.comparison.unique_laws.Goals as goal

pub returns-clause-least : goal.returns-clause-least
returns-clause-least c m n A B mark same =
    map_of-one m n
    (least-unique (map_of m) (map_of n) A.sphere_map.valid B.sphere_map.valid A.sphere_map.ordered B.sphere_map.ordered A.least B.least mark
    (λ d l h. (same d l (label-direction (map_of m) d l h)).0 h))

pub returns-clause-vertices : goal.returns-clause-vertices
returns-clause-vertices c s t a b S T same = set-vertices s t a b S.shows T.shows same

pub returns-clause-sets : goal.returns-clause-sets
returns-clause-sets c s t C D S T same = vertices-set s t C D S T same
