-- The laws of least maps, from the lemmas.
use Rattle.law_geometry.proofs.sphere.Prelude.{Vector, IsInVolume, IsInFacet, IsOnEdge}
use Rattle.law_geometry.proofs.sphere.Unique.{svertex-neither, neither-svertex}
use Rattle.law_geometry.proofs.sphere.Equal.{least-unique, cone-unique}
use Rattle.law_geometry.proofs.sphere.Kind.{flat-parallel}
use Rattle.law_geometry.proofs.sphere.KindFlats.{facet-flat, facet-only}
use Rattle.law_geometry.proofs.sphere.KindLaws.{KindOf, of_volume, of_facet, of_edge, edge-flat, edge-only, edge-direction}
use Rattle.law_geometry.proofs.sphere.Dimensions.{map-flat, flat-map, volume-dimension, facet-dimension, edge-dimension, vertex-dimension}
use Rattle.law_geometry.proofs.sphere.laws.least_laws.Goals as goal

pub returns-clause-exactly : goal.returns-clause-exactly
returns-clause-exactly c M d V L h = (λ x. svertex-neither M V L d x.0 x.1 x.2 x.3, λ n. let m = neither-svertex M V L d h n in (m.number, m.svertex, m.listed, m.same))

pub returns-clause-unique : goal.returns-clause-unique
returns-clause-unique c = least-unique

pub returns-clause-cone : goal.returns-clause-cone
returns-clause-cone c = cone-unique

pub returns-clause-kind : goal.returns-clause-kind
returns-clause-kind c M s p C L = (
  volume-dimension M s p C,
  λ n K. (facet-dimension M s p C L n K, λ d. (λ f. facet-only M C.valid L n K d (map-flat M s p C d f), λ z. flat-map M s p C d (facet-flat M C.valid n K d z))),
  λ d K. (edge-dimension M s p C L d K, λ e. (λ f. edge-only M C.valid L d K e (map-flat M s p C e f), λ z. flat-map M s p C e (flat-parallel M C.valid d e (edge-direction M C.valid d K) z (edge-flat M C.valid d K)))),
  λ v f e. vertex-dimension M s p C L (neither v f e),
)
  where
    neither : (IsInVolume M → ⊥) → ((n : Vector) → IsInFacet M n → ⊥) → ((d : Vector) → IsOnEdge M d → ⊥) → KindOf M → ⊥
    neither v f e (of_volume k) = v k
    neither v f e (of_facet n k) = f n k
    neither v f e (of_edge d k) = e d k
