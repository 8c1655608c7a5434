-- A set that is turned back is the set, and one that is turned twice is turned by the composition.
use Rattle.nef_turn.proofs.Prelude.{sym, subst, Set, ShowsSet}
use Rattle.law_geometry.proofs.turns.Twice.{set-back, set-twice}
use Rattle.nef_turn.proofs.turning.turning_laws.Goals as goal

pub returns-clause-back : goal.returns-clause-back
returns-clause-back u = λ j k c d e h f g s S. subst (λ (t : Set). ShowsSet t e) (set-back j k s h) (g _ (f s S))

pub returns-clause-twice : goal.returns-clause-twice
returns-clause-twice u = λ i j k c d e h f g s S. subst (λ (t : Set). ShowsSet t e) (sym (set-twice i j k s h)) (g _ (f s S))
