use Rattle.tests_places.proofs.Prelude.{refl, Set}
use Rattle.tests_places.proofs.Shown.{shown}
use Rattle.tests_places.proofs.sets.whole_frame.Goals as goal

pub returns : goal.returns
returns c = record { shows = shown c.frame.result c.ok.result c.ok.ensures.value (λ x p. (Set.full, p)) (c.frame.ensures.full refl) }
