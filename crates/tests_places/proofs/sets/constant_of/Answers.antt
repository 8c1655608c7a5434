use Rattle.tests_places.proofs.Prelude.{constant_set}
use Rattle.tests_places.proofs.Shown.{shown}
use Rattle.tests_places.proofs.sets.constant_of.Goals as goal

pub returns : goal.returns
returns c = record { shows = shown c.constant.result c.ok.result c.ok.ensures.value (λ x p. (constant_set c.args.full, p)) c.constant.ensures.shows }
