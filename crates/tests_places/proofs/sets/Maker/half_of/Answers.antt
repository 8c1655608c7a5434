use Rattle.tests_places.proofs.Prelude.{Set, given_form}
use Rattle.tests_places.proofs.Shown.{shown}
use Rattle.tests_places.proofs.sets.Maker.half_of.Goals as goal

pub returns : goal.returns
returns g c = record { shows = shown c.half.result c.ok.result c.ok.ensures.value (λ x p. (Set.half (given_form c.in_ok-oriented.oriented) c.args.closed, p)) c.half.ensures.shows }
