use Rattle.tests_places.proofs.Prelude.{unary_set}
use Rattle.tests_places.proofs.Shown.{shown}
use Rattle.tests_places.proofs.sets.Maker.changed.Goals as goal

pub returns : goal.returns
returns g c =
    let S = c.requires.shows in
    record { shows = shown c.unary.result c.ok.result c.ok.ensures.value (λ x f. (unary_set c.args.op S.0, f S.0 S.1)) c.unary.ensures.shows }
