use Rattle.nef_stopo.specs.Sets.{op_set}
use Rattle.tests_places.proofs.Shown.{shown}
use Rattle.tests_places.proofs.sets.Maker.combined.Goals as goal

pub returns : goal.returns
returns g c =
    let S = c.requires.first in let T = c.requires.second in
    record { shows = shown c.binary.result c.ok.result c.ok.ensures.value (λ x f. (op_set c.args.op S.0 T.0, f S.0 T.0 S.1 T.1)) c.binary.ensures.shows }
