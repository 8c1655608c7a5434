use Rattle.nef_free.proofs.Steps.{runs}
use Rattle.nef_free.proofs.board.board_runs.Goals as goal

pub returns : goal.returns
returns g c work jobs seats s kept = runs (g.J.Job.right work) jobs seats s kept
