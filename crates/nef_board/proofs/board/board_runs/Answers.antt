use Rattle.nef_board.proofs.Runs.{runs}
use Rattle.nef_board.proofs.board.board_runs.Goals as goal

pub returns : goal.returns
returns g c work jobs seats s b kept home = runs (g.J.Job.right work) jobs seats s b kept home
