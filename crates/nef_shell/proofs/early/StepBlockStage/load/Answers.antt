use Rattle.nef_shell.proofs.Prelude.{slice_index_or, slice_get-get_or, slice_get_within}
use Rattle.nef_shell.proofs.Needs.{no-early}
use Rattle.nef_shell.proofs.early.StepBlockStage.load.Goals as goal

pub task_of-requires : goal.task_of-requires
task_of-requires g c =
    let self = c.args.self.now in
    let e = slice_index_or self.list.now c.args.n no-early in
    let is = c.requires.workable.0 c.args.n e (slice_get-get_or self.list.now c.args.n no-early c.requires.number) in
    record { within = slice_get_within self.steps.now e.value is.step is.at }
