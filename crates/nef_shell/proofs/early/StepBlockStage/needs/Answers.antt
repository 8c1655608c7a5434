use Rattle.nef_shell.proofs.Prelude.{slice_get-get_or}
use Rattle.nef_shell.proofs.Needs.{needs-below, no-early}
use Rattle.nef_shell.proofs.early.StepBlockStage.needs.Goals as goal

pub returns-clause-below : goal.returns-clause-below
returns-clause-below g c = needs-below c.args.self.now.steps.now c.args.self.now.values.now c.args.self.now.list.now c.args.n _ c.requires.workable.0 (slice_get-get_or c.args.self.now.list.now c.args.n no-early c.requires.number)
