use Rattle.nef_shell.proofs.early.StepBlockStage.work.Goals as goal

pub returns : goal.returns
returns g c = (c.requires.workable.1 c.args.n c.args.alone c.args.done c.requires.number c.requires.there).1 c.work.result c.work.ensures
