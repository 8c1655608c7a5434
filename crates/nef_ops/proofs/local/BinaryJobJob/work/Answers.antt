use Rattle.nef_ops.proofs.Prelude.{IfOk-weaker, op_set, complex_of, movable}
use Rattle.nef_ops.proofs.Gathered.{right-named, named-framed, named-at}
use Rattle.nef_ops.proofs.local.BinaryJobJob.work.Goals as goal

pub outcome_at-requires-clause-framed : goal.outcome_at-requires-clause-framed
outcome_at-requires-clause-framed c = let j = c.args.self.now in named-framed j.listed.now c.args.job c.index-self-job.result c.requires.job c.requires.workable.2

pub outcome_at-requires-clause-named : goal.outcome_at-requires-clause-named
outcome_at-requires-clause-named c = let j = c.args.self.now in named-at (complex_of j.first.complex.now) (complex_of j.second.complex.now) j.listed.now c.args.job c.index-self-job.result c.requires.job c.requires.workable.3

pub returns : goal.returns
returns c =
    let j = c.args.self.now in
    IfOk-weaker c.outcome_at.result _ _ (λ o told s t S T.
    right-named (op_set j.op s t) (movable j.first) (movable j.second) j.listed.now c.args.job c.index-self-job.result o c.requires.job (told s t S T)) c.outcome_at.ensures.outcome
