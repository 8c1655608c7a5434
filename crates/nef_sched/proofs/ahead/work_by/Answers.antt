use Rattle.nef_sched.proofs.Prelude.{◌∙◌, arith}
use Rattle.nef_sched.proofs.Outs.{parts_same, worked_none}
use Rattle.nef_sched.proofs.ahead.work_by.Goals as goal

pub close-requires-clause-every : goal.close-requires-clause-every
close-requires-clause-every g c =
    let a = c.in_ok-worked.worked.ok in
    let b = c.in_ok-round.passes.ok in
    let l = c.in_ok-worked.ensures.len in
    c.in_ok-passes.ensures.parts ∙ parts_same c.in_ok-round.passes.items c.in_ok-worked.worked.items (omega arith) c.in_ok-worked.ensures.parts ∙ c.in_ok-round.ensures.every

pub returns-then-crew-lt2 : goal.returns-then-crew-lt2
returns-then-crew-lt2 g c = record { worked = worked_none _ _ _ c.requires.ready.sound }
