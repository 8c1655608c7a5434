use Rattle.nef_free.proofs.Prelude.{arith}
use Rattle.nef_free.proofs.Ends.{ends}
use Rattle.nef_free.proofs.board.FreeBoardBoard.close.Goals as goal

pub returns-clause-right : goal.returns-clause-right
returns-clause-right g c = (ends _ _ _ _ _ _ _ _ c.close_with-closed.ensures.values.2 c.args.pass.live c.gathered.ensures.each (let a = c.gathered.ensures.len in let b = c.close_with-closed.ensures.counts in let r = c.gathered.result.ok in let d = c.args.self.slot_count in let e = c.args.self.jobs_are in omega arith)).0

pub returns-clause-done : goal.returns-clause-done
returns-clause-done g c = (ends _ _ _ _ _ _ _ _ c.close_with-closed.ensures.values.2 c.args.pass.live c.gathered.ensures.each (let a = c.gathered.ensures.len in let b = c.close_with-closed.ensures.counts in let r = c.gathered.result.ok in let d = c.args.self.slot_count in let e = c.args.self.jobs_are in omega arith)).1

pub returns-clause-closed : goal.returns-clause-closed
returns-clause-closed g c = rw (← c.requires.of.2, c.args.self.jobs_are) ((ends _ _ _ _ _ _ _ _ c.close_with-closed.ensures.values.2 c.args.pass.live c.gathered.ensures.each (let a = c.gathered.ensures.len in let b = c.close_with-closed.ensures.counts in let r = c.gathered.result.ok in let d = c.args.self.slot_count in let e = c.args.self.jobs_are in omega arith)).2)
