use Rattle.nef_sched.proofs.Prelude.{arith, view}
use Rattle.nef_sched.proofs.round.put_ends.Goals as goal

pub put_item-requires-clause-whole : goal.put_item-requires-clause-whole
put_item-requires-clause-whole g c =
    let low = c.loop-test.true in
    let room = c.requires.room in
    ((view c.args.pass).known, c.loop.counter, c.loop.invariant.1, omega arith, tt)
