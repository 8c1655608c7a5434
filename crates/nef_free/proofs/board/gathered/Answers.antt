use Rattle.nef_free.proofs.Prelude.{arith, within}
use Rattle.nef_free.proofs.board.gathered.Goals as goal

pub returns-clause-each : goal.returns-clause-each
returns-clause-each g c i n y word home =
    let low = within _ i y home in
    c.loop-next.invariant.each i n y (let k = c.args.closed.slots.ok in omega arith) word home
