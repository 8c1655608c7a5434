use Rattle.nef_smap.proofs.Prelude.{arith, up, map_of}
use Rattle.nef_smap.proofs.FirstOf.{all-first}
use Rattle.nef_smap.proofs.Upward.{map-ahead}
use Rattle.nef_smap.proofs.above.above.Goals as goal

pub loop-number-preserved : goal.loop-number-preserved
loop-number-preserved c = record { is_within = c.first_met-first.ensures.within; is_first = λ d close. c.first_met-first.ensures.first d close (c.loop-number.invariant.is_first d close) }

pub returns-clause-first : goal.returns-clause-first
returns-clause-first c = λ d close.
    let m = c.args.map.now in
    all-first (map_of m) up (map-ahead m c.requires.map) d c.loop-number.number (omega (arith, c.item_count-number-end.ensures.count, c.loop-number-test.false, c.loop-number.auto.number-end)) c.loop-number.first (c.loop-number.invariant.is_first d close)
