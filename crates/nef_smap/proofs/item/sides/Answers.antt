use Rattle.nef_smap.proofs.Prelude.{◌≤◌, Bool, true, false, arith}
use mir.Val.{bool_byte}
use Rattle.nef_smap.proofs.SideLists.{length-sides}
use Rattle.nef_smap.proofs.item.sides.Goals as goal

at-most-one : (b : Bool) → bool_byte b ≤ 1
at-most-one true = omega arith
at-most-one false = omega arith

pub returns : goal.returns
returns c =
    let e = length-sides c.args.map.now in
    let f = at-most-one c.is_some.result in
    record { count = grind (arith, e); small = omega (arith, f, c.item_count.ensures.small, c.around_sides.ensures.small, c.from.ensures) }
