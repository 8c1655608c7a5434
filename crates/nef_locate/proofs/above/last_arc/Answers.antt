use Rattle.nef_locate.proofs.Prelude.{◌≡◌, ℕ, length, arith, subst, dir_of, map_of, IsLast}
use Rattle.nef_locate.proofs.above.last_arc.Goals as goal

pub loop-number-init : goal.loop-number-init
loop-number-init c = λ j b l. absurd (omega (arith, l))

pub returns : goal.returns
returns c =
    let m = c.args.map.now in
    let e : c.loop-number.number ≡ length m.arcs = omega (arith, c.len-number-end.ensures.len, c.loop-number-test.false, c.loop-number.auto.number-end) in
    record { last = subst (λ (n : ℕ). IsLast (map_of m) (dir_of (map_of m).svertices c.args.svertex) c.args.svertex c.args.begins n c.loop-number.last) e c.loop-number.invariant }
