use Rattle.nef_result.proofs.Prelude.{◌≡◌, ℕ, map, take, ap, subst, arith, form_of, sorted_sides}
use Rattle.nef_result.proofs.CornerMaps.{planes-more}
use Rattle.nef_result.proofs.whole.sorted_planes.Goals as goal

pub loop-k-init : goal.loop-k-init
loop-k-init c = record { taken = ap (map form_of) c.new-planes.ensures.empty }

pub loop-k-preserved : goal.loop-k-preserved
loop-k-preserved c = record { taken = planes-more c.loop-k.k c.loop-k.planes c.push.new.self c.frame.result c.loop-k-test.true c.loop-k.invariant.taken c.frame.ensures.frame c.in_ok-push.ensures.ok }

pub returns : goal.returns
returns c =
    let l = c.loop-k.auto.k-end in let m = c.loop-k-test.false in
    let e : c.loop-k.k ≡ 6 = omega arith in
    record { planes = subst (λ (n : ℕ). map form_of c.loop-k.planes ≡ take n sorted_sides) e c.loop-k.invariant.taken }
