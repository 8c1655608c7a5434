use Rattle.nef_plane.proofs.Prelude.{ℕ, ◌<◌, arith, rules, sym, subst, complex_of, PlaneMeet, meet_at, AtMeet, IsMissed, IsNearest, met_of}
use Rattle.nef_plane.proofs.Listed.{serves-has, met-serves, has-count, count-has}
use Rattle.nef_plane.proofs.Nearest.{all-more, all-past, all-met}
use Rattle.nef_plane.proofs.first.nearest_of_all.Goals.{then-can_tell, else-can_tell}
use Rattle.nef_plane.proofs.first.nearest_of_all.Goals as goal

pub can_tell-requires-clause-within : goal.can_tell-requires-clause-within
can_tell-requires-clause-within g c =
    count-has c.args.c.now c.args.kind c.args.count c.loop-number.number c.requires.count c.loop-number-test.true c.at-meet.result c.at-meet.ensures.at

pub met-requires-clause-told : goal.met-requires-clause-told
met-requires-clause-told g c = c.can_tell.ensures.told c.if-can_tell.true

pub loop-number-init : goal.loop-number-init
loop-number-init g c = λ m q w (k, l, x). absurd (omega (arith, l))

pub loop-number-preserved : goal.loop-number-preserved
loop-number-preserved g c =
    let C = complex_of c.args.c.now in let ray = c.args.ray.now in let h = g.R.PlaneRay.plane ray in let p = g.R.PlaneRay.start ray in let d = g.R.PlaneRay.way ray in let seen = met_of g.R.At.Stepped.reach in
    let t = c.args.kind in let i = c.loop-number.number in let e = c.at-meet.ensures.at in let a = c.loop-number.best in let A = c.loop-number.invariant in
    elim c.if-can_tell.branch [
      | then-can_tell w ↦ all-more seen p d (λ k. AtMeet C h d (meet_at t k)) i a w.met.result w.nearer-best.result c.if-can_tell.best w.best-is (w.nearer-best.ensures.nearer p d (g.met.R.PlaneRay.leads ray)) A
          (subst (λ (m : PlaneMeet). IsNearest seen p d (AtMeet C h d m) w.met.result) {x = c.at-meet.result} {y = meet_at t i} e w.met.ensures.nearest)
      | else-can_tell w ↦ all-past seen p d (λ k. AtMeet C h d (meet_at t k)) i a c.if-can_tell.best w.best-is A (subst (λ (m : PlaneMeet). IsMissed p d (AtMeet C h d m)) {x = c.at-meet.result} {y = meet_at t i} e (c.can_tell.ensures.off (λ t. absurd (search (rules, t, w.if-can_tell.false)))))
    ]

pub returns : goal.returns
returns g c =
    let C = c.args.c.now in let ray = c.args.ray.now in let h = g.R.PlaneRay.plane ray in let p = g.R.PlaneRay.start ray in let d = g.R.PlaneRay.way ray in let t = c.args.kind in
    record {
      nearest = all-met (met_of g.R.At.Stepped.reach) p d (λ k. AtMeet (complex_of C) h d (meet_at t k)) c.args.count c.loop-number.number c.loop-number.best (let f = c.loop-number-test.false in omega (arith, f))
          (λ k m q w x. subst (λ (n : ℕ). k < n) (sym c.requires.count) (has-count C t k (serves-has C h (meet_at t k) (met-serves C h d m q (meet_at t k) x)))) c.loop-number.invariant;
    }
