use Rattle.nef_geo.proofs.Prelude.{rules, ◌≡◌, ℕ, ◌≤◌, ℤ, nat_abs, lit≤, refl, arith, sym, ◌∙◌, subst, normal_limit, normal_of, form_at, slope, IsAtMost, IsReachedBy, form_of, vector_of, point_of, hit_point, HasOppositeSigns, IsZeroStep, point_form_limit, ray_limit, ray_slope_limit, Plane, Dir}
use Rattle.nef_geo.proofs.Crossings.{IsCrossing-reached, IsReached-by, opposite-crossing}
use Rattle.nef_geo.proofs.Products.{kept_wide, kept_small, wide_enough, dot_size, normal_within}
use Rattle.nef_geo.proofs.Rays.{step_is, step_meant, growth_some, upright-within, plane_dir-within, plane_dir-form}
use Rattle.nef_geo.proofs.Sizes.{point_form_size}
use Rattle.nef_geo.proofs.ray.ray_hit.Goals as goal

slope_small : (h : Plane) (d : Dir) (g : ℤ) → g ≡ slope (form_of h) (vector_of d) → IsAtMost ray_limit (vector_of d) → nat_abs g ≤ ray_slope_limit
slope_small h d g e s = subst (λ (i : ℤ). nat_abs i ≤ ray_slope_limit) (sym e) (let t = dot_size normal_limit ray_limit (normal_of (form_of h)) (vector_of d) (normal_within h) s in omega (arith, t))

pub zero_step-requires-clause-growth_small : goal.zero_step-requires-clause-growth_small
zero_step-requires-clause-growth_small c =
    let t = kept_small c.slope.result ray_slope_limit (slope_small c.args.h.now c.args.d.now c.slope.result c.slope.ensures.value c.requires.d_small) (lit≤ tt) in
    omega (arith, t)

pub returns-in_err-num-clause-none : goal.returns-in_err-num-clause-none
returns-in_err-num-clause-none c =
    let h = form_of c.args.h.now in let s = point_of c.args.p.now in let d = vector_of c.args.d.now in
    let not : ¬ HasOppositeSigns (form_at h s) (slope h d) =
    rw (sym (kept_wide c.form.result (wide_enough c.form.result point_form_limit c.form.ensures.width (lit≤ tt)) ∙ c.form.ensures.value), sym (kept_wide c.slope.result (wide_enough c.slope.result ray_slope_limit (slope_small c.args.h.now c.args.d.now c.slope.result c.slope.ensures.value c.requires.d_small) (lit≤ tt)) ∙ c.slope.ensures.value)) (c.in_err-num.ensures.none.0 refl) in
    (λ e q crossing. not (opposite-crossing h s d q c.args.d.now.some crossing), λ f. search rules)

pub reached-requires-clause-den_small : goal.reached-requires-clause-den_small
reached-requires-clause-den_small c =
    let h = form_of c.args.h.now in let s = point_of c.args.p.now in let d = vector_of c.args.d.now in
    let z : IsZeroStep (form_at h s) (slope h d) c.in_ok-num.num c.in_ok-num.den = step_meant c.form.result c.slope.result (form_at h s) (slope h d) c.in_ok-num.num c.in_ok-num.den c.in_ok-num.num c.in_ok-num.den (wide_enough c.form.result point_form_limit c.form.ensures.width (lit≤ tt)) (wide_enough c.slope.result ray_slope_limit (slope_small c.args.h.now c.args.d.now c.slope.result c.slope.ensures.value c.requires.d_small) (lit≤ tt)) c.form.ensures.value c.slope.ensures.value refl refl (step_is c.zero_step.result _ _ _ _ c.in_ok-num.was c.zero_step.ensures.some) in
    kept_small c.in_ok-num.den ray_slope_limit (subst (λ (i : ℕ). i ≤ ray_slope_limit) (sym z.den_size) (slope_small c.args.h.now c.args.d.now (slope h d) refl c.requires.d_small)) (lit≤ tt)

pub returns : goal.returns
returns c =
    let h = form_of c.args.h.now in let s = point_of c.args.p.now in let d = vector_of c.args.d.now in
    let r = c.reached.result in
    let z : IsZeroStep (form_at h s) (slope h d) c.in_ok-num.num c.in_ok-num.den = step_meant c.form.result c.slope.result (form_at h s) (slope h d) c.in_ok-num.num c.in_ok-num.den c.in_ok-num.num c.in_ok-num.den (wide_enough c.form.result point_form_limit c.form.ensures.width (lit≤ tt)) (wide_enough c.slope.result ray_slope_limit (slope_small c.args.h.now c.args.d.now c.slope.result c.slope.ensures.value c.requires.d_small) (lit≤ tt)) c.form.ensures.value c.slope.ensures.value refl refl (step_is c.zero_step.result _ _ _ _ c.in_ok-num.was c.zero_step.ensures.some) in
    let en : r.num ≡ c.in_ok-num.num = c.reached.ensures.num ∙ kept_wide c.in_ok-num.num (wide_enough c.in_ok-num.num point_form_limit (subst (λ (i : ℕ). i ≤ point_form_limit) (sym z.num_size) (point_form_size c.args.h.now c.args.p.now)) (lit≤ tt)) in
    let em : r.den ≡ c.in_ok-num.den = c.reached.ensures.den ∙ kept_wide c.in_ok-num.den (wide_enough c.in_ok-num.den ray_slope_limit (subst (λ (i : ℕ). i ≤ ray_slope_limit) (sym z.den_size) (slope_small c.args.h.now c.args.d.now (slope h d) refl c.requires.d_small)) (lit≤ tt)) in
    let step : IsZeroStep (form_at h s) (slope h d) r.num r.den = rw (en, em) z in
    let by : IsReachedBy s d r.num r.den r.x r.y r.z r.w = c.reached.ensures.at in
    let crossing = IsCrossing-reached h s d r.num r.den r.x r.y r.z r.w r.proper c.args.d.now.some step.num_positive by step.balance (growth_some (slope h d) r.den step.den_size step.den_positive) in
    record {
      none = (λ e. absurd (cc), λ f. absurd (f (hit_point r) crossing));
      crossing = crossing;
      step = IsReached-by s d r.num r.den r.x r.y r.z r.w r.proper r.den_sign by;
      ahead = step.num_positive;
      upright_width = λ u. upright-within c.args.h.now c.args.p.now d r.num r.den r.x r.y r.z r.w r.proper by step u;
      plane_dir_width = λ u. plane_dir-within c.args.h.now c.args.p.now d r.num r.den r.x r.y r.z r.w r.proper by step u;
      plane_dir_form_width = λ u g. plane_dir-form g c.args.h.now c.args.p.now d r.num r.den r.x r.y r.z r.w r.proper by step u;
    }
