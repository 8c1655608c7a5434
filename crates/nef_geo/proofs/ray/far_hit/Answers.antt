use Rattle.nef_geo.proofs.Prelude.{rules, ◌≡◌, ℕ, ◌≤◌, ℤ, nat_abs, lit≤, refl, arith, sym, ◌∙◌, subst, normal_limit, normal_of, form_at, slope, IsAtMost, IsPointAtMost, IsReachedBy, form_of, vector_of, hit_point, far_point, HasOppositeSigns, IsZeroStep, upright_limit, upright_weight_limit, far_num_limit, far_den_limit, Plane, Dir, Hit}
use Rattle.nef_geo.proofs.Crossings.{IsCrossing-reached, IsReached-by, opposite-crossing}
use Rattle.nef_geo.proofs.Products.{kept_wide, kept_small, wide_enough, dot_size, normal_within}
use Rattle.nef_geo.proofs.Rays.{step_is, step_meant, growth_some}
use Rattle.nef_geo.proofs.Sizes.{form_size, far_within}
use Rattle.nef_geo.proofs.ray.far_hit.Goals as goal

-- the size of the form at the start
form_small : (h : Plane) (p : Hit) (v : ℤ) → v ≡ form_at (form_of h) (hit_point p) → IsPointAtMost upright_limit upright_weight_limit (hit_point p) → nat_abs v ≤ far_num_limit
form_small h p v e s = subst (λ (i : ℤ). nat_abs i ≤ far_num_limit) (sym e) (let t = form_size h upright_limit upright_weight_limit (hit_point p) s in omega (arith, t))

slope_small : (h : Plane) (d : Dir) (g : ℤ) → g ≡ slope (form_of h) (vector_of d) → IsAtMost normal_limit (vector_of d) → nat_abs g ≤ far_den_limit
slope_small h d g e s = subst (λ (i : ℤ). nat_abs i ≤ far_den_limit) (sym e) (let t = dot_size normal_limit normal_limit (normal_of (form_of h)) (vector_of d) (normal_within h) s in omega (arith, t))

pub zero_step-requires-clause-value_small : goal.zero_step-requires-clause-value_small
zero_step-requires-clause-value_small c =
    let t = kept_small c.hit_form.result far_num_limit (form_small c.args.h.now c.args.p.now c.hit_form.result c.hit_form.ensures.value c.requires.p_small) (lit≤ tt) in
    omega (arith, t)

pub zero_step-requires-clause-growth_small : goal.zero_step-requires-clause-growth_small
zero_step-requires-clause-growth_small c =
    let t = kept_small c.slope.result far_den_limit (slope_small c.args.h.now c.args.d.now c.slope.result c.slope.ensures.value c.requires.d_small) (lit≤ tt) in
    omega (arith, t)

pub returns-in_err-num-clause-none : goal.returns-in_err-num-clause-none
returns-in_err-num-clause-none c =
    let h = form_of c.args.h.now in let s = hit_point c.args.p.now in let d = vector_of c.args.d.now in
    let not : ¬ HasOppositeSigns (form_at h s) (slope h d) =
    rw (sym (kept_wide c.hit_form.result (wide_enough c.hit_form.result far_num_limit (form_small c.args.h.now c.args.p.now c.hit_form.result c.hit_form.ensures.value c.requires.p_small) (lit≤ tt)) ∙ c.hit_form.ensures.value), sym (kept_wide c.slope.result (wide_enough c.slope.result far_den_limit (slope_small c.args.h.now c.args.d.now c.slope.result c.slope.ensures.value c.requires.d_small) (lit≤ tt)) ∙ c.slope.ensures.value)) (c.in_err-num.ensures.none.0 refl) in
    (λ e q crossing. not (opposite-crossing h s d q c.args.d.now.some crossing), λ f. search rules)

pub reached_far-requires-clause-num_small : goal.reached_far-requires-clause-num_small
reached_far-requires-clause-num_small c =
    let h = form_of c.args.h.now in let s = hit_point c.args.p.now in let d = vector_of c.args.d.now in
    let z : IsZeroStep (form_at h s) (slope h d) c.in_ok-num.num c.in_ok-num.den = step_meant c.hit_form.result c.slope.result (form_at h s) (slope h d) c.in_ok-num.num c.in_ok-num.den c.in_ok-num.num c.in_ok-num.den (wide_enough c.hit_form.result far_num_limit (form_small c.args.h.now c.args.p.now c.hit_form.result c.hit_form.ensures.value c.requires.p_small) (lit≤ tt)) (wide_enough c.slope.result far_den_limit (slope_small c.args.h.now c.args.d.now c.slope.result c.slope.ensures.value c.requires.d_small) (lit≤ tt)) c.hit_form.ensures.value c.slope.ensures.value refl refl (step_is c.zero_step.result _ _ _ _ c.in_ok-num.was c.zero_step.ensures.some) in
    kept_small c.in_ok-num.num far_num_limit (subst (λ (i : ℕ). i ≤ far_num_limit) (sym z.num_size) (form_small c.args.h.now c.args.p.now (form_at h s) refl c.requires.p_small)) (lit≤ tt)

pub reached_far-requires-clause-den_small : goal.reached_far-requires-clause-den_small
reached_far-requires-clause-den_small c =
    let h = form_of c.args.h.now in let s = hit_point c.args.p.now in let d = vector_of c.args.d.now in
    let z : IsZeroStep (form_at h s) (slope h d) c.in_ok-num.num c.in_ok-num.den = step_meant c.hit_form.result c.slope.result (form_at h s) (slope h d) c.in_ok-num.num c.in_ok-num.den c.in_ok-num.num c.in_ok-num.den (wide_enough c.hit_form.result far_num_limit (form_small c.args.h.now c.args.p.now c.hit_form.result c.hit_form.ensures.value c.requires.p_small) (lit≤ tt)) (wide_enough c.slope.result far_den_limit (slope_small c.args.h.now c.args.d.now c.slope.result c.slope.ensures.value c.requires.d_small) (lit≤ tt)) c.hit_form.ensures.value c.slope.ensures.value refl refl (step_is c.zero_step.result _ _ _ _ c.in_ok-num.was c.zero_step.ensures.some) in
    kept_small c.in_ok-num.den far_den_limit (subst (λ (i : ℕ). i ≤ far_den_limit) (sym z.den_size) (slope_small c.args.h.now c.args.d.now (slope h d) refl c.requires.d_small)) (lit≤ tt)

pub returns : goal.returns
returns c =
    let h = form_of c.args.h.now in let s = hit_point c.args.p.now in let d = vector_of c.args.d.now in
    let r = c.reached_far.result in
    let z : IsZeroStep (form_at h s) (slope h d) c.in_ok-num.num c.in_ok-num.den = step_meant c.hit_form.result c.slope.result (form_at h s) (slope h d) c.in_ok-num.num c.in_ok-num.den c.in_ok-num.num c.in_ok-num.den (wide_enough c.hit_form.result far_num_limit (form_small c.args.h.now c.args.p.now c.hit_form.result c.hit_form.ensures.value c.requires.p_small) (lit≤ tt)) (wide_enough c.slope.result far_den_limit (slope_small c.args.h.now c.args.d.now c.slope.result c.slope.ensures.value c.requires.d_small) (lit≤ tt)) c.hit_form.ensures.value c.slope.ensures.value refl refl (step_is c.zero_step.result _ _ _ _ c.in_ok-num.was c.zero_step.ensures.some) in
    let en : r.num ≡ c.in_ok-num.num = c.reached_far.ensures.num ∙ kept_wide c.in_ok-num.num (wide_enough c.in_ok-num.num far_num_limit (subst (λ (i : ℕ). i ≤ far_num_limit) (sym z.num_size) (form_small c.args.h.now c.args.p.now (form_at h s) refl c.requires.p_small)) (lit≤ tt)) in
    let em : r.den ≡ c.in_ok-num.den = c.reached_far.ensures.den ∙ kept_wide c.in_ok-num.den (wide_enough c.in_ok-num.den far_den_limit (subst (λ (i : ℕ). i ≤ far_den_limit) (sym z.den_size) (slope_small c.args.h.now c.args.d.now (slope h d) refl c.requires.d_small)) (lit≤ tt)) in
    let step : IsZeroStep (form_at h s) (slope h d) r.num r.den = rw (en, em) z in
    let by : IsReachedBy s d r.num r.den r.x r.y r.z r.w = c.reached_far.ensures.at in
    let crossing = IsCrossing-reached h s d r.num r.den r.x r.y r.z r.w r.proper c.args.d.now.some step.num_positive by step.balance (growth_some (slope h d) r.den step.den_size step.den_positive) in
    record {
      none = (λ e. absurd (cc), λ f. absurd (f (far_point r) crossing));
      crossing = crossing;
      step = IsReached-by s d r.num r.den r.x r.y r.z r.w r.proper r.den_sign by;
      width = far_within r;
    }
