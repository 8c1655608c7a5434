use Rattle.nef_ray.proofs.Prelude.{ℤ, pos, ◌*ℤ◌, ◌<ℤ◌, [], ◌∷◌, sym, ◌∙◌, ap, refl, subst, w64, wrap, exact_of, fits_of, size_of, mul_pos, point_limit, weight_limit, point_of}
use Rattle.nef_ray.proofs.Steps.{step_sizes, step-limits, step-is, step_code, weight_sizes, weight-limits, times, same-at}
use Rattle.nef_ray.proofs.change.reached.Goals as goal

pub overflow_add-x : goal.overflow_add-x
overflow_add-x c = fits_of step_sizes (c.x.result ∷ c.args.den ∷ c.args.num ∷ c.x-2.result ∷ []) w64 step_code (step-limits c.x.result c.args.den c.args.num c.x-2.result c.args.p.now.x c.args.d.now.x c.x.ensures.x c.x-2.ensures.x c.requires.p_small.numbers.of_x c.requires.den_small c.requires.num_small c.requires.d_small.of_x) tt

pub overflow_mul-y : goal.overflow_mul-y
overflow_mul-y c = fits_of step_sizes (c.y.result ∷ c.args.den ∷ c.args.num ∷ c.args.d.now.y ∷ []) w64 (times 0 1) (step-limits c.y.result c.args.den c.args.num c.args.d.now.y c.args.p.now.y c.args.d.now.y c.y.ensures.y refl c.requires.p_small.numbers.of_y c.requires.den_small c.requires.num_small c.requires.d_small.of_y) tt

pub overflow_mul-num-2 : goal.overflow_mul-num-2
overflow_mul-num-2 c = fits_of step_sizes (c.y.result ∷ c.args.den ∷ c.args.num ∷ c.y-2.result ∷ []) w64 (times 2 3) (step-limits c.y.result c.args.den c.args.num c.y-2.result c.args.p.now.y c.args.d.now.y c.y.ensures.y c.y-2.ensures.y c.requires.p_small.numbers.of_y c.requires.den_small c.requires.num_small c.requires.d_small.of_y) tt

pub overflow_add-y : goal.overflow_add-y
overflow_add-y c = fits_of step_sizes (c.y.result ∷ c.args.den ∷ c.args.num ∷ c.y-2.result ∷ []) w64 step_code (step-limits c.y.result c.args.den c.args.num c.y-2.result c.args.p.now.y c.args.d.now.y c.y.ensures.y c.y-2.ensures.y c.requires.p_small.numbers.of_y c.requires.den_small c.requires.num_small c.requires.d_small.of_y) tt

pub overflow_mul-z : goal.overflow_mul-z
overflow_mul-z c = fits_of step_sizes (c.z.result ∷ c.args.den ∷ c.args.num ∷ c.args.d.now.z ∷ []) w64 (times 0 1) (step-limits c.z.result c.args.den c.args.num c.args.d.now.z c.args.p.now.z c.args.d.now.z c.z.ensures.z refl c.requires.p_small.numbers.of_z c.requires.den_small c.requires.num_small c.requires.d_small.of_z) tt

pub overflow_mul-num-3 : goal.overflow_mul-num-3
overflow_mul-num-3 c = fits_of step_sizes (c.z.result ∷ c.args.den ∷ c.args.num ∷ c.z-2.result ∷ []) w64 (times 2 3) (step-limits c.z.result c.args.den c.args.num c.z-2.result c.args.p.now.z c.args.d.now.z c.z.ensures.z c.z-2.ensures.z c.requires.p_small.numbers.of_z c.requires.den_small c.requires.num_small c.requires.d_small.of_z) tt

pub overflow_add-z : goal.overflow_add-z
overflow_add-z c = fits_of step_sizes (c.z.result ∷ c.args.den ∷ c.args.num ∷ c.z-2.result ∷ []) w64 step_code (step-limits c.z.result c.args.den c.args.num c.z-2.result c.args.p.now.z c.args.d.now.z c.z.ensures.z c.z-2.ensures.z c.requires.p_small.numbers.of_z c.requires.den_small c.requires.num_small c.requires.d_small.of_z) tt

pub overflow_mul-w : goal.overflow_mul-w
overflow_mul-w c = fits_of weight_sizes (c.w.result ∷ c.args.den ∷ []) w64 (times 0 1) (weight-limits c.w.result c.args.den c.args.p.now.w c.w.ensures.w c.requires.p_small.weight c.requires.den_small) tt

pub of-requires-clause-x_small : goal.of-requires-clause-x_small
of-requires-clause-x_small c = size_of step_sizes (c.x.result ∷ c.args.den ∷ c.args.num ∷ c.x-2.result ∷ []) point_limit (wrap w64 step_code) (step-limits c.x.result c.args.den c.args.num c.x-2.result c.args.p.now.x c.args.d.now.x c.x.ensures.x c.x-2.ensures.x c.requires.p_small.numbers.of_x c.requires.den_small c.requires.num_small c.requires.d_small.of_x) tt tt

pub of-requires-clause-y_small : goal.of-requires-clause-y_small
of-requires-clause-y_small c = size_of step_sizes (c.y.result ∷ c.args.den ∷ c.args.num ∷ c.y-2.result ∷ []) point_limit (wrap w64 step_code) (step-limits c.y.result c.args.den c.args.num c.y-2.result c.args.p.now.y c.args.d.now.y c.y.ensures.y c.y-2.ensures.y c.requires.p_small.numbers.of_y c.requires.den_small c.requires.num_small c.requires.d_small.of_y) tt tt

pub of-requires-clause-z_small : goal.of-requires-clause-z_small
of-requires-clause-z_small c = size_of step_sizes (c.z.result ∷ c.args.den ∷ c.args.num ∷ c.z-2.result ∷ []) point_limit (wrap w64 step_code) (step-limits c.z.result c.args.den c.args.num c.z-2.result c.args.p.now.z c.args.d.now.z c.z.ensures.z c.z-2.ensures.z c.requires.p_small.numbers.of_z c.requires.den_small c.requires.num_small c.requires.d_small.of_z) tt tt

pub of-requires-clause-w_small : goal.of-requires-clause-w_small
of-requires-clause-w_small c = size_of weight_sizes (c.w.result ∷ c.args.den ∷ []) weight_limit (wrap w64 (times 0 1)) (weight-limits c.w.result c.args.den c.args.p.now.w c.w.ensures.w c.requires.p_small.weight c.requires.den_small) tt tt

pub of-requires-clause-positive : goal.of-requires-clause-positive
of-requires-clause-positive c = subst (λ (i : ℤ). pos 0 <ℤ i) (sym (exact_of weight_sizes (c.w.result ∷ c.args.den ∷ []) (wrap w64 (times 0 1)) (weight-limits c.w.result c.args.den c.args.p.now.w c.w.ensures.w c.requires.p_small.weight c.requires.den_small) tt ∙ ap (λ (i : ℤ). i *ℤ c.args.den) c.w.ensures.w)) (mul_pos c.args.p.now.w c.args.den c.args.p.now.proper c.requires.den_positive)

pub returns : goal.returns
returns c = record {
  reached = same-at _ _ _ _ _ _ _ _ (point_of c.of.result)
      (exact_of step_sizes (c.x.result ∷ c.args.den ∷ c.args.num ∷ c.x-2.result ∷ []) (wrap w64 step_code) (step-limits c.x.result c.args.den c.args.num c.x-2.result c.args.p.now.x c.args.d.now.x c.x.ensures.x c.x-2.ensures.x c.requires.p_small.numbers.of_x c.requires.den_small c.requires.num_small c.requires.d_small.of_x) tt ∙ step-is c.x.result c.args.den c.args.num c.x-2.result c.args.p.now.x c.args.d.now.x c.x.ensures.x c.x-2.ensures.x)
      (exact_of step_sizes (c.y.result ∷ c.args.den ∷ c.args.num ∷ c.y-2.result ∷ []) (wrap w64 step_code) (step-limits c.y.result c.args.den c.args.num c.y-2.result c.args.p.now.y c.args.d.now.y c.y.ensures.y c.y-2.ensures.y c.requires.p_small.numbers.of_y c.requires.den_small c.requires.num_small c.requires.d_small.of_y) tt ∙ step-is c.y.result c.args.den c.args.num c.y-2.result c.args.p.now.y c.args.d.now.y c.y.ensures.y c.y-2.ensures.y)
      (exact_of step_sizes (c.z.result ∷ c.args.den ∷ c.args.num ∷ c.z-2.result ∷ []) (wrap w64 step_code) (step-limits c.z.result c.args.den c.args.num c.z-2.result c.args.p.now.z c.args.d.now.z c.z.ensures.z c.z-2.ensures.z c.requires.p_small.numbers.of_z c.requires.den_small c.requires.num_small c.requires.d_small.of_z) tt ∙ step-is c.z.result c.args.den c.args.num c.z-2.result c.args.p.now.z c.args.d.now.z c.z.ensures.z c.z-2.ensures.z)
      (exact_of weight_sizes (c.w.result ∷ c.args.den ∷ []) (wrap w64 (times 0 1)) (weight-limits c.w.result c.args.den c.args.p.now.w c.w.ensures.w c.requires.p_small.weight c.requires.den_small) tt ∙ ap (λ (i : ℤ). i *ℤ c.args.den) c.w.ensures.w) c.of.ensures.same;
}
