use Rattle.nef_geo.proofs.Prelude.{ℕ, ◌≤◌, ℤ, pos, ◌<ℤ◌, nat_abs, List, sym, subst, normal_limit, IsAtMost, Code, load, wrap, Limited, exact_of, fits_of, size_of, mul_pos, IsPointAtMost, vector_of, hit_point, upright_limit, upright_weight_limit, far_limit, far_weight_limit, far_num_limit, far_den_limit, Dir, Hit}
use mir.Syntax.{w128}
use Rattle.nef_geo.proofs.Rays.{reached_by}
use Rattle.nef_geo.proofs.Reach.{sizes, numbers, limited, start, stretch, sum}
use Rattle.nef_geo.proofs.ray.reached_far.Goals as goal

-- the bounds of the numbers, and how the code reads the start's
abbrev bounds : List ℕ
bounds = sizes upright_limit upright_weight_limit normal_limit far_num_limit far_den_limit

abbrev read : Hit → Dir → (num den : ℤ) → List ℤ
read p d num den = numbers p.x p.y p.z p.w d num den

abbrev begin : ℕ → Code
begin i = load i

limits : (p : Hit) (d : Dir) (num den : ℤ) → IsPointAtMost upright_limit upright_weight_limit (hit_point p) → IsAtMost normal_limit (vector_of d) → nat_abs num ≤ far_num_limit → nat_abs den ≤ far_den_limit → Limited bounds (read p d num den)
limits p d num den = limited upright_limit upright_weight_limit normal_limit far_num_limit far_den_limit p.x p.y p.z p.w p.proper d num den

pub overflow_mul-result : goal.overflow_mul-result
overflow_mul-result c = fits_of bounds (read c.args.p.now c.args.d.now c.args.num c.args.den) w128 (start (begin 0)) (limits c.args.p.now c.args.d.now c.args.num c.args.den c.requires.p_small c.requires.d_small c.requires.num_small c.requires.den_small) tt

pub overflow_mul-result-2 : goal.overflow_mul-result-2
overflow_mul-result-2 c = fits_of bounds (read c.args.p.now c.args.d.now c.args.num c.args.den) w128 (stretch 4) (limits c.args.p.now c.args.d.now c.args.num c.args.den c.requires.p_small c.requires.d_small c.requires.num_small c.requires.den_small) tt

pub overflow_add-result : goal.overflow_add-result
overflow_add-result c = fits_of bounds (read c.args.p.now c.args.d.now c.args.num c.args.den) w128 (sum (begin 0) 4) (limits c.args.p.now c.args.d.now c.args.num c.args.den c.requires.p_small c.requires.d_small c.requires.num_small c.requires.den_small) tt

pub overflow_mul-result-3 : goal.overflow_mul-result-3
overflow_mul-result-3 c = fits_of bounds (read c.args.p.now c.args.d.now c.args.num c.args.den) w128 (start (begin 1)) (limits c.args.p.now c.args.d.now c.args.num c.args.den c.requires.p_small c.requires.d_small c.requires.num_small c.requires.den_small) tt

pub overflow_mul-result-4 : goal.overflow_mul-result-4
overflow_mul-result-4 c = fits_of bounds (read c.args.p.now c.args.d.now c.args.num c.args.den) w128 (stretch 5) (limits c.args.p.now c.args.d.now c.args.num c.args.den c.requires.p_small c.requires.d_small c.requires.num_small c.requires.den_small) tt

pub overflow_add-result-2 : goal.overflow_add-result-2
overflow_add-result-2 c = fits_of bounds (read c.args.p.now c.args.d.now c.args.num c.args.den) w128 (sum (begin 1) 5) (limits c.args.p.now c.args.d.now c.args.num c.args.den c.requires.p_small c.requires.d_small c.requires.num_small c.requires.den_small) tt

pub overflow_mul-result-5 : goal.overflow_mul-result-5
overflow_mul-result-5 c = fits_of bounds (read c.args.p.now c.args.d.now c.args.num c.args.den) w128 (start (begin 2)) (limits c.args.p.now c.args.d.now c.args.num c.args.den c.requires.p_small c.requires.d_small c.requires.num_small c.requires.den_small) tt

pub overflow_mul-result-6 : goal.overflow_mul-result-6
overflow_mul-result-6 c = fits_of bounds (read c.args.p.now c.args.d.now c.args.num c.args.den) w128 (stretch 6) (limits c.args.p.now c.args.d.now c.args.num c.args.den c.requires.p_small c.requires.d_small c.requires.num_small c.requires.den_small) tt

pub overflow_add-result-3 : goal.overflow_add-result-3
overflow_add-result-3 c = fits_of bounds (read c.args.p.now c.args.d.now c.args.num c.args.den) w128 (sum (begin 2) 6) (limits c.args.p.now c.args.d.now c.args.num c.args.den c.requires.p_small c.requires.d_small c.requires.num_small c.requires.den_small) tt

pub overflow_mul-result-7 : goal.overflow_mul-result-7
overflow_mul-result-7 c = fits_of bounds (read c.args.p.now c.args.d.now c.args.num c.args.den) w128 (start (begin 3)) (limits c.args.p.now c.args.d.now c.args.num c.args.den c.requires.p_small c.requires.d_small c.requires.num_small c.requires.den_small) tt

pub invariant_of-result : goal.invariant_of-result
invariant_of-result c =
    let l = limits c.args.p.now c.args.d.now c.args.num c.args.den c.requires.p_small c.requires.d_small c.requires.num_small c.requires.den_small in
    let exact = λ (e : Code). exact_of bounds (read c.args.p.now c.args.d.now c.args.num c.args.den) e l in
    let size = λ (k : ℕ) (e : Code). size_of bounds (read c.args.p.now c.args.d.now c.args.num c.args.den) k e l in
    record {
      x_small = size far_limit (wrap w128 (sum (begin 0) 4)) tt tt;
      y_small = size far_limit (wrap w128 (sum (begin 1) 5)) tt tt;
      z_small = size far_limit (wrap w128 (sum (begin 2) 6)) tt tt;
      w_small = size far_weight_limit (wrap w128 (start (begin 3))) tt tt;
      num_small = size far_num_limit (wrap w128 (load 7)) tt tt;
      den_small = size far_den_limit (wrap w128 (load 8)) tt tt;
      proper = subst (λ (n : ℤ). pos 0 <ℤ n) (sym (exact (wrap w128 (start (begin 3))) tt)) (mul_pos c.args.p.now.w c.args.den c.args.p.now.proper c.requires.den_positive);
      num_sign = subst (λ (n : ℤ). pos 0 <ℤ n) (sym (exact (wrap w128 (load 7)) tt)) c.requires.num_positive;
      den_sign = subst (λ (n : ℤ). pos 0 <ℤ n) (sym (exact (wrap w128 (load 8)) tt)) c.requires.den_positive;
    }

pub returns : goal.returns
returns c =
    let p = c.args.p.now in let d = c.args.d.now in
    let exact = λ (e : Code). exact_of bounds (read c.args.p.now c.args.d.now c.args.num c.args.den) e (limits c.args.p.now c.args.d.now c.args.num c.args.den c.requires.p_small c.requires.d_small c.requires.num_small c.requires.den_small) in
    let en = exact (wrap w128 (load 7)) tt in let em = exact (wrap w128 (load 8)) tt in
    record {
      at = reached_by p.x p.y p.z p.w p.proper (vector_of d) c.args.num c.args.den _ _ _ _ _ _ en em
          (exact (wrap w128 (sum (begin 0) 4)) tt) (exact (wrap w128 (sum (begin 1) 5)) tt) (exact (wrap w128 (sum (begin 2) 6)) tt) (exact (wrap w128 (start (begin 3))) tt);
      num = en;
      den = em;
    }
