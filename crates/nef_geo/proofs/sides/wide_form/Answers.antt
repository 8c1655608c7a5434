use Rattle.nef_geo.proofs.Prelude.{ℕ, ◌≤◌, ℤ, nat_abs, List, [], ◌∷◌, w64, normal_limit, offset_limit, Code, load, wrap, ◌⊞◌, ◌⊠◌, Limited, exact_of, fits_of, far_limit, far_weight_limit, Plane}
use mir.Syntax.{w128}
use Rattle.nef_geo.proofs.sides.wide_form.Goals as goal

-- the bounds of a, b, c, d, x, y, z, w
abbrev sizes : List ℕ
sizes = normal_limit ∷ normal_limit ∷ normal_limit ∷ offset_limit ∷ far_limit ∷ far_limit ∷ far_limit ∷ far_weight_limit ∷ []

abbrev numbers : Plane → (x y z w : ℤ) → List ℤ
numbers h x y z w = h.a ∷ h.b ∷ h.c ∷ h.d ∷ x ∷ y ∷ z ∷ w ∷ []

limits : (h : Plane) (x y z w : ℤ) → nat_abs x ≤ far_limit → nat_abs y ≤ far_limit → nat_abs z ≤ far_limit → nat_abs w ≤ far_weight_limit → Limited sizes (numbers h x y z w)
limits h x y z w sx sy sz sw = (h.a_small, (h.b_small, (h.c_small, (h.d_small, (sx, (sy, (sz, (sw, tt))))))))

-- the product of a plane's number, cast to `i128`, and the point's
abbrev factor : ℕ → ℕ → Code
factor i j = wrap w128 (wrap w64 (load i)) ⊠ wrap w128 (load j)

abbrev product : ℕ → ℕ → Code
product i j = wrap w128 (factor i j)

abbrev two : Code
two = product 0 4 ⊞ product 1 5

abbrev three : Code
three = wrap w128 two ⊞ product 2 6

abbrev four : Code
four = wrap w128 three ⊞ product 3 7

pub overflow_mul-result : goal.overflow_mul-result
overflow_mul-result c = fits_of sizes (numbers c.args.h.now c.args.x c.args.y c.args.z c.args.w) w128 (factor 0 4) (limits c.args.h.now c.args.x c.args.y c.args.z c.args.w c.requires.x_small c.requires.y_small c.requires.z_small c.requires.w_small) tt

pub overflow_mul-result-2 : goal.overflow_mul-result-2
overflow_mul-result-2 c = fits_of sizes (numbers c.args.h.now c.args.x c.args.y c.args.z c.args.w) w128 (factor 1 5) (limits c.args.h.now c.args.x c.args.y c.args.z c.args.w c.requires.x_small c.requires.y_small c.requires.z_small c.requires.w_small) tt

pub overflow_add-result : goal.overflow_add-result
overflow_add-result c = fits_of sizes (numbers c.args.h.now c.args.x c.args.y c.args.z c.args.w) w128 two (limits c.args.h.now c.args.x c.args.y c.args.z c.args.w c.requires.x_small c.requires.y_small c.requires.z_small c.requires.w_small) tt

pub overflow_mul-result-3 : goal.overflow_mul-result-3
overflow_mul-result-3 c = fits_of sizes (numbers c.args.h.now c.args.x c.args.y c.args.z c.args.w) w128 (factor 2 6) (limits c.args.h.now c.args.x c.args.y c.args.z c.args.w c.requires.x_small c.requires.y_small c.requires.z_small c.requires.w_small) tt

pub overflow_add-result-2 : goal.overflow_add-result-2
overflow_add-result-2 c = fits_of sizes (numbers c.args.h.now c.args.x c.args.y c.args.z c.args.w) w128 three (limits c.args.h.now c.args.x c.args.y c.args.z c.args.w c.requires.x_small c.requires.y_small c.requires.z_small c.requires.w_small) tt

pub overflow_mul-result-4 : goal.overflow_mul-result-4
overflow_mul-result-4 c = fits_of sizes (numbers c.args.h.now c.args.x c.args.y c.args.z c.args.w) w128 (factor 3 7) (limits c.args.h.now c.args.x c.args.y c.args.z c.args.w c.requires.x_small c.requires.y_small c.requires.z_small c.requires.w_small) tt

pub overflow_add-result-3 : goal.overflow_add-result-3
overflow_add-result-3 c = fits_of sizes (numbers c.args.h.now c.args.x c.args.y c.args.z c.args.w) w128 four (limits c.args.h.now c.args.x c.args.y c.args.z c.args.w c.requires.x_small c.requires.y_small c.requires.z_small c.requires.w_small) tt

pub returns : goal.returns
returns c = record {
  value = exact_of sizes (numbers c.args.h.now c.args.x c.args.y c.args.z c.args.w) (wrap w128 four) (limits c.args.h.now c.args.x c.args.y c.args.z c.args.w c.requires.x_small c.requires.y_small c.requires.z_small c.requires.w_small) tt;
}
