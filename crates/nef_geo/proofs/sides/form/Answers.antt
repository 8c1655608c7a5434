use Rattle.nef_geo.proofs.Prelude.{ℕ, ℤ, List, [], ◌∷◌, w64, sym, ◌∙◌, normal_limit, offset_limit, point_limit, weight_limit, Code, load, wrap, ◌⊞◌, ◌⊠◌, Limited, exact_of, fits_of, size_of, form_of, point_form_limit, Plane, Point}
use mir.Syntax.{w128}
use Rattle.nef_geo.proofs.Places.{form_at-point_of}
use Rattle.nef_geo.proofs.sides.form.Goals as goal

-- the bounds of a, b, c, d, x, y, z, w
abbrev sizes : List ℕ
sizes = normal_limit ∷ normal_limit ∷ normal_limit ∷ offset_limit ∷ point_limit ∷ point_limit ∷ point_limit ∷ weight_limit ∷ []

abbrev numbers : Plane → Point → List ℤ
numbers h p = h.a ∷ h.b ∷ h.c ∷ h.d ∷ p.x ∷ p.y ∷ p.z ∷ p.w ∷ []

limits : (h : Plane) (p : Point) → Limited sizes (numbers h p)
limits h p = (h.a_small, (h.b_small, (h.c_small, (h.d_small, (p.x_small, (p.y_small, (p.z_small, (p.w_small, tt))))))))

-- the product of two fields
abbrev factor : ℕ → ℕ → Code
factor i j = wrap w64 (load i) ⊠ wrap w64 (load j)

abbrev product : ℕ → ℕ → Code
product i j = wrap w64 (factor i j)

abbrev two : Code
two = product 0 4 ⊞ product 1 5

abbrev three : Code
three = wrap w64 two ⊞ product 2 6

abbrev four : Code
four = wrap w64 three ⊞ product 3 7

pub overflow_mul-result : goal.overflow_mul-result
overflow_mul-result c = fits_of sizes (numbers c.args.h.now c.args.p.now) w64 (factor 0 4) (limits c.args.h.now c.args.p.now) tt

pub overflow_mul-result-2 : goal.overflow_mul-result-2
overflow_mul-result-2 c = fits_of sizes (numbers c.args.h.now c.args.p.now) w64 (factor 1 5) (limits c.args.h.now c.args.p.now) tt

pub overflow_add-result : goal.overflow_add-result
overflow_add-result c = fits_of sizes (numbers c.args.h.now c.args.p.now) w64 two (limits c.args.h.now c.args.p.now) tt

pub overflow_mul-result-3 : goal.overflow_mul-result-3
overflow_mul-result-3 c = fits_of sizes (numbers c.args.h.now c.args.p.now) w64 (factor 2 6) (limits c.args.h.now c.args.p.now) tt

pub overflow_add-result-2 : goal.overflow_add-result-2
overflow_add-result-2 c = fits_of sizes (numbers c.args.h.now c.args.p.now) w64 three (limits c.args.h.now c.args.p.now) tt

pub overflow_mul-result-4 : goal.overflow_mul-result-4
overflow_mul-result-4 c = fits_of sizes (numbers c.args.h.now c.args.p.now) w64 (factor 3 7) (limits c.args.h.now c.args.p.now) tt

pub overflow_add-result-3 : goal.overflow_add-result-3
overflow_add-result-3 c = fits_of sizes (numbers c.args.h.now c.args.p.now) w64 four (limits c.args.h.now c.args.p.now) tt

pub returns-clause-value : goal.returns-clause-value
returns-clause-value c =
    exact_of sizes (numbers c.args.h.now c.args.p.now) (wrap w128 (wrap w64 four)) (limits c.args.h.now c.args.p.now) tt
    ∙ sym (form_at-point_of (form_of c.args.h.now) c.args.p.now)

pub returns-clause-width : goal.returns-clause-width
returns-clause-width c = size_of sizes (numbers c.args.h.now c.args.p.now) point_form_limit (wrap w128 (wrap w64 four)) (limits c.args.h.now c.args.p.now) tt tt
