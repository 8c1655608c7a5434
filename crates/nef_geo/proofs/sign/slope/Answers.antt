use Rattle.nef_geo.proofs.Prelude.{List, ℕ, ℤ, w64, normal_limit, direction_limit, normal_of, Limited, wrap, exact_of, fits_of, form_of, vector_of, Dir, Plane}
use mir.Syntax.{w128}
use Rattle.nef_geo.proofs.Products.{bounds, numbers as both, limited, factor, two, three, dir_within, normal_within}
use Rattle.nef_geo.proofs.sign.slope.Goals as goal

abbrev sizes : List ℕ
sizes = bounds normal_limit direction_limit

abbrev numbers : Plane → Dir → List ℤ
numbers h d = both (normal_of (form_of h)) (vector_of d)

limits : (h : Plane) (d : Dir) → Limited sizes (numbers h d)
limits h d = limited normal_limit direction_limit (normal_of (form_of h)) (vector_of d) (normal_within h) (dir_within d)

pub overflow_mul-result : goal.overflow_mul-result
overflow_mul-result c = fits_of sizes (numbers c.args.h.now c.args.d.now) w64 (factor w64 0 3) (limits c.args.h.now c.args.d.now) tt

pub overflow_mul-result-2 : goal.overflow_mul-result-2
overflow_mul-result-2 c = fits_of sizes (numbers c.args.h.now c.args.d.now) w64 (factor w64 1 4) (limits c.args.h.now c.args.d.now) tt

pub overflow_add-result : goal.overflow_add-result
overflow_add-result c = fits_of sizes (numbers c.args.h.now c.args.d.now) w64 (two w64) (limits c.args.h.now c.args.d.now) tt

pub overflow_mul-result-3 : goal.overflow_mul-result-3
overflow_mul-result-3 c = fits_of sizes (numbers c.args.h.now c.args.d.now) w64 (factor w64 2 5) (limits c.args.h.now c.args.d.now) tt

pub overflow_add-result-2 : goal.overflow_add-result-2
overflow_add-result-2 c = fits_of sizes (numbers c.args.h.now c.args.d.now) w64 (three w64) (limits c.args.h.now c.args.d.now) tt

pub returns : goal.returns
returns c = record { value = exact_of sizes (numbers c.args.h.now c.args.d.now) (wrap w128 (wrap w64 (three w64))) (limits c.args.h.now c.args.d.now) tt }
