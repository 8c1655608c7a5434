use Rattle.nef_geo.proofs.Prelude.{w64, offset_limit, svertex_limit, wrap, exact_of, fits_of, triple_vector}
use Rattle.nef_geo.proofs.Products.{bounds, numbers, limited, factor, two, three}
use Rattle.nef_geo.proofs.sign.dot_narrow.Goals as goal

pub overflow_mul-result : goal.overflow_mul-result
overflow_mul-result c =
    let a = triple_vector c.args.a.now in let b = triple_vector c.args.b.now in
    fits_of (bounds offset_limit svertex_limit) (numbers a b) w64 (factor w64 0 3) (limited offset_limit svertex_limit a b c.requires.left c.requires.right) tt

pub overflow_mul-result-2 : goal.overflow_mul-result-2
overflow_mul-result-2 c =
    let a = triple_vector c.args.a.now in let b = triple_vector c.args.b.now in
    fits_of (bounds offset_limit svertex_limit) (numbers a b) w64 (factor w64 1 4) (limited offset_limit svertex_limit a b c.requires.left c.requires.right) tt

pub overflow_add-result : goal.overflow_add-result
overflow_add-result c =
    let a = triple_vector c.args.a.now in let b = triple_vector c.args.b.now in
    fits_of (bounds offset_limit svertex_limit) (numbers a b) w64 (two w64) (limited offset_limit svertex_limit a b c.requires.left c.requires.right) tt

pub overflow_mul-result-3 : goal.overflow_mul-result-3
overflow_mul-result-3 c =
    let a = triple_vector c.args.a.now in let b = triple_vector c.args.b.now in
    fits_of (bounds offset_limit svertex_limit) (numbers a b) w64 (factor w64 2 5) (limited offset_limit svertex_limit a b c.requires.left c.requires.right) tt

pub overflow_add-result-2 : goal.overflow_add-result-2
overflow_add-result-2 c =
    let a = triple_vector c.args.a.now in let b = triple_vector c.args.b.now in
    fits_of (bounds offset_limit svertex_limit) (numbers a b) w64 (three w64) (limited offset_limit svertex_limit a b c.requires.left c.requires.right) tt

pub returns : goal.returns
returns c =
    let a = triple_vector c.args.a.now in let b = triple_vector c.args.b.now in
    record { dot = exact_of (bounds offset_limit svertex_limit) (numbers a b) (wrap w64 (three w64)) (limited offset_limit svertex_limit a b c.requires.left c.requires.right) tt }
