use Rattle.nef_geo.proofs.Prelude.{w64, of_z, normal_limit, svertex_limit, Code, wrap, exact_of, fits_of, size_of, triple_vector}
use Rattle.nef_geo.proofs.Products.{bounds, numbers, limited, factor, minor}
use Rattle.nef_geo.proofs.sign.cross_narrow.Goals as goal
use Rattle.nef_space.proofs.Vectors.{same-vector}

pub overflow_mul-result : goal.overflow_mul-result
overflow_mul-result c =
    let a = triple_vector c.args.a.now in let b = triple_vector c.args.b.now in
    fits_of (bounds normal_limit normal_limit) (numbers a b) w64 (factor w64 1 5) (limited normal_limit normal_limit a b c.requires.left c.requires.right) tt

pub overflow_mul-result-2 : goal.overflow_mul-result-2
overflow_mul-result-2 c =
    let a = triple_vector c.args.a.now in let b = triple_vector c.args.b.now in
    fits_of (bounds normal_limit normal_limit) (numbers a b) w64 (factor w64 2 4) (limited normal_limit normal_limit a b c.requires.left c.requires.right) tt

pub overflow_mul-result-3 : goal.overflow_mul-result-3
overflow_mul-result-3 c =
    let a = triple_vector c.args.a.now in let b = triple_vector c.args.b.now in
    fits_of (bounds normal_limit normal_limit) (numbers a b) w64 (factor w64 2 3) (limited normal_limit normal_limit a b c.requires.left c.requires.right) tt

pub overflow_mul-result-4 : goal.overflow_mul-result-4
overflow_mul-result-4 c =
    let a = triple_vector c.args.a.now in let b = triple_vector c.args.b.now in
    fits_of (bounds normal_limit normal_limit) (numbers a b) w64 (factor w64 0 5) (limited normal_limit normal_limit a b c.requires.left c.requires.right) tt

pub overflow_mul-result-5 : goal.overflow_mul-result-5
overflow_mul-result-5 c =
    let a = triple_vector c.args.a.now in let b = triple_vector c.args.b.now in
    fits_of (bounds normal_limit normal_limit) (numbers a b) w64 (factor w64 0 4) (limited normal_limit normal_limit a b c.requires.left c.requires.right) tt

pub overflow_mul-result-6 : goal.overflow_mul-result-6
overflow_mul-result-6 c =
    let a = triple_vector c.args.a.now in let b = triple_vector c.args.b.now in
    fits_of (bounds normal_limit normal_limit) (numbers a b) w64 (factor w64 1 3) (limited normal_limit normal_limit a b c.requires.left c.requires.right) tt

pub overflow_sub-result : goal.overflow_sub-result
overflow_sub-result c =
    let a = triple_vector c.args.a.now in let b = triple_vector c.args.b.now in
    fits_of (bounds normal_limit normal_limit) (numbers a b) w64 (minor w64 1 5 2 4) (limited normal_limit normal_limit a b c.requires.left c.requires.right) tt

pub overflow_sub-result-2 : goal.overflow_sub-result-2
overflow_sub-result-2 c =
    let a = triple_vector c.args.a.now in let b = triple_vector c.args.b.now in
    fits_of (bounds normal_limit normal_limit) (numbers a b) w64 (minor w64 2 3 0 5) (limited normal_limit normal_limit a b c.requires.left c.requires.right) tt

pub overflow_sub-result-3 : goal.overflow_sub-result-3
overflow_sub-result-3 c =
    let a = triple_vector c.args.a.now in let b = triple_vector c.args.b.now in
    fits_of (bounds normal_limit normal_limit) (numbers a b) w64 (minor w64 0 4 1 3) (limited normal_limit normal_limit a b c.requires.left c.requires.right) tt

pub returns-clause-cross : goal.returns-clause-cross
returns-clause-cross c =
    let a = triple_vector c.args.a.now in let b = triple_vector c.args.b.now in
    let l = limited normal_limit normal_limit a b c.requires.left c.requires.right in
    let exact = λ (e : Code). exact_of (bounds normal_limit normal_limit) (numbers a b) e l in
    same-vector _ _ _ _ _ _ (exact (wrap w64 (minor w64 1 5 2 4)) tt) (exact (wrap w64 (minor w64 2 3 0 5)) tt) (exact (wrap w64 (minor w64 0 4 1 3)) tt)

pub returns-clause-small : goal.returns-clause-small
returns-clause-small c =
    let a = triple_vector c.args.a.now in let b = triple_vector c.args.b.now in
    let l = limited normal_limit normal_limit a b c.requires.left c.requires.right in
    let size = λ (e : Code). size_of (bounds normal_limit normal_limit) (numbers a b) svertex_limit e l in
    record {
      of_x = size (wrap w64 (minor w64 1 5 2 4)) tt tt;
      of_y = size (wrap w64 (minor w64 2 3 0 5)) tt tt;
      of_z = size (wrap w64 (minor w64 0 4 1 3)) tt tt;
    }
