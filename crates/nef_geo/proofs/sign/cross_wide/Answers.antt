use Rattle.nef_geo.proofs.Prelude.{◌*◌, subst, sym, direction_limit, IsAtMost, Code, wrap, exact_of, fits_of, wide_vector}
use mir.Syntax.{w128}
use Rattle.nef_geo.proofs.Products.{bounds, numbers, limited, factor, minor, cross_size}
use Rattle.nef_geo.proofs.sign.cross_wide.Goals as goal
use Rattle.nef_space.proofs.Vectors.{same-vector}

pub overflow_mul-result : goal.overflow_mul-result
overflow_mul-result c =
    let a = wide_vector c.args.a.now in let b = wide_vector c.args.b.now in
    fits_of (bounds direction_limit direction_limit) (numbers a b) w128 (factor w128 1 5) (limited direction_limit direction_limit a b c.requires.left c.requires.right) tt

pub overflow_mul-result-2 : goal.overflow_mul-result-2
overflow_mul-result-2 c =
    let a = wide_vector c.args.a.now in let b = wide_vector c.args.b.now in
    fits_of (bounds direction_limit direction_limit) (numbers a b) w128 (factor w128 2 4) (limited direction_limit direction_limit a b c.requires.left c.requires.right) tt

pub overflow_mul-result-3 : goal.overflow_mul-result-3
overflow_mul-result-3 c =
    let a = wide_vector c.args.a.now in let b = wide_vector c.args.b.now in
    fits_of (bounds direction_limit direction_limit) (numbers a b) w128 (factor w128 2 3) (limited direction_limit direction_limit a b c.requires.left c.requires.right) tt

pub overflow_mul-result-4 : goal.overflow_mul-result-4
overflow_mul-result-4 c =
    let a = wide_vector c.args.a.now in let b = wide_vector c.args.b.now in
    fits_of (bounds direction_limit direction_limit) (numbers a b) w128 (factor w128 0 5) (limited direction_limit direction_limit a b c.requires.left c.requires.right) tt

pub overflow_mul-result-5 : goal.overflow_mul-result-5
overflow_mul-result-5 c =
    let a = wide_vector c.args.a.now in let b = wide_vector c.args.b.now in
    fits_of (bounds direction_limit direction_limit) (numbers a b) w128 (factor w128 0 4) (limited direction_limit direction_limit a b c.requires.left c.requires.right) tt

pub overflow_mul-result-6 : goal.overflow_mul-result-6
overflow_mul-result-6 c =
    let a = wide_vector c.args.a.now in let b = wide_vector c.args.b.now in
    fits_of (bounds direction_limit direction_limit) (numbers a b) w128 (factor w128 1 3) (limited direction_limit direction_limit a b c.requires.left c.requires.right) tt

pub overflow_sub-result : goal.overflow_sub-result
overflow_sub-result c =
    let a = wide_vector c.args.a.now in let b = wide_vector c.args.b.now in
    fits_of (bounds direction_limit direction_limit) (numbers a b) w128 (minor w128 1 5 2 4) (limited direction_limit direction_limit a b c.requires.left c.requires.right) tt

pub overflow_sub-result-2 : goal.overflow_sub-result-2
overflow_sub-result-2 c =
    let a = wide_vector c.args.a.now in let b = wide_vector c.args.b.now in
    fits_of (bounds direction_limit direction_limit) (numbers a b) w128 (minor w128 2 3 0 5) (limited direction_limit direction_limit a b c.requires.left c.requires.right) tt

pub overflow_sub-result-3 : goal.overflow_sub-result-3
overflow_sub-result-3 c =
    let a = wide_vector c.args.a.now in let b = wide_vector c.args.b.now in
    fits_of (bounds direction_limit direction_limit) (numbers a b) w128 (minor w128 0 4 1 3) (limited direction_limit direction_limit a b c.requires.left c.requires.right) tt

pub returns : goal.returns
returns c =
    let a = wide_vector c.args.a.now in let b = wide_vector c.args.b.now in
    let l = limited direction_limit direction_limit a b c.requires.left c.requires.right in
    let exact = λ (e : Code). exact_of (bounds direction_limit direction_limit) (numbers a b) e l in
    let e = same-vector _ _ _ _ _ _ (exact (wrap w128 (minor w128 1 5 2 4)) tt) (exact (wrap w128 (minor w128 2 3 0 5)) tt) (exact (wrap w128 (minor w128 0 4 1 3)) tt) in
    record { cross = e; small = λ m n h k. subst (IsAtMost (2 * (m * n))) (sym e) (cross_size m n a b h k) }
