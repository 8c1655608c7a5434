use Rattle.nef_geo.proofs.Prelude.{◌^◌, wrap, exact_of, fits_of, wide_vector}
use mir.Syntax.{w128}
use Rattle.nef_geo.proofs.Products.{bounds, numbers, limited, factor, two, three}
use Rattle.nef_geo.proofs.sign.dot_wide.Goals as goal

pub overflow_mul-result : goal.overflow_mul-result
overflow_mul-result c =
    let a = wide_vector c.args.a.now in let b = wide_vector c.args.b.now in
    fits_of (bounds (2 ^ 75) (2 ^ 47)) (numbers a b) w128 (factor w128 0 3) (limited (2 ^ 75) (2 ^ 47) a b c.requires.left c.requires.right) tt

pub overflow_mul-result-2 : goal.overflow_mul-result-2
overflow_mul-result-2 c =
    let a = wide_vector c.args.a.now in let b = wide_vector c.args.b.now in
    fits_of (bounds (2 ^ 75) (2 ^ 47)) (numbers a b) w128 (factor w128 1 4) (limited (2 ^ 75) (2 ^ 47) a b c.requires.left c.requires.right) tt

pub overflow_add-result : goal.overflow_add-result
overflow_add-result c =
    let a = wide_vector c.args.a.now in let b = wide_vector c.args.b.now in
    fits_of (bounds (2 ^ 75) (2 ^ 47)) (numbers a b) w128 (two w128) (limited (2 ^ 75) (2 ^ 47) a b c.requires.left c.requires.right) tt

pub overflow_mul-result-3 : goal.overflow_mul-result-3
overflow_mul-result-3 c =
    let a = wide_vector c.args.a.now in let b = wide_vector c.args.b.now in
    fits_of (bounds (2 ^ 75) (2 ^ 47)) (numbers a b) w128 (factor w128 2 5) (limited (2 ^ 75) (2 ^ 47) a b c.requires.left c.requires.right) tt

pub overflow_add-result-2 : goal.overflow_add-result-2
overflow_add-result-2 c =
    let a = wide_vector c.args.a.now in let b = wide_vector c.args.b.now in
    fits_of (bounds (2 ^ 75) (2 ^ 47)) (numbers a b) w128 (three w128) (limited (2 ^ 75) (2 ^ 47) a b c.requires.left c.requires.right) tt

pub returns : goal.returns
returns c =
    let a = wide_vector c.args.a.now in let b = wide_vector c.args.b.now in
    record { dot = exact_of (bounds (2 ^ 75) (2 ^ 47)) (numbers a b) (wrap w128 (three w128)) (limited (2 ^ 75) (2 ^ 47) a b c.requires.left c.requires.right) tt }
