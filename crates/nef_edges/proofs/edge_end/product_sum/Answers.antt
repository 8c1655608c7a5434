use Rattle.nef_edges.proofs.Prelude.{◌≡◌, ℤ, pos, ◌+ℤ◌, ◌*ℤ◌, [], ◌∷◌, refl, ◌∙◌, Code, load, const, wrap, ◌⊞◌, ◌⊠◌, fits_of, Dir, Point, product_of, sum_of, moment_limit}
use mir.Syntax.{w128}
use Rattle.nef_edges.proofs.Products.{weighed-exact}
use Rattle.nef_edges.proofs.edge_end.product_sum.Goals as goal

sum-is : (p : Point) (d : Dir) (x y z : ℤ) → x ≡ (product_of p d).x → y ≡ (product_of p d).y → z ≡ (product_of p d).z → x +ℤ pos 61 *ℤ y +ℤ pos 3721 *ℤ z ≡ sum_of p d
sum-is p d x y z ex ey ez = rw (ex, ey, ez) refl

-- ---- the sum's parts
abbrev two : Code
two = wrap w128 (load 0) ⊞ wrap w128 (const (pos 61) ⊠ wrap w128 (load 1))

abbrev three : Code
three = wrap w128 two ⊞ wrap w128 (const (pos 3721) ⊠ wrap w128 (load 2))

pub overflow_mul-result : goal.overflow_mul-result
overflow_mul-result c = fits_of (moment_limit ∷ []) (c.product-x.result.1 ∷ []) w128 (const (pos 61) ⊠ wrap w128 (load 0)) (c.product-x.ensures.y_small, tt) tt

pub overflow_mul-result-2 : goal.overflow_mul-result-2
overflow_mul-result-2 c = fits_of (moment_limit ∷ []) (c.product-x.result.2 ∷ []) w128 (const (pos 3721) ⊠ wrap w128 (load 0)) (c.product-x.ensures.z_small, tt) tt

pub overflow_add-result : goal.overflow_add-result
overflow_add-result c = let r = c.product-x.result in let e = c.product-x.ensures in fits_of (moment_limit ∷ moment_limit ∷ moment_limit ∷ []) (r.0 ∷ r.1 ∷ r.2 ∷ []) w128 two (e.x_small, (e.y_small, (e.z_small, tt))) tt

pub overflow_add-result-2 : goal.overflow_add-result-2
overflow_add-result-2 c = let r = c.product-x.result in let e = c.product-x.ensures in fits_of (moment_limit ∷ moment_limit ∷ moment_limit ∷ []) (r.0 ∷ r.1 ∷ r.2 ∷ []) w128 three (e.x_small, (e.y_small, (e.z_small, tt))) tt

pub returns : goal.returns
returns c =
    let r = c.product-x.result in let e = c.product-x.ensures in
    record { sum = weighed-exact r.0 r.1 r.2 e.x_small e.y_small e.z_small ∙ sum-is c.args.point.now c.args.dir.now r.0 r.1 r.2 e.x e.y e.z }
