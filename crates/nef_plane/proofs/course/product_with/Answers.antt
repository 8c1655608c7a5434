use Rattle.nef_plane.proofs.Prelude.{◌≡◌, ℕ, ℤ, ◌+ℤ◌, ◌*ℤ◌, List, [], ◌∷◌, refl, ◌∙◌, w64, direction_limit, point_limit, Code, load, wrap, ◌⊞◌, ◌⊠◌, Limited, exact_of, fits_of, size_of, Dir, Point, product_limit}
use mir.Syntax.{w128}
use Rattle.nef_plane.proofs.course.product_with.Goals as goal

-- the bounds of the direction's numbers and of the point's
abbrev sizes : List ℕ
sizes = direction_limit ∷ direction_limit ∷ direction_limit ∷ point_limit ∷ point_limit ∷ point_limit ∷ []

abbrev times : ℕ → ℕ → Code
times i j = wrap w128 (wrap w64 (load i)) ⊠ wrap w128 (wrap w64 (load j))

abbrev two : Code
two = wrap w128 (times 0 3) ⊞ wrap w128 (times 1 4)

abbrev three : Code
three = wrap w128 two ⊞ wrap w128 (times 2 5)

module _ (n : Dir) (p : Point) (x y z a b c : ℤ) (ex : x ≡ n.x) (ey : y ≡ n.y) (ez : z ≡ n.z) (ea : a ≡ p.x) (eb : b ≡ p.y) (ec : c ≡ p.z) where
  limits : Limited sizes (x ∷ y ∷ z ∷ a ∷ b ∷ c ∷ [])
  limits = rw (ex, ey, ez, ea, eb, ec) (n.x_small, (n.y_small, (n.z_small, (p.x_small, (p.y_small, (p.z_small, tt))))))

  product-is : x *ℤ a +ℤ y *ℤ b +ℤ z *ℤ c ≡ n.x *ℤ p.x +ℤ n.y *ℤ p.y +ℤ n.z *ℤ p.z
  product-is = rw (ex, ey, ez, ea, eb, ec) refl

pub overflow_mul-result : goal.overflow_mul-result
overflow_mul-result c =
    let n = c.args.n.now in let p = c.args.a.now in
    fits_of sizes (c.x.result ∷ n.y ∷ n.z ∷ c.x-2.result ∷ p.y ∷ p.z ∷ []) w128 (times 0 3) (limits n p c.x.result n.y n.z c.x-2.result p.y p.z c.x.ensures.x refl refl c.x-2.ensures.x refl refl) tt

pub overflow_mul-result-2 : goal.overflow_mul-result-2
overflow_mul-result-2 c =
    let n = c.args.n.now in let p = c.args.a.now in
    fits_of sizes (n.x ∷ c.y.result ∷ n.z ∷ p.x ∷ c.y-2.result ∷ p.z ∷ []) w128 (times 1 4) (limits n p n.x c.y.result n.z p.x c.y-2.result p.z refl c.y.ensures.y refl refl c.y-2.ensures.y refl) tt

pub overflow_add-result : goal.overflow_add-result
overflow_add-result c =
    let n = c.args.n.now in let p = c.args.a.now in
    fits_of sizes (c.x.result ∷ c.y.result ∷ n.z ∷ c.x-2.result ∷ c.y-2.result ∷ p.z ∷ []) w128 two (limits n p c.x.result c.y.result n.z c.x-2.result c.y-2.result p.z c.x.ensures.x c.y.ensures.y refl c.x-2.ensures.x c.y-2.ensures.y refl) tt

pub overflow_mul-result-3 : goal.overflow_mul-result-3
overflow_mul-result-3 c =
    let n = c.args.n.now in let p = c.args.a.now in
    fits_of sizes (n.x ∷ n.y ∷ c.z.result ∷ p.x ∷ p.y ∷ c.z-2.result ∷ []) w128 (times 2 5) (limits n p n.x n.y c.z.result p.x p.y c.z-2.result refl refl c.z.ensures.z refl refl c.z-2.ensures.z) tt

pub overflow_add-result-2 : goal.overflow_add-result-2
overflow_add-result-2 c =
    let n = c.args.n.now in let p = c.args.a.now in
    fits_of sizes (c.x.result ∷ c.y.result ∷ c.z.result ∷ c.x-2.result ∷ c.y-2.result ∷ c.z-2.result ∷ []) w128 three
    (limits n p c.x.result c.y.result c.z.result c.x-2.result c.y-2.result c.z-2.result c.x.ensures.x c.y.ensures.y c.z.ensures.z c.x-2.ensures.x c.y-2.ensures.y c.z-2.ensures.z) tt

pub returns-clause-product : goal.returns-clause-product
returns-clause-product c =
    let n = c.args.n.now in let p = c.args.a.now in
    exact_of sizes (c.x.result ∷ c.y.result ∷ c.z.result ∷ c.x-2.result ∷ c.y-2.result ∷ c.z-2.result ∷ []) (wrap w128 three)
    (limits n p c.x.result c.y.result c.z.result c.x-2.result c.y-2.result c.z-2.result c.x.ensures.x c.y.ensures.y c.z.ensures.z c.x-2.ensures.x c.y-2.ensures.y c.z-2.ensures.z) tt
    ∙ product-is n p c.x.result c.y.result c.z.result c.x-2.result c.y-2.result c.z-2.result c.x.ensures.x c.y.ensures.y c.z.ensures.z c.x-2.ensures.x c.y-2.ensures.y c.z-2.ensures.z

pub returns-clause-small : goal.returns-clause-small
returns-clause-small c =
    let n = c.args.n.now in let p = c.args.a.now in
    size_of sizes (c.x.result ∷ c.y.result ∷ c.z.result ∷ c.x-2.result ∷ c.y-2.result ∷ c.z-2.result ∷ []) product_limit (wrap w128 three)
    (limits n p c.x.result c.y.result c.z.result c.x-2.result c.y-2.result c.z-2.result c.x.ensures.x c.y.ensures.y c.z.ensures.z c.x-2.ensures.x c.y-2.ensures.y c.z-2.ensures.z) tt tt
