use Rattle.nef_plane.proofs.Prelude.{◌≡◌, ℕ, ℤ, ◌≤◌, nat_abs, List, [], ◌∷◌, w64, ap, ◌∙◌, subst, sym, weight_limit, Code, load, wrap, ◌⊟◌, ◌⊠◌, Limited, exact_of, fits_of, sign_of, Point, product_limit}
use mir.Syntax.{w128}
use Rattle.nef_plane.proofs.RayPlanes.{side-is}
use Rattle.nef_plane.proofs.course.side_through.Goals as goal

-- the bounds of the two products, each before the other point's weight
abbrev sizes : List ℕ
sizes = product_limit ∷ weight_limit ∷ product_limit ∷ weight_limit ∷ []

abbrev weighted : ℕ → ℕ → Code
weighted i j = wrap w128 (load i) ⊠ wrap w128 (wrap w64 (load j))

abbrev difference : Code
difference = wrap w128 (weighted 0 1) ⊟ wrap w128 (weighted 2 3)

weight-small : (p : Point) (w : ℤ) → w ≡ p.w → nat_abs w ≤ weight_limit
weight-small p w e = subst (λ (n : ℤ). nat_abs n ≤ weight_limit) (sym e) p.w_small

limits : (p a : Point) (m v k w : ℤ) → nat_abs m ≤ product_limit → v ≡ p.w → nat_abs k ≤ product_limit → w ≡ a.w → Limited sizes (m ∷ v ∷ k ∷ w ∷ [])
limits p a m v k w e f g h = (e, (weight-small p v f, (g, (weight-small a w h, tt))))

pub overflow_mul-here : goal.overflow_mul-here
overflow_mul-here c =
    let p = c.args.p.now in
    fits_of (product_limit ∷ weight_limit ∷ []) (c.product_with.result ∷ c.w.result ∷ []) w128 (weighted 0 1) (c.product_with.ensures.small, (weight-small p c.w.result c.w.ensures.w, tt)) tt

pub overflow_mul-there : goal.overflow_mul-there
overflow_mul-there c =
    let a = c.args.a.now in
    fits_of (product_limit ∷ weight_limit ∷ []) (c.args.base ∷ c.w-2.result ∷ []) w128 (weighted 0 1) (c.requires.small, (weight-small a c.w-2.result c.w-2.ensures.w, tt)) tt

pub overflow_sub-here : goal.overflow_sub-here
overflow_sub-here c =
    fits_of sizes (c.product_with.result ∷ c.w.result ∷ c.args.base ∷ c.w-2.result ∷ []) w128 difference
    (limits c.args.p.now c.args.a.now c.product_with.result c.w.result c.args.base c.w-2.result c.product_with.ensures.small c.w.ensures.w c.requires.small c.w-2.ensures.w) tt

pub returns : goal.returns
returns c =
    let m = c.product_with.result in let v = c.w.result in let k = c.args.base in let w = c.w-2.result in
    record {
      side = side-is c.args.n.now c.args.p.now c.args.a.now c.of.result m v k w
          (c.of.ensures.sign ∙ ap sign_of (exact_of sizes (m ∷ v ∷ k ∷ w ∷ []) (wrap w128 difference) (limits c.args.p.now c.args.a.now m v k w c.product_with.ensures.small c.w.ensures.w c.requires.small c.w-2.ensures.w) tt))
          c.product_with.ensures.product c.w.ensures.w c.requires.base c.w-2.ensures.w;
    }
