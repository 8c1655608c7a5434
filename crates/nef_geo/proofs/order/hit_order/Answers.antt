use Rattle.nef_geo.proofs.Prelude.{◌≡◌, ◌≤◌, ℤ, ◌*ℤ◌, nat_abs, [], ◌∷◌, ap, ◌∙◌, to_z, of_z, ◌<ℤ◌, Ordering, FitsSigned, MatchOrdering, int_cmp, int_ranked, load, wrap, ◌⊠◌, exact_of, fits_of, point_form_limit, ray_slope_limit, hit_point, Hit}
use mir.Syntax.{w128}
use Rattle.nef_geo.proofs.Along.{along-ray}
use Rattle.nef_geo.proofs.order.hit_order.Goals as goal

product_fits : (m k : ℤ) → nat_abs m ≤ point_form_limit → nat_abs k ≤ ray_slope_limit → FitsSigned w128 (to_z w128 (of_z w128 m) *ℤ to_z w128 (of_z w128 k))
product_fits m k s t = fits_of (point_form_limit ∷ ray_slope_limit ∷ []) (m ∷ k ∷ []) w128 (wrap w128 (load 0) ⊠ wrap w128 (load 1)) (s, (t, tt)) tt

pub overflow_mul-p : goal.overflow_mul-p
overflow_mul-p c = let p = c.args.p.now in let q = c.args.q.now in product_fits p.num q.den p.num_small q.den_small

pub overflow_mul-q : goal.overflow_mul-q
overflow_mul-q c = let p = c.args.p.now in let q = c.args.q.now in product_fits q.num p.den q.num_small p.den_small

-- the product that the machine computes
product_is : (m k : ℤ) → nat_abs m ≤ point_form_limit → nat_abs k ≤ ray_slope_limit → to_z w128 (of_z w128 (to_z w128 (of_z w128 m) *ℤ to_z w128 (of_z w128 k))) ≡ m *ℤ k
product_is m k s t = exact_of (point_form_limit ∷ ray_slope_limit ∷ []) (m ∷ k ∷ []) (wrap w128 (wrap w128 (load 0) ⊠ wrap w128 (load 1))) (s, (t, tt)) tt

ranked : (p q : Hit) (o : Ordering) → o ≡ int_cmp (to_z w128 (of_z w128 (to_z w128 (of_z w128 p.num) *ℤ to_z w128 (of_z w128 q.den)))) (to_z w128 (of_z w128 (to_z w128 (of_z w128 q.num) *ℤ to_z w128 (of_z w128 p.den))))
    → MatchOrdering o ((p.num *ℤ q.den) <ℤ (q.num *ℤ p.den)) (p.num *ℤ q.den ≡ q.num *ℤ p.den) ((q.num *ℤ p.den) <ℤ (p.num *ℤ q.den))
ranked p q o e =
    int_ranked _ _ o (e
    ∙ ap (λ (i : ℤ). int_cmp i (to_z w128 (of_z w128 (to_z w128 (of_z w128 q.num) *ℤ to_z w128 (of_z w128 p.den))))) (product_is p.num q.den p.num_small q.den_small)
    ∙ ap (λ (i : ℤ). int_cmp (p.num *ℤ q.den) i) (product_is q.num p.den q.num_small p.den_small))

pub returns-clause-steps : goal.returns-clause-steps
returns-clause-steps c = ranked c.args.p.now c.args.q.now c.cmp.result c.cmp.ensures

pub returns-clause-along : goal.returns-clause-along
returns-clause-along c s d some i j =
    let p = c.args.p.now in let q = c.args.q.now in
    along-ray s d p.num p.den (hit_point p) q.num q.den (hit_point q) c.cmp.result some p.den_sign q.den_sign i j (ranked p q c.cmp.result c.cmp.ensures)
