use Rattle.nef_geo.proofs.Prelude.{◌≡◌, ◌≤◌, ℤ, ◌*ℤ◌, nat_abs, [], ◌∷◌, arith, ap, ◌∙◌, to_z, of_z, ◌<ℤ◌, Ordering, FitsSigned, MatchOrdering, int_cmp, int_ranked, load, wrap, ◌⊠◌, exact_of, fits_of, abs_times, far_num_limit, far_den_limit, far_product_limit, far_point, FarHit}
use mir.Syntax.{w128}
use Rattle.nef_geo.proofs.Along.{along-ray}
use Rattle.nef_geo.proofs.order.far_order.Goals as goal

product_fits : (m k : ℤ) → nat_abs m ≤ far_num_limit → nat_abs k ≤ far_den_limit → FitsSigned w128 (to_z w128 (of_z w128 m) *ℤ to_z w128 (of_z w128 k))
product_fits m k s t = fits_of (far_num_limit ∷ far_den_limit ∷ []) (m ∷ k ∷ []) w128 (wrap w128 (load 0) ⊠ wrap w128 (load 1)) (s, (t, tt)) tt

pub overflow_mul-p : goal.overflow_mul-p
overflow_mul-p c = let p = c.args.p.now in let q = c.args.q.now in product_fits p.num q.den p.num_small q.den_small

pub overflow_mul-q : goal.overflow_mul-q
overflow_mul-q c = let p = c.args.p.now in let q = c.args.q.now in product_fits q.num p.den q.num_small p.den_small

-- the product that the machine computes
product_is : (m k : ℤ) → nat_abs m ≤ far_num_limit → nat_abs k ≤ far_den_limit → to_z w128 (of_z w128 (to_z w128 (of_z w128 m) *ℤ to_z w128 (of_z w128 k))) ≡ m *ℤ k
product_is m k s t = exact_of (far_num_limit ∷ far_den_limit ∷ []) (m ∷ k ∷ []) (wrap w128 (wrap w128 (load 0) ⊠ wrap w128 (load 1))) (s, (t, tt)) tt

ranked : (p q : FarHit) (o : Ordering) → o ≡ int_cmp (to_z w128 (of_z w128 (to_z w128 (of_z w128 p.num) *ℤ to_z w128 (of_z w128 q.den)))) (to_z w128 (of_z w128 (to_z w128 (of_z w128 q.num) *ℤ to_z w128 (of_z w128 p.den))))
    → MatchOrdering o ((p.num *ℤ q.den) <ℤ (q.num *ℤ p.den)) (p.num *ℤ q.den ≡ q.num *ℤ p.den) ((q.num *ℤ p.den) <ℤ (p.num *ℤ q.den))
ranked p q o e =
    int_ranked _ _ o (e
    ∙ ap (λ (i : ℤ). int_cmp i (to_z w128 (of_z w128 (to_z w128 (of_z w128 q.num) *ℤ to_z w128 (of_z w128 p.den))))) (product_is p.num q.den p.num_small q.den_small)
    ∙ ap (λ (i : ℤ). int_cmp (p.num *ℤ q.den) i) (product_is q.num p.den q.num_small p.den_small))

pub returns-clause-steps : goal.returns-clause-steps
returns-clause-steps c = ranked c.args.p.now c.args.q.now c.cmp.result c.cmp.ensures

pub returns-clause-along : goal.returns-clause-along
returns-clause-along c s d some i j =
    let p = c.args.p.now in let q = c.args.q.now in
    along-ray s d p.num p.den (far_point p) q.num q.den (far_point q) c.cmp.result some p.den_sign q.den_sign i j (ranked p q c.cmp.result c.cmp.ensures)

product_small : (m k : ℤ) → nat_abs m ≤ far_num_limit → nat_abs k ≤ far_den_limit → nat_abs (m *ℤ k) ≤ far_product_limit
product_small m k s t = let i = abs_times m k far_num_limit far_den_limit s t in omega (arith, i)

pub returns-clause-width : goal.returns-clause-width
returns-clause-width c =
    let p = c.args.p.now in let q = c.args.q.now in
    (product_small p.num q.den p.num_small q.den_small, product_small q.num p.den q.num_small p.den_small)
