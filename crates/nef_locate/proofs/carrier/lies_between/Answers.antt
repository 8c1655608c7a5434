use Rattle.nef_locate.proofs.Prelude.{◌≡◌, ℕ, ℤ, ◌+◌, ◌*ℤ◌, ◌<ℤ◌, ◌≤ℤ◌, ◌≤◌, nat_abs, FitsSigned, w64, List, [], ◌∷◌, arith, rules, ints, to_z-of_z, not_true, true_of, half_side, Code, load, wrap, ◌⊠◌, Limited, exact_of, fits_of, upright_weight_limit}
use mir.Syntax.{w128}
use Rattle.nef_locate.proofs.FramedBounds.{IsFramedLow, IsFramedHigh, clamped-low, clamped-high, low-small, high-small, to-low, to-high, from-both}
use Rattle.nef_locate.proofs.carrier.lies_between.Goals as goal

-- ---- a number next to the frame's times the weight
abbrev sizes : List ℕ
sizes = (half_side + 1) ∷ upright_weight_limit ∷ []

abbrev product : Code
product = wrap w128 (wrap w64 (load 0)) ⊠ wrap w128 (load 1)

limits : (k w : ℤ) → nat_abs k ≤ half_side + 1 → nat_abs w ≤ upright_weight_limit → Limited sizes (k ∷ w ∷ [])
limits k w l m = (l, (m, tt))

pub overflow_mul-low : goal.overflow_mul-low
overflow_mul-low c =
    let l = c.args.bounds.now.low in let m = c.clamp-low.result in let g : FitsSigned w64 l = search rules in
    let L : IsFramedLow l m = clamped-low l m (rw (to_z-of_z w64 l g) at c.clamp-low.ensures.value) in
    fits_of sizes (m ∷ c.args.w ∷ []) w128 product (limits m c.args.w (low-small l m L) c.requires.w_small) tt

pub overflow_mul-result : goal.overflow_mul-result
overflow_mul-result c =
    let h = c.args.bounds.now.high in let q = c.clamp-high.result in let g : FitsSigned w64 h = search rules in
    let H : IsFramedHigh h q = clamped-high h q (rw (to_z-of_z w64 h g) at c.clamp-high.ensures.value) in
    fits_of sizes (q ∷ c.args.w ∷ []) w128 product (limits q c.args.w (high-small h q H) c.requires.w_small) tt

pub returns-then-n-low : goal.returns-then-n-low
returns-then-n-low c =
    let n = c.args.n in let w = c.args.w in let l = c.args.bounds.now.low in let m = c.clamp-low.result in let g : FitsSigned w64 l = search rules in
    let L : IsFramedLow l m = clamped-low l m (rw (to_z-of_z w64 l g) at c.clamp-low.ensures.value) in
    let e = exact_of sizes (m ∷ w ∷ []) (wrap w128 product) (limits m w (low-small l m L) c.requires.w_small) tt in
    let t : n <ℤ (m *ℤ w) = let u = rw (e, to_z-of_z w128 n c.ranges.n) at c.if-n-low.true in search (rules, u) in
    record { between = (λ z. absurd (not_true z), λ i. absurd (let o = to-low n w c.requires.positive l m L i.0 i.1 in omega (arith, ints, o, t))) }

pub returns : goal.returns
returns c =
    let n = c.args.n in let w = c.args.w in let p = c.requires.positive in
    let l = c.args.bounds.now.low in let m = c.clamp-low.result in let g : FitsSigned w64 l = search rules in
    let h = c.args.bounds.now.high in let q = c.clamp-high.result in let f : FitsSigned w64 h = search rules in
    let L : IsFramedLow l m = clamped-low l m (rw (to_z-of_z w64 l g) at c.clamp-low.ensures.value) in
    let H : IsFramedHigh h q = clamped-high h q (rw (to_z-of_z w64 h f) at c.clamp-high.ensures.value) in
    let e = exact_of sizes (m ∷ w ∷ []) (wrap w128 product) (limits m w (low-small l m L) c.requires.w_small) tt in
    let d = exact_of sizes (q ∷ w ∷ []) (wrap w128 product) (limits q w (high-small h q H) c.requires.w_small) tt in
    let r : (m *ℤ w) ≤ℤ n = let u = rw (e, to_z-of_z w128 n c.ranges.n) at c.if-n-low.false in omega (arith, ints, u) in
    rw (d, to_z-of_z w128 n c.ranges.n) (record { between = (λ z. from-both n w p l m h q L H r (search (rules, z)), λ i. let o = to-high n w p h q H i.0 i.2 in true_of _ o.le) })
