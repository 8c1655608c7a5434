-- Worked uses of this crate's lemmas.
use Rattle.nef_space.proofs.Prelude.{◌≡◌, ℕ, ◌*◌, ◌^◌, ◌≤◌, ℤ, pos, ◌+ℤ◌, ◌-ℤ◌, ◌*ℤ◌, neg_ℤ, ◌<ℤ◌, unsigned_abs, List, [], ◌∷◌, arith, FitsSigned, ints}
use mir.Syntax.{w64, w128}
use Rattle.nef_space.proofs.Ring.{ring, Poly, at, num, neg, ◌⊕◌, ◌⊖◌, ◌⊗◌}
use Rattle.nef_space.proofs.Combination.{follows_times, given, none}
use Rattle.nef_space.proofs.Order.{lt_by, mul_pos, sub_pos}
use Rattle.nef_space.proofs.Fractions.{fraction-trans}
use Rattle.nef_space.proofs.Machine.{Code, load, wrap, run, ◌⊞◌, ◌⊠◌, Limited, fits_of, exact_of, size_of}

-- ---- identities
pub square : (a b : ℤ) → (a +ℤ b) *ℤ (a -ℤ b) ≡ a *ℤ a -ℤ b *ℤ b
square a b = let x = at 0 in let y = at 1 in ring (a ∷ b ∷ []) ((x ⊕ y) ⊗ (x ⊖ y)) (x ⊗ x ⊖ y ⊗ y) tt

-- a determinant, as a number and as a polynomial
abbrev pub det3 : ℤ → ℤ → ℤ → ℤ → ℤ → ℤ → ℤ → ℤ → ℤ → ℤ
det3 a b c d e f g h i = a *ℤ (e *ℤ i -ℤ f *ℤ h) +ℤ b *ℤ (f *ℤ g -ℤ d *ℤ i) +ℤ c *ℤ (d *ℤ h -ℤ e *ℤ g)

abbrev pub det3_poly : Poly → Poly → Poly → Poly → Poly → Poly → Poly → Poly → Poly → Poly
det3_poly a b c d e f g h i = a ⊗ (e ⊗ i ⊖ f ⊗ h) ⊕ b ⊗ (f ⊗ g ⊖ d ⊗ i) ⊕ c ⊗ (d ⊗ h ⊖ e ⊗ g)

-- the meet of the planes a x + b y + c z + p = 0, d x + .. and g x + .. by determinants lies on the first: 12 variables, degree 4
pub cramer : (a b c d e f g h i p q r : ℤ) →
    (a *ℤ det3 (neg_ℤ p) b c (neg_ℤ q) e f (neg_ℤ r) h i +ℤ b *ℤ det3 a (neg_ℤ p) c d (neg_ℤ q) f g (neg_ℤ r) i +ℤ c *ℤ det3 a b (neg_ℤ p) d e (neg_ℤ q) g h (neg_ℤ r)) +ℤ p *ℤ det3 a b c d e f g h i ≡ pos 0
cramer a b c d e f g h i p q r =
    let A = at 0 in let B = at 1 in let C = at 2 in let D = at 3 in let E = at 4 in let F = at 5 in
    let G = at 6 in let H = at 7 in let I = at 8 in let P = neg (at 9) in let Q = neg (at 10) in let R = neg (at 11) in
    ring (a ∷ b ∷ c ∷ d ∷ e ∷ f ∷ g ∷ h ∷ i ∷ p ∷ q ∷ r ∷ [])
    ((A ⊗ det3_poly P B C Q E F R H I ⊕ B ⊗ det3_poly A P C D Q F G R I ⊕ C ⊗ det3_poly A B P D E Q G H R) ⊕ at 9 ⊗ det3_poly A B C D E F G H I)
    (num (pos 0)) tt

-- ---- an equation from equations
-- s, t and d are at right angles to n: then they lie in one plane, and their determinant s.(t x d) is nought
pub in_plane : (nx ny nz sx sy sz tx ty tz dx dy dz : ℤ) → pos 0 <ℤ (nx *ℤ nx +ℤ ny *ℤ ny +ℤ nz *ℤ nz)
    → nx *ℤ sx +ℤ ny *ℤ sy +ℤ nz *ℤ sz ≡ pos 0 → nx *ℤ tx +ℤ ny *ℤ ty +ℤ nz *ℤ tz ≡ pos 0 → nx *ℤ dx +ℤ ny *ℤ dy +ℤ nz *ℤ dz ≡ pos 0
    → (sx *ℤ (ty *ℤ dz -ℤ tz *ℤ dy) +ℤ sy *ℤ (tz *ℤ dx -ℤ tx *ℤ dz) +ℤ sz *ℤ (tx *ℤ dy -ℤ ty *ℤ dx)) ≡ pos 0
in_plane nx ny nz sx sy sz tx ty tz dx dy dz p hs ht hd =
    let a = at 0 in let b = at 1 in let c = at 2 in
    let s = at 3 in let s' = at 4 in let s'' = at 5 in
    let t = at 6 in let t' = at 7 in let t'' = at 8 in
    let d = at 9 in let d' = at 10 in let d'' = at 11 in
    let o = num (pos 0) in
    -- s.(t x d) n.n = (n.s) n.(t x d) + (n.t) n.(d x s) + (n.d) n.(s x t)
    follows_times (nx ∷ ny ∷ nz ∷ sx ∷ sy ∷ sz ∷ tx ∷ ty ∷ tz ∷ dx ∷ dy ∷ dz ∷ []) (a ⊗ a ⊕ b ⊗ b ⊕ c ⊗ c)
    (s ⊗ (t' ⊗ d'' ⊖ t'' ⊗ d') ⊕ s' ⊗ (t'' ⊗ d ⊖ t ⊗ d'') ⊕ s'' ⊗ (t ⊗ d' ⊖ t' ⊗ d)) o
    (given (a ⊗ (t' ⊗ d'' ⊖ t'' ⊗ d') ⊕ b ⊗ (t'' ⊗ d ⊖ t ⊗ d'') ⊕ c ⊗ (t ⊗ d' ⊖ t' ⊗ d)) (a ⊗ s ⊕ b ⊗ s' ⊕ c ⊗ s'') o hs
    (given (a ⊗ (d' ⊗ s'' ⊖ d'' ⊗ s') ⊕ b ⊗ (d'' ⊗ s ⊖ d ⊗ s'') ⊕ c ⊗ (d ⊗ s' ⊖ d' ⊗ s)) (a ⊗ t ⊕ b ⊗ t' ⊕ c ⊗ t'') o ht
    (given (a ⊗ (s' ⊗ t'' ⊖ s'' ⊗ t') ⊕ b ⊗ (s'' ⊗ t ⊖ s ⊗ t'') ⊕ c ⊗ (s ⊗ t' ⊖ s' ⊗ t)) (a ⊗ d ⊕ b ⊗ d' ⊕ c ⊗ d'') o hd none)))
    p tt

-- ---- an order, from the difference that is positive
pub below_product : (a b c d : ℤ) → pos 0 <ℤ a → a <ℤ b → pos 0 <ℤ c → c <ℤ d → (a *ℤ c) <ℤ (b *ℤ d)
below_product a b c d ha hb hc hd =
    let p = mul_pos (b -ℤ a) d (sub_pos a b hb) (omega (arith, ints)) in
    let q = mul_pos a (d -ℤ c) ha (sub_pos c d hd) in
    -- b d - a c = (b - a) d + a (d - c)
    lt_by (a ∷ b ∷ c ∷ d ∷ []) (at 0 ⊗ at 2) (at 1 ⊗ at 3) ((at 1 ⊖ at 0) ⊗ at 3 ⊕ at 0 ⊗ (at 3 ⊖ at 2)) tt (omega (arith, ints))

-- ---- fractions: 1/3 < 2/5 < 3/7, by cross products
pub thirds : (pos 1 *ℤ pos 7) <ℤ (pos 3 *ℤ pos 3)
thirds = fraction-trans (pos 1) (pos 3) (pos 2) (pos 5) (pos 3) (pos 7) (omega (arith, ints)) (omega (arith, ints)) (omega (arith, ints)) (omega (arith, ints)) (omega (arith, ints))

-- ---- machine arithmetic: a sum of six products of i64 below 2^62 in i128
-- v_i as i128 * v_j as i128, as a goal shows it
abbrev pub widened : ℕ → ℕ → Code
widened i j = wrap w128 (wrap w128 (wrap w64 (load i)) ⊠ wrap w128 (wrap w64 (load j)))

-- the sum of the first two, three .. products, before the last step is kept in its type
abbrev pub two : Code
two = widened 0 6 ⊞ widened 1 7

abbrev pub three : Code
three = wrap w128 two ⊞ widened 2 8

abbrev pub four : Code
four = wrap w128 three ⊞ widened 3 9

abbrev pub five : Code
five = wrap w128 four ⊞ widened 4 10

abbrev pub six : Code
six = wrap w128 five ⊞ widened 5 11

abbrev pub sizes : List ℕ
sizes = 2 ^ 62 ∷ 2 ^ 62 ∷ 2 ^ 62 ∷ 2 ^ 62 ∷ 2 ^ 62 ∷ 2 ^ 62 ∷ 2 ^ 62 ∷ 2 ^ 62 ∷ 2 ^ 62 ∷ 2 ^ 62 ∷ 2 ^ 62 ∷ 2 ^ 62 ∷ []

module _ (a b c d e f u v w x y z : ℤ) (l : Limited sizes (a ∷ b ∷ c ∷ d ∷ e ∷ f ∷ u ∷ v ∷ w ∷ x ∷ y ∷ z ∷ [])) where
  abbrev numbers : List ℤ
  numbers = a ∷ b ∷ c ∷ d ∷ e ∷ f ∷ u ∷ v ∷ w ∷ x ∷ y ∷ z ∷ []

  -- the last sum doesn't leave i128
  pub six_fits : FitsSigned w128 (run numbers six)
  six_fits = fits_of sizes numbers w128 six l tt

  -- and it is the sum over the whole numbers
  pub six_exact : run numbers (wrap w128 six) ≡ a *ℤ u +ℤ b *ℤ v +ℤ c *ℤ w +ℤ d *ℤ x +ℤ e *ℤ y +ℤ f *ℤ z
  six_exact = exact_of sizes numbers (wrap w128 six) l tt

  -- with this bound
  pub six_size : unsigned_abs (run numbers (wrap w128 six)) ≤ 6 * 2 ^ 124
  six_size = size_of sizes numbers (6 * 2 ^ 124) (wrap w128 six) l tt tt
