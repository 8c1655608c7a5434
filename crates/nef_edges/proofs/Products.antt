-- The machine's products are the exact ones.
use Rattle.nef_edges.proofs.Prelude.{◌≡◌, ℕ, ◌≤◌, ℤ, pos, ◌+ℤ◌, ◌-ℤ◌, ◌*ℤ◌, nat_abs, List, [], ◌∷◌, w64, to_z, of_z, FitsSigned, arith, ap, ◌∙◌, Ordering, int_cmp, direction_limit, point_limit, Code, load, const, wrap, run, ◌⊞◌, ◌⊟◌, ◌⊠◌, Limited, fits_of, exact_of, size_of, Point, EdgeEnd, moment_limit, ratio_order}
use mir.Syntax.{w128}

-- ---- `a as i128 * f as i128 - b as i128 * e as i128`
abbrev pub wide : ℕ → Code
wide i = wrap w128 (wrap w64 (load i))

abbrev pub difference : Code
difference = wrap w128 (wide 0 ⊠ wide 3) ⊟ wrap w128 (wide 1 ⊠ wide 2)

abbrev sizes : List ℕ
sizes = point_limit ∷ point_limit ∷ direction_limit ∷ direction_limit ∷ []

module _ (a b e f : ℤ) (ha : nat_abs a ≤ point_limit) (hb : nat_abs b ≤ point_limit) (he : nat_abs e ≤ direction_limit) (hf : nat_abs f ≤ direction_limit) where
  abbrev four : List ℤ
  four = a ∷ b ∷ e ∷ f ∷ []

  limited : Limited sizes (a ∷ b ∷ e ∷ f ∷ [])
  limited = (ha, (hb, (he, (hf, tt))))

  pub difference-fits : FitsSigned w128 (run four difference)
  difference-fits = fits_of sizes (a ∷ b ∷ e ∷ f ∷ []) w128 difference limited tt

  pub difference-exact : run four (wrap w128 difference) ≡ a *ℤ f -ℤ b *ℤ e
  difference-exact = exact_of sizes (a ∷ b ∷ e ∷ f ∷ []) (wrap w128 difference) limited tt

  pub difference-small : nat_abs (run four (wrap w128 difference)) ≤ moment_limit
  difference-small = size_of sizes (a ∷ b ∷ e ∷ f ∷ []) moment_limit (wrap w128 difference) limited tt tt

-- ---- `x + 61 * y + 3721 * z`
abbrev pub weighed : Code
weighed = wrap w128 (wrap w128 (wrap w128 (load 0) ⊞ wrap w128 (const (pos 61) ⊠ wrap w128 (load 1))) ⊞ wrap w128 (const (pos 3721) ⊠ wrap w128 (load 2)))

pub weighed-exact : (x y z : ℤ) → nat_abs x ≤ moment_limit → nat_abs y ≤ moment_limit → nat_abs z ≤ moment_limit → run (x ∷ y ∷ z ∷ []) weighed ≡ x +ℤ pos 61 *ℤ y +ℤ pos 3721 *ℤ z
weighed-exact x y z a b c = exact_of (moment_limit ∷ moment_limit ∷ moment_limit ∷ []) (x ∷ y ∷ z ∷ []) weighed (a, (b, (c, tt))) tt

-- ---- `n * v as i128`
abbrev pub scaled : Code
scaled = wrap w128 (wrap w128 (load 0) ⊠ wrap w128 (wrap w64 (load 1)))

pub scaled-exact : (n v : ℤ) → nat_abs n ≤ moment_limit → nat_abs v ≤ direction_limit → run (n ∷ v ∷ []) scaled ≡ n *ℤ v
scaled-exact n v h k = exact_of (moment_limit ∷ direction_limit ∷ []) (n ∷ v ∷ []) scaled (h, (k, tt)) tt

pub cmp-exact : (n w m v : ℤ) (o : Ordering) → nat_abs n ≤ moment_limit → nat_abs m ≤ moment_limit → nat_abs w ≤ direction_limit → nat_abs v ≤ direction_limit
    → o ≡ int_cmp (run (n ∷ v ∷ []) scaled) (run (m ∷ w ∷ []) scaled) → o ≡ int_cmp (n *ℤ v) (m *ℤ w)
cmp-exact n w m v o hn hm hw hv e = e ∙ ap (λ x. int_cmp x (run (m ∷ w ∷ []) scaled)) (scaled-exact n v hn hv) ∙ ap (λ x. int_cmp (n *ℤ v) x) (scaled-exact m w hm hw)

pub weight-small : (p : Point) (w : ℤ) → w ≡ p.w → nat_abs w ≤ direction_limit
weight-small p w e = let h = p.w_small in rw e (omega (arith, h))

pub scaled-fits : (n v : ℤ) → nat_abs n ≤ moment_limit → nat_abs v ≤ direction_limit → FitsSigned w128 (run (n ∷ v ∷ []) (wrap w128 (load 0) ⊠ wrap w128 (wrap w64 (load 1))))
scaled-fits n v h k = fits_of (moment_limit ∷ direction_limit ∷ []) (n ∷ v ∷ []) w128 (wrap w128 (load 0) ⊠ wrap w128 (wrap w64 (load 1))) (h, (k, tt)) tt

-- ---- numbers that pass through their type
pub kept : (n : ℤ) → nat_abs n ≤ moment_limit → to_z w128 (of_z w128 n) ≡ n
kept n h = exact_of (moment_limit ∷ []) (n ∷ []) (wrap w128 (load 0)) (h, tt) tt

pub handed-small : (n : ℤ) → nat_abs n ≤ moment_limit → nat_abs (to_z w128 (of_z w128 n)) ≤ moment_limit
handed-small n h = rw (kept n h) h

pub ratio-is : (a b : EdgeEnd) (part : EdgeEnd → ℤ) (x y : ℤ) (o : Ordering) → x ≡ part a → y ≡ part b → nat_abs x ≤ moment_limit → nat_abs y ≤ moment_limit
    → o ≡ int_cmp (to_z w128 (of_z w128 x) *ℤ b.point.w) (to_z w128 (of_z w128 y) *ℤ a.point.w) → o ≡ ratio_order part a b
ratio-is a b part x y o ex ey hx hy e =
    e ∙ ap (λ z. int_cmp (z *ℤ b.point.w) (to_z w128 (of_z w128 y) *ℤ a.point.w)) (kept x hx ∙ ex) ∙ ap (λ z. int_cmp (part a *ℤ b.point.w) (z *ℤ a.point.w)) (kept y hy ∙ ey)
