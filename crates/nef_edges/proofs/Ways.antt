-- The way from one point to another, times both denominators, as the machine works it; and whether it goes along a direction.
use Rattle.nef_edges.proofs.Prelude.{◌≡◌, ℕ, ◌≤◌, ℤ, pos, ◌-ℤ◌, ◌*ℤ◌, nat_abs, [], ◌∷◌, w64, to_z, of_z, FitsSigned, arith, sym, ap, subst, ◌∙◌, ints, direction_limit, point_limit, toward, cross, IsZero, follows, ring, given, none, Code, load, wrap, run, ◌⊟◌, fits_of, exact_of, size_of, at, num, ◌⊖◌, ◌⊗◌, point_of, vector_of, Dir, Point, moment_limit}
use mir.Syntax.{Width, w128}
use Rattle.nef_complex.proofs.Prelude.{to_z-of_z}
use Rattle.nef_space.specs.Vectors.{vector}
use Rattle.nef_edges.proofs.Lines.{to-level}
use Rattle.nef_edges.proofs.Products.{kept}

-- ---- `(b - a) as i128`
module _ (a b : ℤ) (ha : nat_abs a ≤ point_limit) (hb : nat_abs b ≤ point_limit) where
  abbrev step : Code
  step = wrap w64 (load 1) ⊟ wrap w64 (load 0)

  pub step-fits : FitsSigned w64 (run (a ∷ b ∷ []) step)
  step-fits = fits_of (point_limit ∷ point_limit ∷ []) (a ∷ b ∷ []) w64 step (ha, (hb, tt)) tt

  pub step-exact : run (a ∷ b ∷ []) (wrap w128 (wrap w64 step)) ≡ b -ℤ a
  step-exact = exact_of (point_limit ∷ point_limit ∷ []) (a ∷ b ∷ []) (wrap w128 (wrap w64 step)) (ha, (hb, tt)) tt

  pub step-small : nat_abs (run (a ∷ b ∷ []) (wrap w128 (wrap w64 step))) ≤ moment_limit
  step-small = size_of (point_limit ∷ point_limit ∷ []) (a ∷ b ∷ []) moment_limit (wrap w128 (wrap w64 step)) (ha, (hb, tt)) tt tt

-- ---- numbers that pass through their type
pub number-kept : (n : ℤ) → nat_abs n ≤ direction_limit → to_z w64 (of_z w64 n) ≡ n
number-kept n h = exact_of (direction_limit ∷ []) (n ∷ []) (wrap w64 (load 0)) (h, tt) tt

-- ---- where the product of the way and a direction is zero
pub multiple-read : (d : Dir) (x y z dx dy dy' dz dz' dx' : ℤ) → nat_abs x ≤ moment_limit → nat_abs y ≤ moment_limit → nat_abs z ≤ moment_limit
    → dx ≡ d.x → dy ≡ d.y → dy' ≡ d.y → dz ≡ d.z → dz' ≡ d.z → dx' ≡ d.x
    → to_z w128 (of_z w128 x) *ℤ to_z w64 (of_z w64 dy) ≡ to_z w128 (of_z w128 y) *ℤ to_z w64 (of_z w64 dx)
    → to_z w128 (of_z w128 y) *ℤ to_z w64 (of_z w64 dz) ≡ to_z w128 (of_z w128 z) *ℤ to_z w64 (of_z w64 dy')
    → to_z w128 (of_z w128 z) *ℤ to_z w64 (of_z w64 dx') ≡ to_z w128 (of_z w128 x) *ℤ to_z w64 (of_z w64 dz')
    → IsZero (cross (vector x y z) (vector_of d))
multiple-read d x y z dx dy dy' dz dz' dx' hx hy hz ex ey ey' ez ez' ex' a b c =
    (read y z dy' dz d.y d.z hy hz ey' ez d.y_small d.z_small b, read z x dz' dx' d.z d.x hz hx ez' ex' d.z_small d.x_small c, read x y dx dy d.x d.y hx hy ex ey d.x_small d.y_small a)
  where
    read : (m n e f g h : ℤ) → nat_abs m ≤ moment_limit → nat_abs n ≤ moment_limit → e ≡ g → f ≡ h → nat_abs g ≤ direction_limit → nat_abs h ≤ direction_limit
        → to_z w128 (of_z w128 m) *ℤ to_z w64 (of_z w64 f) ≡ to_z w128 (of_z w128 n) *ℤ to_z w64 (of_z w64 e) → m *ℤ h -ℤ n *ℤ g ≡ pos 0
    read m n e f g h hm hn i j hg hh r =
        let k : to_z w64 (of_z w64 f) ≡ h = ap (λ l. to_z w64 (of_z w64 l)) j ∙ number-kept h hh in
        let k' : to_z w64 (of_z w64 e) ≡ g = ap (λ l. to_z w64 (of_z w64 l)) i ∙ number-kept g hg in
        let s : m *ℤ h ≡ n *ℤ g = ap (λ l. l *ℤ h) (sym (kept m hm)) ∙ ap (λ l. to_z w128 (of_z w128 m) *ℤ l) (sym k) ∙ r ∙ ap (λ l. to_z w128 (of_z w128 n) *ℤ l) k' ∙ ap (λ l. l *ℤ g) (kept n hn) in
        omega (arith, ints, s)

-- the way is a multiple of x, y and z, which are as the direction's numbers
along-multiple : (p q : Point) (d : Dir) (x y z k : ℤ) → q.x *ℤ p.w -ℤ p.x *ℤ q.w ≡ k *ℤ x → q.y *ℤ p.w -ℤ p.y *ℤ q.w ≡ k *ℤ y → q.z *ℤ p.w -ℤ p.z *ℤ q.w ≡ k *ℤ z
    → IsZero (cross (vector x y z) (vector_of d)) → IsZero (cross (toward (point_of p) (point_of q)) (vector_of d))
along-multiple p q d x y z k ex ey ez (a, b, c) = to-level p q (vector_of d) (times y z d.y d.z _ _ ey ez a, times z x d.z d.x _ _ ez ex b, times x y d.x d.y _ _ ex ey c)
  where
    times : (m n e f m' n' : ℤ) → m' ≡ k *ℤ m → n' ≡ k *ℤ n → m *ℤ f -ℤ n *ℤ e ≡ pos 0 → m' *ℤ f -ℤ n' *ℤ e ≡ pos 0
    times m n e f m' n' i j z = rw (i, j) (follows (k ∷ m ∷ n ∷ e ∷ f ∷ []) (at 0 ⊗ at 1 ⊗ at 4 ⊖ at 0 ⊗ at 2 ⊗ at 3) (num (pos 0)) (given (at 0) (at 1 ⊗ at 4 ⊖ at 2 ⊗ at 3) (num (pos 0)) z none) tt)

-- so is the way that minor gives, and where both points have one weight the one that step gives
pub along-way : (p q : Point) (d : Dir) (x y z : ℤ) → x ≡ q.x *ℤ p.w -ℤ p.x *ℤ q.w → y ≡ q.y *ℤ p.w -ℤ p.y *ℤ q.w → z ≡ q.z *ℤ p.w -ℤ p.z *ℤ q.w → nat_abs x ≤ moment_limit → nat_abs y ≤ moment_limit → nat_abs z ≤ moment_limit
    → IsZero (cross (vector (to_z w128 (of_z w128 x)) (to_z w128 (of_z w128 y)) (to_z w128 (of_z w128 z))) (vector_of d)) → IsZero (cross (toward (point_of p) (point_of q)) (vector_of d))
along-way p q d x y z ex ey ez hx hy hz = along-multiple p q d _ _ _ (pos 1) (once x _ ex hx) (once y _ ey hy) (once z _ ez hz)
  where
    once : (n m : ℤ) → n ≡ m → nat_abs n ≤ moment_limit → m ≡ pos 1 *ℤ to_z w128 (of_z w128 n)
    once n m e h = let k = kept n h in omega (arith, ints, e, k)

pub along-step : (p q : Point) (d : Dir) (x y z : ℤ) → p.w ≡ q.w → x ≡ q.x -ℤ p.x → y ≡ q.y -ℤ p.y → z ≡ q.z -ℤ p.z → nat_abs x ≤ moment_limit → nat_abs y ≤ moment_limit → nat_abs z ≤ moment_limit
    → IsZero (cross (vector (to_z w128 (of_z w128 x)) (to_z w128 (of_z w128 y)) (to_z w128 (of_z w128 z))) (vector_of d)) → IsZero (cross (toward (point_of p) (point_of q)) (vector_of d))
along-step p q d x y z same ex ey ez hx hy hz = along-multiple p q d _ _ _ p.w (times x p.x q.x ex hx) (times y p.y q.y ey hy) (times z p.z q.z ez hz)
  where
    times : (n a b : ℤ) → n ≡ b -ℤ a → nat_abs n ≤ moment_limit → b *ℤ p.w -ℤ a *ℤ q.w ≡ p.w *ℤ to_z w128 (of_z w128 n)
    times n a b e h =
        ap (λ v. b *ℤ p.w -ℤ a *ℤ v) (sym same) ∙ ring (a ∷ b ∷ p.w ∷ []) (at 1 ⊗ at 2 ⊖ at 0 ⊗ at 2) (at 2 ⊗ (at 1 ⊖ at 0)) tt ∙ ap (λ l. p.w *ℤ l) (sym (kept n h ∙ e))

-- ---- numbers that are handed on keep their bounds, and equal bits are equal numbers
pub handed : (w : Width) (k : ℕ) (z : ℤ) → FitsSigned w z → nat_abs z ≤ k → nat_abs (to_z w (of_z w z)) ≤ k
handed w k z f h = subst (λ u. nat_abs u ≤ k) (sym (to_z-of_z w z f)) h

pub equal-products : (w : Width) (a b e f r s : ℤ) → FitsSigned w a → FitsSigned w b → FitsSigned w64 e → FitsSigned w64 f → FitsSigned w128 r → FitsSigned w128 s
    → r ≡ to_z w (of_z w a) *ℤ to_z w64 (of_z w64 f) → s ≡ to_z w (of_z w b) *ℤ to_z w64 (of_z w64 e) → of_z w128 r ≡ of_z w128 s → a *ℤ f ≡ b *ℤ e
equal-products w a b e f r s fa fb fe ff fr fs hr hs h =
    let left = ap (λ l. l *ℤ f) (sym (to_z-of_z w a fa)) ∙ ap (λ l. to_z w (of_z w a) *ℤ l) (sym (to_z-of_z w64 f ff)) in
    let right = ap (λ l. to_z w (of_z w b) *ℤ l) (to_z-of_z w64 e fe) ∙ ap (λ l. l *ℤ e) (to_z-of_z w b fb) in
    left ∙ sym hr ∙ sym (to_z-of_z w128 r fr) ∙ ap (to_z w128) h ∙ to_z-of_z w128 s fs ∙ hs ∙ right

-- what was read has the bound of its source
pub read : (k : ℕ) (z v : ℤ) → FitsSigned w64 z → z ≡ v → nat_abs v ≤ k → nat_abs (to_z w64 (of_z w64 z)) ≤ k
read k z v f e h = handed w64 k z f (subst (λ u. nat_abs u ≤ k) (sym e) h)

-- the difference of two products of numbers that were read
pub difference-read : (r a b e f a' b' e' f' : ℤ) → FitsSigned w128 r → FitsSigned w64 a → FitsSigned w64 b → FitsSigned w64 e → FitsSigned w64 f → a ≡ a' → b ≡ b' → e ≡ e' → f ≡ f'
    → r ≡ to_z w64 (of_z w64 a) *ℤ to_z w64 (of_z w64 b) -ℤ to_z w64 (of_z w64 e) *ℤ to_z w64 (of_z w64 f) → to_z w128 (of_z w128 r) ≡ a' *ℤ b' -ℤ e' *ℤ f'
difference-read r a b e f a' b' e' f' fr fa fb fe ff ea eb ee ef h =
    let A = to_z-of_z w64 a fa ∙ ea in
    let B = to_z-of_z w64 b fb ∙ eb in
    let E = to_z-of_z w64 e fe ∙ ee in
    let F = to_z-of_z w64 f ff ∙ ef in
    to_z-of_z w128 r fr ∙ h
    ∙ ap (λ l. l *ℤ to_z w64 (of_z w64 b) -ℤ to_z w64 (of_z w64 e) *ℤ to_z w64 (of_z w64 f)) A
    ∙ ap (λ l. a' *ℤ l -ℤ to_z w64 (of_z w64 e) *ℤ to_z w64 (of_z w64 f)) B
    ∙ ap (λ l. a' *ℤ b' -ℤ l *ℤ to_z w64 (of_z w64 f)) E
    ∙ ap (λ l. a' *ℤ b' -ℤ e' *ℤ l) F
