-- What many proofs want of numbers, signs, points and answers, each stated once.
use Rattle.nef_space.proofs.Prelude.{◌≡◌, ℕ, zero, suc, ◌+◌, ◌*◌, ◌<◌, ◌≤◌, ℤ, pos, negsuc, ◌+ℤ◌, ◌-ℤ◌, ◌*ℤ◌, neg_ℤ, ◌<ℤ◌, arith, refl, ap, ◌∙◌, nat_abs, List, [], ◌∷◌, inl, inr, ◌⊎◌, ⊎_elim, ints, sym, subst, ◌≤ℤ◌, true, false}
use Rattle.std.specs.Option.{is_some}
use Rattle.std.proofs.Common.{Option, Some, None, Result, Ok, Err}
use Rattle.std.specs.Result.{IfOk}
use Rattle.nef_space.proofs.Ring.{ring, at, num, neg, ◌⊖◌, ◌⊗◌}
use Rattle.nef_space.proofs.Order.{by_order, mul_neg, mul_pos}
use Rattle.nef_space.specs.Signs.{Sign, minus, nought, plus}
use Rattle.nef_space.specs.Numbers.{IsBelow}
use Rattle.nef_space.specs.Points.{InClosedFrame, InFrame, SamePoint, SpacePoint}

-- ---- which of two numbers is less
pub three-ways : (i k : ℕ) → (i < k) ⊎ (i ≡ k) ⊎ (k < i)
three-ways zero zero = inr (inl refl)
three-ways zero (suc k) = inl (omega arith)
three-ways (suc i) zero = inr (inr (omega arith))
three-ways (suc i) (suc k) = ⊎_elim (λ h. inl (omega (arith, h))) (λ r. inr (⊎_elim (λ e. inl (ap suc e)) (λ h. inr (omega (arith, h))) r)) (three-ways i k)

pub less-or-last : (i k : ℕ) → i < k + 1 → (i < k) ⊎ (i ≡ k)
less-or-last i k h = ⊎_elim (λ l. inl l) (λ r. ⊎_elim (λ e. inr e) (λ l. absurd (omega arith)) r) (three-ways i k)

pub less-unless : (i k : ℕ) → i ≤ k → (i ≡ k → ⊥) → i < k
less-unless i k l n = ⊎_elim (λ h. h) (λ r. ⊎_elim (λ e. absurd (n e)) (λ h. absurd (omega arith)) r) (three-ways i k)

-- ---- whole numbers
pub counted-positive : (k : ℕ) → 0 < k → pos 0 <ℤ pos k
counted-positive k h = omega (arith, ints)

pub size-positive : (z : ℤ) → (z ≡ pos 0 → ⊥) → 0 < nat_abs z
size-positive z n = by_order z (pos 0) (λ l. omega (arith, ints)) (λ e. absurd (n e)) (λ l. omega (arith, ints))

pub nought-not_positive : (z : ℤ) → z ≡ pos 0 → pos 0 <ℤ z → ⊥
nought-not_positive z e h = omega (arith, ints)

pub size-opposite : (z : ℤ) → nat_abs (neg_ℤ z) ≡ nat_abs z
size-opposite z = omega (arith, ints)

pub size-opposite_within : (k : ℕ) (z : ℤ) → nat_abs z ≤ k → nat_abs (neg_ℤ z) ≤ k
size-opposite_within k z h = omega (arith, ints)

pub nought-less : (z : ℤ) → pos 0 -ℤ z ≡ neg_ℤ z
nought-less z = omega (arith, ints)

pub once-opposite : (z : ℤ) → negsuc 0 *ℤ z +ℤ pos 0 *ℤ z ≡ neg_ℤ z
once-opposite z = omega (arith, ints)

pub times-comm : (a b : ℤ) → a *ℤ b ≡ b *ℤ a
times-comm a b = ring (a ∷ b ∷ []) (at 0 ⊗ at 1) (at 1 ⊗ at 0) tt

pub times-exchange : (a b c : ℤ) → a *ℤ b *ℤ c ≡ a *ℤ c *ℤ b
times-exchange a b c = ring (a ∷ b ∷ c ∷ []) (at 0 ⊗ at 1 ⊗ at 2) (at 0 ⊗ at 2 ⊗ at 1) tt

pub counted-times : (i k : ℕ) → pos (i * k) ≡ pos i *ℤ pos k
counted-times i k = omega (arith, ints)

pub times-nought : (k : ℤ) → k *ℤ pos 0 ≡ pos 0
times-nought k = omega (arith, ints)

pub nought-products : (a b : ℤ) → a *ℤ pos 0 ≡ pos 0 *ℤ b
nought-products a b = omega (arith, ints)

pub whole-nought : (k x y : ℤ) → x ≡ k *ℤ y → y ≡ pos 0 → x ≡ pos 0
whole-nought k x y e z = e ∙ ap (λ n. k *ℤ n) z ∙ times-nought k

-- a product that is nought, and of whose factors one isn't
pub positive-factor : (k x : ℤ) → pos 0 <ℤ k → k *ℤ x ≡ pos 0 → x ≡ pos 0
positive-factor k x p e = by_order x (pos 0) (λ l. let u = mul_neg k x p l in absurd (omega (arith, ints))) (λ o. o) (λ l. let u = mul_pos k x p l in absurd (omega (arith, ints)))

pub nought-factor : (a x : ℤ) → (x ≡ pos 0 → ⊥) → a *ℤ x ≡ pos 0 → a ≡ pos 0
nought-factor a x f e = by_order x (pos 0)
    (λ l. positive-factor (neg_ℤ x) a (omega (arith, ints)) (by a x e))
    (λ o. absurd (f o))
    (λ l. positive-factor x a l (times-comm x a ∙ e))
  where
    by : (a x : ℤ) → a *ℤ x ≡ pos 0 → neg_ℤ x *ℤ a ≡ pos 0
    by a x e = ring (a ∷ x ∷ []) (neg (at 1) ⊗ at 0) (neg (at 0 ⊗ at 1)) tt ∙ ap neg_ℤ e

-- a minor that has a column of noughts
pub minor-nought : (a b x y : ℤ) → x ≡ pos 0 → y ≡ pos 0 → x *ℤ a -ℤ y *ℤ b ≡ pos 0
minor-nought a b x y e f = ap (λ r. r *ℤ a -ℤ y *ℤ b) e ∙ ap (λ r. pos 0 *ℤ a -ℤ r *ℤ b) f ∙ ring (a ∷ b ∷ []) (num (pos 0) ⊗ at 0 ⊖ num (pos 0) ⊗ at 1) (num (pos 0)) tt

-- the opposite of a minor's column, there and back
pub minor-opposite : (a b c d : ℤ) → a *ℤ d -ℤ b *ℤ c ≡ pos 0 → a *ℤ neg_ℤ d -ℤ b *ℤ neg_ℤ c ≡ pos 0
minor-opposite a b c d e = ring (a ∷ b ∷ c ∷ d ∷ []) (at 0 ⊗ neg (at 3) ⊖ at 1 ⊗ neg (at 2)) (neg (at 0 ⊗ at 3 ⊖ at 1 ⊗ at 2)) tt ∙ ap neg_ℤ e

pub minor-opposite_back : (a b c d : ℤ) → a *ℤ neg_ℤ d -ℤ b *ℤ neg_ℤ c ≡ pos 0 → a *ℤ d -ℤ b *ℤ c ≡ pos 0
minor-opposite_back a b c d e = ring (a ∷ b ∷ c ∷ d ∷ []) (at 0 ⊗ at 3 ⊖ at 1 ⊗ at 2) (neg (at 0 ⊗ neg (at 3) ⊖ at 1 ⊗ neg (at 2))) tt ∙ ap neg_ℤ e

pub below-trans : (xs ys zs : List ℤ) → IsBelow xs ys → IsBelow ys zs → IsBelow xs zs
below-trans [] ys zs h k = absurd h
below-trans (x ∷ xs) [] zs h k = absurd h
below-trans (x ∷ xs) (y ∷ ys) [] h k = absurd k
below-trans (x ∷ xs) (y ∷ ys) (z ∷ zs) (inl p) (inl q) = inl (omega (arith, ints, p, q))
below-trans (x ∷ xs) (y ∷ ys) (z ∷ zs) (inl p) (inr (e, q)) = inl (omega (arith, ints, p, e))
below-trans (x ∷ xs) (y ∷ ys) (z ∷ zs) (inr (e, p)) (inl q) = inl (omega (arith, ints, e, q))
below-trans (x ∷ xs) (y ∷ ys) (z ∷ zs) (inr (e, p)) (inr (f, q)) = inr (e ∙ f, below-trans xs ys zs p q)

-- ---- signs
pub minus-not_nought : (s : Sign) → s ≡ minus → s ≡ nought → ⊥
minus-not_nought s e f = cc

pub plus-not_nought : (s : Sign) → s ≡ plus → s ≡ nought → ⊥
plus-not_nought s e f = cc

-- ---- points
pub weight-positive : (p : SpacePoint) → pos 0 <ℤ pos p.w
weight-positive p = let h = p.proper in omega (arith, ints)

pub same-itself : (p : SpacePoint) → SamePoint p p
same-itself p = record { along_x = refl; along_y = refl; along_z = refl }

pub frame-closed : (p : SpacePoint) → InFrame p → InClosedFrame p
frame-closed p i = record { along_x = (let h = i.along_x in omega arith); along_y = (let h = i.along_y in omega arith); along_z = (let h = i.along_z in omega arith) }

-- ---- answers
pub if-ok : {X E : Type 0} (P R : X → Type 0) (r : Result X E) → ((x : X) → P x → R x) → IfOk r P → IfOk r R
if-ok P R (Ok x) f p = f x p
if-ok P R (Err e) f p = tt

pub if-ok_both : {X E : Type 0} (P Q R : X → Type 0) (r : Result X E) → ((x : X) → P x → Q x → R x) → IfOk r P → IfOk r Q → IfOk r R
if-ok_both P Q R (Ok x) f p q = f x p q
if-ok_both P Q R (Err e) f p q = tt

-- ---- what is made of equals
pub equal-pairs : {A B C : Type 0} (make : A → B → C) {a c : A} {b d : B} → a ≡ c → b ≡ d → make a b ≡ make c d
equal-pairs {A} {B} {C} make {a} {c} {b} {d} e f = ap (λ x. make x b) e ∙ ap (make c) f

-- a bound by a product, at equal numbers and the size of what is positive
pub product-above : (m x y w v : ℤ) → (m *ℤ w) ≤ℤ x → x ≡ y → w ≡ v → pos (nat_abs v) ≡ v → (m *ℤ pos (nat_abs v)) ≤ℤ y
product-above m x y w v l e f g = subst (λ (r : ℤ). (m *ℤ r) ≤ℤ y) (sym g) (subst (λ (r : ℤ). (m *ℤ r) ≤ℤ y) f (subst (λ (r : ℤ). (m *ℤ w) ≤ℤ r) e l))

pub product-below : (m x y w v : ℤ) → x ≤ℤ (m *ℤ w) → x ≡ y → w ≡ v → pos (nat_abs v) ≡ v → y ≤ℤ (m *ℤ pos (nat_abs v))
product-below m x y w v l e f g = subst (λ (r : ℤ). y ≤ℤ (m *ℤ r)) (sym g) (subst (λ (r : ℤ). y ≤ℤ (m *ℤ r)) f (subst (λ (r : ℤ). r ≤ℤ (m *ℤ w)) e l))

-- what a test of an option tells
pub some-told : {X : Type 0} (o : Option X) → is_some o ≡ true → (x : X) × (o ≡ Some x)
some-told None e = absurd cc
some-told (Some x) e = (x, refl)

pub none-told : {X : Type 0} (o : Option X) → is_some o ≡ false → o ≡ None
none-told None e = refl
none-told (Some x) e = absurd cc
