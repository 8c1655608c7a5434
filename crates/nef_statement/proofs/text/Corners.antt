-- What is said of all corners of the frame, or of all axes, is one equation that computes.
use Rattle.nef_statement.proofs.text.Prelude.{◌≡◌, ℕ, zero, suc, ◌+◌, ◌*◌, ◌<◌, ltb, ◌==◌, inl, inr, ⊎_elim, ℤ, pos, negsuc, ◌<ℤ◌, arith, refl, ap, true, cond, List, [], ◌∷◌, length, map, subst, ints, ltb-true, IsBelow, InOrder, IsAt, Both, of_three, each-three, is-at_some, map-is_at, is-at_map, FrameCorner, ends, Axis, on_x, on_y, on_z, is-at_none, is-at_first}
use Rattle.nef_case.specs.Between.{is_positive}
use Rattle.nef_space.proofs.Elementary.{three-ways}

pub record OnAxes (A : Type 0) : Type 0 where
  pub z : A
  pub y : A
  pub x : A

abbrev pub on_axes : {A : Type 0} → (Axis → A) → OnAxes A
on_axes f = record { z = f on_z; y = f on_y; x = f on_x }

abbrev pub at_corners : {A : Type 0} → (FrameCorner → A) → Both (Both (Both A))
at_corners f = of_three (λ x y z. f (ends x y z))

pub each-axis : {A : Type 0} (f g : Axis → A) → on_axes f ≡ on_axes g → (a : Axis) → f a ≡ g a
each-axis {A} f g e on_x = ap (λ (r : OnAxes A). r.x) e
each-axis {A} f g e on_y = ap (λ (r : OnAxes A). r.y) e
each-axis {A} f g e on_z = ap (λ (r : OnAxes A). r.z) e

pub each-corner : {A : Type 0} (f g : FrameCorner → A) → at_corners f ≡ at_corners g → (k : FrameCorner) → f k ≡ g k
each-corner f g e k = each-three (λ x y z. f (ends x y z)) (λ x y z. g (ends x y z)) e k.x k.y k.z

abbrev pub at_slots : {A : Type 0} → (FrameCorner → Axis → A) → Both (Both (Both (OnAxes A)))
at_slots f = at_corners (λ k. on_axes (f k))

pub each-slot : {A : Type 0} (f g : FrameCorner → Axis → A) → at_slots f ≡ at_slots g → (k : FrameCorner) (a : Axis) → f k a ≡ g k a
each-slot f g e k = each-axis (f k) (g k) (each-corner (λ k. on_axes (f k)) (λ k. on_axes (g k)) e k)

pub each-pair : {A : Type 0} (f g : FrameCorner → Axis → FrameCorner → Axis → A) → at_slots (λ k a. at_slots (f k a)) ≡ at_slots (λ k a. at_slots (g k a)) → (k : FrameCorner) (a : Axis) (j : FrameCorner) (o : Axis) → f k a j o ≡ g k a j o
each-pair f g e k a = each-slot (f k a) (g k a) (each-slot (λ j o. at_slots (f j o)) (λ j o. at_slots (g j o)) e k a)

pub positive-is : (i : ℤ) → pos 0 <ℤ i → is_positive i ≡ true
positive-is (pos zero) h = absurd (omega (arith, ints, h))
positive-is (pos (suc n)) h = refl
positive-is (negsuc n) h = absurd (omega (arith, ints, h))

pub is-positive : (i : ℤ) → is_positive i ≡ true → pos 0 <ℤ i
is-positive (pos zero) e = absurd cc
is-positive (pos (suc n)) e = omega (arith, ints)
is-positive (negsuc n) e = absurd cc

-- ---- places in lists
-- the place of the first element with the number
abbrev pub seek : {A : Type 0} → (A → ℕ) → ℕ → List A → ℕ
seek number n [] = 0
seek number n (x ∷ xs) = cond (number x == n) 0 (suc (seek number n xs))

abbrev pub count_from : ℕ → ℕ → List ℕ
count_from s zero = []
count_from s (suc n) = s ∷ count_from (suc s) n

at-count : (n s k m : ℕ) → IsAt (count_from s n) k m → m ≡ k + s
at-count zero s k m h = absurd (is-at_none h)
at-count (suc n) s zero m h = omega (arith, is-at_first h)
at-count (suc n) s (suc k) m h = let e = at-count n (suc s) k m h in omega (arith, e)

-- where the numbers of a list are its places, what is so of each image by its number is so of the images in the list
pub each-listed : {A B : Type 0} (f : A → B) (number : A → ℕ) (xs : List A) → map number xs ≡ count_from 0 (length xs) → (P : ℕ → B → Type 0) → ((x : A) → P (number x) (f x)) → (n : ℕ) (y : B) → IsAt (map f xs) n y → P n y
each-listed f number xs e P h n y a =
    let x = is-at_map f xs n y a in
    let m = at-count (length xs) 0 n (number x.0) (subst (λ (ns : List ℕ). IsAt ns n (number x.0)) e (map-is_at number xs n x.0 x.1)) in
    let g : number x.0 ≡ n = omega (arith, m) in
    subst (λ (i : ℕ). P i y) g (subst (P (number x.0)) x.2 (h x.0))

-- the thing with a number
pub named : {A : Type 0} (number : A → ℕ) (xs : List A) → map number xs ≡ count_from 0 (length xs) → (n : ℕ) → n < length xs → (x : A) × (number x ≡ n)
named number xs e n h =
    let x = is-at_some xs n h in
    let m = at-count (length xs) 0 n (number x.0) (subst (λ (ns : List ℕ). IsAt ns n (number x.0)) e (map-is_at number xs n x.0 x.1)) in
    (x.0, omega (arith, m))

-- what is so of four is so of each in their list
pub of-four : {X : Type 0} (Q : X → Type 0) (a b c d : X) → Q a → Q b → Q c → Q d → (n : ℕ) (x : X) → IsAt (a ∷ b ∷ c ∷ d ∷ []) n x → Q x
of-four Q a b c d p q r s zero x h = subst Q (is-at_first h) p
of-four Q a b c d p q r s (suc zero) x h = subst Q (is-at_first h) q
of-four Q a b c d p q r s (suc (suc zero)) x h = subst Q (is-at_first h) r
of-four Q a b c d p q r s (suc (suc (suc zero))) x h = subst Q (is-at_first h) s
of-four Q a b c d p q r s (suc (suc (suc (suc n)))) x h = absurd (is-at_none h)

-- ---- the order of pairs
pub pair-below : (v i w j : ℕ) → i < 3 → j < 3 → (v * 3 + i) < (w * 3 + j) → IsBelow (pos v ∷ pos i ∷ []) (pos w ∷ pos j ∷ [])
pair-below v i w j p q h = ⊎_elim (λ a. inl (omega (arith, ints, a))) (λ r. ⊎_elim (λ e. inr (ap (λ n. pos n) e, inl (omega (arith, ints, h, e)))) (λ b. absurd (omega (arith, p, q, h, b))) r) (three-ways v w)

abbrev pub Rises : ℕ → List ℕ → Type 0
Rises n [] = Unit {0}
Rises n (m ∷ ms) = (ltb n m ≡ true) × Rises m ms

above-all : (n : ℕ) (ms : List ℕ) → Rises n ms → (k m : ℕ) → IsAt ms k m → n < m
above-all n [] r k m h = absurd (is-at_none h)
above-all n (x ∷ xs) r zero m h = subst (λ y. n < y) (is-at_first h) (ltb-true n x r.0)
above-all n (x ∷ xs) r (suc k) m h = let p = ltb-true n x r.0 in let q = above-all x xs r.1 k m h in omega (arith, p, q)

pub rising : (n : ℕ) (ms : List ℕ) → Rises n ms → InOrder (λ x y. x < y) (n ∷ ms)
rising n ms r zero zero x y l a b = absurd (omega (arith, l))
rising n ms r zero (suc k) x y l a b = subst (λ z. z < y) (is-at_first a) (above-all n ms r k y b)
rising n ms r (suc i) zero x y l a b = absurd (omega (arith, l))
rising n [] r (suc i) (suc k) x y l a b = absurd (is-at_none a)
rising n (m ∷ ms) r (suc i) (suc k) x y l a b = rising m ms r.1 i k x y (omega (arith, l)) a b
