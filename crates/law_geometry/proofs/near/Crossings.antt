-- How many forms of a list cross a segment: forms with strictly opposite signs at its ends.
use Rattle.law_geometry.proofs.near.Prelude.{◌≡◌, ℕ, zero, suc, ◌<◌, ℤ, pos, negsuc, ◌+ℤ◌, ◌-ℤ◌, ◌*ℤ◌, nat_abs, arith, refl, ap, sym, ◌∙◌, ◌⊎◌, List, ◌∷◌, Bool, true, false, [], ints, ring, at, num, ◌⊕◌, ◌⊖◌, ◌⊗◌, Sign, minus, nought, plus, sign, sign-plus, sign-minus, sign-scaled, sign_of_product, mul_pos, mul_nonneg, Form}
use Rattle.nef_space.proofs.Order.{sign_times, Lies}
use Rattle.law_geometry.proofs.near.Counting.{count, find-passing, count-less}
use Rattle.law_geometry.proofs.near.Sums.{Homogeneous, form_on, mix, IsMixed, SameFormSigns, form-mix, form-sum, mixed-mix}
use Rattle.nef_space.proofs.Elementary.{counted-positive}

-- ---- signs along a segment
abbrev pub opposite_signs : Sign → Sign → Bool
opposite_signs minus plus = true
opposite_signs plus minus = true
opposite_signs _ _ = false

-- the sign strictly inside a segment that the form doesn't cross
abbrev pub joint : Sign → Sign → Sign
joint nought t = t
joint s t = s

pub sign-inside : (f g : ℤ) (i j : ℕ) → 0 < i → 0 < j → opposite_signs (sign f) (sign g) ≡ false → sign (pos i *ℤ f +ℤ pos j *ℤ g) ≡ joint (sign f) (sign g)
sign-inside (pos zero) g i j a b o =
    let e = ring (pos i ∷ pos j ∷ g ∷ []) (at 0 ⊗ num (pos 0) ⊕ at 1 ⊗ at 2) (at 1 ⊗ at 2) tt in
    ap sign e ∙ sign_of_product (pos j) g ∙ ap (λ r. sign_times r (sign g)) (sign-plus (pos j) (omega (arith, ints)))
sign-inside (pos (suc f)) (negsuc g) i j a b o = cc
sign-inside (pos (suc f)) (pos g) i j a b o =
    let c = mul_pos (pos i) (pos (suc f)) (omega (arith, ints)) (omega (arith, ints)) in
    let d = mul_nonneg (pos j) (pos g) (omega (arith, ints)) (omega (arith, ints)) in
    sign-plus (pos i *ℤ pos (suc f) +ℤ pos j *ℤ pos g) (omega (arith, ints))
sign-inside (negsuc f) (pos (suc g)) i j a b o = cc
sign-inside (negsuc f) (pos zero) i j a b o =
    let c = mul_pos (pos i) (pos (suc f)) (omega (arith, ints)) (omega (arith, ints)) in
    let e = ring (pos i ∷ pos j ∷ pos (suc f) ∷ []) (at 0 ⊗ (num (pos 0) ⊖ at 2) ⊕ at 1 ⊗ num (pos 0)) (num (pos 0) ⊖ at 0 ⊗ at 2) tt in
    sign-minus (pos i *ℤ negsuc f +ℤ pos j *ℤ pos zero) (omega (arith, ints))
sign-inside (negsuc f) (negsuc g) i j a b o =
    let c = mul_pos (pos i) (pos (suc f)) (omega (arith, ints)) (omega (arith, ints)) in
    let d = mul_pos (pos j) (pos (suc g)) (omega (arith, ints)) (omega (arith, ints)) in
    sign-minus (pos i *ℤ negsuc f +ℤ pos j *ℤ negsuc g) (omega (arith, ints))

abbrev pub sign_on : Form → Homogeneous → Sign
sign_on h v = sign (form_on h v)

abbrev pub crosses : Form → Homogeneous → Homogeneous → Bool
crosses h p q = opposite_signs (sign_on h p) (sign_on h q)

pub sign-mixed : (h : Form) (p r q : Homogeneous) → IsMixed p r q → crosses h p q ≡ false → sign_on h r ≡ joint (sign_on h p) (sign_on h q)
sign-mixed h p r q m c = sym (sign-scaled (pos m.k) (form_on h r) (counted-positive m.k m.some_k)) ∙ ap sign (form-sum h m.k r m.i p m.j q m.sum) ∙ sign-inside (form_on h p) (form_on h q) m.i m.j m.some_i m.some_j c

abbrev pub CrossesNone : List Form → Homogeneous → Homogeneous → Type 0
CrossesNone hs p q = (h : Form) → Lies hs h → crosses h p q ≡ false

-- where nothing crosses, all vectors strictly between have the same signs
pub clear-same : (hs : List Form) (p q r s : Homogeneous) → CrossesNone hs p q → IsMixed p r q → IsMixed p s q → SameFormSigns hs r s
clear-same hs p q r s c a b h l = sign-mixed h p r q a (c h l) ∙ sym (sign-mixed h p s q b (c h l))

-- ---- counting
abbrev pub crossings : List Form → Homogeneous → Homogeneous → ℕ
crossings hs p q = count (λ h. crosses h p q) hs

module _ (p q : Homogeneous) where
  pub find-crossing : (hs : List Form) → CrossesNone hs p q ⊎ ((h : Form) × Lies hs h × (crosses h p q ≡ true))
  find-crossing hs = find-passing (λ h. crosses h p q) hs

  module _ (r s : Homogeneous) where
    abbrev pub Fewer : List Form → Type 0
    Fewer hs = (h : Form) → Lies hs h → crosses h p q ≡ false → crosses h r s ≡ false

    pub crossings-less : (hs : List Form) → Fewer hs → (h : Form) → Lies hs h → crosses h p q ≡ true → crosses h r s ≡ false → crossings hs r s < crossings hs p q
    crossings-less hs f h l c d = count-less (λ h. crosses h p q) (λ h. crosses h r s) hs f h l c d

pub opposite-left : (s t : Sign) → opposite_signs s (joint s t) ≡ false
opposite-left minus t = refl
opposite-left nought minus = refl
opposite-left nought nought = refl
opposite-left nought plus = refl
opposite-left plus t = refl

pub opposite-right : (s t : Sign) → opposite_signs s t ≡ false → opposite_signs (joint s t) t ≡ false
opposite-right minus t o = o
opposite-right nought minus o = refl
opposite-right nought nought o = refl
opposite-right nought plus o = refl
opposite-right plus t o = o

pub to-nought : (s : Sign) → opposite_signs s nought ≡ false
to-nought minus = refl
to-nought nought = refl
to-nought plus = refl

-- ---- a vector at which a crossing form is nought
pub balance : (f g : ℤ) → opposite_signs (sign f) (sign g) ≡ true → (0 < nat_abs f) × (0 < nat_abs g) × (pos (nat_abs g) *ℤ f +ℤ pos (nat_abs f) *ℤ g ≡ pos 0)
balance (pos zero) g o = cc
balance (pos (suc f)) (pos zero) o = cc
balance (pos (suc f)) (pos (suc g)) o = cc
balance (pos (suc f)) (negsuc g) o = (
  omega arith,
  omega arith,
  let e : negsuc g ≡ pos 0 -ℤ pos (suc g) = omega (arith, ints) in ap (λ r. pos (suc g) *ℤ pos (suc f) +ℤ pos (suc f) *ℤ r) e ∙ ring (pos (suc f) ∷ pos (suc g) ∷ []) (at 1 ⊗ at 0 ⊕ at 0 ⊗ (num (pos 0) ⊖ at 1)) (num (pos 0)) tt,
)
balance (negsuc f) (pos zero) o = cc
balance (negsuc f) (negsuc g) o = cc
balance (negsuc f) (pos (suc g)) o = (
  omega arith,
  omega arith,
  let e : negsuc f ≡ pos 0 -ℤ pos (suc f) = omega (arith, ints) in ap (λ r. pos (suc g) *ℤ r +ℤ pos (suc f) *ℤ pos (suc g)) e ∙ ring (pos (suc f) ∷ pos (suc g) ∷ []) (at 1 ⊗ (num (pos 0) ⊖ at 0) ⊕ at 0 ⊗ at 1) (num (pos 0)) tt,
)

-- a crossing form cuts the segment in two, each with fewer crossings
pub record Split (hs : List Form) (p q : Homogeneous) : Type 0 where
  pub middle : Homogeneous
  pub between : IsMixed p middle q
  pub fewer_left : crossings hs p middle < crossings hs p q
  pub fewer_right : crossings hs middle q < crossings hs p q

pub split : (hs : List Form) (p q : Homogeneous) (h : Form) → Lies hs h → crosses h p q ≡ true → Split hs p q
split hs p q h m c =
    let b = balance (form_on h p) (form_on h q) c in
    let i = nat_abs (form_on h q) in
    let j = nat_abs (form_on h p) in
    let r = mix i p j q in
    let a = mixed-mix i p j q b.1 b.0 in
    let zero_at : sign_on h r ≡ nought = ap sign (form-mix h i p j q ∙ b.2) in
    record {
      middle = r;
      between = a;
      fewer_left = crossings-less p q p r hs (λ k v e. ap (opposite_signs (sign_on k p)) (sign-mixed k p r q a e) ∙ opposite-left (sign_on k p) (sign_on k q)) h m c (ap (opposite_signs (sign_on h p)) zero_at ∙ to-nought (sign_on h p));
      fewer_right = crossings-less p q r q hs (λ k v e. ap (λ (z : Sign). opposite_signs z (sign_on k q)) (sign-mixed k p r q a e) ∙ opposite-right (sign_on k p) (sign_on k q) e) h m c (ap (λ (z : Sign). opposite_signs z (sign_on h q)) zero_at);
    }
