-- Signs of sums and products as numbers, and the rule of an arc by signs.
use Rattle.law_geometry.proofs.sphere.cyclic.Prelude.{◌≡◌, zero, suc, ℤ, pos, negsuc, neg_ℤ, ◌+ℤ◌, ◌*ℤ◌, ◌<ℤ◌, Bool, true, false, cond, List, [], ◌∷◌, arith, refl, ap, ◌∙◌, inl, inr, ◌⊎◌, ints, All, IsSign, between_signs, every_key, passes_at}
use lib.Dec.{T}
use Rattle.nef_space.proofs.Order.{Sign, minus, nought, plus, sign, sign_times, sign_of_product, sign-scaled, sign_of_sum}
use Rattle.law_geometry.specs.sphere.cyclic.Signs.{number_of_sign, sign_of_number}

abbrev pub sgn : ℤ → ℤ
sgn = sign_of_number

number_of_sign-times : (s t : Sign) → number_of_sign (sign_times s t) ≡ number_of_sign s *ℤ number_of_sign t
number_of_sign-times minus minus = refl
number_of_sign-times minus nought = refl
number_of_sign-times minus plus = refl
number_of_sign-times nought minus = refl
number_of_sign-times nought nought = refl
number_of_sign-times nought plus = refl
number_of_sign-times plus minus = refl
number_of_sign-times plus nought = refl
number_of_sign-times plus plus = refl

pub sgn-mul : (a b : ℤ) → sgn (a *ℤ b) ≡ sgn a *ℤ sgn b
sgn-mul a b = ap number_of_sign (sign_of_product a b) ∙ number_of_sign-times (sign a) (sign b)

pub sgn-scaled : (k x : ℤ) → pos 0 <ℤ k → sgn (k *ℤ x) ≡ sgn x
sgn-scaled k x h = ap number_of_sign (sign-scaled k x h)

pub sgn-neg_ℤ : (a : ℤ) → sgn (neg_ℤ a) ≡ neg_ℤ (sgn a)
sgn-neg_ℤ (pos zero) = refl
sgn-neg_ℤ (pos (suc n)) = refl
sgn-neg_ℤ (negsuc n) = refl

pub sgn_is_sign : (z : ℤ) → IsSign (sgn z)
sgn_is_sign (pos zero) = record { low = omega (arith, ints); high = omega (arith, ints) }
sgn_is_sign (pos (suc n)) = record { low = omega (arith, ints); high = omega (arith, ints) }
sgn_is_sign (negsuc n) = record { low = omega (arith, ints); high = omega (arith, ints) }

-- ---- tests on signs
abbrev pub is_zero : ℤ → Bool
is_zero (pos zero) = true
is_zero (pos (suc n)) = false
is_zero (negsuc n) = false

abbrev pub is_plus : ℤ → Bool
is_plus (pos zero) = false
is_plus (pos (suc n)) = true
is_plus (negsuc n) = false

abbrev pub is_minus : ℤ → Bool
is_minus (pos n) = false
is_minus (negsuc n) = true

abbrev pub both : Bool → Bool → Bool
both a b = cond a b false

abbrev pub one_of : Bool → Bool → Bool
one_of a b = cond a true b

abbrev pub is_not : Bool → Bool
is_not a = cond a false true

abbrev pub same_bool : Bool → Bool → Bool
same_bool a b = cond a b (is_not b)

abbrev pub same_sign : ℤ → ℤ → Bool
same_sign p q = one_of (both (is_zero p) (is_zero q)) (one_of (both (is_plus p) (is_plus q)) (both (is_minus p) (is_minus q)))

-- r may be the sign of a sum of two numbers of the signs p and q
abbrev pub adds : ℤ → ℤ → ℤ → Bool
adds p q r = cond (is_zero p) (same_sign r q) (cond (is_zero q) (same_sign r p) (cond (same_sign p q) (same_sign r p) true))

same_sign_refl : (z : ℤ) → T (same_sign (sgn z) (sgn z))
same_sign_refl (pos zero) = tt
same_sign_refl (pos (suc n)) = tt
same_sign_refl (negsuc n) = tt

pub adds_signs : (x y : ℤ) → T (adds (sgn x) (sgn y) (sgn (x +ℤ y)))
adds_signs (pos zero) y = let e : pos 0 +ℤ y ≡ y = omega (arith, ints) in rw e (same_sign_refl y)
adds_signs (pos (suc m)) (pos zero) = let e : pos (suc m) +ℤ pos 0 ≡ pos (suc m) = omega (arith, ints) in rw e tt
adds_signs (pos (suc m)) (pos (suc n)) = let e : sgn (pos (suc m) +ℤ pos (suc n)) ≡ pos 1 = ap number_of_sign (sign_of_sum (pos (suc m)) (pos (suc n)) plus refl refl) in rw e tt
adds_signs (pos (suc m)) (negsuc n) = tt
adds_signs (negsuc m) (pos zero) = let e : negsuc m +ℤ pos 0 ≡ negsuc m = omega (arith, ints) in rw e tt
adds_signs (negsuc m) (pos (suc n)) = tt
adds_signs (negsuc m) (negsuc n) = tt

-- ---- what a test says
pub plus_is : (z : ℤ) → T (is_plus (sgn z)) → pos 0 <ℤ z
plus_is (pos zero) t = absurd t
plus_is (pos (suc n)) t = omega (arith, ints)
plus_is (negsuc n) t = absurd t

pub is_plus_if : (z : ℤ) → pos 0 <ℤ z → T (is_plus (sgn z))
is_plus_if (pos zero) h = absurd (omega (arith, ints))
is_plus_if (pos (suc n)) h = tt
is_plus_if (negsuc n) h = absurd (omega (arith, ints))

pub zero_is : (z : ℤ) → T (is_zero (sgn z)) → z ≡ pos 0
zero_is (pos zero) t = refl
zero_is (pos (suc n)) t = absurd t
zero_is (negsuc n) t = absurd t

pub is_zero_if : (z : ℤ) → z ≡ pos 0 → T (is_zero (sgn z))
is_zero_if z e = rw e tt

pub both_left : (a b : Bool) → T (both a b) → T a
both_left true b h = tt
both_left false b h = absurd h

pub both_right : (a b : Bool) → T (both a b) → T b
both_right true b h = h
both_right false b h = absurd h

pub both_of : (a b : Bool) → T a → T b → T (both a b)
both_of true b s t = t
both_of false b s t = absurd s

pub not_of : (a : Bool) → ¬ (T a) → T (is_not a)
not_of true n = n tt
not_of false n = tt

pub not_is : (a : Bool) → T (is_not a) → ¬ (T a)
not_is true t u = absurd t
not_is false t u = absurd u

pub either_sign : (p q : Bool) {P Q : Type 0} → (T p → P) → (T q → Q) → T (one_of p q) → P ⊎ Q
either_sign true q f g t = inl (f tt)
either_sign false q f g t = inr (g t)

pub one_of_left : (p q : Bool) → T p → T (one_of p q)
one_of_left true q t = tt
one_of_left false q t = absurd t

pub one_of_right : (p q : Bool) → T q → T (one_of p q)
one_of_right true q t = tt
one_of_right false q t = t

pub same_bool_is : (a b : Bool) → T (same_bool a b) → a ≡ b
same_bool_is true true t = refl
same_bool_is true false t = absurd t
same_bool_is false true t = absurd t
same_bool_is false false t = refl

pub use_test : (p q : Bool) → T p → T (cond p q true) → T q
use_test true q t u = u
use_test false q t u = absurd t

-- ---- the rule of an arc by the signs a, b of n.(s x t) and s.t, c, d of n.(s x d) and s.d, and e, f of n.(d x t) and d.t
abbrev pub way_test : ℤ → ℤ → ℤ → ℤ → Bool
way_test a b c e = cond (is_plus a) (both (is_plus c) (is_plus e)) (cond (is_minus a) (one_of (is_plus c) (is_plus e)) (cond (is_plus b) true (is_plus c)))

abbrev pub rule : ℤ → ℤ → ℤ → ℤ → ℤ → ℤ → Bool
rule a b c d e f = both (is_not (both (is_zero c) (is_plus d))) (both (is_not (both (is_zero e) (is_plus f))) (way_test a b c e))

-- what the relations of the six numbers say of their signs
abbrev pub consistent : ℤ → ℤ → ℤ → ℤ → ℤ → ℤ → Bool
consistent a b c d e f =
    both (is_not (both (is_zero a) (is_zero b))) (both (is_not (both (is_zero c) (is_zero d)))
    (both (adds (d *ℤ a) (neg_ℤ (c *ℤ b)) e) (adds (d *ℤ b) (c *ℤ a) f)))

-- those relations, with s for the square of the source and n for that of the normal
pub record Related (a b c d e f s n : ℤ) : Type 0 where
  pub s_positive : pos 0 <ℤ s
  pub n_positive : pos 0 <ℤ n
  pub turn : s *ℤ e ≡ d *ℤ a +ℤ neg_ℤ (c *ℤ b)
  pub along : n *ℤ (s *ℤ f) ≡ n *ℤ (d *ℤ b) +ℤ c *ℤ a
  pub target_not_both : a ≡ pos 0 → b ≡ pos 0 → ⊥
  pub passed_not_both : c ≡ pos 0 → d ≡ pos 0 → ⊥

pub related_consistent : (a b c d e f s n : ℤ) → Related a b c d e f s n → T (consistent (sgn a) (sgn b) (sgn c) (sgn d) (sgn e) (sgn f))
related_consistent a b c d e f s n r =
    both_of (is_not (both (is_zero (sgn a)) (is_zero (sgn b)))) _
    (not_of _ (λ t. r.target_not_both (zero_is a (both_left (is_zero (sgn a)) (is_zero (sgn b)) t)) (zero_is b (both_right (is_zero (sgn a)) (is_zero (sgn b)) t))))
    (both_of (is_not (both (is_zero (sgn c)) (is_zero (sgn d)))) _
    (not_of _ (λ t. r.passed_not_both (zero_is c (both_left (is_zero (sgn c)) (is_zero (sgn d)) t)) (zero_is d (both_right (is_zero (sgn c)) (is_zero (sgn d)) t))))
    (both_of (adds (sgn d *ℤ sgn a) (neg_ℤ (sgn c *ℤ sgn b)) (sgn e)) _
    (rw (← sgn-mul d a, ← sgn-mul c b, ← sgn-neg_ℤ (c *ℤ b), ← sgn-scaled s e r.s_positive, r.turn) (adds_signs (d *ℤ a) (neg_ℤ (c *ℤ b))))
    (rw (← sgn-mul d b, ← sgn-mul c a, ← sgn-scaled n (d *ℤ b) r.n_positive, ← sgn-scaled s f r.s_positive, ← sgn-scaled n (s *ℤ f) r.n_positive, r.along) (adds_signs (n *ℤ (d *ℤ b)) (c *ℤ a)))))

-- ---- a test on the six signs holds if it holds at all consistent ones
abbrev pub at_key : {A : Type 0} → (ℤ → ℤ → ℤ → ℤ → ℤ → ℤ → A) → A → List ℤ → A
at_key g z [] = z
at_key g z (a ∷ []) = z
at_key g z (a ∷ b ∷ []) = z
at_key g z (a ∷ b ∷ c ∷ []) = z
at_key g z (a ∷ b ∷ c ∷ d ∷ []) = z
at_key g z (a ∷ b ∷ c ∷ d ∷ e ∷ []) = z
at_key g z (a ∷ b ∷ c ∷ d ∷ e ∷ f ∷ rest) = g a b c d e f

all_signs : (a b c d e f : ℤ) → All IsSign (sgn a ∷ sgn b ∷ sgn c ∷ sgn d ∷ sgn e ∷ sgn f ∷ [])
all_signs a b c d e f zero z h = sgn_is_sign a
all_signs a b c d e f (suc zero) z h = sgn_is_sign b
all_signs a b c d e f (suc (suc zero)) z h = sgn_is_sign c
all_signs a b c d e f (suc (suc (suc zero))) z h = sgn_is_sign d
all_signs a b c d e f (suc (suc (suc (suc zero)))) z h = sgn_is_sign e
all_signs a b c d e f (suc (suc (suc (suc (suc zero))))) z h = sgn_is_sign f
all_signs a b c d e f (suc (suc (suc (suc (suc (suc k)))))) z h = absurd (omega arith)

abbrev pub ThreeTest : Type 0
ThreeTest = ℤ → ℤ → ℤ → ℤ → ℤ → ℤ → Bool

abbrev given_consistent : ThreeTest → ℤ → ℤ → ℤ → ℤ → ℤ → ℤ → Bool
given_consistent test a b c d e f = cond (consistent a b c d e f) (test a b c d e f) true

abbrev pub every_three : ThreeTest → Bool
every_three test = every_key 6 (at_key (given_consistent test) true)

pub holds_at_signs : (test : ThreeTest) → T (every_three test) → (a b c d e f s n : ℤ) → Related a b c d e f s n → T (test (sgn a) (sgn b) (sgn c) (sgn d) (sgn e) (sgn f))
holds_at_signs test t a b c d e f s n r =
    use_test (consistent (sgn a) (sgn b) (sgn c) (sgn d) (sgn e) (sgn f)) _ (related_consistent a b c d e f s n r)
    (passes_at 6 (at_key (given_consistent test) true) t (sgn a ∷ sgn b ∷ sgn c ∷ sgn d ∷ sgn e ∷ sgn f ∷ []) refl (all_signs a b c d e f))

-- ---- the rule of the eight classes is the arc's rule
abbrev classes_test : ThreeTest
classes_test a b c d e f = same_bool (between_signs a b c d e) (rule a b c d e f)

all_classes : T (every_three classes_test)
all_classes = tt

pub between_is_rule : (a b c d e f s n : ℤ) → Related a b c d e f s n → between_signs (sgn a) (sgn b) (sgn c) (sgn d) (sgn e) ≡ rule (sgn a) (sgn b) (sgn c) (sgn d) (sgn e) (sgn f)
between_is_rule a b c d e f s n r = same_bool_is _ _ (holds_at_signs classes_test all_classes a b c d e f s n r)

-- ---- the cases of the way, on numbers
pub record Cases (a b c e : ℤ) : Type 0 where
  pub less : pos 0 <ℤ a → (pos 0 <ℤ c) × (pos 0 <ℤ e)
  pub more : a <ℤ pos 0 → (pos 0 <ℤ c) ⊎ (pos 0 <ℤ e)
  pub half : a ≡ pos 0 → b <ℤ pos 0 → pos 0 <ℤ c

pub cases_from_test : (a b c e : ℤ) → T (way_test (sgn a) (sgn b) (sgn c) (sgn e)) → Cases a b c e
cases_from_test (pos (suc m)) b c e t = record {
  less = λ h. (plus_is c (both_left (is_plus (sgn c)) (is_plus (sgn e)) t), plus_is e (both_right (is_plus (sgn c)) (is_plus (sgn e)) t));
  more = λ h. absurd (omega (arith, ints));
  half = λ h k. absurd (omega (arith, ints));
}
cases_from_test (negsuc m) b c e t = record {
  less = λ h. absurd (omega (arith, ints));
  more = λ h. either_sign (is_plus (sgn c)) (is_plus (sgn e)) (plus_is c) (plus_is e) t;
  half = λ h k. absurd (omega (arith, ints));
}
cases_from_test (pos zero) (pos n) c e t = record {
  less = λ h. absurd (omega (arith, ints));
  more = λ h. absurd (omega (arith, ints));
  half = λ h k. absurd (omega (arith, ints));
}
cases_from_test (pos zero) (negsuc n) c e t = record {
  less = λ h. absurd (omega (arith, ints));
  more = λ h. absurd (omega (arith, ints));
  half = λ h k. plus_is c t;
}

both_plus : (c e : ℤ) → (pos 0 <ℤ c) × (pos 0 <ℤ e) → T (both (is_plus (sgn c)) (is_plus (sgn e)))
both_plus c e h = both_of _ _ (is_plus_if c h.0) (is_plus_if e h.1)

one_plus : (c e : ℤ) → (pos 0 <ℤ c) ⊎ (pos 0 <ℤ e) → T (one_of (is_plus (sgn c)) (is_plus (sgn e)))
one_plus c e (inl h) = one_of_left (is_plus (sgn c)) (is_plus (sgn e)) (is_plus_if c h)
one_plus c e (inr h) = one_of_right (is_plus (sgn c)) (is_plus (sgn e)) (is_plus_if e h)

pub test_from_cases : (a b c e : ℤ) → (a ≡ pos 0 → b ≡ pos 0 → ⊥) → Cases a b c e → T (way_test (sgn a) (sgn b) (sgn c) (sgn e))
test_from_cases (pos (suc m)) b c e n h = both_plus c e (h.less (omega (arith, ints)))
test_from_cases (negsuc m) b c e n h = one_plus c e (h.more (omega (arith, ints)))
test_from_cases (pos zero) (pos zero) c e n h = absurd (n refl refl)
test_from_cases (pos zero) (pos (suc k)) c e n h = tt
test_from_cases (pos zero) (negsuc k) c e n h = is_plus_if c (h.half refl (omega (arith, ints)))
