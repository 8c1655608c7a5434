-- Signs as the machine's numbers, and the five signs of an arc and a direction.
use Rattle.nef_arc.proofs.Prelude.{◌≡◌, zero, suc, ◌<◌, ◌^◌, ℤ, pos, negsuc, Bool, true, false, w8, to_z, of_z, [], ◌∷◌, arith, refl, sym, ap, ◌∙◌, subst, to_z-of_z, All, sign_of, sign_number as number_of_sign, Sign, IsSign, between_signs}
use Rattle.std.specs.Bool.{IsTrue}
use lib.Dec.{T}
use lib.Signed.{mag}
use Rattle.nef_case.specs.Between.{between_of}
use Rattle.law_geometry.specs.sphere.cyclic.Signs.{sign_of_number}
use Rattle.law_geometry.proofs.sphere.cyclic.Signs.{sgn_is_sign}

number_of_sign-is : (z : ℤ) → number_of_sign (sign_of z) ≡ sign_of_number z
number_of_sign-is (pos zero) = refl
number_of_sign-is (pos (suc n)) = refl
number_of_sign-is (negsuc n) = refl

-- a sign's number that a machine returned
pub read_sign : (r : ℤ) (s : Sign) (z : ℤ) → mag r < 2 ^ 7 → r ≡ number_of_sign s → s ≡ sign_of z → to_z w8 (of_z w8 r) ≡ sign_of_number z
read_sign r s z h e f = to_z-of_z w8 r (record { sfits = h }) ∙ e ∙ ap number_of_sign f ∙ number_of_sign-is z

is_sign : (r z : ℤ) → r ≡ sign_of_number z → IsSign r
is_sign r z e = subst IsSign (sym e) (sgn_is_sign z)

pub five_signs : (a b c d e : ℤ) (v w x y z : ℤ) → a ≡ sign_of_number v → b ≡ sign_of_number w → c ≡ sign_of_number x → d ≡ sign_of_number y → e ≡ sign_of_number z → All IsSign (a ∷ b ∷ c ∷ d ∷ e ∷ [])
five_signs a b c d e v w x y z f g h i j zero u k = is_sign a v f
five_signs a b c d e v w x y z f g h i j (suc zero) u k = is_sign b w g
five_signs a b c d e v w x y z f g h i j (suc (suc zero)) u k = is_sign c x h
five_signs a b c d e v w x y z f g h i j (suc (suc (suc zero))) u k = is_sign d y i
five_signs a b c d e v w x y z f g h i j (suc (suc (suc (suc zero)))) u k = is_sign e z j
five_signs a b c d e v w x y z f g h i j (suc (suc (suc (suc (suc n))))) u k = absurd (omega arith)

pub between_read : (r : Bool) (a b c d e : ℤ) (v w x y z : ℤ) → a ≡ sign_of_number v → b ≡ sign_of_number w → c ≡ sign_of_number x → d ≡ sign_of_number y → e ≡ sign_of_number z
    → r ≡ between_of (a ∷ b ∷ c ∷ d ∷ e ∷ []) → r ≡ between_signs (sign_of_number v) (sign_of_number w) (sign_of_number x) (sign_of_number y) (sign_of_number z)
between_read r a b c d e v w x y z f g h i j k = k ∙ rw (f, g, h, i, j) refl

-- ---- truth values
pub test_of : {b : Bool} → IsTrue b → T b
test_of h = subst T (sym h) tt

pub true_of : (b : Bool) → T b → IsTrue b
true_of true h = refl
true_of false h = absurd h

pub not_true : IsTrue false → ⊥
not_true h = subst T (sym h) tt
