-- Signs of products, of sums and of forms.
use Rattle.nef_geo.proofs.Prelude.{◌≡◌, zero, suc, ℤ, pos, negsuc, neg_ℤ, ◌*ℤ◌, ◌<ℤ◌, Bool, true, false, arith, refl, sym, ap, ◌∙◌, subst, [], ◌∷◌, FitsSigned, to_z, of_z, ints, to_z-of_z, SpacePoint, Form, form_at, at, ◌⊕◌, ◌⊗◌, ring, Minus, Zero, Plus, IsPositiveMultiple, form_of, given_form, sign_of}
use lib.Dec.{T}
use mir.Syntax.{w128}
use Rattle.nef_geo.specs.declared.sign.Sign.{Sign}
use Rattle.nef_geo.specs.declared.plane.Oriented.{Oriented}
use Rattle.nef_space.proofs.Vectors.{opposite-at}

pub sign_of-positive : (z : ℤ) → pos 0 <ℤ z → sign_of z ≡ Plus
sign_of-positive (pos zero) h = absurd (omega (arith, ints))
sign_of-positive (pos (suc n)) h = refl
sign_of-positive (negsuc n) h = absurd (omega (arith, ints))

pub plus-above : (z : ℤ) → Plus ≡ sign_of z → pos 0 <ℤ z
plus-above (pos zero) e = cc
plus-above (pos (suc n)) e = omega (arith, ints)
plus-above (negsuc n) e = cc

pub sign_of-negative : (z : ℤ) → z <ℤ pos 0 → sign_of z ≡ Minus
sign_of-negative (pos n) h = absurd (omega (arith, ints))
sign_of-negative (negsuc n) h = refl

is_zero_sign : Sign → Bool
is_zero_sign Minus = false
is_zero_sign Zero = true
is_zero_sign Plus = false

pub zero_sign : (z : ℤ) → sign_of z ≡ Zero → z ≡ pos 0
unfolding is_zero_sign
zero_sign (pos zero) e = refl
zero_sign (pos (suc n)) e = absurd (subst (λ (s : Sign). T (is_zero_sign s)) (sym e) tt)
zero_sign (negsuc n) e = absurd (subst (λ (s : Sign). T (is_zero_sign s)) (sym e) tt)

pub sign_of-scaled : (k z : ℤ) → pos 0 <ℤ k → sign_of (k *ℤ z) ≡ sign_of z
sign_of-scaled (pos zero) z p = absurd (omega (arith, ints))
sign_of-scaled (negsuc k) z p = absurd (omega (arith, ints))
sign_of-scaled (pos (suc k)) (pos zero) p = let e : pos (suc k) *ℤ pos 0 ≡ pos 0 = omega (arith, ints) in ap sign_of e
sign_of-scaled (pos (suc k)) (pos (suc n)) p = sign_of-positive (pos (suc k) *ℤ pos (suc n)) (omega (arith, ints))
sign_of-scaled (pos (suc k)) (negsuc n) p = sign_of-negative (pos (suc k) *ℤ negsuc n) (omega (arith, ints))

-- a form and its positive multiples have the same sides
form_at-multiple : (h g : Form) (m : IsPositiveMultiple h g) (p : SpacePoint) → form_at h p ≡ m.factor *ℤ form_at g p
form_at-multiple h g m p =
    rw (m.a_is, m.b_is, m.c_is, m.d_is)
    (ring (m.factor ∷ g.a ∷ g.b ∷ g.c ∷ g.d ∷ p.x ∷ p.y ∷ p.z ∷ pos p.w ∷ [])
    (at 0 ⊗ at 1 ⊗ at 5 ⊕ at 0 ⊗ at 2 ⊗ at 6 ⊕ at 0 ⊗ at 3 ⊗ at 7 ⊕ at 0 ⊗ at 4 ⊗ at 8)
    (at 0 ⊗ (at 1 ⊗ at 5 ⊕ at 2 ⊗ at 6 ⊕ at 3 ⊗ at 7 ⊕ at 4 ⊗ at 8)) tt)

pub sign_of-multiple : (h g : Form) → IsPositiveMultiple h g → (p : SpacePoint) → sign_of (form_at h p) ≡ sign_of (form_at g p)
sign_of-multiple h g m p = ap sign_of (form_at-multiple h g m p) ∙ sign_of-scaled m.factor (form_at g p) m.positive

pub form_at-flipped : (o : Oriented) (p : SpacePoint) → o.flipped ≡ true → form_at (given_form o) p ≡ neg_ℤ (form_at (form_of o.plane) p)
form_at-flipped o p e = rw e (opposite-at (form_of o.plane) p)

-- the sign of a number that passed through the machine's type
pub sign_through : (s : Sign) (r v : ℤ) → FitsSigned w128 r → s ≡ sign_of (to_z w128 (of_z w128 r)) → r ≡ v → s ≡ sign_of v
sign_through s r v f e h = e ∙ ap sign_of (to_z-of_z w128 r f ∙ h)
