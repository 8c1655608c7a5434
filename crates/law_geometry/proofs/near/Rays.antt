-- A cone does not tell apart equal points and equal directions; toward the zero vector the germ is the label.
use Rattle.law_geometry.proofs.near.Prelude.{◌≡◌, ℕ, ◌+◌, ◌*◌, ◌<◌, ℤ, pos, ◌-ℤ◌, ◌*ℤ◌, nat_abs, arith, ap, sym, ◌∙◌, ⊎_elim, ◌↔◌, List, ints, mul-pos, Lies, SpacePoint, Form, normal_of, slope, Ratio, step, Within, SamePoint, Vector, IsZero, SameDirection, Set, Holds, halves, IsShort, HasLabel, Germ, Label, of_point, of_direction, direction_form, sign_at, frame, carriers, SameSigns, SameSlopesAt, lies-left, lies-right, dot-zero}
use Rattle.nef_space.specs.Signs.{sign}
use Rattle.law_geometry.proofs.near.Sums.{sign-same as sign-up_to_factor, form-direction}
use Rattle.law_geometry.proofs.near.Directions.{same-factor}
use Rattle.law_geometry.proofs.near.Mixed.{point-factor}
use Rattle.law_geometry.proofs.near.Near.{step-within, reach_all}
use Rattle.law_geometry.proofs.near.Cells.{keeps-all, is_nought, Holds-cells}
use Rattle.law_geometry.proofs.near.Germs.{Label-cells, locality, short_enough, sign-along}

-- ---- the zero vector
pub slope-zero : (h : Form) (e : Vector) → IsZero e → slope h e ≡ pos 0
slope-zero h e z = dot-zero (normal_of h) e z

no-gap : (x : ℤ) (v n : ℕ) → 0 < v → n * nat_abs (x *ℤ pos v -ℤ x *ℤ pos v) < v * v
no-gap x v n h = let e : nat_abs (x *ℤ pos v -ℤ x *ℤ pos v) ≡ 0 = omega (arith, ints) in let f = ap (λ r. n * r) e in omega (arith, mul-pos h h)

pub within-self : (n : ℕ) (p : SpacePoint) → Within n p p
within-self n p = record { along_x = no-gap p.x p.w n p.proper; along_y = no-gap p.y p.w n p.proper; along_z = no-gap p.z p.w n p.proper }

-- the germ toward zero is the label
pub Germ-zero : (s : Set) (p : SpacePoint) (e : Vector) (l : Label) → IsZero e → Germ s p e l ↔ HasLabel s p l
Germ-zero s p e l z = (there, λ h. (short_enough s p e, omega arith, λ t short. locality s l p p (step p t e) (within-self (reach_all (carriers s) p) p) (step-within (reach_all (carriers s) p) p e t short) (λ h i o. o ∙ sym (ap sign (slope-zero h e z)) ∙ sym (sign-along h p t e o short.0)) h))
  where
    there : Germ s p e l → HasLabel s p l
    there (n, some, f) =
        let k = short_enough s p e in
        let t : Ratio = record { a = pos 1; b = n + k + 1; proper = omega arith } in
        let short : IsShort k t = (omega (arith, ints), omega (arith, ints)) in
        locality s l p (step p t e) p (step-within (reach_all (carriers s) p) p e t short) (within-self (reach_all (carriers s) p) p)
        (λ h i o. sign-along h p t e o short.0 ∙ ap sign (slope-zero h e z) ∙ sym o) (f t (omega (arith, ints), omega (arith, ints)))

-- ---- equal points
pub sign-same : (h : Form) (p q : SpacePoint) → SamePoint p q → sign_at h p ≡ sign_at h q
sign-same h p q s = sign-up_to_factor h (of_point p) (of_point q) (point-factor p q s)

pub same-point_sym : (p q : SpacePoint) → SamePoint p q → SamePoint q p
same-point_sym p q s = record { along_x = sym s.along_x; along_y = sym s.along_y; along_z = sym s.along_z }

-- ---- the germ by the signs alone
-- equal signs at p and q, and equal signs of the slopes where those are nought
pub Germ-cells : (s : Set) (p q : SpacePoint) (d e : Vector) (l : Label) → SameSigns (carriers s) p q → SameSlopesAt (carriers s) p d e → Germ s p d l → Germ s q e l
Germ-cells s p q d e l same slopes (n, some, f) =
    let k = short_enough s p d in
    let t : Ratio = record { a = pos 1; b = n + k + 1; proper = omega arith } in
    let short : IsShort k t = (omega (arith, ints), omega (arith, ints)) in (
      short_enough s q e,
      omega arith,
      λ u h.
          Label-cells s l (step p t d) (step q u e) (λ g i. beside t short u h g i) (f t (omega (arith, ints), omega (arith, ints))),
    )
  where
    beside : (t : Ratio) → IsShort (short_enough s p d) t → (u : Ratio) → IsShort (short_enough s q e) u → (g : Form) → Lies (carriers s) g → sign_at g (step p t d) ≡ sign_at g (step q u e)
    beside t short u h g i = ⊎_elim
        (λ o. sign-along g p t d o short.0 ∙ slopes g i o ∙ sym (sign-along g q u e (sym (same g i) ∙ o) h.0))
        (λ n. keeps-all (carriers s) p (step p t d) (step-within (reach_all (carriers s) p) p d t short) g i n ∙ same g i
        ∙ sym (keeps-all (carriers s) q (step q u e) (step-within (reach_all (carriers s) q) q e u h) g i (λ o. n (same g i ∙ o))))
        (is_nought (sign_at g p))

-- ---- equal directions
pub slope-same : (h : Form) (d e : Vector) → SameDirection d e → sign (slope h d) ≡ sign (slope h e)
slope-same h d e s =
    ap sign (sym (form-direction (normal_of h) (of_direction d))) ∙ sign-up_to_factor (direction_form (normal_of h)) (of_direction d) (of_direction e) (same-factor d e s)
    ∙ ap sign (form-direction (normal_of h) (of_direction e))

-- ---- equal points and equal directions
pub signs-same : (hs : List Form) (p q : SpacePoint) → SamePoint p q → SameSigns hs p q
signs-same hs p q s h l = sign-same h p q s

pub Holds-same : (s : Set) (p q : SpacePoint) → SameSigns (carriers s) p q → Holds s p → Holds s q
Holds-same s = Holds-cells (carriers s) (λ h l. lies-left frame (halves s) h l) s (λ h l. lies-right frame (halves s) h l)

pub Germ-same : (s : Set) (p q : SpacePoint) (d e : Vector) (l : Label) → SamePoint p q → SameDirection d e → Germ s p d l → Germ s q e l
Germ-same s p q d e l same way = Germ-cells s p q d e l (signs-same (carriers s) p q same) (λ h i o. slope-same h d e way)
