-- The germ at a point of a ray is the germ near the ray's direction.
use Rattle.law_geometry.proofs.near.Prelude.{◌≡◌, ℕ, ◌+◌, ◌<◌, ◌≤◌, ℤ, pos, ◌+ℤ◌, ◌*ℤ◌, nat_abs, arith, ap, sym, ◌∙◌, ⊎_elim, List, ◌∷◌, subst, [], ints, ring, at, num, ◌⊕◌, ◌⊗◌, nought, sign, nought-is, Lies, form_on, of_direction, form_amount, NearGerm, sign_at, carriers, SameSigns, SpacePoint, Form, slope, Ratio, step, Within, Vector, blend, Set, IsShort, Germ, Label}
use Rattle.law_geometry.proofs.near.Far.{amount-above, sign-large as sign-far}
use Rattle.law_geometry.proofs.near.Near.{step-within, reach_all}
use Rattle.law_geometry.proofs.near.Cells.{same-sym, keeps-all, is_nought}
use Rattle.law_geometry.proofs.near.Germs.{Label-cells, sign-along, short_enough}
use Rattle.law_geometry.proofs.near.Flats.{slope-slide}

slope-on : (h : Form) (e : Vector) → form_on h (of_direction e) ≡ slope h e
slope-on h e = ring (h.a ∷ h.b ∷ h.c ∷ h.d ∷ e.x ∷ e.y ∷ e.z ∷ []) (at 0 ⊗ at 4 ⊕ at 1 ⊗ at 5 ⊕ at 2 ⊗ at 6 ⊕ at 3 ⊗ num (pos 0)) (at 0 ⊗ at 4 ⊕ at 1 ⊗ at 5 ⊕ at 2 ⊗ at 6) tt

-- all slopes along e are smaller than this
abbrev pub steep : List Form → Vector → ℕ
steep hs e = form_amount hs (of_direction e)

pub steep-one : (hs : List Form) (h : Form) (e : Vector) → Lies hs h → nat_abs (slope h e) < steep hs e
steep-one hs h e l = subst (λ (z : ℤ). nat_abs z < steep hs e) (slope-on h e) (amount-above hs (of_direction e) h l)

-- a large multiple decides
pub sign-large : (x y : ℤ) (k : ℕ) → nat_abs y < k → (sign x ≡ nought → ⊥) → sign (pos k *ℤ x +ℤ pos 1 *ℤ y) ≡ sign x
sign-large x y k h n = sign-far k x y h (λ z. n (ap sign z))

module _ (s : Set) (p : SpacePoint) (d e : Vector) (t : Ratio) (short : IsShort (short_enough s p d) t) where
  abbrev there : SpacePoint
  there = step p t d

  abbrev forms : List Form
  forms = carriers s

  there-close : Within (reach_all forms p) p there
  there-close = step-within (reach_all forms p) p d t short

  -- a short step from there along e, and a short step from p along k d + e
  same-there : (u v : Ratio) (k : ℕ) → steep forms e ≤ k → IsShort (short_enough s there e) u → IsShort (short_enough s p (blend k d 1 e)) v
      → SameSigns forms (step there u e) (step p v (blend k d 1 e))
  same-there u v k big su sv h l = ⊎_elim through (λ n. off n) (is_nought (sign_at h p))
    where
      close-r : Within (reach_all forms there) there (step there u e)
      close-r = step-within (reach_all forms there) there e u su

      close-y : Within (reach_all forms p) p (step p v (blend k d 1 e))
      close-y = step-within (reach_all forms p) p (blend k d 1 e) v sv

      off : (sign_at h p ≡ nought → ⊥) → sign_at h (step there u e) ≡ sign_at h (step p v (blend k d 1 e))
      off n =
          let a = keeps-all forms p there there-close h l n in
          let b = keeps-all forms there (step there u e) close-r h l (λ z. n (sym a ∙ z)) in
          b ∙ a ∙ sym (keeps-all forms p (step p v (blend k d 1 e)) close-y h l n)

      through : sign_at h p ≡ nought → sign_at h (step there u e) ≡ sign_at h (step p v (blend k d 1 e))
      through o =
          let a = sign-along h p t d o short.0 in
          let y = sign-along h p v (blend k d 1 e) o sv.0 ∙ ap sign (slope-slide h k d (pos 1) e) in
          ⊎_elim
          (λ z. sign-along h there u e (a ∙ z) su.0 ∙ ap sign (flat z) ∙ sym y)
          (λ n. keeps-all forms there (step there u e) close-r h l (λ z. n (sym a ∙ z)) ∙ a
          ∙ sym (y ∙ sign-large (slope h d) (slope h e) k (let q = steep-one forms h e l in omega arith) n))
          (is_nought (sign (slope h d)))
        where
          flat : sign (slope h d) ≡ nought → slope h e ≡ pos k *ℤ slope h d +ℤ pos 1 *ℤ slope h e
          flat z = ring (slope h e ∷ pos k ∷ []) (at 0) (at 1 ⊗ num (pos 0) ⊕ num (pos 1) ⊗ at 0) tt ∙ ap (λ r. pos k *ℤ r +ℤ pos 1 *ℤ slope h e) (sym (nought-is (slope h d) z))

  pub near-from_there : (m : Label) → Germ s there e m → NearGerm s p d e m
  near-from_there m (n, some, f) = (
    steep forms e,
    λ k big. (
      short_enough s p (blend k d 1 e),
      omega arith,
      λ v sv.
          let j = short_enough s there e in
          let u : Ratio = record { a = pos 1; b = n + j + 1; proper = omega arith } in
          let su : IsShort j u = (omega (arith, ints), omega (arith, ints)) in
          Label-cells s m (step there u e) (step p v (blend k d 1 e)) (same-there u v k big su sv) (f u (omega (arith, ints), omega (arith, ints))),
    ),
  )

  pub there-from_near : (m : Label) → NearGerm s p d e m → Germ s there e m
  there-from_near m (n, g) =
      let k = n + steep forms e in
      let w = blend k d 1 e in
      let y = g k (omega arith) in (
        short_enough s there e,
        omega arith,
        λ u su.
            let j = short_enough s p w in
            let v : Ratio = record { a = pos 1; b = y.0 + j + 1; proper = omega arith } in
            let sv : IsShort j v = (omega (arith, ints), omega (arith, ints)) in
            Label-cells s m (step p v w) (step there u e) (same-sym forms (step there u e) (step p v w) (same-there u v k (omega arith) su sv)) (y.2 v (omega (arith, ints), omega (arith, ints))),
      )
