-- Worked uses of this crate's lemmas.
use Rattle.law_geometry.proofs.near.Prelude.{◌≡◌, pos, ◌<ℤ◌, arith, refl, sym, ◌∙◌, inl, inr, List, ◌∷◌, [], ints, nought-is, plus-is, sign-plus, Vector, vector, dot, blend, SpacePoint, Form, form_at, IsOnSegment, sign_at}
use Rattle.law_geometry.proofs.near.Near.{keeps, reach}
use Rattle.law_geometry.proofs.near.Points.{settled-segment_points}
use Rattle.law_geometry.specs.near.Examples.{x_axis}
use Rattle.law_geometry.specs.near.Examples.{y_axis}
use Rattle.law_geometry.proofs.near.Generic.{generic_direction, direction-avoids, direction_bound, direction-near}

-- ---- along a segment: a form that is nought at no point of it has one sign
module _ (h : Form) (p q : SpacePoint) (off : (r : SpacePoint) → IsOnSegment p r q → form_at h r ≡ pos 0 → ⊥) where
  -- the property that is carried along
  abbrev AsAtStart : SpacePoint → Type 0
  AsAtStart r = sign_at h r ≡ sign_at h p

  pub one_sign : sign_at h q ≡ sign_at h p
  one_sign = settled-segment_points (h ∷ []) AsAtStart p q
      -- points with the same signs on the list h agree on it
      (λ r s a b same f. sym (same h (inl refl)) ∙ f)
      -- and each r agrees with the points within 1 / reach h r
      (λ r a. (
        reach h r,
        omega arith,
        λ s b near.
            let e = keeps h r s near (λ z. off r a (nought-is (form_at h r) z)) in
            (λ f. e ∙ f, λ f. sym e ∙ f),
      )) refl

abbrev pub diagonal : Vector
diagonal = vector (pos 1) (pos 1) (pos 0)

abbrev pub planes : List Vector
planes = x_axis ∷ y_axis ∷ diagonal ∷ []

pub slanted_avoids : dot diagonal (generic_direction planes) ≡ pos 0 → ⊥
slanted_avoids = direction-avoids planes diagonal (inr (inr (inl refl))) (λ z. let x = z.0 in omega (arith, ints))

-- and one that lies in none of them on the side of x = 0 on which d lies: d, turned a little
pub beside : (d : Vector) → pos 0 <ℤ dot x_axis d → (e : Vector) × (pos 0 <ℤ dot x_axis e) × (dot y_axis e ≡ pos 0 → ⊥)
beside d h =
    let k = direction_bound planes in
    let e = blend k d 1 (generic_direction planes) in
    let x = direction-near planes d k (omega arith) x_axis (inl refl) in
    let y = direction-near planes d k (omega arith) y_axis (inr (inl refl)) in
    (e, plus-is (dot x_axis e) (x.0 (λ z. omega (arith, ints)) ∙ sign-plus (dot x_axis d) h), y.1 (λ z. let i = z.1 in omega (arith, ints)))
