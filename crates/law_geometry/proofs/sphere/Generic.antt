-- A vector with given signs that is nought on no form; and the signs of k d + e for large k. Both are those of the forms of the planes through the origin.
use Rattle.law_geometry.proofs.sphere.Prelude.{◌≡◌, ℕ, ◌<◌, ◌≤◌, ℤ, pos, nat_abs, arith, ap, sym, ◌∙◌, ⊎_elim, List, subst, sign, nought-or, Lies, Vector, IsDirection, dot, blend, each, lies-each, form_on, of_direction, direction_form, form_amount as amount-on, amount-above as above-on, far-keeps as keeps-on, far-level as level-on}
use Rattle.law_geometry.specs.near.Homogeneous.{mix}
use Rattle.law_geometry.proofs.near.Generic.{generic_direction, direction_bound, direction-near}
pub use Rattle.law_geometry.specs.sphere.Forms.{SameSigns, Keeps}
use Rattle.law_geometry.proofs.near.Sums.{form-direction}

-- from this k on, the signs of k d + e on the forms stay
abbrev pub amount : List Vector → Vector → ℕ
amount gs e = amount-on (each direction_form gs) (of_direction e)

pub amount-above : (gs : List Vector) (e g : Vector) → Lies gs g → nat_abs (dot g e) < amount gs e
amount-above gs e g l = subst (λ (z : ℤ). nat_abs z < amount gs e) (form-direction g (of_direction e)) (above-on (each direction_form gs) (of_direction e) (direction_form g) (lies-each direction_form gs g l))

module _ (gs : List Vector) (d e : Vector) (k : ℕ) (large : amount gs e ≤ k) where
  at_blend : (g : Vector) → form_on (direction_form g) (mix k (of_direction d) 1 (of_direction e)) ≡ dot g (blend k d 1 e)
  at_blend g = form-direction g (mix k (of_direction d) 1 (of_direction e))

  pub far-keeps : Keeps gs d (blend k d 1 e)
  far-keeps g l f =
      ap sign (sym (at_blend g)) ∙ keeps-on (each direction_form gs) (of_direction d) (of_direction e) k large (direction_form g) (lies-each direction_form gs g l) (λ z. f (sym (form-direction g (of_direction d)) ∙ z))
      ∙ ap sign (form-direction g (of_direction d))

  pub far-level : (g : Vector) → dot g d ≡ pos 0 → sign (dot g (blend k d 1 e)) ≡ sign (dot g e)
  far-level g z =
      ap sign (sym (at_blend g)) ∙ level-on (each direction_form gs) (of_direction d) (of_direction e) k large (direction_form g) (form-direction g (of_direction d) ∙ z)
      ∙ ap sign (form-direction g (of_direction e))

pub far-same : (gs : List Vector) (d e : Vector) (k l : ℕ) → amount gs e ≤ k → amount gs e ≤ l → SameSigns gs (blend k d 1 e) (blend l d 1 e)
far-same gs d e k l h i g m = ⊎_elim
    (λ z. far-level gs d e l i g z ∙ sym (far-level gs d e k h g z))
    (λ f. far-keeps gs d e l i g m f ∙ sym (far-keeps gs d e k h g m f)) (nought-or (dot g d))

pub record Generic (gs : List Vector) (v : Vector) : Type 0 where
  pub vector : Vector
  pub keeps : Keeps gs v vector
  pub off : (g : Vector) → Lies gs g → IsDirection g → dot g vector ≡ pos 0 → ⊥

-- v and a little of a vector that is nought on no form
pub generic : (gs : List Vector) (v : Vector) → Generic gs v
generic gs v =
    let k = direction_bound gs in record {
      vector = blend k v 1 (generic_direction gs);
      keeps = λ g l f. (direction-near gs v k (omega arith) g l).0 f;
      off = λ g l f. (direction-near gs v k (omega arith) g l).1 f;
    }
