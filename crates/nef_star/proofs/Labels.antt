-- The label of a combination, from its number.
use Rattle.nef_star.proofs.Prelude.{◌≡◌, ◌<◌, ◌^◌, ℤ, w8, to_z, of_z, refl, ap, ◌∙◌, to_z-of_z, Label, Out, Not, In, diff_label, xor_label, Diff, Xor, op_label}
use lib.Signed.{mag}
use Rattle.nef_space.specs.Labels.{label_number}

pub less_numbers : (a b : Label) → (diff_label (label_number a) (label_number b) ≡ label_number (op_label Diff a b)) × (xor_label (label_number a) (label_number b) ≡ label_number (op_label Xor a b))
less_numbers Out Out = (refl, refl)
less_numbers Out Not = (refl, refl)
less_numbers Out In = (refl, refl)
less_numbers Not Out = (refl, refl)
less_numbers Not Not = (refl, refl)
less_numbers Not In = (refl, refl)
less_numbers In Out = (refl, refl)
less_numbers In Not = (refl, refl)
less_numbers In In = (refl, refl)

-- a table's answer on the numbers of two labels, as the machine passes them on
pub label_of_two : (table : ℤ → ℤ → ℤ) (r p q : ℤ) (a b : Label) → mag r < 2 ^ 7 → mag p < 2 ^ 7 → mag q < 2 ^ 7 → p ≡ label_number a → q ≡ label_number b
    → r ≡ table (to_z w8 (of_z w8 p)) (to_z w8 (of_z w8 q)) → to_z w8 (of_z w8 r) ≡ table (label_number a) (label_number b)
label_of_two table r p q a b h i j e f g = kept r h ∙ g ∙ ap (λ (z : ℤ). table z (to_z w8 (of_z w8 q))) (kept p i ∙ e) ∙ ap (table (label_number a)) (kept q j ∙ f)
  where
    kept : (z : ℤ) → mag z < 2 ^ 7 → to_z w8 (of_z w8 z) ≡ z
    kept z h = to_z-of_z w8 z (record { sfits = h })
