-- Turned vectors and forms are as large as before, in lowest terms where they were, and have one normal form.
use Rattle.law_geometry.proofs.turns.Prelude.{◌≡◌, ℕ, ◌≤◌, ℤ, nat_abs, Bool, true, false, refl, ap, sym, ◌∙◌, subst, arith, ⊎_elim, ints, IsLowest, SpacePoint, Form, form_numbers, Vector, dot, IsAtMost, IsDirection, IsNormal, Triple, negated_if, turned, IsPrimitive, triple_of, turned_vector, turned_plane, turned_point, point_numbers, signed, signed_form}
use Rattle.std.specs.Int.{◌∣◌}
use Rattle.nef_space.specs.Vectors.{direction_numbers as vector_numbers}
use Rattle.law_geometry.proofs.sphere.Kind.{away}
use Rattle.law_geometry.proofs.sphere.Builder.{normal-or}
use Rattle.law_geometry.proofs.turns.Coordinates.{SignBlind, each-turned, each-back, sign-twice}
use Rattle.law_geometry.proofs.turns.Turning.{signed-dot, dot-signed}
use Rattle.law_geometry.proofs.turns.Vectors.{dot-turned}
use Rattle.nef_space.proofs.Vectors.{same-vector}
use Rattle.nef_space.proofs.Elementary.{once-opposite}

size-sign : (b : Bool) (x : ℤ) → nat_abs (negated_if b x) ≡ nat_abs x
size-sign true x = omega (arith, ints)
size-sign false x = refl

-- ---- sizes
abbrev IsSmallNumber : ℕ → ℤ → ℤ → Type 0
IsSmallNumber n x y = nat_abs x ≤ n

small-blind : (n : ℕ) → SignBlind (IsSmallNumber n)
small-blind n x y h = subst (λ (i : ℕ). i ≤ n) (sym (size-sign true x)) h

pub at_most-turned : (k : ℕ) (b : Bool) (n : ℕ) (d : Vector) → IsAtMost n d → IsAtMost n (signed b (turned_vector k d))
at_most-turned k b n d h =
    let e = each-turned (IsSmallNumber n) (small-blind n) k (triple_of d) (triple_of d) (h.of_x, h.of_y, h.of_z) in
    record { of_x = by _ e.0; of_y = by _ e.1; of_z = by _ e.2 }
  where
    by : (x : ℤ) → nat_abs x ≤ n → nat_abs (negated_if b x) ≤ n
    by x i = subst (λ (i : ℕ). i ≤ n) (sym (size-sign b x)) i

-- ---- lowest terms
pub primitive-turned : (k : ℕ) (b : Bool) (d : Vector) → IsPrimitive d → IsPrimitive (signed b (turned_vector k d))
primitive-turned k b d h = record {
  by = signed b (turned_vector k h.by);
  one = signed-dot b (turned_vector k h.by) (signed b (turned_vector k d)) ∙ ap (negated_if b) (dot-signed b (turned_vector k h.by) (turned_vector k d)) ∙ sign-twice b (dot (turned_vector k h.by) (turned_vector k d)) ∙ dot-turned k h.by d ∙ h.one;
}

abbrev Divides : ℕ → ℤ → ℤ → Type 0
Divides n x y = n ∣ nat_abs x

divides-blind : (n : ℕ) → SignBlind (Divides n)
divides-blind n x y h = subst (λ (i : ℕ). n ∣ i) (sym (size-sign true x)) h

-- what divides all turned numbers divides all numbers
divides-back : (k n : ℕ) (b : Bool) (t : Triple) → (n ∣ nat_abs (negated_if b (turned k t).0)) → (n ∣ nat_abs (negated_if b (turned k t).1)) → (n ∣ nat_abs (negated_if b (turned k t).2))
    → (n ∣ nat_abs t.0) × (n ∣ nat_abs t.1) × (n ∣ nat_abs t.2)
divides-back k n b t p q r = each-back (Divides n) (divides-blind n) k t t (by _ p, by _ q, by _ r)
  where
    by : (x : ℤ) → n ∣ nat_abs (negated_if b x) → n ∣ nat_abs x
    by x h = subst (λ (i : ℕ). n ∣ i) (size-sign b x) h

pub lowest_vector-turned : (k : ℕ) (b : Bool) (d : Vector) → IsLowest (vector_numbers d) → IsLowest (vector_numbers (signed b (turned_vector k d)))
lowest_vector-turned k b d h n (p, (q, (r, z))) = let e = divides-back k n b (triple_of d) p q r in h n (e.0, (e.1, (e.2, z)))

pub lowest_form-turned : (k : ℕ) (b : Bool) (g : Form) → IsLowest (form_numbers g) → IsLowest (form_numbers (signed_form b (turned_plane k g)))
lowest_form-turned k b g h n (p, (q, (r, (s, z)))) = let e = divides-back k n b (g.a, g.b, g.c) p q r in h n (e.0, (e.1, (e.2, (subst (λ (i : ℕ). n ∣ i) (size-sign b g.d) s, z))))

pub lowest_point-turned : (k : ℕ) (p : SpacePoint) → IsLowest (point_numbers p) → IsLowest (point_numbers (turned_point k p))
lowest_point-turned k p h n (x, (y, (z, (w, u)))) = let e = divides-back k n false (p.x, p.y, p.z) x y z in h n (e.0, (e.1, (e.2, (w, u))))

-- ---- one normal form
away-signed : (d : Vector) → away d ≡ signed true d
away-signed d = same-vector _ _ _ _ _ _ (once-opposite d.x) (once-opposite d.y) (once-opposite d.z)

pub normal-choice : (d : Vector) → IsDirection d → (b : Bool) × IsNormal (signed b d)
normal-choice d h = ⊎_elim (λ n. (false, n)) (λ n. (true, subst IsNormal (away-signed d) n)) (normal-or d h)
