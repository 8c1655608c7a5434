-- A form whose numbers are within the limits, and whose normal isn't zero, is that of a plane of the program.
use Rattle.nef_statement.proofs.text.existence.Prelude.{◌≡◌, ℕ, ◌<◌, ◌≤◌, ℤ, pos, neg_ℤ, ◌<ℤ◌, ◌*ℤ◌, nat_abs, arith, sym, ap, ◌∙◌, ◌⊎◌, inl, inr, ⊎_elim, ◌∷◌, Bool, true, false, [], ◌∣◌, ints, cases_order, ring, at, neg, ◌⊗◌, normal_limit, offset_limit, DividesAll, IsLowest, Form, form, form_numbers, normal_of, Vector, IsDirection, IsNormal, form_of, Plane, part_small, SamePlane, negated_if, signed, signed_form, normal-choice, lowest_form-turned, IsSmallForm}
use native.Mathlib.Nat.{pos_of_dvd_of_pos}
use Rattle.nef_statement.proofs.text.existence.Reduced.{Reduced, reduce-by}
use Rattle.nef_space.proofs.Elementary.{whole-nought}

module _ (f : Form) (S : IsSmallForm f) where
  positive : (h : ℕ) → DividesAll h (form_numbers f) → 0 < h
  positive h d = by (cases_order h 0)
    where
      zero-if : (x : ℤ) → h ≡ 0 → h ∣ nat_abs x → x ≡ pos 0
      zero-if x e k = ⊎_elim (λ g. omega (arith, ints, g)) (λ o. ⊎_elim (λ l. let p = pos_of_dvd_of_pos k l in absurd (omega (arith, p, e))) (λ l. absurd (omega (arith, l))) o) (cases_order 0 (nat_abs x))

      by : (h ≡ 0) ⊎ ((h < 0) ⊎ (0 < h)) → 0 < h
      by (inl e) = absurd (S.normal (zero-if f.a e d.0, zero-if f.b e d.1.0, zero-if f.c e d.1.1.0))
      by (inr (inl l)) = absurd (omega (arith, l))
      by (inr (inr l)) = l

  r : Reduced f.a f.b f.c f.d
  r = reduce-by f.a f.b f.c f.d positive

  abbrev low : Reduced f.a f.b f.c f.d → Form
  low r = form r.x' r.y' r.z' r.w'

  some : (r : Reduced f.a f.b f.c f.d) → IsDirection (normal_of (low r))
  some r z =
      let R = r.reduced in
      S.normal (whole-nought R.factor f.a r.x' R.x_is z.0, whole-nought R.factor f.b r.y' R.y_is z.1, whole-nought R.factor f.c r.z' R.z_is z.2)

  small : (n : ℕ) (k x y : ℤ) (b : Bool) → pos 0 <ℤ k → x ≡ k *ℤ y → nat_abs x ≤ n → nat_abs (negated_if b y) ≤ n
  small n k x y true p e l = let h = part_small n k x y p e l in omega (arith, ints, h)
  small n k x y false p e l = part_small n k x y p e l

  same : (b : Bool) (k x y z w : ℤ) → x ≡ k *ℤ y → z ≡ k *ℤ w → negated_if b y *ℤ z ≡ negated_if b w *ℤ x
  same true k x y z w e g = ap (λ n. neg_ℤ y *ℤ n) g ∙ ring (k ∷ y ∷ w ∷ []) (neg (at 1) ⊗ (at 0 ⊗ at 2)) (neg (at 2) ⊗ (at 0 ⊗ at 1)) tt ∙ ap (λ n. neg_ℤ w *ℤ n) (sym e)
  same false k x y z w e g = ap (λ n. y *ℤ n) g ∙ ring (k ∷ y ∷ w ∷ []) (at 1 ⊗ (at 0 ⊗ at 2)) (at 2 ⊗ (at 0 ⊗ at 1)) tt ∙ ap (λ n. w *ℤ n) (sym e)

  lowest-signed : (b : Bool) (g : Form) → IsLowest (form_numbers g) → IsLowest (form_numbers (signed_form b g))
  lowest-signed b g l = lowest_form-turned 0 b g l

  direction-signed : (b : Bool) (v : Vector) → IsDirection v → IsDirection (signed b v)
  direction-signed false v d z = d z
  direction-signed true v d z = d (let x = z.0 in omega (arith, ints, x), let y = z.1 in omega (arith, ints, y), let w = z.2 in omega (arith, ints, w))

  pub read : (h : Plane) × SamePlane (form_of h) f
  read = by r
    where
      by : Reduced f.a f.b f.c f.d → (h : Plane) × SamePlane (form_of h) f
      by r = then (normal-choice (normal_of (low r)) (some r))
        where
          then : ((b : Bool) × IsNormal (signed b (normal_of (low r)))) → (h : Plane) × SamePlane (form_of h) f
          then (b, n) =
              let R = r.reduced in
              let N = S.normal_small in (
                record {
                  a = negated_if b r.x';
                  b = negated_if b r.y';
                  c = negated_if b r.z';
                  d = negated_if b r.w';
                  a_small = small normal_limit R.factor f.a r.x' b R.positive R.x_is N.of_x;
                  b_small = small normal_limit R.factor f.b r.y' b R.positive R.y_is N.of_y;
                  c_small = small normal_limit R.factor f.c r.z' b R.positive R.z_is N.of_z;
                  d_small = small offset_limit R.factor f.d r.w' b R.positive R.w_is S.offset_small;
                  lowest = lowest-signed b (low r) R.lowest;
                  normal = n;
                },
                record {
                  is_plane = direction-signed b (normal_of (low r)) (some r);
                  is_other_plane = S.normal;
                  ab = same b R.factor f.a r.x' f.b r.y' R.x_is R.y_is;
                  ac = same b R.factor f.a r.x' f.c r.z' R.x_is R.z_is;
                  ad = same b R.factor f.a r.x' f.d r.w' R.x_is R.w_is;
                  bc = same b R.factor f.b r.y' f.c r.z' R.y_is R.z_is;
                  bd = same b R.factor f.b r.y' f.d r.w' R.y_is R.w_is;
                  cd = same b R.factor f.c r.z' f.d r.w' R.z_is R.w_is;
                },
              )
