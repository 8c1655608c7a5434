-- Rows of numbers within their limits, with 1 or -1 among the first three, are planes in lowest terms.
use Rattle.example_bracket.proofs.Prelude.{◌≡◌, ℕ, zero, suc, ◌+◌, ◌<◌, ◌≤◌, ℤ, nat_abs, Bool, true, ◌||◌, leb, List, [], ◌∷◌, ◌++◌, length, take, get_or, arith, refl, subst, ◌∙◌, inl, inr, ◌⊎◌, ap, ◌∣◌, take_all, IsLowest, form, form_numbers, Set, vector, IsDirection, IsInRange, same-form, word, FormNumbers, row_form, is_unit, has_unit, is_small, is_row, are_rows, cut_set, common_set}
use Rattle.std.proofs.Math.Nat.{eq-one_of_dvd-one}
use Rattle.std.proofs.lemmas.List.{take_more}
use Rattle.std.proofs.lemmas.Bool.{eqb-true, leb-true, and_parts, or_cases}
use Rattle.nef_geo.proofs.Products.{kept}

unit-one : (a : ℤ) → is_unit a ≡ true → nat_abs a ≡ 1
unit-one a h = eqb-true (nat_abs a) 1 h

module _ (r : FormNumbers) (h : is_row r ≡ true) where
  small : is_small r ≡ true
  small = let p = and_parts (has_unit r) (is_small r) h in p.1

  pub row-range : IsInRange (row_form r)
  row-range =
      let p = and_parts (leb (nat_abs r.0) 2048) _ small in
      let q = and_parts (leb (nat_abs r.1) 2048) _ p.1 in
      let t = and_parts (leb (nat_abs r.2) 2048) (leb (nat_abs r.3) 2048) q.1 in
      let x = leb-true (nat_abs r.0) 2048 p.0 in
      let y = leb-true (nat_abs r.1) 2048 q.0 in
      let z = leb-true (nat_abs r.2) 2048 t.0 in
      let w = leb-true (nat_abs r.3) 2048 t.1 in
      record { a_small = omega (arith, x); b_small = omega (arith, y); c_small = omega (arith, z); d_small = omega (arith, w) }

  -- the numbers as the machine has them
  pub row-words : form (word r.0) (word r.1) (word r.2) (word r.3) ≡ row_form r
  row-words =
      let s = row-range in
      let x = s.a_small in
      let y = s.b_small in
      let z = s.c_small in
      let w = s.d_small in
      same-form _ _ _ _ _ _ _ _ (kept r.0 (omega (arith, x))) (kept r.1 (omega (arith, y))) (kept r.2 (omega (arith, z))) (kept r.3 (omega (arith, w)))

  unit : (nat_abs r.0 ≡ 1) ⊎ (nat_abs r.1 ≡ 1) ⊎ (nat_abs r.2 ≡ 1)
  unit =
      let p = and_parts (has_unit r) (is_small r) h in
      elim (or_cases (is_unit r.0) (is_unit r.1 || is_unit r.2) p.0) [
        | inl x ↦ inl (unit-one r.0 x)
        | inr m ↦ elim (or_cases (is_unit r.1) (is_unit r.2) m) [ inl y ↦ inr (inl (unit-one r.1 y)) | inr z ↦ inr (inr (unit-one r.2 z)) ]
      ]

  pub row-direction : IsDirection (vector r.0 r.1 r.2)
  row-direction z = elim unit as (λ _. ⊥) [
    | inl x ↦ absurd (let e : nat_abs r.0 ≡ 0 = ap nat_abs z.0 in omega (arith, x, e))
    | inr (inl y) ↦ absurd (let e : nat_abs r.1 ≡ 0 = ap nat_abs z.1 in omega (arith, y, e))
    | inr (inr w) ↦ absurd (let e : nat_abs r.2 ≡ 0 = ap nat_abs z.2 in omega (arith, w, e))
  ]

  pub row-lowest : IsLowest (form_numbers (row_form r))
  row-lowest k (of_a, (of_b, (of_c, rest))) = elim unit as (λ _. k ≡ 1) [
    | inl x ↦ eq-one_of_dvd-one (subst (λ n. k ∣ n) x of_a)
    | inr (inl y) ↦ eq-one_of_dvd-one (subst (λ n. k ∣ n) y of_b)
    | inr (inr w) ↦ eq-one_of_dvd-one (subst (λ n. k ∣ n) w of_c)
  ]

-- ---- one row after the other
pub rows-at : (rs : List FormNumbers) (k : ℕ) (d : FormNumbers) → are_rows rs ≡ true → k < length rs → is_row (get_or rs k d) ≡ true
rows-at [] k d h l = absurd (omega (arith, l))
rows-at (r ∷ rs) zero d h l = let p = and_parts (is_row r) (are_rows rs) h in p.0
rows-at (r ∷ rs) (suc k) d h l = let p = and_parts (is_row r) (are_rows rs) h in rows-at rs k d p.1 (omega (arith, l))

common-append : (s : Set) (closed : Bool) (rs : List FormNumbers) (r : FormNumbers) → common_set s closed (rs ++ r ∷ []) ≡ cut_set (common_set s closed rs) closed r
common-append s closed [] r = refl
common-append s closed (q ∷ rs) r = common-append (cut_set s closed q) closed rs r

pub common-more : (s : Set) (closed : Bool) (rs : List FormNumbers) (k : ℕ) (d : FormNumbers) → k < length rs → common_set s closed (take (k + 1) rs) ≡ cut_set (common_set s closed (take k rs)) closed (get_or rs k d)
common-more s closed rs k d l = ap (common_set s closed) (take_more rs k d l) ∙ common-append s closed (take k rs) (get_or rs k d)

pub common-all : (s : Set) (closed : Bool) (rs : List FormNumbers) (k : ℕ) → length rs ≤ k → common_set s closed (take k rs) ≡ common_set s closed rs
common-all s closed rs k l = ap (common_set s closed) (take_all k rs l)
