-- The tables of turns, as lists that are computed from what the turns make of the numbers 1, 2 and 3.
use Rattle.nef_case.proofs.Prelude.{◌≡◌, ℕ, zero, suc, ◌+◌, ◌<◌, ℤ, pos, neg_ℤ, List, [], ◌∷◌, length, get_or, Bool, false, cond, sym, ◌∙◌, ap, subst, arith, unsigned_abs, ◌==◌, nat_lt, nat_le, is_negative, All, Triple, turned, IsEntry, IsRowOfTurn, Undoes, IsTurnRow, numbered}
use lib.Dec.{T, ltb→lt, leb→le}
use Rattle.nef_case.proofs.TurnLemmas.{triple_with, same_triple, word, word-is, made-turned, undoes-by_numbers, below-passes, number_by, numbers-differ, same_parts, parts-same, inverse-one}
use Rattle.nef_space.proofs.Machine.{both_left, both_right}

-- n values of a function, from i on
abbrev pub values_from : {A : Type 0} → (ℕ → A) → ℕ → ℕ → List A
values_from f i zero = []
values_from f i (suc n) = f i ∷ values_from f (suc i) n

value-at : {A : Type 0} (f : ℕ → A) (i n k : ℕ) (d : A) → k < n → get_or (values_from f i n) k d ≡ f (i + k)
value-at f i zero k d h = absurd (omega (arith, h))
value-at f i (suc n) zero d h = ap f (omega arith)
value-at f i (suc n) (suc k) d h = value-at f (suc i) n k d (omega (arith, h)) ∙ ap f (omega arith)

pub value-from_start : {A : Type 0} (f : ℕ → A) (n k : ℕ) (d : A) → k < n → get_or (values_from f 0 n) k d ≡ f k
value-from_start f n k d h = value-at f 0 n k d h ∙ ap f (omega arith)

-- ---- rows
abbrev list_of : Triple → List ℤ
list_of (a, b, c) = a ∷ b ∷ c ∷ []

abbrev pub row_of_turn : ℕ → List ℤ
row_of_turn k = list_of (turned k numbered)

-- the rows of the 48 turns
abbrev pub turn_rows : List (List ℤ)
turn_rows = values_from row_of_turn 0 48

abbrev is_entry : ℤ → Bool
is_entry e = cond (nat_le 1 (unsigned_abs e)) (nat_le (unsigned_abs e) 3) false

entry-is : (e : ℤ) → T (is_entry e) → IsEntry e
entry-is e t = record { low = leb→le _ _ (both_left _ _ t); high = leb→le _ _ (both_right (nat_le 1 (unsigned_abs e)) _ t) }

abbrev are_entries : Triple → Bool
are_entries (a, b, c) = cond (is_entry a) (cond (is_entry b) (is_entry c) false) false

entries-are : (w : Triple) → T (are_entries w) → All IsEntry (list_of w)
entries-are w t = at_place
  where
    rest : T (cond (is_entry w.1) (is_entry w.2) false)
    rest = both_right (is_entry w.0) _ t

    at_place : (k : ℕ) (d : ℤ) → k < length (list_of w) → IsEntry (get_or (list_of w) k d)
    at_place zero d h = entry-is w.0 (both_left _ _ t)
    at_place (suc zero) d h = entry-is w.1 (both_left _ _ rest)
    at_place (suc (suc zero)) d h = entry-is w.2 (both_right (is_entry w.1) _ rest)
    at_place (suc (suc (suc n))) d h = absurd (omega (arith, h))

pub row-entries : (k : ℕ) → k < 48 → All IsEntry (get_or turn_rows k [])
row-entries k h =
    subst (All IsEntry) (sym (value-from_start row_of_turn 48 k [] h))
    (entries-are (turned k numbered) (below-passes 48 (λ k. are_entries (turned k numbered)) tt k h))

pub row-is : (k : ℕ) → k < 48 → IsRowOfTurn k (get_or turn_rows k [])
row-is k h = subst (IsRowOfTurn k) (sym (value-from_start row_of_turn 48 k [] h)) (made-turned k numbered)

pub row-one : (k : ℕ) → k < 48 → (j : ℕ) → j < 48 → IsRowOfTurn j (get_or turn_rows k []) → j ≡ k
row-one k h j hj other = numbers-differ j k hj h (sym (other numbered) ∙ row-is k h numbered)

-- the entries of a turn's row
pub record HasEntries (w : Triple) : Type 0 where
  pub of_x : IsEntry w.0
  pub of_y : IsEntry w.1
  pub of_z : IsEntry w.2

pub turn-entries : (w : Triple) → IsTurnRow w → HasEntries w
turn-entries w (k, h, e) =
    let all = entries-are (turned k numbered) (below-passes 48 (λ k. are_entries (turned k numbered)) tt k h) in
    subst HasEntries e (record { of_x = all 0 (pos 0) (omega arith); of_y = all 1 (pos 0) (omega arith); of_z = all 2 (pos 0) (omega arith) })

pub words-are : (w : Triple) → HasEntries w → triple_with (word w.0) (word w.1) (word w.2) ≡ w
words-are (a, b, c) h = same_triple _ _ _ a b c (word-is a h.of_x) (word-is b h.of_y) (word-is c h.of_z)

-- ---- inverses
-- the place, with the sign of what stands there
abbrev signed_place : ℕ → ℤ → ℤ
signed_place n e = cond (is_negative e) (neg_ℤ (pos n)) (pos n)

-- the place of the entry that names the coordinate n
abbrev place_of : ℕ → Triple → ℤ
place_of n (a, b, c) = cond (unsigned_abs a == n) (signed_place 1 a) (cond (unsigned_abs b == n) (signed_place 2 b) (signed_place 3 c))

abbrev pub inverse_of_turn : ℕ → ℕ
inverse_of_turn k = let w = turned k numbered in number_by (place_of 1 w, place_of 2 w, place_of 3 w)

-- the inverses of the 48 turns
abbrev pub turn_inverses : List ℕ
turn_inverses = values_from inverse_of_turn 0 48

abbrev inverse_fits : ℕ → Bool
inverse_fits k =
    let j = inverse_of_turn k in
    cond (nat_lt j 48) (cond (same_parts (turned j (turned k numbered)) numbered) (same_parts (turned k (turned j numbered)) numbered) false) false

pub record IsInverse (k j : ℕ) : Type 0 where
  pub below : j < 48
  pub undoes : Undoes j k
  pub undone : Undoes k j

pub inverse-is : (k : ℕ) → k < 48 → IsInverse k (get_or turn_inverses k 0)
inverse-is k h =
    let t = below-passes 48 inverse_fits tt k h in
    let j = inverse_of_turn k in
    let rest = both_right (nat_lt j 48) _ t in
    let fits : IsInverse k j = record {
      below = ltb→lt j 48 (both_left _ _ t);
      undoes = undoes-by_numbers j k (parts-same _ _ (both_left _ _ rest));
      undone = undoes-by_numbers k j (parts-same _ _ (both_right (same_parts (turned j (turned k numbered)) numbered) _ rest));
    } in
    subst (IsInverse k) (sym (value-from_start inverse_of_turn 48 k 0 h)) fits

pub inverse-only : (k i : ℕ) → IsInverse k i → (j : ℕ) → j < 48 → Undoes j k → j ≡ i
inverse-only k i one j hj other = inverse-one i j k one.below hj one.undoes one.undone other
