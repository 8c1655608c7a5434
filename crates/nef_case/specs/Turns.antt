-- The 48 turns of space: each puts the three axes into one of their six orders, and then negates some coordinates.
use Rattle.std.specs.Prelude.{◌≡◌, ℕ, zero, suc, ◌/◌, ◌%◌, ◌<◌, ◌≤◌, ◌==◌, ℤ, pos, negsuc, neg_ℤ, unsigned_abs, List, Bool, if◌then◌else◌}
use Rattle.nef_case.specs.Keys.{key_number}

-- the coordinates x, y and z of a point or of a direction
abbrev pub Triple : Type 0
Triple = ℤ × ℤ × ℤ

-- the old coordinates that become the new x, y and z, by the number of the order, 0 to 5
abbrev pub ordered : ℕ → Triple → Triple
ordered zero (x, y, z) = (x, y, z)
ordered (suc zero) (x, y, z) = (x, z, y)
ordered (suc (suc zero)) (x, y, z) = (y, x, z)
ordered (suc (suc (suc zero))) (x, y, z) = (y, z, x)
ordered (suc (suc (suc (suc zero)))) (x, y, z) = (z, x, y)
ordered (suc (suc (suc (suc (suc n))))) (x, y, z) = (z, y, x)

-- the number s has the bit, which is 1, 2 or 4
abbrev pub has_bit : ℕ → ℕ → Bool
has_bit bit s = s / bit % 2 == 1

abbrev pub negated_if : Bool → ℤ → ℤ
negated_if b a = if b then neg_ℤ a else a

-- the triple with x, y and z negated where s has the bits 1, 2 and 4
abbrev pub negated : ℕ → Triple → Triple
negated s (x, y, z) = (negated_if (has_bit 1 s) x, negated_if (has_bit 2 s) y, negated_if (has_bit 4 s) z)

-- the triple after turn k, which is 8 times the number of an order, plus the bits of the negated coordinates
abbrev pub turned : ℕ → Triple → Triple
turned k v = negated (k % 8) (ordered (k / 8) v)

-- ---- rows: for each new coordinate 1, 2 or 3 for the old x, y or z, negative where the coordinate is negated
pub record IsEntry (e : ℤ) : Type 0 where
  pub low : 1 ≤ unsigned_abs e
  pub high : unsigned_abs e ≤ 3

-- the coordinate with the number 1, 2 or 3; zero for other numbers
abbrev pub coordinate : ℕ → Triple → ℤ
coordinate zero (x, y, z) = pos 0
coordinate (suc zero) (x, y, z) = x
coordinate (suc (suc zero)) (x, y, z) = y
coordinate (suc (suc (suc zero))) (x, y, z) = z
coordinate (suc (suc (suc (suc n)))) (x, y, z) = pos 0

-- the old coordinate that the entry names, with the entry's sign
abbrev pub named_by : ℤ → Triple → ℤ
named_by (pos n) v = coordinate n v
named_by (negsuc n) v = neg_ℤ (coordinate (suc n) v)

-- the triple after the turn with this row
abbrev pub made_by : List ℤ → Triple → Triple
made_by row v = (named_by (key_number row 0) v, named_by (key_number row 1) v, named_by (key_number row 2) v)

-- the entries are the row of turn k
abbrev pub IsRowOfTurn : ℕ → List ℤ → Type 0
IsRowOfTurn k row = (v : Triple) → made_by row v ≡ turned k v

-- ---- turning twice
-- turn k and then turn j give back every triple
abbrev pub Undoes : ℕ → ℕ → Type 0
Undoes j k = (v : Triple) → turned j (turned k v) ≡ v

-- turn i is turn k and then turn j
abbrev pub IsComposition : ℕ → ℕ → ℕ → Type 0
IsComposition i j k = (v : Triple) → turned i v ≡ turned j (turned k v)

-- ---- a row as a triple
abbrev pub row_triple : List ℤ → Triple
row_triple row = (key_number row 0, key_number row 1, key_number row 2)

-- the numbers of the coordinates as a triple, of which a turn makes the turn's row
abbrev pub numbered : Triple
numbered = (pos 1, pos 2, pos 3)

-- the triple is the row of some turn
abbrev pub IsTurnRow : Triple → Type 0
IsTurnRow w = (k : ℕ) × (k < 48) × (turned k numbered ≡ w)
