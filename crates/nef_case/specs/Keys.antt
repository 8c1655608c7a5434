-- Keys of numbers from -1 to 1, and the row of a key.
use Rattle.std.specs.Prelude.{ℕ, ◌+◌, ◌*◌, ℤ, pos, negsuc, ◌≤ℤ◌, ◌+ℤ◌, List, fold, slice_index_or}
use Rattle.std.specs.Int.RustNames.{unsigned_abs}

-- z is -1, 0 or 1
pub record IsSign (z : ℤ) : Type 0 where
  pub low : negsuc 0 ≤ℤ z
  pub high : z ≤ℤ pos 1

-- a number from -1 to 1 as a digit
abbrev pub digit_of : ℤ → ℕ
digit_of z = unsigned_abs (z +ℤ pos 1)

-- a key as a number in base 3, with the first digit highest
abbrev pub row_of : List ℤ → ℕ
row_of = fold (λ row z. row * 3 + digit_of z) 0

-- number k of the key
abbrev pub key_number : List ℤ → ℕ → ℤ
key_number key k = slice_index_or key k (pos 0)
