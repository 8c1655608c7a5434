-- Whole numbers as words.
use Rattle.std.specs.Prelude.{◌+◌, ◌-◌, ◌*◌, ◌^◌, ◌==◌, ◌<◌, ◌&&◌, ◌∷◌, if◌then◌else◌, ℕ, ℤ, pos, neg_ℤ, nat_abs, Bool, false, cond, List, [], length, Option, Some, None, option_map}
use Rattle.nef_space.specs.Prelude.{list_all, is_ascii_digit, number_limit}
use Rattle.nef_lex.specs.Words.{is_filled}

abbrev pub minus_sign : ℕ
minus_sign = 45

abbrev pub zero_digit : ℕ
zero_digit = 48

-- the number that decimal digits spell: each digit counts for the power of ten of its place
abbrev pub decimal_value : List ℕ → ℕ
decimal_value [] = 0
decimal_value (b ∷ bs) = (b - zero_digit) * 10 ^ length bs + decimal_value bs

-- the word is one or more digits; the number that it then spells
abbrev pub is_digits : List ℕ → Bool
is_digits word = is_filled word && list_all is_ascii_digit word

abbrev pub natural_of : List ℕ → Option ℕ
natural_of word = if is_digits word then Some (decimal_value word) else None

-- the whole number that a word spells by an optional minus sign and one or more digits
abbrev pub number_of : List ℕ → Option ℤ
number_of [] = None
number_of (b ∷ bs) = if b == minus_sign then option_map (λ n. neg_ℤ (pos n)) (natural_of bs) else option_map (λ n. pos n) (natural_of (b ∷ bs))

-- the number is past the limit in size
abbrev pub IsPastLimit : ℤ → Type 0
IsPastLimit z = number_limit < nat_abs z

-- whether a word begins with a minus sign; what stands after the sign
abbrev pub has_minus : List ℕ → Bool
has_minus [] = false
has_minus (b ∷ bs) = b == minus_sign

abbrev pub without_minus : List ℕ → List ℕ
without_minus [] = []
without_minus (b ∷ bs) = cond (b == minus_sign) bs (b ∷ bs)
