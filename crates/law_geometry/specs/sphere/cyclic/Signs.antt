-- The sign of a whole number as one of the numbers -1, 0 and 1.
use Rattle.std.specs.Prelude.{ℤ, pos, negsuc}
use Rattle.nef_space.specs.Signs.{Sign, minus, nought, plus, sign}

abbrev pub number_of_sign : Sign → ℤ
number_of_sign minus = negsuc 0
number_of_sign nought = pos 0
number_of_sign plus = pos 1

abbrev pub sign_of_number : ℤ → ℤ
sign_of_number z = number_of_sign (sign z)
