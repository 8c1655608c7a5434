-- The sign of a whole number, and the elements of a list.
use Rattle.std.specs.Prelude.{◌≡◌, zero, suc, ℤ, pos, negsuc, List, [], ◌∷◌, ◌⊎◌}

pub data Sign : Type 0 where
  minus nought plus : Sign

abbrev pub sign : ℤ → Sign
sign (pos zero) = nought
sign (pos (suc n)) = plus
sign (negsuc n) = minus

-- the sign of a product, from the signs of its factors
abbrev pub sign_times : Sign → Sign → Sign
sign_times minus minus = plus
sign_times minus nought = nought
sign_times minus plus = minus
sign_times nought t = nought
sign_times plus t = t

-- x is an element of the list
abbrev pub Lies : {A : Type 0} → List A → A → Type 0
Lies [] x = ⊥
Lies (y ∷ ys) x = (y ≡ x) ⊎ Lies ys x
