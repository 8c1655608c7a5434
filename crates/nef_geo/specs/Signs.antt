-- The sign of a whole number.
use Rattle.std.specs.Prelude.{ℤ, zero, suc, pos, negsuc}
use Rattle.nef_geo.specs.declared.sign.Sign.{Sign}
use Rattle.nef_geo.specs.declared.sign.Sign.TheVariants.{Minus, Zero, Plus}

abbrev pub sign_of : ℤ → Sign
sign_of (pos zero) = Zero
sign_of (pos (suc n)) = Plus
sign_of (negsuc n) = Minus

abbrev pub sign_number : Sign → ℤ
sign_number Minus = negsuc 0
sign_number Zero = pos 0
sign_number Plus = pos 1
