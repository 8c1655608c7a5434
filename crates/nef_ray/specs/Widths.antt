-- Bounds on the sizes of numbers of rays.
use Rattle.std.specs.Prelude.{ℕ, ◌*◌, ◌^◌}

-- of a plane's form at the start, and of the product of its normal with the direction
abbrev pub start_form_limit : ℕ
start_form_limit = 2 ^ 34

abbrev pub asked_slope_limit : ℕ
asked_slope_limit = 3 * 2 ^ 21
