-- How large the numbers of blocks get.
use Rattle.std.specs.Prelude.{ℕ}

-- a coordinate along an axis, as its type has it
abbrev pub axis_limit : ℕ
axis_limit = 32768

-- a coefficient's product with it
abbrev pub term_limit : ℕ
term_limit = 67108864
