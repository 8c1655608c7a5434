-- Limits on the sizes of products and differences.
use Rattle.std.specs.Prelude.{ℕ, ◌*◌, ◌^◌}

-- the limit on the numbers of w p x d, for a point p and a direction d
abbrev pub moment_limit : ℕ
moment_limit = 3 * 2 ^ 83
