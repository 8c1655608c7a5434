-- The step at which a linear form becomes zero.
use Rattle.std.specs.Prelude.{◌≡◌, ℤ, pos, ◌+ℤ◌, ◌*ℤ◌, ◌<ℤ◌, nat_abs, ◌⊎◌}

abbrev pub HasOppositeSigns : ℤ → ℤ → Type 0
HasOppositeSigns v g = ((v <ℤ pos 0) × (pos 0 <ℤ g)) ⊎ ((pos 0 <ℤ v) × (g <ℤ pos 0))

-- num/den is positive, v + (num/den) g is zero, and num and den have the sizes of v and g
pub record IsZeroStep (v g num den : ℤ) : Type 0 where
  pub num_positive : pos 0 <ℤ num
  pub den_positive : pos 0 <ℤ den
  pub num_size : nat_abs num ≡ nat_abs v
  pub den_size : nat_abs den ≡ nat_abs g
  pub balance : num *ℤ g +ℤ den *ℤ v ≡ pos 0
