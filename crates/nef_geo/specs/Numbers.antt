-- Four numbers, their greatest common divisor, and the four numbers divided by this divisor.
use Rattle.std.specs.Prelude.{◌≡◌, ℕ, ◌≤◌, ℤ, pos, ◌*ℤ◌, ◌<ℤ◌, nat_abs, [], ◌∷◌}
use Rattle.std.specs.Int.{◌∣◌}
use Rattle.nef_space.specs.Numbers.{DividesAll, IsLowest}

-- each of the four numbers is at most n in size
pub record IsAtMostFour (n : ℕ) (x y z w : ℤ) : Type 0 where
  pub x_small : nat_abs x ≤ n
  pub y_small : nat_abs y ≤ n
  pub z_small : nat_abs z ≤ n
  pub w_small : nat_abs w ≤ n

-- not all four numbers are zero
abbrev pub IsSomeOfFour : ℤ → ℤ → ℤ → ℤ → Type 0
IsSomeOfFour x y z w = ¬ ((x ≡ pos 0) × (y ≡ pos 0) × (z ≡ pos 0) × (w ≡ pos 0))

-- g is the greatest common divisor of the four numbers
pub record IsGcdOfFour (x y z w g : ℤ) : Type 0 where
  pub positive : pos 0 <ℤ g
  pub divides : DividesAll (nat_abs g) (x ∷ y ∷ z ∷ w ∷ [])
  pub greatest : (k : ℕ) → DividesAll k (x ∷ y ∷ z ∷ w ∷ []) → k ∣ nat_abs g

-- the first four numbers are a positive multiple of the last four, which are in lowest terms
pub record IsReduced (x y z w x' y' z' w' : ℤ) : Type 0 where
  pub factor : ℤ
  pub positive : pos 0 <ℤ factor
  pub x_is : x ≡ factor *ℤ x'
  pub y_is : y ≡ factor *ℤ y'
  pub z_is : z ≡ factor *ℤ z'
  pub w_is : w ≡ factor *ℤ w'
  pub lowest : IsLowest (x' ∷ y' ∷ z' ∷ w' ∷ [])

-- x/w is x'/w', y/w is y'/w', and z/w is z'/w'
pub record IsSameRatios (x y z w x' y' z' w' : ℤ) : Type 0 where
  pub along_x : x *ℤ w' ≡ x' *ℤ w
  pub along_y : y *ℤ w' ≡ y' *ℤ w
  pub along_z : z *ℤ w' ≡ z' *ℤ w
