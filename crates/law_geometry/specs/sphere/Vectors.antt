-- Combinations of vectors, vectors in lowest terms, and the order of vectors.
use Rattle.std.specs.Prelude.{◌≡◌, ℤ, pos, ◌<ℤ◌, ◌⊎◌}
use Rattle.nef_space.specs.Vectors.{Vector, dot}

-- d is in lowest terms: some whole multiples of its three numbers add up to 1
pub record IsPrimitive (d : Vector) : Type 0 where
  pub by : Vector
  pub one : dot by d ≡ pos 1

-- u comes before v in the order of triples of numbers
abbrev pub VectorBelow : Vector → Vector → Type 0
VectorBelow u v = (u.x <ℤ v.x) ⊎ ((u.x ≡ v.x) × (u.y <ℤ v.y)) ⊎ ((u.x ≡ v.x) × (u.y ≡ v.y) × (u.z <ℤ v.z))
