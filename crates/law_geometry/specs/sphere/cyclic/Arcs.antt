-- Directions on the great circle of a normal, and directions strictly on an arc.
use Rattle.std.specs.Prelude.{◌≡◌, pos, ◌<ℤ◌, ◌⊎◌}
use Rattle.nef_space.specs.Vectors.{Vector, dot, triple, IsDirection, SameDirection, IsOpposite}

-- d is a direction perpendicular to n
pub record IsOnCircle (n d : Vector) : Type 0 where
  pub direction : IsDirection d
  pub level : dot n d ≡ pos 0

-- d is strictly passed on the way counterclockwise about n from s to t; if s and t are the same, on the whole circle
pub record IsStrictlyOn (n s t d : Vector) : Type 0 where
  pub on_circle : IsOnCircle n d
  pub not_source : SameDirection s d → ⊥
  pub not_target : SameDirection t d → ⊥
  pub less_than_half : pos 0 <ℤ triple n s t → (pos 0 <ℤ triple n s d) × (pos 0 <ℤ triple n d t)
  pub more_than_half : triple n s t <ℤ pos 0 → (pos 0 <ℤ triple n s d) ⊎ (pos 0 <ℤ triple n d t)
  pub just_half : IsOpposite s t → pos 0 <ℤ triple n s d

-- b is strictly passed on the way counterclockwise about n from a to c
abbrev pub Passes : Vector → Vector → Vector → Vector → Type 0
Passes n a b c = IsStrictlyOn n a c b

-- directions on the circle about one axis
pub record AboutThree (n a b c : Vector) : Type 0 where
  pub axis : IsDirection n
  pub first : IsOnCircle n a
  pub second : IsOnCircle n b
  pub third : IsOnCircle n c

pub record AboutFour (n a b c d : Vector) : Type 0 where
  pub axis : IsDirection n
  pub first : IsOnCircle n a
  pub second : IsOnCircle n b
  pub third : IsOnCircle n c
  pub fourth : IsOnCircle n d
