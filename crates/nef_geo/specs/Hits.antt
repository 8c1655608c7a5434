-- Where rays cross planes, and at which step.
use Rattle.std.specs.Prelude.{◌≡◌, ◌+◌, ◌*◌, ◌≤◌, ◌+ℤ◌, ◌*ℤ◌, ◌<ℤ◌, ◌⊎◌}
use Rattle.nef_space.specs.Prelude.{ℕ, ℤ, pos, nat_abs, Vector, vector, opposite, up, IsAtMost, SpacePoint, Form, form_at, slope, Ratio, step, SamePoint, IsAhead}
use Rattle.std.proofs.Math.Nat.{mul-pos}
use Rattle.nef_geo.specs.Shapes.{positive_size}
use Rattle.nef_geo.specs.Widths.{plane_dir_limit, plane_dir_sum_limit}

-- the ray from p along d crosses h at q: q lies on h, strictly ahead of p, and the ray isn't along h
pub record IsCrossing (p : SpacePoint) (d : Vector) (h : Form) (q : SpacePoint) : Type 0 where
  pub on : form_at h q ≡ pos 0
  pub ahead : IsAhead p d q
  pub passes : ¬ (slope h d ≡ pos 0)

-- the step num/den over the w of the start p
abbrev pub step_ratio : (num den : ℤ) → pos 0 <ℤ den → SpacePoint → Ratio
step_ratio num den positive p = record { a = num; b = nat_abs den * p.w; proper = mul-pos (positive_size den positive) p.proper }

-- q is the point at the step num/den from p along d: p's first three numbers plus the step times d, over p's w
abbrev pub IsReached : SpacePoint → Vector → (num den : ℤ) → pos 0 <ℤ den → SpacePoint → Type 0
IsReached p d num den positive q = SamePoint q (step p (step_ratio num den positive p) d)

-- x, y, z and w are the numbers of the point at the step n/m from s along d
pub record IsReachedBy (s : SpacePoint) (d : Vector) (n m x y z w : ℤ) : Type 0 where
  pub x_is : x ≡ s.x *ℤ m +ℤ n *ℤ d.x
  pub y_is : y ≡ s.y *ℤ m +ℤ n *ℤ d.y
  pub z_is : z ≡ s.z *ℤ m +ℤ n *ℤ d.z
  pub w_is : w ≡ pos s.w *ℤ m

-- d is the upward direction or the downward one
abbrev pub IsVertical : Vector → Type 0
IsVertical d = (d ≡ up) ⊎ (d ≡ opposite up)

-- the numbers of d are within the limits of a plane's second direction
pub record IsPlaneDirSized (d : Vector) : Type 0 where
  pub each : IsAtMost plane_dir_limit d
  pub sum : nat_abs d.x + nat_abs d.y + nat_abs d.z ≤ plane_dir_sum_limit

-- the first three numbers of q are at most m in size, and its w is at most n
pub record IsPointAtMost (m n : ℕ) (q : SpacePoint) : Type 0 where
  pub numbers : IsAtMost m (vector q.x q.y q.z)
  pub weight : q.w ≤ n
