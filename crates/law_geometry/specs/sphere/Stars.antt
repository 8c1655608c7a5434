-- Stars: the label of each direction about the axis, the star of a map at a direction, plain and straight stars.
use Rattle.std.specs.Prelude.{◌≡◌, ℕ, zero, suc, pos, List, [], ◌∷◌, length, Bool, true, false, cond, ◌⊎◌}
use Rattle.nef_space.specs.Vectors.{Vector, IsDirection, cross, dot, SameDirection, IsNormal}
use Rattle.nef_space.specs.declared.label.Label.{Label}
use Rattle.nef_space.specs.Lists.{IsAt}
use Rattle.law_geometry.specs.sphere.Maps.{Map, MapLabel, NearLabel}
use Rattle.law_geometry.specs.sphere.cyclic.Arcs.{IsStrictlyOn}

pub record Ray : Type 0 where
  pub normal : Vector
  pub ahead : Bool
  pub mark : Label

pub record Star : Type 0 where
  pub axis : Vector
  pub rays : List Ray
  pub sectors : List Label
  pub mark : Label

-- the direction in which a ray leaves the axis of its star
abbrev pub ray_dir : Star → Ray → Vector
ray_dir t r = cond r.ahead (cross r.normal t.axis) (cross t.axis r.normal)

-- the part of e at right angles to d, up to its length
abbrev pub across : Vector → Vector → Vector
across d e = cross (cross d e) d

abbrev pub OnRay : Star → Ray → Vector → Type 0
OnRay t r e = SameDirection (ray_dir t r) (across t.axis e)

-- e lies strictly in the sector from the ray q to the ray r, counterclockwise; if q is r, anywhere off q
abbrev pub PastRay : Star → Ray → Ray → Vector → Type 0
PastRay t q r e = IsStrictlyOn t.axis (ray_dir t q) (ray_dir t r) (across t.axis e)

-- r is the ray after the ray with number k, where the first ray follows the last one
abbrev pub NextRay : List Ray → ℕ → Ray → Type 0
NextRay rs k r = IsAt rs (suc k) r ⊎ ((suc k ≡ length rs) × IsAt rs zero r)

-- the star's label toward e, for e that isn't parallel to the axis
pub data StarLabel (t : Star) (e : Vector) (l : Label) : Type 0 where
  on_ray : (k : ℕ) (r : Ray) → IsAt t.rays k r → OnRay t r e → r.mark ≡ l → StarLabel t e l
  in_sector : (k : ℕ) (q r : Ray) → IsAt t.rays k q → NextRay t.rays k r → PastRay t q r e → IsAt t.sectors k l → StarLabel t e l
  in_only_sector : t.rays ≡ [] → IsAt t.sectors zero l → StarLabel t e l

-- the ray leaves the axis: its normal is perpendicular to the axis
pub record LeavesAxis (t : Star) (r : Ray) : Type 0 where
  pub level : dot r.normal t.axis ≡ pos 0
  pub normal : IsNormal r.normal

-- the star t has the axis d, and the labels of M on d and close to d
pub record StarOf (t : Star) (M : Map) (d : Vector) : Type 0 where
  pub rays : (k : ℕ) (r : Ray) → IsAt t.rays k r → LeavesAxis t r
  pub axis : t.axis ≡ d
  pub mark : MapLabel M d t.mark
  pub labels : (e : Vector) → IsDirection (cross d e) → (l : Label) × StarLabel t e l × NearLabel M d e l

-- the star has no ray, and its one sector has the label of its mark
pub record IsPlain (t : Star) : Type 0 where
  pub no_ray : t.rays ≡ []
  pub one_sector : t.sectors ≡ t.mark ∷ []

-- the star has exactly two rays, which have its mark and leave in opposite directions
pub record IsStraight (t : Star) : Type 0 where
  pub first : Ray
  pub second : Ray
  pub two_rays : t.rays ≡ first ∷ second ∷ []
  pub pos : Label
  pub neg : Label
  pub two_sectors : t.sectors ≡ pos ∷ neg ∷ []
  pub one_normal : first.normal ≡ second.normal
  pub first_ahead : first.ahead ≡ true
  pub second_behind : second.ahead ≡ false
  pub first_mark : first.mark ≡ t.mark
  pub second_mark : second.mark ≡ t.mark

-- each label of the star is a label of M, on the star's axis or close to it
pub record StarShows (t : Star) (M : Map) : Type 0 where
  pub axis : IsDirection t.axis
  pub rays : (k : ℕ) (r : Ray) → IsAt t.rays k r → LeavesAxis t r
  pub sectors : (k : ℕ) (r : Ray) → IsAt t.rays k r → (l : Label) × IsAt t.sectors k l
  pub mark : MapLabel M t.axis t.mark
  pub labels : (e : Vector) (l : Label) → IsDirection (cross t.axis e) → StarLabel t e l → NearLabel M t.axis e l

-- ray k comes next after ray j, where the first ray follows the last one
abbrev pub Follows : List Ray → ℕ → ℕ → Type 0
Follows rs j k = (suc j ≡ k) ⊎ ((suc j ≡ length rs) × (k ≡ zero))

-- no ray has the mark of both neighbouring sectors
abbrev pub IsSimplified : Star → Type 0
IsSimplified t = (j k : ℕ) (q r : Ray) (l m : Label) → IsAt t.rays j q → IsAt t.rays k r → Follows t.rays j k → IsAt t.sectors j l → IsAt t.sectors k m → r.mark ≡ l → r.mark ≡ m → ⊥
