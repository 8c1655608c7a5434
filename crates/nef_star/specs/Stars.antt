-- The program's stars as stars of any size, and what holds of each.
use Rattle.std.specs.Prelude.{◌≡◌, ◌+◌, ◌-◌, ◌<◌, ◌∷◌, ◌++◌, ◌⊎◌, ℕ, pos, List, [], length, map, take, drop, slice_index_or, true, false, cond}
use Rattle.nef_geo.specs.Prelude.{All, normal_limit, svertex_limit, IsBelow, Label, vector_of}
use Rattle.nef_space.specs.Vectors.{Vector, zero_vector, opposite, dot, cross, direction_numbers, IsDirection, IsAtMost, IsNormal}
use Rattle.nef_space.specs.declared.label.Label.TheVariants.{Out}
use Rattle.law_geometry.specs.sphere.cyclic.Arcs.{IsOnCircle}
use Rattle.law_geometry.specs.sphere.Stars.{Ray as PlainRay, Star as PlainStar, StarLabel}
use Rattle.nef_star.specs.declared.star.Ray.{Ray}
use Rattle.nef_star.specs.declared.star.Star.{Star}
use Rattle.nef_star.specs.declared.star.Op.{Op}
use Rattle.nef_star.specs.Ops.{op_label}
use Rattle.nef_star.specs.Turning.{IsTurning, IsNext, Gives, IsPastDirection, IsUnder, IsLabelAfter}

abbrev pub ray_of : Ray → PlainRay
ray_of r = record { normal = vector_of r.normal; ahead = r.ahead; mark = r.mark }

abbrev pub star_of : Star → PlainStar
star_of t = record { axis = vector_of t.axis; rays = map ray_of t.rays.items; sectors = t.sectors.items; mark = t.mark }

-- the direction to the left of the ray, seen from outside, a quarter of a turn ahead: left directions turn as rays do
abbrev pub left_of : Ray → Vector
left_of r = cond r.ahead (vector_of r.normal) (opposite (vector_of r.normal))

abbrev pub left_at : List Ray → ℕ → Vector
left_at rays k = slice_index_or (map left_of rays) k zero_vector

abbrev pub mark_of : Ray → Label
mark_of r = r.mark

abbrev pub mark_at : List Ray → ℕ → Label
mark_at rays k = slice_index_or (map mark_of rays) k Out

abbrev pub sector_at : List Label → ℕ → Label
sector_at sectors k = slice_index_or sectors k Out

-- the ray leaves the axis, and its normal is a small normal form
pub record IsRay (axis : Vector) (r : Ray) : Type 0 where
  pub level : dot (vector_of r.normal) axis ≡ pos 0
  pub small : IsAtMost normal_limit (vector_of r.normal)
  pub normal : IsNormal (vector_of r.normal)

-- the order of rays by their normals, with a ray that goes ahead before its opposite
abbrev pub IsRayBelow : Ray → Ray → Type 0
IsRayBelow q r = IsBelow (direction_numbers (vector_of q.normal)) (direction_numbers (vector_of r.normal)) ⊎ ((q.normal ≡ r.normal) × (q.ahead ≡ true) × (r.ahead ≡ false))

-- the number of sectors of a star with these rays: the number of rays, or one where there is no ray
abbrev pub sector_count : List Ray → ℕ
sector_count [] = 1
sector_count (r ∷ rs) = length (r ∷ rs)

-- what holds of a star whose list of rays begins with any ray
pub record BeginsAnywhere (t : Star) : Type 0 where
  pub axis_small : IsAtMost svertex_limit (vector_of t.axis)
  pub rays : All (IsRay (vector_of t.axis)) t.rays.items
  pub counterclockwise : IsTurning (vector_of t.axis) (length t.rays.items) (left_at t.rays.items)
  pub sectors : length t.sectors.items ≡ sector_count t.rays.items

-- what holds of a star whose first ray is the least
pub record IsStar (t : Star) : Type 0 where
  pub turned : BeginsAnywhere t
  pub least_first : (k : ℕ) (q r : Ray) → k < length t.rays.items → slice_index_or t.rays.items 0 q ≡ q → slice_index_or t.rays.items k r ≡ r → IsRayBelow r q → ⊥

-- two rays have one normal, and both have the mark l
abbrev pub AreStraight : Ray → Ray → Label → Type 0
AreStraight q r l = (q.normal ≡ r.normal) × (q.mark ≡ l) × (r.mark ≡ l)

-- ---- what a star says of a ray that has d to its left
-- the label on this ray is l
abbrev pub LeftGives : Star → Vector → Label → Type 0
LeftGives t d l = Gives (vector_of t.axis) (length t.rays.items) (left_at t.rays.items) (mark_at t.rays.items) (sector_at t.sectors.items) d l

-- the label just after this ray is l
abbrev pub LeftAfter : Star → Vector → Label → Type 0
LeftAfter t d l = IsLabelAfter (vector_of t.axis) (length t.rays.items) (left_at t.rays.items) (sector_at t.sectors.items) d l

-- this ray lies after ray k and before the next ray
abbrev pub LeftPast : Star → Vector → ℕ → Type 0
LeftPast t d k = IsPastDirection (vector_of t.axis) (length t.rays.items) (left_at t.rays.items) d k

-- ray k is the last ray at or before this ray
abbrev pub LeftUnder : Star → Vector → ℕ → Type 0
LeftUnder t d k = IsUnder (vector_of t.axis) (length t.rays.items) (left_at t.rays.items) d k

-- this ray is one of the star's rays
abbrev pub HasLeft : Star → Vector → Type 0
HasLeft t d = (k : ℕ) × (k < length t.rays.items) × (left_at t.rays.items k ≡ d)

-- ---- one star and another
-- s has the axis and the mark of t, and gives each direction the label that t gives
pub record KeepsLabels (t s : Star) : Type 0 where
  pub axis : s.axis ≡ t.axis
  pub mark : s.mark ≡ t.mark
  pub labels : (e : Vector) (l : Label) → IsDirection (cross (vector_of t.axis) e) → StarLabel (star_of t) e l → StarLabel (star_of s) e l

-- s is t with one more ray, which has d to its left
pub record IsWithRay (d : Vector) (t s : Star) : Type 0 where
  pub turned : BeginsAnywhere s
  pub kept : KeepsLabels t s
  pub has : HasLeft s d
  pub still : (v : Vector) → HasLeft t v → HasLeft s v
  pub only : (v : Vector) → HasLeft s v → HasLeft t v ⊎ (v ≡ d)

-- both stars have two rays; ray i of s lies past ray 0 of t and before ray 1, the other one past ray 1 and before ray 0
pub record AreAlternate (t s : Star) (i : ℕ) : Type 0 where
  pub two : length t.rays.items ≡ 2
  pub other_two : length s.rays.items ≡ 2
  pub past : LeftPast t (left_at s.rays.items i) 0
  pub past_second : LeftPast t (left_at s.rays.items (1 - i)) 1

-- s is t with the rays and sectors counted from number m on
pub record IsCountedFrom (m : ℕ) (t s : Star) : Type 0 where
  pub rays : s.rays.items ≡ drop m t.rays.items ++ take m t.rays.items
  pub sectors : s.sectors.items ≡ drop m t.sectors.items ++ take m t.sectors.items

-- ray k has one label with the sectors on both sides, after ray j and after ray k
abbrev pub IsNeedless : Star → ℕ → ℕ → Type 0
IsNeedless t j k = (mark_at t.rays.items k ≡ sector_at t.sectors.items j) × (mark_at t.rays.items k ≡ sector_at t.sectors.items k)

-- none of the first c rays is needless
abbrev pub NoneNeedless : ℕ → Star → Type 0
NoneNeedless c t = (j k : ℕ) → k < c → k < length t.rays.items → IsNext (length t.rays.items) j k → IsNeedless t j k → ⊥

-- s is t without its last ray, or with that ray first, where one more of the first rays is then known to be needed
abbrev pub IsRayTried : ℕ → Star → Star → Type 0
IsRayTried c t s = ((length s.rays.items + 1 ≡ length t.rays.items) × NoneNeedless c s) ⊎ ((length s.rays.items ≡ length t.rays.items) × NoneNeedless (c + 1) s)

-- ---- a star of two stars
-- t has the axis of a and b, and gives the axis and each direction the operation's label of a's and b's labels
pub record IsCombined (op : Op) (a b t : Star) : Type 0 where
  pub axis : t.axis ≡ a.axis
  pub mark : t.mark ≡ op_label op a.mark b.mark
  pub labels : (e : Vector) (k l : Label) → IsDirection (cross (vector_of a.axis) e) → StarLabel (star_of a) e k → StarLabel (star_of b) e l
      → StarLabel (star_of t) e (op_label op k l)

-- s gives the direction to the left of each ray the operation's label of t's and b's labels, and has the mark of t
pub record IsLeftCombined (op : Op) (b t s : Star) : Type 0 where
  pub turned : BeginsAnywhere s
  pub axis : s.axis ≡ t.axis
  pub mark : s.mark ≡ t.mark
  pub gives : (d : Vector) (k l : Label) → IsOnCircle (vector_of t.axis) d → LeftGives t d k → LeftGives b d l → LeftGives s d (op_label op k l)

-- s is t with the labels on ray k and just past ray k combined with the labels that b gives there
pub record IsCombinedAt (op : Op) (b : Star) (k : ℕ) (t s : Star) : Type 0 where
  pub turned : BeginsAnywhere s
  pub axis : s.axis ≡ t.axis
  pub mark : s.mark ≡ t.mark
  pub count : length s.rays.items ≡ length t.rays.items
  pub lefts : (i : ℕ) → left_at s.rays.items i ≡ left_at t.rays.items i
  pub on : (l : Label) × LeftGives b (left_at t.rays.items k) l × (mark_at s.rays.items k ≡ op_label op (mark_at t.rays.items k) l)
  pub after : (l : Label) × LeftAfter b (left_at t.rays.items k) l × (sector_at s.sectors.items k ≡ op_label op (sector_at t.sectors.items k) l)
  pub other_marks : (i : ℕ) → (i ≡ k → ⊥) → mark_at s.rays.items i ≡ mark_at t.rays.items i
  pub other_sectors : (i : ℕ) → (i ≡ k → ⊥) → sector_at s.sectors.items i ≡ sector_at t.sectors.items i
