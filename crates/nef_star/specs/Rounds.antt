-- Stars put together from rays, each with the label of the next sector.
use Rattle.std.specs.Prelude.{◌≡◌, ◌<◌}
use Rattle.nef_geo.specs.Prelude.{ℕ, List, length, IsAt, Vector, SameDirection, Label}
use Rattle.nef_star.specs.declared.star.Ray.{Ray}
use Rattle.nef_star.specs.declared.star.Star.{Star}
use Rattle.nef_star.specs.Stars.{left_of, left_at, mark_at, sector_at, HasLeft, BeginsAnywhere}

-- an end: a ray with the label of the next sector
abbrev pub ArcEnd : Type 0
ArcEnd = Ray × Label

-- ends whose rays have one direction to the left are equal
abbrev pub EndsAreApart : List ArcEnd → Type 0
EndsAreApart ends = (i k : ℕ) (e f : ArcEnd) → IsAt ends i e → IsAt ends k f → left_of e.0 ≡ left_of f.0 → e ≡ f

-- the rays of t, each with the next sector, are exactly the ends
pub record IsRound (ends : List ArcEnd) (t : Star) : Type 0 where
  pub each : (k : ℕ) (r : Ray) (l : Label) → IsAt t.rays.items k r → IsAt t.sectors.items k l → (i : ℕ) × IsAt ends i (r, l)
  pub all : (i : ℕ) (r : Ray) (l : Label) → IsAt ends i (r, l) → (k : ℕ) × IsAt t.rays.items k r × IsAt t.sectors.items k l

-- ray k goes the way of an end, and has the end's mark, and its label after the ray
pub record IsEndAt (ends : List ArcEnd) (t : Star) (k : ℕ) : Type 0 where
  pub number : ℕ
  pub end : ArcEnd
  pub listed : IsAt ends number end
  pub left : left_at t.rays.items k ≡ left_of end.0
  pub mark : mark_at t.rays.items k ≡ end.0.mark
  pub sector : sector_at t.sectors.items k ≡ end.1

-- t has a ray the way of each of the first n ends, and each ray of t goes the way of an end
pub record HasWays (ends : List ArcEnd) (n : ℕ) (t : Star) : Type 0 where
  pub turned : BeginsAnywhere t
  pub all : (i : ℕ) (e : ArcEnd) → i < n → IsAt ends i e → HasLeft t (left_of e.0)
  pub only : (v : Vector) → HasLeft t v → (i : ℕ) × (e : ArcEnd) × IsAt ends i e × (left_of e.0 ≡ v)

-- s has the ways of t in order, and its first n rays are ends with their marks and labels
pub record IsEnded (ends : List ArcEnd) (n : ℕ) (t s : Star) : Type 0 where
  pub turned : BeginsAnywhere s
  pub axis : s.axis ≡ t.axis
  pub mark : s.mark ≡ t.mark
  pub count : length s.rays.items ≡ length t.rays.items
  pub lefts : (i : ℕ) → left_at s.rays.items i ≡ left_at t.rays.items i
  pub ends_at : (k : ℕ) → k < n → IsEndAt ends s k

-- s has exactly the ways of the ends, and each of its rays is an end
abbrev pub IsWhole : List ArcEnd → Star → Type 0
IsWhole ends s = (t : Star) × HasWays ends (length ends) t × IsEnded ends (length t.rays.items) t s

-- there are just two ends, which go different ways
pub record AreTwoWays (ends : List ArcEnd) : Type 0 where
  pub two : length ends ≡ 2
  pub apart : (e f : ArcEnd) → IsAt ends 0 e → IsAt ends 1 f → SameDirection (left_of e.0) (left_of f.0) → ⊥
