-- The stars that become svertices, the circles of straight stars, and all pieces of which a map is made.
use Rattle.std.specs.Prelude.{◌≡◌, ◌∷◌, ◌⊎◌}
use Rattle.nef_geo.specs.Prelude.{ℕ, List, [], map, length, Option, Some, None, MatchOption, All, normal_limit, IsAtMost, Label, vector_of, IsAt}
use Rattle.law_geometry.specs.sphere.Maps.{MapSloop}
use Rattle.law_geometry.specs.sphere.Stars.{Star as PlainStar, IsPlain, IsStraight, IsSimplified}
use Rattle.law_geometry.specs.sphere.Builds.{Proper}
use Rattle.law_geometry.specs.sphere.Raw.{IsBare}
use Rattle.law_geometry.specs.sphere.building.From.{sloop_at, IsRawLabel}
use Rattle.nef_star.specs.declared.star.Star.{Star}
use Rattle.nef_star.specs.Stars.{star_of, IsStar, KeepsLabels}
use Rattle.nef_smap.specs.declared.map.SLoop.{SLoop}
use Rattle.nef_smap.specs.declared.map.RawStars.{RawStars}
use Rattle.nef_smap.specs.Maps.{sloop_of, raw_of}

-- s is t without needless rays
pub record IsSimple (t s : Star) : Type 0 where
  pub star : IsStar s
  pub kept : KeepsLabels t s
  pub simplified : IsSimplified (star_of s)

pub record AreSimple (ts us : List Star) : Type 0 where
  pub as_many : length us ≡ length ts
  pub each : (k : ℕ) (t s : Star) → IsAt ts k t → IsAt us k s → IsSimple t s

-- the star is plain or straight, so it becomes no svertex
abbrev pub IsDropped : Star → Type 0
IsDropped t = IsPlain (star_of t) ⊎ IsStraight (star_of t)

abbrev pub AreAllKept : List Star → Type 0
AreAllKept ts = (k : ℕ) (t : Star) → IsAt ts k t → IsDropped t → ⊥

-- ys has, in order, the elements of xs of which P doesn't hold
abbrev pub AreOthers : {A : Type 0} → (A → Type 0) → List A → List A → Type 0
AreOthers P [] ys = ys ≡ []
AreOthers {A} P (x ∷ xs) ys = ((P x → ⊥) × (zs : List A) × (ys ≡ x ∷ zs) × AreOthers P xs zs) ⊎ (P x × AreOthers P xs ys)

-- l is the circle of the straight star t
abbrev pub IsCircleOf : PlainStar → MapSloop → Type 0
IsCircleOf t l = (s : IsStraight t) × (l ≡ sloop_at t s)

-- cs has the circles of the straight stars
pub record AreCircles (ts : List Star) (cs : List SLoop) : Type 0 where
  pub from : (k : ℕ) (c : SLoop) → IsAt cs k c → (j : ℕ) × (t : Star) × IsAt ts j t × IsCircleOf (star_of t) (sloop_of c)
  pub all : (j : ℕ) (t : Star) → IsAt ts j t → IsStraight (star_of t) → (k : ℕ) × (c : SLoop) × IsAt cs k c × IsCircleOf (star_of t) (sloop_of c)
  pub small : All (λ c. IsAtMost normal_limit (vector_of c.normal)) cs

-- o is a label of the raw stars, or none where the raw stars have no labels
abbrev pub IsGroundOf : RawStars → Option Label → Type 0
IsGroundOf r o = MatchOption o ((r.ground ≡ None) × (r.stars ≡ []) × (r.sloop ≡ None)) (IsRawLabel (raw_of r))

-- the stars that become svertices, the circles of the straight stars, and the label for a ground
pub record Pieces : Type 0 where
  pub kept : List Star
  pub circles : List SLoop
  pub ground : Option Label

-- p has the pieces of which the map of simplified stars r is made
pub record ArePiecesOf (r : RawStars) (p : Pieces) : Type 0 where
  pub kept : AreOthers IsDropped r.stars p.kept
  pub circles : AreCircles r.stars p.circles
  pub ground : IsGroundOf r p.ground

-- no star has its axis on the circle
abbrev pub IsBareCircle : List Star → SLoop → Type 0
IsBareCircle kept c = IsBare (map star_of kept) (vector_of c.normal)

-- the circle's mark differs from the label on one of its sides
abbrev pub IsProperCircle : SLoop → Type 0
IsProperCircle c = Proper c.pos c.mark c.neg

-- c is the given circle, which is proper, or one of the circles that are bare
abbrev pub IsChosen : List Star → List SLoop → Option SLoop → SLoop → Type 0
IsChosen kept cs given c = ((given ≡ Some c) × IsProperCircle c) ⊎ ((k : ℕ) × IsAt cs k c × IsBareCircle kept c)
