-- Maps that are made of the simplified stars of a raw map.
use Rattle.std.specs.Prelude.{◌≡◌, ◌∷◌, ◌⊎◌, ℕ, pos, List, [], map, length, Option, Some, None, true}
use Rattle.nef_space.specs.Vectors.{Vector, dot, cross, IsDirection}
use Rattle.nef_space.specs.declared.label.Label.{Label}
use Rattle.law_geometry.specs.sphere.cyclic.Arcs.{IsStrictlyOn}
use Rattle.law_geometry.specs.sphere.Prelude.{VectorBelow, IsAt, MapVertex, Arc, MapSloop, Map, InOrder, ArcBelow}
use Rattle.law_geometry.specs.sphere.Stars.{Ray, Star, StarLabel, IsPlain, IsStraight, Follows, IsSimplified}
use Rattle.law_geometry.specs.sphere.Builds.{Proper}
use Rattle.law_geometry.specs.sphere.Raw.{RawMap, IsWellFormed, IsBare}

-- the star s has the axis, the mark and all labels of the star t
pub record IsKeptStar (t s : Star) : Type 0 where
  pub star : IsWellFormed s
  pub axis : s.axis ≡ t.axis
  pub mark : s.mark ≡ t.mark
  pub labels : (e : Vector) (l : Label) → IsDirection (cross t.axis e) → StarLabel t e l → StarLabel s e l

-- us are the stars of ts in the same order, each with its labels kept
pub record AreKept (ts us : List Star) : Type 0 where
  pub as_many : length us ≡ length ts
  pub kept : (k : ℕ) (t s : Star) → IsAt ts k t → IsAt us k s → IsKeptStar t s

-- the raw map Q is the raw map R, with stars that kept their labels
pub record IsKeptRaw (R Q : RawMap) : Type 0 where
  pub mark : Q.mark ≡ R.mark
  pub stars : AreKept R.stars Q.stars
  pub sloop : Q.sloop ≡ R.sloop
  pub same_ground : Q.ground ≡ R.ground

-- no ray of any star has the mark of both neighbouring sectors
abbrev pub AreSimplified : List Star → Type 0
AreSimplified ts = (k : ℕ) (t : Star) → IsAt ts k t → IsSimplified t

-- the label of the one sector of a star without rays
abbrev pub around_of : List Ray → List Label → Option Label
around_of [] [] = None
around_of [] (l ∷ ls) = Some l
around_of (r ∷ rs) ls = None

abbrev pub svertex_at : Star → MapVertex
svertex_at t = record { dir = t.axis; mark = t.mark; around = around_of t.rays t.sectors }

-- the axis of star j comes first on the circle of n after the axis of t, counterclockwise, where t's own comes last
pub record IsFirstAfter (kept : List Star) (n : Vector) (t : Star) (j : ℕ) : Type 0 where
  pub first : Star
  pub listed : IsAt kept j first
  pub level : dot n first.axis ≡ pos 0
  pub none_before : (k : ℕ) (u : Star) → IsAt kept k u → IsStrictlyOn n t.axis first.axis u.axis → ⊥

-- the arc follows a ray ahead of its source's star, with the ray's mark and the labels of both neighbouring sectors
pub record IsArcFrom (kept : List Star) (a : Arc) : Type 0 where
  pub star : Star
  pub ray : Ray
  pub before : ℕ
  pub number : ℕ
  pub has_star : IsAt kept a.source star
  pub has_ray : IsAt star.rays number ray
  pub ahead : ray.ahead ≡ true
  pub normal : a.normal ≡ ray.normal
  pub mark : a.mark ≡ ray.mark
  pub pos : IsAt star.sectors number a.pos
  pub follows : Follows star.rays before number
  pub neg : IsAt star.sectors before a.neg
  pub target : IsFirstAfter kept a.normal star a.target

-- the circle of a straight star, with the star's labels
abbrev pub sloop_at : (t : Star) → IsStraight t → MapSloop
sloop_at t s = record { normal = s.first.normal; pos = s.pos; mark = t.mark; neg = s.neg }

-- l is the circle of the raw map, or the circle of a straight star of R that no kept axis lies on
pub data IsSloopFrom (R : RawMap) (kept : List Star) (l : MapSloop) : Type 0 where
  raw_sloop : R.sloop ≡ Some l → Proper l.pos l.mark l.neg → IsSloopFrom R kept l
  straight_sloop : (k : ℕ) (t : Star) → IsAt R.stars k t → (s : IsStraight t) → IsBare kept s.first.normal → l ≡ sloop_at t s → IsSloopFrom R kept l

-- m is the label of the ground, of a star's axis or of the circle of R
abbrev pub IsRawLabel : RawMap → Label → Type 0
IsRawLabel R m = (R.ground ≡ Some m) ⊎ ((k : ℕ) × (t : Star) × IsAt R.stars k t × (t.mark ≡ m)) ⊎ ((l : MapSloop) × (R.sloop ≡ Some l) × (l.mark ≡ m))

-- M is made of the simplified stars of R: the stars neither plain nor straight are its svertices, their rays its arcs
pub record IsBuiltFrom (R : RawMap) (M : Map) : Type 0 where
  pub kept : List Star
  pub kept_from : (k : ℕ) (t : Star) → IsAt kept k t → (j : ℕ) × IsAt R.stars j t
  pub kept_needed : (k : ℕ) (t : Star) → IsAt kept k t → IsPlain t ⊎ IsStraight t → ⊥
  pub kept_all : (j : ℕ) (t : Star) → IsAt R.stars j t → IsPlain t ⊎ IsStraight t ⊎ ((k : ℕ) × IsAt kept k t)
  pub kept_ordered : InOrder (λ t u. VectorBelow t.axis u.axis) kept
  pub mark : M.mark ≡ R.mark
  pub svertices : M.svertices ≡ map svertex_at kept
  pub arcs_from : (k : ℕ) (a : Arc) → IsAt M.arcs k a → IsArcFrom kept a
  pub arcs_all : (i k : ℕ) (t : Star) (r : Ray) → IsAt kept i t → IsAt t.rays k r → r.ahead ≡ true → (j : ℕ) × (a : Arc) × IsAt M.arcs j a × (a.source ≡ i) × (a.normal ≡ r.normal)
  pub arcs_ordered : InOrder ArcBelow M.arcs
  pub sloop_from : (l : MapSloop) → M.sloop ≡ Some l → IsSloopFrom R kept l
  pub sloop_all : (l : MapSloop) → IsSloopFrom R kept l → (k : MapSloop) × (M.sloop ≡ Some k)
  pub ground_alone : kept ≡ [] → M.sloop ≡ None → (m : Label) × (M.ground ≡ Some m) × IsRawLabel R m
  pub ground_not : (m : Label) → M.ground ≡ Some m → (kept ≡ []) × (M.sloop ≡ None)
