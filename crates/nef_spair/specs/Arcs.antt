-- The arcs that leave stars, star by star and ray by ray, and the order of arcs.
use Rattle.std.specs.Prelude.{◌≡◌, ◌<◌, ◌∷◌, ◌⊎◌}
use Rattle.nef_space.specs.Prelude.{ℕ, List, [], map, true, opposite, IsAtMost}
use Rattle.nef_smap.specs.Prelude.{normal_limit, vector_of, IsAt, star_of, arc_of}
use Rattle.law_geometry.specs.sphere.Least.{ArcBelow}
use Rattle.law_geometry.specs.sphere.building.From.{IsArcFrom}
use Rattle.nef_star.specs.declared.star.Ray.{Ray}
use Rattle.nef_star.specs.declared.star.Star.{Star}
use Rattle.nef_smap.specs.declared.map.SArc.{SArc}

-- there are just two stars, with opposite axes
pub record AreTwoEnds (kept : List Star) : Type 0 where
  pub first : Star
  pub second : Star
  pub two : kept ≡ first ∷ second ∷ []
  pub opposite : vector_of second.axis ≡ opposite (vector_of first.axis)

-- ray m of star j is one of a star before number i, or one of the first n rays of star i
abbrev pub IsEarlierRay : ℕ → ℕ → ℕ → ℕ → Type 0
IsEarlierRay i n j m = (j < i) ⊎ ((j ≡ i) × (m < n))

-- the arc a leaves its star along ray m, which goes ahead
pub record LeavesAlong (kept : List Star) (a : SArc) (m : ℕ) : Type 0 where
  pub star : Star
  pub ray : Ray
  pub has_star : IsAt kept a.source star
  pub has_ray : IsAt star.rays.items m ray
  pub ahead : ray.ahead ≡ true
  pub normal : a.normal ≡ ray.normal

-- the arcs have one normal and one source
abbrev pub IsTwin : SArc → SArc → Type 0
IsTwin a b = (a.normal ≡ b.normal) × (a.source ≡ b.source)

-- no two numbers have elements of the list that are the same by Same
abbrev pub StandApart : {A : Type 0} → (A → A → Type 0) → List A → Type 0
StandApart {A} Same xs = (i j : ℕ) (x y : A) → IsAt xs i x → IsAt xs j y → Same x y → i ≡ j

abbrev pub AreApart : List SArc → Type 0
AreApart arcs = StandApart IsTwin arcs

-- `arcs` has the arcs of the stars before number i, and of the first n rays of star i
pub record AreArcs (kept : List Star) (i n : ℕ) (arcs : List SArc) : Type 0 where
  pub from : (k : ℕ) (a : SArc) → IsAt arcs k a → IsArcFrom (map star_of kept) (arc_of a)
  pub small : (k : ℕ) (a : SArc) → IsAt arcs k a → IsAtMost normal_limit (vector_of a.normal)
  pub apart : AreApart arcs
  pub along : (k : ℕ) (a : SArc) → IsAt arcs k a → (m : ℕ) × LeavesAlong kept a m × IsEarlierRay i n a.source m
  pub all : (j m : ℕ) (t : Star) (r : Ray) → IsAt kept j t → IsAt t.rays.items m r → r.ahead ≡ true → IsEarlierRay i n j m → (k : ℕ) × (a : SArc) × IsAt arcs k a × (a.source ≡ j) × (a.normal ≡ r.normal)

abbrev pub IsArcBelow : SArc → SArc → Type 0
IsArcBelow a b = ArcBelow (arc_of a) (arc_of b)
