-- The star of a map at a direction.
use Rattle.std.specs.Prelude.{◌≡◌, ◌∷◌, ◌⊎◌}
use Rattle.nef_space.specs.Prelude.{ℕ, List, [], true, false, IsAt, Vector}
use Rattle.law_geometry.specs.sphere.Maps.{Map, Item, item_normal, item_pos, item_mark, item_neg}
use Rattle.law_geometry.specs.sphere.Stars.{Star, StarOf, StarShows}
use Rattle.nef_star.specs.Rounds.{ArcEnd}
use Rattle.nef_smap.specs.declared.map.SArc.{SArc}

-- the star is the map's neighbourhood of d, and all that the star says holds of the map there
pub record IsNeighbourhood (t : Star) (M : Map) (d : Vector) : Type 0 where
  pub star_of : StarOf t M d
  pub shows : StarShows t M

-- e is the ray at svertex k along an arc that begins or ends there, with the label of the face to its left
abbrev pub IsArcEnd : SArc → ℕ → ArcEnd → Type 0
IsArcEnd a k e =
    ((a.source ≡ k) × (e ≡ (record { normal = a.normal; ahead = true; mark = a.mark }, a.pos)))
    ⊎ ((a.target ≡ k) × (e ≡ (record { normal = a.normal; ahead = false; mark = a.mark }, a.neg)))

-- ends has the rays with labels of all arcs at svertex k
pub record AreArcEnds (as' : List SArc) (k : ℕ) (ends : List ArcEnd) : Type 0 where
  pub each : (i : ℕ) (e : ArcEnd) → IsAt ends i e → (j : ℕ) × (a : SArc) × IsAt as' j a × IsArcEnd a k e
  pub all : (j : ℕ) (a : SArc) (e : ArcEnd) → IsAt as' j a → IsArcEnd a k e → (i : ℕ) × IsAt ends i e

-- the star has the two rays along the item, on which its axis lies, and the labels beside the item
pub record IsStarAlong (x : Item) (t : Star) : Type 0 where
  pub rays : t.rays ≡ record { normal = item_normal x; ahead = true; mark = item_mark x } ∷ record { normal = item_normal x; ahead = false; mark = item_mark x } ∷ []
  pub sectors : t.sectors ≡ item_pos x ∷ item_neg x ∷ []
  pub mark : t.mark ≡ item_mark x
