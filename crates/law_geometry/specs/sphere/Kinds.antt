-- Directions along which a map stays the same, and the kind of a least map by its svertices and its sloop.
use Rattle.std.specs.Prelude.{◌≡◌, ℕ, ◌<◌, ℤ, pos, [], ◌∷◌, ◌⊎◌, ◌↔◌, Some, None}
use Rattle.nef_space.specs.Vectors.{Vector, IsZero, IsOpposite}
use Rattle.nef_space.specs.declared.label.Label.{Label}
use Rattle.law_geometry.specs.near.Cones.{combination}
use Rattle.law_geometry.specs.sphere.Maps.{MapVertex, MapSloop, Map, MapLabel}

-- the label m of the map toward e, or the map's mark where e is nought
abbrev pub Full : Map → Vector → Label → Type 0
Full M e m = (IsZero e × (M.mark ≡ m)) ⊎ MapLabel M e m

-- a positive multiple of any vector, plus any multiple of d, has the label of the vector
abbrev pub FlatMap : Map → Vector → Type 0
FlatMap M d = (e : Vector) (b : ℕ) (a : ℤ) → 0 < b → (m : Label) → Full M e m ↔ Full M (combination (pos b) e a d) m

pub record IsInVolume (M : Map) : Type 0 where
  pub no_svertex : M.svertices ≡ []
  pub no_sloop : M.sloop ≡ None
  pub same_mark : M.ground ≡ Some M.mark

pub record IsInFacet (M : Map) (n : Vector) : Type 0 where
  pub no_svertex : M.svertices ≡ []
  pub sloop : MapSloop
  pub has_sloop : M.sloop ≡ Some sloop
  pub same_mark : sloop.mark ≡ M.mark
  pub normal : sloop.normal ≡ n

-- the map of an edge along d: two opposite svertices with the map's mark, the second in the direction d
pub record IsOnEdge (M : Map) (d : Vector) : Type 0 where
  pub first : MapVertex
  pub second : MapVertex
  pub two_svertices : M.svertices ≡ first ∷ second ∷ []
  pub opposite : IsOpposite first.dir second.dir
  pub first_mark : first.mark ≡ M.mark
  pub second_mark : second.mark ≡ M.mark
  pub no_sloop : M.sloop ≡ None
  pub named : second.dir ≡ d
