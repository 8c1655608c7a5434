-- The kind of a point by its least map, and what each kind says of the set's flat directions.
use Rattle.std.specs.Prelude.{◌≡◌, ◌↔◌}
use Rattle.nef_space.specs.Prelude.{pos, Flat, FlatDim, SpacePoint, Set, Vector, IsParallel, dot}
use Rattle.nef_geo.specs.Shapes.{vector_of}
use Rattle.law_geometry.specs.sphere.Maps.{Map}
use Rattle.law_geometry.specs.sphere.Kinds.{IsInVolume, IsInFacet, IsOnEdge}
use Rattle.nef_spair.specs.declared.answer.Kind.{Kind}
use Rattle.nef_spair.specs.declared.answer.Kind.TheVariants.{Vertex, OnEdge, InFacet, InVolume}

-- the map belongs to a point in no volume, in no facet and on no edge
pub record IsVertexMap (M : Map) : Type 0 where
  pub no_volume : IsInVolume M → ⊥
  pub no_facet : (n : Vector) → IsInFacet M n → ⊥
  pub no_edge : (d : Vector) → IsOnEdge M d → ⊥

abbrev pub IsKind : Map → Kind → Type 0
IsKind M Vertex = IsVertexMap M
IsKind M (OnEdge d) = IsOnEdge M (vector_of d)
IsKind M (InFacet n) = IsInFacet M (vector_of n)
IsKind M InVolume = IsInVolume M

-- the number of independent flat directions at p, and which directions are flat
abbrev pub KindFits : Kind → Set → SpacePoint → Type 0
KindFits Vertex s p = FlatDim s p 0
KindFits (OnEdge d) s p = FlatDim s p 1 × ((e : Vector) → Flat s p e ↔ IsParallel (vector_of d) e)
KindFits (InFacet n) s p = FlatDim s p 2 × ((d : Vector) → Flat s p d ↔ (dot (vector_of n) d ≡ pos 0))
KindFits InVolume s p = FlatDim s p 3
