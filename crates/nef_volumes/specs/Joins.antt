-- Facets and volumes as components: points at items and sides are joined exactly where these have one number; the parts in which points lie; and the numbers of parts as numbers of components.
use Rattle.std.specs.Prelude.{◌≡◌, ◌↔◌}
use Rattle.nef_complex.specs.Prelude.{ℕ, length, Joined, SpacePoint, Set, IsVertexPoint, IsEdgePoint, HasCorner, complex_of, ShowsSet, IsFacetOf, IsVolumeOf}
use Rattle.law_geometry.specs.complex.Prelude.{Complex as PlainComplex, Corner, VertexSide, HasVolumeSide}
use Rattle.law_geometry.specs.complex.links.Components.{IsAtItem, IsAtSide}
use Rattle.nef_conn.specs.Components.{HasComponents}
use Rattle.nef_complex.specs.declared.complex.Complex.{Complex}
use Rattle.nef_complex.specs.declared.parts.Parts.{Parts}
use Rattle.nef_volumes.specs.declared.all.Part.{Part}
use Rattle.nef_volumes.specs.declared.all.Part.TheVariants as part

-- points at two items are joined exactly where the items have one facet number
abbrev pub FacetsAreComponents : Complex → Parts → Type 0
FacetsAreComponents c p = (s : Set) (j k : Corner) (m n : ℕ) (y z : SpacePoint) → ShowsSet s c → IsFacetOf p.facet_of j m → IsFacetOf p.facet_of k n
    → IsAtItem s (complex_of c) j y → IsAtItem s (complex_of c) k z → Joined s y z ↔ (m ≡ n)

-- points at two sides are joined exactly where the sides have one volume number
abbrev pub VolumesAreComponents : Complex → Parts → Type 0
VolumesAreComponents c p = (s : Set) (x w : VertexSide) (m n : ℕ) (y z : SpacePoint) → ShowsSet s c → IsVolumeOf (complex_of c) p.volume_of x m → IsVolumeOf (complex_of c) p.volume_of w n
    → IsAtSide s (complex_of c) x y → IsAtSide s (complex_of c) w z → Joined s y z ↔ (m ≡ n)

-- the numbers of vertices, edges, facets and volumes are those of the components of the points with no, one, two and three flat directions
abbrev pub AreCounted : Complex → Parts → Type 0
AreCounted c p = (s : Set) → ShowsSet s c
    → HasComponents s 0 (length c.vertices) × HasComponents s 1 (length c.edges) × HasComponents s 2 (length p.facets) × HasComponents s 3 (length p.volumes)

-- ---- the part in which a point lies
-- y is the vertex, lies on the edge, or has a corner of the facet or a side of the volume
abbrev pub IsPartAt : PlainComplex → Parts → SpacePoint → Part → Type 0
IsPartAt C p y (part.Vertex n) = IsVertexPoint C n y
IsPartAt C p y (part.Edge n) = IsEdgePoint C n y
IsPartAt C p y (part.Facet n) = (k : Corner) × HasCorner C y k × IsFacetOf p.facet_of k n
IsPartAt C p y (part.Volume n) = (x : VertexSide) × HasVolumeSide C y x × IsVolumeOf C p.volume_of x n
