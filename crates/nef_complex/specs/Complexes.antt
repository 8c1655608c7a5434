-- The program's complexes as complexes of any size, and which of them show a set.
use Rattle.std.specs.Prelude.{◌≡◌, ◌<◌, ◌≤◌}
use Rattle.nef_space.specs.Prelude.{ℕ, pos, List, map, IsAt, SpacePoint, form_at, InClosedFrame, IsPointBelow, Set}
use Rattle.nef_geo.specs.Shapes.{point_of, form_of}
use Rattle.nef_geo.specs.declared.plane.Plane.{Plane}
use Rattle.nef_geo.specs.declared.point.Point.{Point}
use Rattle.nef_smap.specs.Maps.{map_of, IsLeastMap}
use Rattle.nef_index.specs.declared.skeleton.Edge.{Edge}
use Rattle.nef_index.specs.declared.spans.Span.{Span}
use Rattle.nef_index.specs.Spans.{IsInSpan}
use Rattle.law_geometry.specs.complex.Prelude.{Vertex as PlainVertex, Edge as PlainEdge, Complex as PlainComplex, Corner as PlainCorner, Edges, IsSkeletonIn, Shows, PlaneMeet as PlainMeet, meets_vertex, meets_edge}
use Rattle.nef_complex.specs.declared.complex.Vertex.{Vertex}
use Rattle.nef_complex.specs.declared.complex.Complex.{Complex}
use Rattle.nef_complex.specs.declared.complex.Corner.{Corner}
use Rattle.nef_complex.specs.declared.complex.PlaneMeet.{PlaneMeet}
use Rattle.nef_complex.specs.declared.complex.PlaneMeet.TheVariants.{AtVertex, AtEdge}
use Rattle.nef_complex.specs.Index.{indexed_lists, AreFlagged}

abbrev pub vertex_of : Vertex → PlainVertex
vertex_of v = record { point = point_of v.point; map = map_of v.map }

abbrev pub edge_of : Edge → PlainEdge
edge_of e = record { low = e.low; low_svertex = e.low_svertex; high = e.high; high_svertex = e.high_svertex; mark = e.mark }

abbrev pub complex_of : Complex → PlainComplex
complex_of c = record { carriers = map form_of c.carriers; vertices = map vertex_of c.vertices; edges = map edge_of c.edges }

abbrev pub corner_of : Corner → PlainCorner
corner_of k = record { vertex = k.vertex; item = k.item }

abbrev pub meet_of : PlaneMeet → PlainMeet
meet_of (AtVertex k) = meets_vertex k
meet_of (AtEdge k) = meets_edge k

-- vertices in increasing order of their points
abbrev pub AreSorted : List Vertex → Type 0
AreSorted vs = (i k : ℕ) (u v : Vertex) → i < k → IsAt vs i u → IsAt vs k v → IsPointBelow (point_of u.point) (point_of v.point)

-- the index of the complex is that of its carriers, vertices and edges
pub record IsIndexed (c : Complex) : Type 0 where
  pub is : c.index ≡ indexed_lists c.carriers c.vertices c.edges

-- the complex shows the set with least maps, its flags are right, and its index is its own
pub record ShowsSet (s : Set) (c : Complex) : Type 0 where
  pub shows : Shows s (complex_of c)
  pub maps : (k : ℕ) (v : Vertex) → IsAt c.vertices k v → IsLeastMap v.map
  pub flagged : AreFlagged c.carriers c.vertices c.has_item
  pub indexed : IsIndexed c

-- what the carrier with this number holds of the skeleton lies in the closed frame and outside the window
abbrev pub LiesOutside : Complex → Span → ℕ → Type 0
LiesOutside c w k = (h : Plane) → IsAt c.carriers k h → (s : Set) (y : SpacePoint) → ShowsSet s c → form_at (form_of h) y ≡ pos 0 → IsSkeletonIn s (complex_of c) (form_of h) y → InClosedFrame y × (IsInSpan w y → ⊥)

-- sorted vertices with least maps, which with their edges and with these carriers are a complex that shows the set
pub record AreVerticesOf (s : Set) (carriers : List Plane) (vertices : List Vertex) : Type 0 where
  pub sorted : AreSorted vertices
  pub maps : (k : ℕ) (v : Vertex) → IsAt vertices k v → IsLeastMap v.map
  pub shown : (es : List PlainEdge) → Edges (map vertex_of vertices) es → Shows s (record { carriers = map form_of carriers; vertices = map vertex_of vertices; edges = es })

-- the vertices before number k are below the point
abbrev pub AreBelow : List Vertex → ℕ → Point → Type 0
AreBelow vs k p = (i : ℕ) (v : Vertex) → i < k → IsAt vs i v → IsPointBelow (point_of v.point) (point_of p)

-- the vertices from number k on are above the point
abbrev pub AreAbove : List Vertex → ℕ → Point → Type 0
AreAbove vs k p = (i : ℕ) (v : Vertex) → k ≤ i → IsAt vs i v → IsPointBelow (point_of p) (point_of v.point)
