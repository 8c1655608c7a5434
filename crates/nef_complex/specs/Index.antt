-- What a complex has in planes: items, vertices and edges, and what its index says of them.
use Rattle.std.specs.Prelude.{◌≡◌, ◌↔◌}
use Rattle.nef_space.specs.Prelude.{ℕ, pos, Bool, IsTrue, List, length, map, IsAt, Form, form_at, normal_of, Vector, SameDirection}
use Rattle.nef_geo.specs.Shapes.{point_of, form_of}
use Rattle.nef_geo.specs.declared.plane.Plane.{Plane}
use Rattle.nef_geo.specs.declared.point.Point.{Point}
use Rattle.law_geometry.specs.sphere.Maps.{Map, Item, items, item_normal}
use Rattle.nef_smap.specs.Maps.{map_of}
use Rattle.nef_index.specs.declared.skeleton.Edge.{Edge}
use Rattle.nef_index.specs.declared.spans.Span.{Span}
use Rattle.nef_index.specs.Skeleton.{IndexedLists}
use Rattle.nef_index.specs.Carriers.{AreInOrder, AreHolders}
use Rattle.nef_index.specs.Spans.{IsInSpan}
use Rattle.nef_complex.specs.declared.complex.Vertex.{Vertex}

-- the points of the vertices
abbrev pub points_of : List Vertex → List Point
points_of vs = map (λ (v : Vertex). v.point) vs

-- the carriers, the points of the vertices, and the edges
abbrev pub indexed_lists : List Plane → List Vertex → List Edge → IndexedLists
indexed_lists hs vs es = record { carriers = hs; points = points_of vs; edges = es }

-- some item of the map has the normal
abbrev pub HasNormal : Map → Vector → Type 0
HasNormal M n = (j : ℕ) × (x : Item) × IsAt (items M) j x × SameDirection (item_normal x) n

-- the plane is the plane of an item of some vertex
abbrev pub HasItemIn : List Vertex → Form → Type 0
HasItemIn vs h = (k : ℕ) × (v : Vertex) × (j : ℕ) × (x : Item) × IsAt vs k v × IsAt (items (map_of v.map)) j x × (form_at h (point_of v.point) ≡ pos 0) × SameDirection (item_normal x) (normal_of h)

-- the vertex with this number lies on the plane
abbrev pub LiesOn : List Vertex → Form → ℕ → Type 0
LiesOn vs h k = (v : Vertex) × IsAt vs k v × (form_at h (point_of v.point) ≡ pos 0)

-- the edge with this number lies in the plane: the plane holds both of its ends
abbrev pub EdgeLiesIn : List Vertex → List Edge → Form → ℕ → Type 0
EdgeLiesIn vs es h k = (e : Edge) × IsAt es k e × LiesOn vs h e.low × LiesOn vs h e.high

-- for each carrier there is a flag, which says whether the carrier is the plane of an item
pub record AreItemFlags (hs : List Plane) (vs : List Vertex) (flags : List Bool) : Type 0 where
  pub as_many : length flags ≡ length hs
  pub each : (k : ℕ) (h : Plane) (b : Bool) → IsAt hs k h → IsAt flags k b → IsTrue b ↔ HasItemIn vs (form_of h)

-- the carriers stand in order, once each, the plane of each item is a carrier, and the flags are right
pub record AreFlagged (hs : List Plane) (vs : List Vertex) (bs : List Bool) : Type 0 where
  pub ordered : AreInOrder hs
  pub planes : (h : Plane) → HasItemIn vs (form_of h) → (k : ℕ) × IsAt hs k h
  pub flags : AreItemFlags hs vs bs

-- for each vertex the table has the numbers of the carriers that hold the vertex
pub record AreVertexHolders (hs : List Plane) (vs : List Vertex) (rows : List (List ℕ)) : Type 0 where
  pub as_many : length rows ≡ length vs
  pub each : (k : ℕ) (v : Vertex) (ns : List ℕ) → IsAt vs k v → IsAt rows k ns → AreHolders hs (point_of v.point) (point_of v.point) ns

-- the list has the numbers of the carriers that hold both ends of the edge, in increasing order
abbrev pub AreHoldersAlong : List Plane → List Vertex → Edge → List ℕ → Type 0
AreHoldersAlong hs vs e ns = (u w : Vertex) → IsAt vs e.low u → IsAt vs e.high w → AreHolders hs (point_of u.point) (point_of w.point) ns

-- for each vertex there is a span that holds this vertex
pub record AreAlone (vs : List Vertex) (spans : List Span) : Type 0 where
  pub as_many : length spans ≡ length vs
  pub each : (k : ℕ) (v : Vertex) (s : Span) → IsAt vs k v → IsAt spans k s → IsInSpan s (point_of v.point)

-- the span holds the vertices on the plane
abbrev pub IsSpanOn : List Vertex → Form → Span → Type 0
IsSpanOn vs h s = (k : ℕ) (v : Vertex) → IsAt vs k v → form_at h (point_of v.point) ≡ pos 0 → IsInSpan s (point_of v.point)

-- for each carrier the list has a span of the vertices on the carrier
pub record AreSpans (hs : List Plane) (vs : List Vertex) (spans : List Span) : Type 0 where
  pub as_many : length spans ≡ length hs
  pub each : (k : ℕ) (h : Plane) (s : Span) → IsAt hs k h → IsAt spans k s → IsSpanOn vs (form_of h) s

-- some carrier holds each item: it has the item's normal and holds the item's vertex
abbrev pub ItemsAreHeld : List Plane → List Vertex → Type 0
ItemsAreHeld hs vs = (k j : ℕ) (v : Vertex) (x : Item) → IsAt vs k v → IsAt (items (map_of v.map)) j x → (i : ℕ) × (h : Plane) × IsAt hs i h × (form_at (form_of h) (point_of v.point) ≡ pos 0) × SameDirection (item_normal x) (normal_of (form_of h))
