-- Points of the skeleton, what a ray meets in a plane, and the corners of facet points.
use Rattle.std.specs.Prelude.{◌≡◌, ◌<ℤ◌, ◌⊎◌}
use Rattle.nef_space.specs.Prelude.{ℕ, pos, SpacePoint, Form, form_at, normal_of, plane_through, SamePoint, toward, IsAhead, IsBetween, Vector, opposite, triple, SameDirection, plane_axis, IsAt}
use Rattle.law_geometry.specs.sphere.Maps.{Arc, Item, item_normal, OnItem, dir_of}
use Rattle.law_geometry.specs.complex.Complexes.{Vertex, Edge, Complex, Corner, HasEnds, IsCorner}

-- the form of the plane of an item: through the vertex, with the item's normal
abbrev pub item_plane : Vertex → Item → Form
item_plane v x = plane_through (item_normal x) v.point

-- y is the point of vertex k
abbrev pub IsVertexPoint : Complex → ℕ → SpacePoint → Type 0
IsVertexPoint C k y = (v : Vertex) × IsAt C.vertices k v × SamePoint v.point y

-- y lies strictly between the ends of edge k
abbrev pub IsEdgePoint : Complex → ℕ → SpacePoint → Type 0
IsEdgePoint C k y = (e : Edge) × (v : Vertex) × (w : Vertex) × IsAt C.edges k e × HasEnds C e v w × IsBetween v.point y w.point

-- y is a vertex point or an edge point
abbrev pub IsOnEdges : Complex → SpacePoint → Type 0
IsOnEdges C y = (k : ℕ) × (IsVertexPoint C k y ⊎ IsEdgePoint C k y)

-- y lies on the item x of the vertex v, off the edges, and no point of the edges lies between v and y
pub record IsFacetPoint (C : Complex) (v : Vertex) (x : Item) (y : SpacePoint) : Type 0 where
  pub off_edges : IsOnEdges C y → ⊥
  pub on_item : OnItem v.map x (toward v.point y)
  pub clear : (q : SpacePoint) → IsBetween v.point q y → IsOnEdges C q → ⊥

-- the kinds of skeleton points: at a vertex, on an edge, or in a facet beside a corner
pub data Spot : Type 0 where
  at_vertex : ℕ → Spot
  on_edge : ℕ → Spot
  in_facet : Corner → Spot

abbrev pub IsSpot : Complex → Spot → SpacePoint → Type 0
IsSpot C (at_vertex k) y = IsVertexPoint C k y
IsSpot C (on_edge k) y = IsEdgePoint C k y
IsSpot C (in_facet k) y = (v : Vertex) × (x : Item) × IsCorner C k v x × IsFacetPoint C v x y

abbrev pub IsSkeletonPoint : Complex → SpacePoint → Type 0
IsSkeletonPoint C y = (o : Spot) × IsSpot C o y

-- ---- what a ray meets in a plane
pub data PlaneMeet : Type 0 where
  meets_vertex : ℕ → PlaneMeet
  meets_edge : ℕ → PlaneMeet

-- both ends of the edge k lie on the plane h
abbrev pub LiesIn : Complex → Form → ℕ → Type 0
LiesIn C h k = (e : Edge) × (v : Vertex) × (w : Vertex) × IsAt C.edges k e × HasEnds C e v w × (form_at h v.point ≡ pos 0) × (form_at h w.point ≡ pos 0)

-- y is the vertex, or lies on the edge and the edge lies in the plane h
abbrev pub Meets : Complex → Form → PlaneMeet → SpacePoint → Type 0
Meets C h (meets_vertex k) y = IsVertexPoint C k y
Meets C h (meets_edge k) y = IsEdgePoint C k y × LiesIn C h k

-- m is the first vertex, or first edge in the plane h, that the ray from p along d meets
pub record IsFirstInPlane (C : Complex) (h : Form) (p : SpacePoint) (d : Vector) (m : PlaneMeet) : Type 0 where
  pub place : SpacePoint
  pub ahead : IsAhead p d place
  pub meets : Meets C h m place
  pub first : (q : SpacePoint) (n : PlaneMeet) → IsBetween p q place → Meets C h n q → ⊥

-- ---- corners
-- the arc leaves svertex s of its map on the side of the edge to which f points, seen from the normal n
abbrev pub IsArcOnSide : Vertex → ℕ → Vector → Vector → Arc → Type 0
IsArcOnSide v s n f a = ((a.source ≡ s) × (pos 0 <ℤ triple n (dir_of v.map.svertices s) f)) ⊎ ((a.target ≡ s) × (triple n (dir_of v.map.svertices s) f <ℤ pos 0))

-- the corner of the plane h in the direction f from the vertex or edge m
abbrev pub IsCornerAt : Complex → Form → Vector → PlaneMeet → Corner → Type 0
IsCornerAt C h f (meets_vertex i) k = (v : Vertex) × (x : Item) × (k.vertex ≡ i) × IsCorner C k v x × SameDirection (item_normal x) (normal_of h) × OnItem v.map x f
IsCornerAt C h f (meets_edge i) k = (e : Edge) × (v : Vertex) × (a : Arc) × IsAt C.edges i e × (k.vertex ≡ e.low) × IsAt C.vertices e.low v × IsAt v.map.arcs k.item a
    × SameDirection a.normal (normal_of h) × IsArcOnSide v e.low_svertex (normal_of h) f a

-- the corner that the ray from p along d names in the plane h: back from what the ray first meets
abbrev pub RayNames : Complex → Form → SpacePoint → Vector → Corner → Type 0
RayNames C h p d k = (m : PlaneMeet) × IsFirstInPlane C h p d m × IsCornerAt C h (opposite d) m k

-- k is the corner of the facet point y: the ray from y along the axis of the plane of y's facet names k
pub record HasCorner (C : Complex) (y : SpacePoint) (k : Corner) : Type 0 where
  pub beside : Corner
  pub vertex : Vertex
  pub item : Item
  pub is_beside : IsCorner C beside vertex item
  pub facet_point : IsFacetPoint C vertex item y
  pub named : RayNames C (item_plane vertex item) y (plane_axis (item_normal item)) k
