-- What is proved of complexes that show a set: each law is one statement that a function's contract cites.
use Rattle.std.specs.Prelude.{◌≡◌, ◌⊎◌, ◌↔◌}
use Rattle.nef_space.specs.Prelude.{ℕ, pos, sign, SpacePoint, Form, form_at, normal_of, slope, SamePoint, InFrame, toward, IsBetween, Vector, IsDirection, IsNormal, IsZero, cross, dot, opposite, Set, Holds, HasLabel, Germ, Flat, FlatDim, IsVertex}
use Rattle.nef_space.specs.declared.label.Label.{Label}
use Rattle.law_geometry.specs.sphere.Prelude.{IsAt, Item, item_normal, item_pos, item_mark, item_neg, dir_of, NearLabel, by_side}
use Rattle.law_geometry.specs.complex.Complexes.{Vertex, Edge, Complex, Corner, HasEnds, IsCorner}
use Rattle.law_geometry.specs.complex.Shows.{Shows}
use Rattle.law_geometry.specs.complex.Skeleton.{IsEdgePoint, IsFacetPoint, Spot, IsSpot, IsSkeletonPoint, PlaneMeet, Meets, IsFirstInPlane, IsCornerAt, HasCorner}
use Rattle.law_geometry.specs.complex.Belongs.{SpotMark, Towards, Belongs}

-- ---- edges
-- strictly on an edge only its direction is flat; the label is the edge's mark, and germs are labels at the low svertex
abbrev pub EdgePoints : Type 0
EdgePoints = (s : Set) (C : Complex) (k : ℕ) (e : Edge) (v w : Vertex) (y : SpacePoint) → Shows s C → IsAt C.edges k e → HasEnds C e v w → IsBetween v.point y w.point
    → FlatDim s y 1 × ((d : Vector) → Flat s y d ↔ IsZero (cross (dir_of v.map.svertices e.low_svertex) d)) × HasLabel s y e.mark
    × ((d : Vector) (l : Label) → Germ s y d l ↔ NearLabel v.map (dir_of v.map.svertices e.low_svertex) d l)

-- each point with one flat direction lies strictly on an edge
abbrev pub EdgesComplete : Type 0
EdgesComplete = (s : Set) (C : Complex) (y : SpacePoint) → Shows s C → FlatDim s y 1 → (k : ℕ) × IsEdgePoint C k y

-- each svertex of a vertex is the lower or the higher end of an edge
abbrev pub SvertexHasEdge : Type 0
SvertexHasEdge = (s : Set) (C : Complex) (i j : ℕ) (v : Vertex) → Shows s C → IsAt C.vertices i v → (IsDirection (dir_of v.map.svertices j))
    → (k : ℕ) × (e : Edge) × IsAt C.edges k e × (((e.low ≡ i) × (e.low_svertex ≡ j)) ⊎ ((e.high ≡ i) × (e.high_svertex ≡ j)))

-- ---- facets
-- in a facet the directions of the plane alone are flat; label and germs are the item's mark and its sides' labels
abbrev pub FacetPoints : Type 0
FacetPoints = (s : Set) (C : Complex) (k : Corner) (v : Vertex) (x : Item) (y : SpacePoint) → Shows s C → IsCorner C k v x → IsFacetPoint C v x y
    → FlatDim s y 2 × ((d : Vector) → Flat s y d ↔ (dot (item_normal x) d ≡ pos 0)) × HasLabel s y (item_mark x)
    × ((d : Vector) → Germ s y d (by_side (item_pos x) (item_mark x) (item_neg x) (sign (dot (item_normal x) d))))

-- the point y has two flat directions: those of the plane h
abbrev pub IsFlatIn : Set → Form → SpacePoint → Type 0
IsFlatIn s h y = FlatDim s y 2 × ((d : Vector) → Flat s y d ↔ (slope h d ≡ pos 0))

-- y is a vertex, or lies on an edge in the plane h, or lies in a facet of the plane h
abbrev pub IsSkeletonIn : Set → Complex → Form → SpacePoint → Type 0
IsSkeletonIn s C h y = ((m : PlaneMeet) × Meets C h m y) ⊎ IsFlatIn s h y

-- a point with two flat directions, those of the plane h, has a corner
abbrev pub FacetsComplete : Type 0
FacetsComplete = (s : Set) (C : Complex) (h : Form) (y : SpacePoint) → Shows s C → IsNormal (normal_of h) → form_at h y ≡ pos 0 → IsFlatIn s h y → (k : Corner) × HasCorner C y k

-- each ray in the plane of a facet point first meets a vertex or an edge with an item back toward the point
abbrev pub FacetBehind : Type 0
FacetBehind = (s : Set) (C : Complex) (h : Form) (y : SpacePoint) (d : Vector) → Shows s C → IsNormal (normal_of h) → form_at h y ≡ pos 0 → IsDirection d → slope h d ≡ pos 0 → IsFlatIn s h y
    → (m : PlaneMeet) × IsFirstInPlane C h y d m × ((k : Corner) × IsCornerAt C h (opposite d) m k)

-- a point of the plane off its vertices and edges lies in a facet, if a ray's first meeting has an item back toward it
abbrev pub FacetFromBehind : Type 0
FacetFromBehind = (s : Set) (C : Complex) (h : Form) (y : SpacePoint) (d : Vector) (m : PlaneMeet) (k : Corner) → Shows s C → IsNormal (normal_of h) → form_at h y ≡ pos 0
    → ((n : PlaneMeet) → Meets C h n y → ⊥) → IsDirection d → slope h d ≡ pos 0 → IsFirstInPlane C h y d m → IsCornerAt C h (opposite d) m k
    → IsFlatIn s h y × ((v : Vertex) (x : Item) → IsCorner C k v x → HasLabel s y (item_mark x) × ((e : Vector) → Germ s y e (by_side (item_pos x) (item_mark x) (item_neg x) (sign (dot (item_normal x) e)))))

-- ---- the skeleton
-- a point is a skeleton point exactly where not all directions are flat
abbrev pub SkeletonPoints : Type 0
SkeletonPoints = (s : Set) (C : Complex) (y : SpacePoint) → Shows s C → (IsSkeletonPoint C y → FlatDim s y 3 → ⊥) × (FlatDim s y 3 ⊎ IsSkeletonPoint C y)

-- the mark of a skeleton point is its label, and its label toward a direction is its germ
abbrev pub SpotLabels : Type 0
SpotLabels = (s : Set) (C : Complex) (o : Spot) (y : SpacePoint) → Shows s C → IsSpot C o y
    → ((l : Label) → SpotMark C o l → HasLabel s y l) × ((d : Vector) (l : Label) → IsDirection d → Towards C o d l → Germ s y d l)

-- between p off the skeleton and y, with no skeleton point between, the label of p is the germ of y toward p
abbrev pub FreeWay : Type 0
FreeWay = (s : Set) (C : Complex) (p y : SpacePoint) (l : Label) → Shows s C → (IsSkeletonPoint C p → ⊥) → (SamePoint p y → ⊥)
    → ((q : SpacePoint) → IsBetween p q y → IsSkeletonPoint C q → ⊥) → HasLabel s p l → Germ s y (toward y p) l

-- a point belongs to a complex that shows a set exactly where the set holds
abbrev pub BelongsHolds : Type 0
BelongsHolds = (s : Set) (C : Complex) (p : SpacePoint) → Shows s C → InFrame p → Belongs C p ↔ Holds s p

-- ---- candidates
-- both ends of the edge lie on the plane h
abbrev pub HoldsEdge : Form → Vertex → Vertex → Type 0
HoldsEdge h v w = (form_at h v.point ≡ pos 0) × (form_at h w.point ≡ pos 0)

-- y lies strictly on an edge of C, and on a carrier of D that doesn't hold this edge
abbrev pub IsCut : Complex → Complex → SpacePoint → Type 0
IsCut C D y = (k : ℕ) × (e : Edge) × (v : Vertex) × (w : Vertex) × (i : ℕ) × (h : Form) × IsAt C.edges k e × HasEnds C e v w × IsBetween v.point y w.point
    × IsAt D.carriers i h × (form_at h y ≡ pos 0) × (HoldsEdge h v w → ⊥)

-- y is a vertex of the intersection, the union, the difference or the symmetric difference of s and t
abbrev pub IsVertexOfBoth : Set → Set → SpacePoint → Type 0
IsVertexOfBoth s t y = IsVertex (Set.both s t) y ⊎ IsVertex (Set.either s t) y ⊎ IsVertex (Set.less s t) y ⊎ IsVertex (Set.one_of s t) y

-- y is a cut of an edge of C by a carrier of D, and a vertex of D, an edge or a facet in this carrier passes through y
abbrev pub IsNearCut : Complex → Set → Complex → SpacePoint → Type 0
IsNearCut C t D y = (k : ℕ) × (e : Edge) × (v : Vertex) × (w : Vertex) × (i : ℕ) × (h : Form) × IsAt C.edges k e × HasEnds C e v w × IsBetween v.point y w.point
    × IsAt D.carriers i h × (form_at h y ≡ pos 0) × (HoldsEdge h v w → ⊥) × IsSkeletonIn t D h y

-- a vertex of a result is one of s or of t, or a cut of an edge of one by a carrier of the other that is used there
abbrev pub CandidatesSuffice : Type 0
CandidatesSuffice = (s t : Set) (C D : Complex) (y : SpacePoint) → Shows s C → Shows t D → IsVertexOfBoth s t y → IsVertex s y ⊎ IsVertex t y ⊎ IsNearCut C t D y ⊎ IsNearCut D s C y
