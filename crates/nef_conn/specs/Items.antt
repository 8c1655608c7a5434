-- Steps from joined points at items back to links: arcs along edges, and points whose rays inward name linked corners.
use Rattle.std.specs.Prelude.{◌≡◌, ◌<ℤ◌, ◌≤ℤ◌, ◌⊎◌, ◌↔◌}
use Rattle.nef_space.specs.Prelude.{ℕ, pos, sign, Chained, FlatDim, IsVertex, IsEven, Joined, SpacePoint, Form, form_at, normal_of, plane_through, toward, SamePoint, IsBetween, Set, Vector, opposite, cross, triple, IsNormal, SameDirection, plane_dir, IsAt}
use Rattle.law_geometry.specs.sphere.Maps.{Arc, arc_item, Item, item_normal}
use Rattle.law_geometry.specs.complex.Prelude.{Vertex, Edge, Complex, Corner, IsCorner, Shows}
use Rattle.law_geometry.specs.complex.Laws.{IsFlatIn}
use Rattle.law_geometry.specs.complex.Skeleton.{item_plane, RayNames}
use Rattle.law_geometry.specs.complex.links.Links.{LinkAlong, FacetLink}
use Rattle.law_geometry.specs.complex.links.Components.{IsAtItem}

-- the arc begins or ends at the svertex s
abbrev pub EndsAt : Arc → ℕ → Type 0
EndsAt a s = (a.source ≡ s) ⊎ (a.target ≡ s)

-- an arc at one end of an edge is linked along the edge with an arc at the other end
abbrev pub ArcsGoOn : Type 0
ArcsGoOn = (s : Set) (C : Complex) (n : ℕ) (e : Edge) (j : Corner) (v : Vertex) (a : Arc) → Shows s C → IsAt C.edges n e → IsCorner C j v (arc_item a)
    → (j.vertex ≡ e.low → EndsAt a e.low_svertex → (k : Corner) × LinkAlong C j k) × (j.vertex ≡ e.high → EndsAt a e.high_svertex → (k : Corner) × LinkAlong C k j)

-- the direction inward from an item in its plane, which the link across a facet takes
abbrev pub way_inward : Item → Vector
way_inward x = opposite (plane_dir (item_normal x))

-- q lies in the facet beside item j, is joined with all points at this item, and names corner k by the ray inward
pub record NamesFor (s : Set) (C : Complex) (j : Corner) (v : Vertex) (x : Item) (q : SpacePoint) (k : Corner) : Type 0 where
  pub on_plane : form_at (item_plane v x) q ≡ pos 0
  pub flat : IsFlatIn s (item_plane v x) q
  pub joined : (p : SpacePoint) → IsAtItem s C j p → Joined s p q
  pub named : RayNames C (item_plane v x) q (way_inward x) k

-- the facet beside each item has a point that names a corner of the item's class by the ray inward
abbrev pub ItemsName : Type 0
ItemsName = (s : Set) (C : Complex) (j : Corner) (v : Vertex) (x : Item) → Shows s C → IsCorner C j v x
    → (q : SpacePoint) × (k : Corner) × NamesFor s C j v x q k × Chained (FacetLink C) j k

-- points along a ray within a facet name the same corners
abbrev pub NamesAlong : Type 0
NamesAlong = (s : Set) (C : Complex) (h : Form) (y z : SpacePoint) (d : Vector) (k : Corner) → Shows s C → SameDirection (toward y z) d → IsEven s 2 y z → RayNames C h y d k ↔ RayNames C h z d k

-- items with points that are joined are of one class of links
abbrev pub AreLinkedWhereJoined : Set → Complex → Type 0
AreLinkedWhereJoined s C = (j k : Corner) (p q : SpacePoint) → IsAtItem s C j p → IsAtItem s C k q → Joined s p q → Chained (FacetLink C) j k

-- in a complex that shows the set, items with points that are joined are of one class of links
abbrev pub JoinedItemsAreLinked : Type 0
JoinedItemsAreLinked = (s : Set) (C : Complex) → Shows s C → AreLinkedWhereJoined s C

-- from both ends of a segment in a facet of the plane h, the rays inward name corners of one class
abbrev pub NamesOfSegments : Set → Complex → Type 0
NamesOfSegments s C = (h : Form) (d : Vector) (y z : SpacePoint) (k l : Corner) → IsNormal (normal_of h) → form_at h y ≡ pos 0 → IsFlatIn s h y → SameDirection (opposite (plane_dir (normal_of h))) d → IsEven s 2 y z
    → RayNames C h y d k → RayNames C h z d l → Chained (FacetLink C) k l

-- if both ends of each segment in a facet name corners of one class, items with joined points are linked
abbrev pub ItemsBySegments : Type 0
ItemsBySegments = (s : Set) (C : Complex) → Shows s C → NamesOfSegments s C → AreLinkedWhereJoined s C

-- the form that is nought on the line through p along d, in the plane of the normal n, and of one sign on each side
abbrev pub line_form : Vector → Vector → SpacePoint → Form
line_form n d p = plane_through (cross n d) p

-- y and z lie strictly on one side of each line along d through a vertex of the plane, unless y lies on this line
abbrev pub HasClearStrip : Complex → Form → Vector → SpacePoint → SpacePoint → Type 0
HasClearStrip C h d y z = (i : ℕ) (u : Vertex) → IsAt C.vertices i u → form_at h u.point ≡ pos 0 → (form_at (line_form (normal_of h) d u.point) y ≡ pos 0 → ⊥)
    → sign (form_at (line_form (normal_of h) d u.point) z) ≡ sign (form_at (line_form (normal_of h) d u.point) y)

-- both ends of each segment in a facet with a clear strip name corners of one class
abbrev pub NamesOfSteps : Set → Complex → Type 0
NamesOfSteps s C = (h : Form) (d : Vector) (y z : SpacePoint) (k l : Corner) → IsNormal (normal_of h) → form_at h y ≡ pos 0 → IsFlatIn s h y → SameDirection (opposite (plane_dir (normal_of h))) d → IsEven s 2 y z → HasClearStrip C h d y z
    → RayNames C h y d k → RayNames C h z d l → Chained (FacetLink C) k l

-- if both ends of each segment with a clear strip name corners of one class, items with joined points are linked
abbrev pub ConverseBySteps : Type 0
ConverseBySteps = (s : Set) (C : Complex) → Shows s C → NamesOfSteps s C → AreLinkedWhereJoined s C

-- ---- triangles
-- r lies in the triangle a, b, c, counterclockwise about n, but on the line of b and c only strictly between the two
abbrev pub IsInTriangle : Vector → SpacePoint → SpacePoint → SpacePoint → SpacePoint → Type 0
IsInTriangle n a b c r = (pos 0 ≤ℤ triple n (toward a b) (toward a r)) × (triple n (toward a c) (toward a r) ≤ℤ pos 0) × ((pos 0 <ℤ triple n (toward b c) (toward b r)) ⊎ IsBetween b r c)

-- all points strictly between a and c lie in a facet, or all lie on an edge
abbrev pub LiesAlong : Set → SpacePoint → SpacePoint → Type 0
LiesAlong s a c = ((r : SpacePoint) → IsBetween a r c → FlatDim s r 2) ⊎ ((r : SpacePoint) → IsBetween a r c → FlatDim s r 1)

-- if one side of a triangle lies in a facet, another in the facet or on an edge, no edge leads from the third side to
-- the corner of these two, and no other vertex lies in the triangle, the third side lies in the facet
abbrev pub ThirdSides : Type 0
ThirdSides = (s : Set) (h : Form) (a b c : SpacePoint) → IsNormal (normal_of h) → form_at h a ≡ pos 0 → form_at h b ≡ pos 0 → form_at h c ≡ pos 0
    → pos 0 <ℤ triple (normal_of h) (toward a b) (toward a c) → IsFlatIn s h b → ((r : SpacePoint) → IsBetween a r b → FlatDim s r 2) → LiesAlong s a c
    → ((t : SpacePoint) → IsBetween b t c → ((r : SpacePoint) → IsBetween t r a → FlatDim s r 1) → ⊥)
    → ((r : SpacePoint) → IsVertex s r → form_at h r ≡ pos 0 → IsInTriangle (normal_of h) a b c r → (SamePoint a r → ⊥) → ⊥) → (r : SpacePoint) → IsBetween b r c → FlatDim s r 2
