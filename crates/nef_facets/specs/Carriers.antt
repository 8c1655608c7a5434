-- The carriers in which items lie.
use Rattle.std.specs.Prelude.{◌≡◌}
use Rattle.nef_complex.specs.Prelude.{pos, SpacePoint, form_at, normal_of, Vector, SameDirection, form_of, Plane, Item, item_normal}
use Rattle.law_geometry.specs.complex.Complexes.{Vertex, Complex, Corner, IsCorner}

-- the complex has an item at the corner
abbrev pub HasItem : Complex → Corner → Type 0
HasItem C k = (v : Vertex) × (x : Item) × IsCorner C k v x

-- the plane holds the point p and has the normal n
abbrev pub IsPlaneThrough : Plane → SpacePoint → Vector → Type 0
IsPlaneThrough h p n = (form_at (form_of h) p ≡ pos 0) × SameDirection (normal_of (form_of h)) n

-- the plane holds the corner's vertex and has the item's normal
abbrev pub IsPlaneAt : Complex → Plane → Corner → Type 0
IsPlaneAt C h k = (v : Vertex) (x : Item) → IsCorner C k v x → IsPlaneThrough h v.point (item_normal x)
