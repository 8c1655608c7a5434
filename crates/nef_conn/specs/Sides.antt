-- Steps from joined points at sides back to links: the ray down from a point names the side above its end.
use Rattle.std.specs.Prelude.{◌≡◌}
use Rattle.nef_space.specs.Prelude.{Chained, FlatDim, IsEven, Joined, SpacePoint, InFrame, Set}
use Rattle.nef_space.specs.declared.label.Label.{Label}
use Rattle.nef_space.specs.declared.label.Label.TheVariants.{Out}
use Rattle.law_geometry.specs.complex.Prelude.{Complex, Shows, VertexSide, HasSideLabel, RayDown}
use Rattle.law_geometry.specs.complex.links.Links.{VolumeLink}
use Rattle.law_geometry.specs.complex.links.Components.{IsAtSide, IsUpright}
use Rattle.nef_conn.specs.Items.{AreLinkedWhereJoined}

-- sides with points that are joined are of one class of links, if up is above each item
abbrev pub JoinedSidesAreLinked : Type 0
JoinedSidesAreLinked = (s : Set) (C : Complex) (x y : VertexSide) (p q : SpacePoint) → Shows s C → IsUpright C → IsAtSide s C x p → IsAtSide s C y q → Joined s p q → Chained (VolumeLink C) x y

-- in the complex C, sides with points that are joined are of one class of links
abbrev pub AreSidesLinked : Set → Complex → Type 0
AreSidesLinked s C = (x y : VertexSide) (p q : SpacePoint) → IsAtSide s C x p → IsAtSide s C y q → Joined s p q → Chained (VolumeLink C) x y

-- from a point of the frame with three flat directions the ray down ends at a skeleton point below some side
abbrev pub RaysEnd : Type 0
RaysEnd = (s : Set) (C : Complex) (p : SpacePoint) → Shows s C → IsUpright C → InFrame p → FlatDim s p 3 → (x : VertexSide) × RayDown C p x

-- each side that isn't outside has a point that names, by the ray down, a side of its class
abbrev pub SidesName : Set → Complex → Type 0
SidesName s C = (x : VertexSide) (l : Label) → HasSideLabel C x l → (l ≡ Out → ⊥) → (q : SpacePoint) × (z : VertexSide) × IsAtSide s C x q × RayDown C q z × Chained (VolumeLink C) x z

-- from both ends of a segment of points with three flat directions, the rays down name sides of one class
abbrev pub NamesOfFreeSegments : Set → Complex → Type 0
NamesOfFreeSegments s C = (p q : SpacePoint) (x y : VertexSide) → InFrame p → IsEven s 3 p q → RayDown C p x → RayDown C q y → Chained (VolumeLink C) x y

-- if sides name their class, and both ends of each free segment name one class, sides with joined points are linked
abbrev pub SidesBySegments : Type 0
SidesBySegments = (s : Set) (C : Complex) → Shows s C → IsUpright C → SidesName s C → NamesOfFreeSegments s C → AreSidesLinked s C

-- if items with joined points are linked, sides with joined points are linked, where up is above each item
abbrev pub ConverseByItems : Type 0
ConverseByItems = (s : Set) (C : Complex) → Shows s C → IsUpright C → AreLinkedWhereJoined s C → AreSidesLinked s C

-- if items with joined points are linked in each complex, sides with joined points are linked in each complex
abbrev pub ConverseForAll : Type 0
ConverseForAll = ((s : Set) (C : Complex) → Shows s C → AreLinkedWhereJoined s C) → JoinedSidesAreLinked
