-- The side that each point off the skeleton reaches, and the item that each point in a facet reaches.
use Rattle.nef_space.specs.Prelude.{SpacePoint, Set, FlatDim, Joined}
use Rattle.law_geometry.specs.complex.Prelude.{Complex, Corner, Shows, VertexSide, HasVolumeSide, HasCorner}
use Rattle.law_geometry.specs.complex.links.Components.{IsAtSide, IsAtItem, IsUpright}

-- each point with three flat directions is joined to a point at some side
abbrev pub PointsReachSides : Type 0
PointsReachSides = (s : Set) (C : Complex) (p : SpacePoint) → Shows s C → FlatDim s p 3 → (x : VertexSide) × (q : SpacePoint) × IsAtSide s C x q × Joined s p q

-- each point with two flat directions is joined to a point at some item
abbrev pub PointsReachItems : Type 0
PointsReachItems = (s : Set) (C : Complex) (p : SpacePoint) → Shows s C → FlatDim s p 2 → (k : Corner) × (q : SpacePoint) × IsAtItem s C k q × Joined s p q

-- a point in a facet is joined to a point at the item of the facet point's corner
abbrev pub CornersReached : Type 0
CornersReached = (s : Set) (C : Complex) (p : SpacePoint) (k : Corner) → Shows s C → HasCorner C p k → (q : SpacePoint) × IsAtItem s C k q × Joined s p q

-- a point in a volume is joined to a point at the point's volume side, if up is above each item
abbrev pub SidesReached : Type 0
SidesReached = (s : Set) (C : Complex) (p : SpacePoint) (x : VertexSide) → Shows s C → IsUpright C → HasVolumeSide C p x → (q : SpacePoint) × IsAtSide s C x q × Joined s p q
