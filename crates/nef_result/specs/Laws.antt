-- The frame's corners are vertices of every set.
use Rattle.nef_cand.specs.Prelude.{ℕ, IsAt, IsVertex, SpacePoint, Set, point_of, ShowsSet, Vertex}
use Rattle.nef_complex.specs.declared.complex.Complex.{Complex}
use Rattle.nef_result.specs.Ends.{FrameCorner, IsFrameCornerAt}

-- at a corner of the frame no direction is flat
abbrev pub CornersAreVertices : Type 0
CornersAreVertices = (s : Set) (k : FrameCorner) (p : SpacePoint) → IsFrameCornerAt k p → IsVertex s p

-- so each complex that shows a set has a vertex at each corner
abbrev pub CornersAreShown : Type 0
CornersAreShown = (s : Set) (c : Complex) (k : FrameCorner) → ShowsSet s c → (n : ℕ) × (v : Vertex) × IsAt c.vertices n v × IsFrameCornerAt k (point_of v.point)
