-- What an index says of carriers, points and edges.
use Rattle.std.specs.Prelude.{◌≡◌, ◌<◌}
use Rattle.nef_space.specs.Prelude.{ℕ, pos, List, length, IsAt, Form, form_at}
use Rattle.nef_geo.specs.Shapes.{point_of, form_of}
use Rattle.nef_geo.specs.declared.plane.Plane.{Plane}
use Rattle.nef_geo.specs.declared.point.Point.{Point}
use Rattle.nef_index.specs.declared.skeleton.Edge.{Edge}
use Rattle.nef_index.specs.declared.spans.Span.{Span}
use Rattle.nef_index.specs.declared.groups.Cluster.{Cluster}
use Rattle.nef_index.specs.declared.groups.Group.{Group}
use Rattle.nef_index.specs.declared.index.Index.TheInside.{Inside}
use Rattle.nef_index.specs.Numbers.{AreNumbersWith}
use Rattle.nef_index.specs.Skeleton.{IndexedLists, IsPointOn, IsEdgeIn, HaveEnds}
use Rattle.nef_index.specs.Carriers.{AreHolders}
use Rattle.nef_index.specs.Spans.{IsInSpan}
use Rattle.nef_index.specs.Groups.{StandsIn, IsInGroup, IsInCluster}
use Rattle.nef_index.specs.Peaks.{HavePeaks}

-- for each point the table has the numbers of the carriers that hold the point
pub record ArePointHolders (hs : List Plane) (ps : List Point) (rows : List (List ℕ)) : Type 0 where
  pub as_many : length rows ≡ length ps
  pub each : (k : ℕ) (p : Point) (ns : List ℕ) → IsAt ps k p → IsAt rows k ns → AreHolders hs (point_of p) (point_of p) ns

-- the list has the numbers of the carriers that hold both ends of the edge, in increasing order
abbrev pub AreEndHolders : List Plane → List Point → Edge → List ℕ → Type 0
AreEndHolders hs ps e ns = (p q : Point) → IsAt ps e.low p → IsAt ps e.high q → AreHolders hs (point_of p) (point_of q) ns

-- for each edge there are the numbers of the carriers that hold both of its ends
pub record AreEdgeHolders (hs : List Plane) (ps : List Point) (es : List Edge) (rows : List (List ℕ)) : Type 0 where
  pub as_many : length rows ≡ length es
  pub each : (k : ℕ) (e : Edge) (ns : List ℕ) → IsAt es k e → IsAt rows k ns → AreEndHolders hs ps e ns

-- for each carrier the table has the numbers of the points on the carrier
pub record AreCarrierPoints (hs : List Plane) (ps : List Point) (rows : List (List ℕ)) : Type 0 where
  pub as_many : length rows ≡ length hs
  pub each : (k : ℕ) (h : Plane) (ns : List ℕ) → IsAt hs k h → IsAt rows k ns → AreNumbersWith (IsPointOn ps (form_of h)) ns

-- for each carrier the table has the numbers of the edges in the carrier
pub record AreCarrierEdges (hs : List Plane) (ps : List Point) (es : List Edge) (rows : List (List ℕ)) : Type 0 where
  pub as_many : length rows ≡ length hs
  pub each : (k : ℕ) (h : Plane) (ns : List ℕ) → IsAt hs k h → IsAt rows k ns → AreNumbersWith (IsEdgeIn ps es (form_of h)) ns

-- for each point there is a span that holds this point
pub record ArePointSpans (ps : List Point) (spans : List Span) : Type 0 where
  pub as_many : length spans ≡ length ps
  pub each : (k : ℕ) (p : Point) (s : Span) → IsAt ps k p → IsAt spans k s → IsInSpan s (point_of p)

-- the points with the first n of these numbers lie in the span
abbrev pub AreInSpan : List Point → List ℕ → ℕ → Span → Type 0
AreInSpan ps ns n s = (i k : ℕ) (p : Point) → i < n → IsAt ns i k → IsAt ps k p → IsInSpan s (point_of p)

-- the span holds the points on the plane
abbrev pub HoldsPointsOn : List Point → Form → Span → Type 0
HoldsPointsOn ps h s = (k : ℕ) (p : Point) → IsAt ps k p → form_at h (point_of p) ≡ pos 0 → IsInSpan s (point_of p)

-- for each carrier the list has a span of the points on the carrier
pub record AreCarrierSpans (hs : List Plane) (ps : List Point) (spans : List Span) : Type 0 where
  pub as_many : length spans ≡ length hs
  pub each : (k : ℕ) (h : Plane) (s : Span) → IsAt hs k h → IsAt spans k s → HoldsPointsOn ps (form_of h) s

-- the numbers name carriers, and the span holds the points on each of these carriers
pub record AreSpanned (hs : List Plane) (ps : List Point) (has : ℕ → Type 0) (s : Span) : Type 0 where
  pub within : (k : ℕ) → has k → k < length hs
  pub each : (k : ℕ) (h : Plane) → has k → IsAt hs k h → HoldsPointsOn ps (form_of h) s

-- each carrier stands in some group of some cluster; spans of groups and clusters hold the points on their carriers
pub record AreClusters (hs : List Plane) (ps : List Point) (clusters : List Cluster) : Type 0 where
  pub each : (i : ℕ) (q : Cluster) → IsAt clusters i q → AreSpanned hs ps (IsInCluster q) q.span
  pub groups : (i j : ℕ) (q : Cluster) (g : Group) → IsAt clusters i q → IsAt q.groups j g → AreSpanned hs ps (IsInGroup g) g.span
  pub all : (k : ℕ) → k < length hs → StandsIn IsInCluster clusters k

-- of what an index of the skeleton is made: how many carriers and which edges it has, the carriers that hold each point,
-- and a span of each point
pub record AreGiven (s : IndexedLists) (n : ℕ) (es : List Edge) (at_point : List (List ℕ)) (points : List Span) : Type 0 where
  pub count : length s.carriers ≡ n
  pub edges : s.edges ≡ es
  pub ends : HaveEnds s.points s.edges
  pub rows : ArePointHolders s.carriers s.points at_point
  pub spans : ArePointSpans s.points points

-- the index has the carriers that hold each point and each edge, what each carrier holds, all spans, the clusters of
-- carriers, and the peaks of the rows of edges
pub record IsIndex (x : Inside) : Type 0 where
  pub at_point : ArePointHolders x.told.skeleton.carriers x.told.skeleton.points x.at_point
  pub at_edge : AreEdgeHolders x.told.skeleton.carriers x.told.skeleton.points x.told.skeleton.edges x.at_edge
  pub on_carrier : AreCarrierPoints x.told.skeleton.carriers x.told.skeleton.points x.on_carrier
  pub in_carrier : AreCarrierEdges x.told.skeleton.carriers x.told.skeleton.points x.told.skeleton.edges x.in_carrier
  pub points : ArePointSpans x.told.skeleton.points x.points
  pub carriers : AreCarrierSpans x.told.skeleton.carriers x.told.skeleton.points x.carriers
  pub clusters : AreClusters x.told.skeleton.carriers x.told.skeleton.points x.clusters
  pub peaks : HavePeaks x.told.skeleton.edges x.in_carrier x.peaks
