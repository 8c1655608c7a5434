-- A complex that shows a set has a vertex at each corner of the frame.
use Rattle.nef_result.proofs.Prelude.{sym, subst, SamePoint, point_of, is-at_map, vertex_of}
use Rattle.law_geometry.specs.complex.Complexes.{Vertex as PlainVertex}
use Rattle.nef_result.specs.Laws.{CornersAreVertices, CornersAreShown}
use Rattle.nef_result.proofs.CornerVertices.{corner-vertex}
use Rattle.nef_result.proofs.CornerPoints.{corner_point, corner-is, corner-same}

pub corners-vertices : CornersAreVertices
corners-vertices s k p c = corner-vertex s k p c

pub corners-shown : CornersAreShown
corners-shown s c k S =
    let p = point_of (corner_point k) in
    let v = S.shows.complete p (corner-vertex s k p (corner-is k)) in
    let u = is-at_map vertex_of c.vertices v.0 v.1 v.2 in
    (v.0, u.0, u.1, corner-same k (point_of u.0.point) (subst (λ (w : PlainVertex). SamePoint w.point p) (sym u.2) v.3))
