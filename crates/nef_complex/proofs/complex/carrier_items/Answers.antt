use Rattle.nef_complex.proofs.Prelude.{◌<◌, length, sym, subst, IsAt, form_of, Plane, IndexedLists, AreNumbersWith, IsPointOn, IsEdgeIn, LiesOn, EdgeLiesIn, ArePeaks, points_of}
use Rattle.nef_index.proofs.Numbered.{numbers-same}
use Rattle.nef_complex.proofs.Pointed.{on-point, in-points}
use Rattle.nef_complex.proofs.complex.carrier_items.Goals as goal

pub carrier_edges-requires : goal.carrier_edges-requires
carrier_edges-requires c = record { within = subst (λ (x : IndexedLists). c.args.number < length x.carriers) (sym c.requires.indexed.is) c.requires.within }

pub carrier_points-requires : goal.carrier_points-requires
carrier_points-requires c = record { within = subst (λ (x : IndexedLists). c.args.number < length x.carriers) (sym c.requires.indexed.is) c.requires.within }

pub returns-clause-edges : goal.returns-clause-edges
returns-clause-edges c h a =
    let C = c.args.c.now in let k = c.args.number in let ns = c.carrier_edges.result.0.now in
    let N = subst (λ (x : IndexedLists). (g : Plane) → IsAt x.carriers k g → AreNumbersWith (IsEdgeIn x.points x.edges (form_of g)) ns) c.requires.indexed.is c.carrier_edges.ensures.edges in
    numbers-same (IsEdgeIn (points_of C.vertices) C.edges (form_of h)) (EdgeLiesIn C.vertices C.edges (form_of h)) ns (in-points C.vertices (form_of h) C.edges) (N h a)

pub returns-clause-vertices : goal.returns-clause-vertices
returns-clause-vertices c h a =
    let vs = c.args.c.now.vertices in let k = c.args.number in let ns = c.carrier_points.result.now in
    let N = subst (λ (x : IndexedLists). (g : Plane) → IsAt x.carriers k g → AreNumbersWith (IsPointOn x.points (form_of g)) ns) c.requires.indexed.is c.carrier_points.ensures.points in
    numbers-same (IsPointOn (points_of vs) (form_of h)) (LiesOn vs (form_of h)) ns (on-point vs (form_of h)) (N h a)

pub returns-clause-peaks : goal.returns-clause-peaks
returns-clause-peaks c = subst (λ (x : IndexedLists). ArePeaks x.edges c.carrier_edges.result.0.now c.carrier_edges.result.1.now) c.requires.indexed.is c.carrier_edges.ensures.peaks
