use Rattle.nef_locate.proofs.Prelude.{point_of, hit_point, same-point_sym, is-at_within, point-same, closed-same, complex_of, span-same}
use Rattle.nef_locate.proofs.CarrierPoints.{skeleton-carrier}
use Rattle.nef_locate.proofs.EdgeOrder.{parts-all}
use Rattle.nef_locate.proofs.Located.{same-found, vertices-sorted, vertex-at}
use Rattle.nef_locate.proofs.point.on_skeleton.Goals as goal

pub find_vertex-requires : goal.find_vertex-requires
find_vertex-requires c = let S = c.requires.shows in record { sorted = vertices-sorted S.0 c.args.c.now S.1 }

pub returns-in-Ok-clause-at : goal.returns-in-Ok-clause-at
returns-in-Ok-clause-at c = vertex-at (complex_of c.args.c.now) (point_of c.args.p.now) c.in-Ok.number c.in-Ok.ensures.found

pub invariant_of-probe : goal.invariant_of-probe
invariant_of-probe c =
    let p = point_of c.args.p.now in let q = hit_point c.hit_at.result in
    record {
      framed = closed-same p q (same-point_sym q p c.hit_at.ensures.same) c.requires.framed;
      numbers = c.hit_at.ensures.upright_width;
      inside = span-same c.of.result p q (same-point_sym q p c.hit_at.ensures.same) c.of.ensures.point;
    }

pub search_carriers-requires-clause-right : goal.search_carriers-requires-clause-right
search_carriers-requires-clause-right c = (parts-all c.args.c.now c.args.p.now (hit_point c.hit_at.result) c.in-Err.before c.hit_at.ensures.same c.in-Err.ensures.before c.in-Err.ensures.after, tt)

pub returns-in-Err-clause-at : goal.returns-in-Err-clause-at
returns-in-Err-clause-at c = same-found (complex_of c.args.c.now) (hit_point c.hit_at.result) (point_of c.args.p.now) c.hit_at.ensures.same c.search_carriers.result c.search_carriers.ensures.right.1

pub returns-in-Err-clause-none : goal.returns-in-Err-clause-none
returns-in-Err-clause-none c = λ e o.
    let S = c.requires.shows in let C = c.args.c.now in let p = point_of c.args.p.now in let q = hit_point c.hit_at.result in
    let k = skeleton-carrier S.0 C S.1 q (point-same (complex_of C) p q (same-point_sym q p c.hit_at.ensures.same) o) in
    c.search_carriers.ensures.passed k.number (is-at_within C.carriers k.number k.plane k.listed) e k.plane k.listed S.0 S.1 k.on k.found
