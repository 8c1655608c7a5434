use Rattle.nef_unique.proofs.Prelude.{ap, sym, Vertex}
use Rattle.nef_unique.proofs.Decides.{point-decides}
use Rattle.nef_unique.proofs.Injective.{vertex-equal}
use Rattle.nef_unique.proofs.comparison.same_vertex.Goals as goal

pub returns-then-eq : goal.returns-then-eq
returns-then-eq c =
    let v = c.args.a.now in
    let u = c.args.b.now in
    record {
      same = (
        λ h. vertex-equal v u ((point-decides v.point u.point).0 (sym c.if-eq.ensures)) (c.same_map.ensures.same.0 h),
        λ e. c.same_map.ensures.same.1 (ap (λ (r : Vertex). r.map) e),
      );
    }
