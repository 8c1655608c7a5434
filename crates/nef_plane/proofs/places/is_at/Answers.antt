use Rattle.nef_plane.proofs.Prelude.{◌↔◌, IsTrue, sym, subst, hit_point, complex_of, PlaneMeet, IsMeetPoint}
use Rattle.nef_plane.proofs.places.is_at.Goals as goal

pub returns-in-AtEdge : goal.returns-in-AtEdge
returns-in-AtEdge c = record { at = subst (λ (m : PlaneMeet). IsTrue c.is_on_edge.result ↔ IsMeetPoint (complex_of c.args.c.now) m (hit_point c.args.q.now)) (sym c.in-AtEdge.is) c.is_on_edge.ensures.on }
