use Rattle.nef_ops.proofs.Prelude.{subst, IsNameAt}
use Rattle.nef_ops.proofs.local.told_places.Goals as goal

pub returns-in-Vertex : goal.returns-in-Vertex
returns-in-Vertex c = record {
  place = λ C D y a. let v = subst (IsNameAt C D y) c.in-Vertex.is a in (v.0, v.1);
  at = λ C D y a. subst (IsNameAt C D y) c.in-Vertex.is a;
  across = λ C D y a. tt;
}

pub returns-in-Edge : goal.returns-in-Edge
returns-in-Edge c = record {
  place = λ C D y a. let e = subst (IsNameAt C D y) c.in-Edge.is a in (e.0, e.3);
  at = λ C D y a. subst (IsNameAt C D y) c.in-Edge.is a;
  across = λ C D y a. tt;
}

pub returns-in-Cut : goal.returns-in-Cut
returns-in-Cut c = record {
  place = λ C D y a. let e = (subst (IsNameAt C D y) c.in-Cut.is a).0 in (e.0, e.3);
  at = λ C D y a. (subst (IsNameAt C D y) c.in-Cut.is a).0;
  across = λ C D y a. let n = subst (IsNameAt C D y) c.in-Cut.is a in (n.1, n.2);
}
