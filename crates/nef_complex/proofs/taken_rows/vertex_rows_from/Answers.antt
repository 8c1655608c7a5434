use Rattle.nef_complex.proofs.Prelude.{List, IfSome, subst, Plane, IsSourceAmong}
use Rattle.nef_complex.proofs.taken_rows.vertex_rows_from.Goals as goal

pub rows_by-requires : goal.rows_by-requires
rows_by-requires c = record {
  first = subst (λ (hs : List Plane). IfSome c.in_ok-one.one.source (IsSourceAmong hs)) c.planes.ensures.planes c.in_ok-one.ensures.source;
  second = subst (λ (hs : List Plane). IfSome c.in_ok-other.other.source (IsSourceAmong hs)) c.planes-2.ensures.planes c.in_ok-other.ensures.source;
}
