use Rattle.nef_plan.proofs.Prelude.{refl, ◌≡◌, ◌∙◌, ap, arith, length, sym, subst, Some, slice_get_within, slice_get_read, Row, RowKind, Deferred, AreOfOneKind}
use Rattle.nef_plan.proofs.Rows.{row-copied}
use Rattle.nef_plan.proofs.planner.row_at.Goals as goal

pub returns-in_ok-copied-in-Deferred : goal.returns-in_ok-copied-in-Deferred
returns-in_ok-copied-in-Deferred c = record {
  row = λ r e.
      let bounds = c.args.bounds.now in
      let node = c.args.node in
      let row = c.in-Deferred.row in
      let copy = c.in_ok-copied-in-Deferred.field-0 in
      let same = c.in_ok-copied-in-Deferred.ensures in
      let is : copy ≡ r = cc in
      let (b, there, bound) = c.requires.bound in
      let at = slice_get_read bounds _ node c.index-bounds-node.result refl (slice_get_within bounds node b there) c.index-bounds-node.is ∙ ap Some c.in-Deferred.is in (
        subst (λ (z : Row). AreOfOneKind z.kind c.args.kind) is (subst (λ (z : RowKind). AreOfOneKind z c.args.kind) (sym same.kind) (c.if-is_like.ensures.like refl)),
        λ plan are. (
          row-copied plan row r node
              (ap (λ (z : Row). z.kind) (sym is) ∙ same.kind)
              (ap (λ (z : Row). z.others.items) (sym is) ∙ same.others)
              (ap (λ (z : Row). z.last) (sym is) ∙ same.last)
              (are.told node (Deferred row) at).1,
          let few = (are.told node (Deferred row) at).2 in let count = ap length (ap (λ (z : Row). z.others.items) (sym is) ∙ same.others) in omega (arith, few, count),
        ),
      );
}
