use Rattle.nef_complex.proofs.Prelude.{ℕ, ◌+◌, List, Option, IfSome, length, arith, refl, sym, subst, slice_get_read, point_of, Vertex, AreHolders, IsSourceAmong}
use Rattle.nef_complex.specs.declared.taken_rows.CarrierSource.{CarrierSource}
use Rattle.nef_index.proofs.Numbered.{AreValuesTo, values-none, values-more}
use Rattle.nef_complex.proofs.taken_rows.rows_by.Goals as goal

pub loop-vertex-init : goal.loop-vertex-init
loop-vertex-init c =
    let P : Vertex → List ℕ → Type 0 = λ v ns. AreHolders c.args.carriers.now (point_of v.point) (point_of v.point) ns in
    record {
      first = c.requires.first;
      second = c.requires.second;
      rows = subst (AreValuesTo P c.args.vertices.now 0) (sym c.in_ok-rows.ensures.empty) (values-none P c.args.vertices.now);
    }

pub loop-vertex-preserved : goal.loop-vertex-preserved
loop-vertex-preserved c =
    let vs = c.args.vertices.now in
    let hs = c.args.carriers.now in
    let n = c.loop-vertex.vertex-index in
    let v = c.vertex-item.result in
    let P : Vertex → List ℕ → Type 0 = λ v ns. AreHolders hs (point_of v.point) (point_of v.point) ns in
    let I = c.loop-vertex.invariant in
    let added = c.in_ok-push_row_at.ensures.added in
    record {
      first = subst (λ (o : Option CarrierSource). IfSome o (IsSourceAmong hs)) (sym c.in_ok-push_row_at.ensures.first) I.first;
      second = subst (λ (o : Option CarrierSource). IfSome o (IsSourceAmong hs)) (sym c.in_ok-push_row_at.ensures.second) I.second;
      rows = subst (AreValuesTo P vs (n + 1)) (sym added.2)
          (values-more P vs n c.loop-vertex.rows v added.0 (slice_get_read vs (length vs) n v refl c.loop-vertex-test.true c.vertex-item.is) added.1 I.rows);
    }

pub returns : goal.returns
returns c = let I = c.loop-vertex.invariant.rows in
    record {
      rows = record {
        as_many = let f = c.loop-vertex-test.false in let g = c.loop-vertex.auto in let e = I.as_many in omega arith;
        each = I.each;
      };
    }
