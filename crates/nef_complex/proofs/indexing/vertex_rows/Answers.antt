use Rattle.nef_complex.proofs.Prelude.{ℕ, ◌+◌, List, length, arith, refl, sym, subst, slice_get_read, point_of, Vertex, AreHolders}
use Rattle.nef_index.proofs.Numbered.{AreValuesTo, values-none, values-more}
use Rattle.nef_complex.proofs.indexing.vertex_rows.Goals as goal

pub loop-vertex-init : goal.loop-vertex-init
loop-vertex-init c =
    let P : Vertex → List ℕ → Type 0 = λ v ns. AreHolders c.args.carriers.now (point_of v.point) (point_of v.point) ns in
    subst (AreValuesTo P c.args.vertices.now 0) (sym c.in_ok-rows.ensures.empty) (values-none P c.args.vertices.now)

pub loop-vertex-preserved : goal.loop-vertex-preserved
loop-vertex-preserved c =
    let vs = c.args.vertices.now in
    let n = c.loop-vertex.vertex-index in
    let v = c.vertex-item.result in
    let P : Vertex → List ℕ → Type 0 = λ v ns. AreHolders c.args.carriers.now (point_of v.point) (point_of v.point) ns in
    subst (AreValuesTo P vs (n + 1)) (sym c.in_ok-push.ensures.ok)
    (values-more P vs n c.loop-vertex.rows v c.as_slice.result.now (slice_get_read vs (length vs) n v refl c.loop-vertex-test.true c.vertex-item.is)
    (subst (P v) (sym c.as_slice.ensures.value) c.in_ok-holders.ensures.holders) c.loop-vertex.invariant)

pub returns : goal.returns
returns c = record {
  rows = record {
    as_many = let f = c.loop-vertex-test.false in let g = c.loop-vertex.auto in let e = c.loop-vertex.invariant.as_many in omega arith;
    each = c.loop-vertex.invariant.each;
  };
}
