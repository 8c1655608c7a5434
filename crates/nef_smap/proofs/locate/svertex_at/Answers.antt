use Rattle.nef_smap.proofs.Prelude.{length, arith, ap, sym, ◌∙◌, not_true, vector_of, MapVertex, SameDirection, svertex_of}
use Rattle.nef_smap.proofs.Found.{read, next-none, all-none}
use Rattle.nef_smap.proofs.locate.svertex_at.Goals as goal
use Rattle.nef_space.proofs.Lists.{map-is_at}

pub returns-then-is_same : goal.returns-then-is_same
returns-then-is_same c = record {
  svertex = (
    svertex_of c.svertex-item.result,
    map-is_at svertex_of c.args.map.now.svertices c.loop-number.number c.svertex-item.result (read c.args.map.now.svertices c.as_slice-svertex-items.result.now c.loop-number.number c.svertex-item.result c.as_slice-svertex-items.ensures.all c.loop-number-test.true c.svertex-item.is),
    c.is_same.ensures.direction.0 c.if-is_same.true,
  );
}

pub loop-number-preserved : goal.loop-number-preserved
loop-number-preserved c = next-none svertex_of c.args.map.now.svertices (λ (v : MapVertex). SameDirection v.dir (vector_of c.args.d.now)) c.loop-number.number c.svertex-item.result (read c.args.map.now.svertices c.as_slice-svertex-items.result.now c.loop-number.number c.svertex-item.result c.as_slice-svertex-items.ensures.all c.loop-number-test.true c.svertex-item.is) c.loop-number.invariant
    (λ s. not_true (sym c.if-is_same.false ∙ c.is_same.ensures.direction.1 s))

pub returns : goal.returns
returns c = record {
  svertex = λ k (v, a, s). all-none svertex_of c.args.map.now.svertices (λ (v : MapVertex). SameDirection v.dir (vector_of c.args.d.now)) c.loop-number.number
      (let e = ap length c.as_slice-svertex-items.ensures.all in let f = c.loop-number-test.false in omega arith) c.loop-number.invariant k v a s;
}
