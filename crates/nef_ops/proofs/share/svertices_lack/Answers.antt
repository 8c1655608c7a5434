use Rattle.nef_ops.proofs.Prelude.{arith, rules, SVertex, is-at_within, SvertexLacks}
use Rattle.nef_ops.proofs.Lacking.{all-more}
use Rattle.nef_ops.proofs.share.svertices_lack.Goals as goal

pub loop-svertex-preserved : goal.loop-svertex-preserved
loop-svertex-preserved c =
    let here : SvertexLacks c.args.label c.svertex-item.result = search rules in
    let l = c.loop-svertex in
    all-more (λ (v : SVertex). SvertexLacks c.args.label v) c.args.svertices.now l.svertex-index c.svertex-item.result c.svertex-item.is here l.invariant

pub returns : goal.returns
returns c = record {
  lacks = λ _ k v h. c.loop-svertex.invariant k v (let w = is-at_within c.args.svertices.now k v h in omega (arith, c.loop-svertex-test.false)) h;
}
