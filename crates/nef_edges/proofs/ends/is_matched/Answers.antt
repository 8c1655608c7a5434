use Rattle.nef_edges.proofs.Prelude.{rules}
use Rattle.nef_edges.proofs.Checked.{matched-ends}
use Rattle.nef_edges.proofs.ends.is_matched.Goals as goal

pub returns : goal.returns
returns c = record {
  matched = λ t. matched-ends c.args.low.now c.args.high.now c.args.from.now c.args.to.now c.back.result c.back.ensures.back
      (c.is_same.ensures.same.0 (search (rules, c.if-not-is_same.false))) (c.is_normal.ensures.normal.0 (search (rules, c.if-not-is_normal.false))) (c.is_along.ensures.along t);
}
