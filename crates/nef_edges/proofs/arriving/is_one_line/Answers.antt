use Rattle.nef_edges.proofs.Prelude.{rules}
use Rattle.nef_edges.proofs.Lines.{line-tied}
use Rattle.nef_edges.proofs.arriving.is_one_line.Goals as goal

pub returns : goal.returns
returns c = record {
  tied = λ t. line-tied c.args.a.now c.args.b.now (record { same_dir = c.is_same.ensures.same.0 (search (rules, c.if-not-is_same.false)); level = c.is_along.ensures.along t });
}
