use Rattle.nef_edges.proofs.Prelude.{rules}
use Rattle.nef_edges.proofs.Ways.{multiple-read}
use Rattle.nef_edges.proofs.along.is_multiple.Goals as goal

pub returns : goal.returns
returns c = record {
  multiple = λ t. multiple-read c.args.dir.now c.args.x c.args.y c.args.z c.x.result c.y.result c.y-2.result c.z.result c.z-2.result c.x-2.result c.requires.x_small c.requires.y_small c.requires.z_small
      c.x.ensures.x c.y.ensures.y c.y-2.ensures.y c.z.ensures.z c.z-2.ensures.z c.x-2.ensures.x
      (c.is_flat.ensures.flat (search (rules, c.if-not-is_flat.false))) (c.is_flat-2.ensures.flat (search (rules, c.if-not-is_flat-2.false))) (c.is_flat-3.ensures.flat t);
}
