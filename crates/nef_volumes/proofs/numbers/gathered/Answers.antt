use Rattle.nef_volumes.proofs.Prelude.{arith}
use Rattle.nef_volumes.proofs.Gathering.{gathered-all}
use Rattle.nef_volumes.proofs.numbers.gathered.Goals as goal

pub returns : goal.returns
returns c =
    record {
      gathered = gathered-all c.args.rows.now c.loop-vertex.vertex c.loop-vertex.lists.items
          (let t = c.loop-vertex-test.false in let n = c.len-count.ensures.len in let s = c.requires.some in omega arith) c.loop-vertex.invariant;
    }
