use Rattle.nef_volumes.proofs.Prelude.{AreGathered}
use Rattle.nef_volumes.proofs.numbers.add_vertex.Given as goal

abbrev pub invariant-loop-side : goal.invariant-loop-side
invariant-loop-side l = AreGathered l.rows l.vertex l.side l.lists.items
