use Rattle.nef_volumes.proofs.Prelude.{AreGathered}
use Rattle.nef_volumes.proofs.numbers.gathered.Given as goal

abbrev pub invariant-loop-vertex : goal.invariant-loop-vertex
invariant-loop-vertex l = AreGathered l.rows l.vertex 0 l.lists.items
