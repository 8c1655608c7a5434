use Rattle.nef_result.proofs.Prelude.{AreFilledTo, AreLeft}
use Rattle.nef_result.proofs.filling.fill_all.Given as goal

abbrev pub invariant-loop-number : goal.invariant-loop-number
invariant-loop-number l = record {
  filled : AreFilledTo l.initial.first.items l.initial.second.items l.initial.vertices.items l.sources l.number l.vertices.items;
  left : AreLeft l.initial.vertices.items l.number l.initial.first.items l.first.items;
  other : AreLeft l.initial.vertices.items l.number l.initial.second.items l.second.items;
}
