use Rattle.nef_spair.proofs.Prelude.{AreArcs}
use Rattle.nef_spair.proofs.along.push_arcs.Given as goal

abbrev pub invariant-loop-number : goal.invariant-loop-number
invariant-loop-number l = AreArcs l.kept l.from l.number l.arcs.items
