use Rattle.nef_spair.proofs.Prelude.{AreArcs}
use Rattle.nef_spair.proofs.along.arcs_of.Given as goal

abbrev pub invariant-loop-from : goal.invariant-loop-from
invariant-loop-from l = AreArcs l.kept l.from 0 l.arcs.items
