use Rattle.nef_smap.proofs.FirstSoFar.{FirstSoFar}
use Rattle.nef_smap.proofs.meets.first_met.Given as goal

abbrev pub invariant-loop-number : goal.invariant-loop-number
invariant-loop-number l = FirstSoFar l.map l.way l.number l.first l.first_values
