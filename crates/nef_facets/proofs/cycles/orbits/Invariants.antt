use Rattle.nef_facets.proofs.Walks.{AreOrbitsTo}
use Rattle.nef_facets.proofs.cycles.orbits.Given as goal

abbrev pub invariant-loop-start : goal.invariant-loop-start
invariant-loop-start l = AreOrbitsTo l.next l.start l.orbits l.marks.items
