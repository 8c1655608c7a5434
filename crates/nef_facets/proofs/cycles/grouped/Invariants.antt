use Rattle.nef_facets.proofs.Prelude.{◌≡◌, length, AreCycleRows}
use Rattle.nef_facets.proofs.cycles.grouped.Given as goal

abbrev pub invariant-loop-orbit : goal.invariant-loop-orbit
invariant-loop-orbit l = record { as_many : length l.cycles.items ≡ l.count; grouped : AreCycleRows l.rows l.corners l.orbits l.orbit-index l.cycles.items }
