use Rattle.tests_maps.proofs.Prelude.{IsLeastMap}
use Rattle.tests_maps.proofs.made.made.Given as goal

abbrev pub invariant-loop-step : goal.invariant-loop-step
invariant-loop-step l = record { least : IsLeastMap l.map }
