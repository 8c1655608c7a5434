use Rattle.tests_places.proofs.Prelude.{Set, ShowsSet}
use Rattle.tests_places.proofs.sets.Maker.made.Given as goal

abbrev pub invariant-loop-step : goal.invariant-loop-step
invariant-loop-step g l = (s : Set) × ShowsSet s l.complex
