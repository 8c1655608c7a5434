use Rattle.tests_places.proofs.Prelude.{Set, ShowsSet}
use Rattle.tests_places.proofs.sets.Maker.intersection.Given as goal

abbrev pub invariant-loop-half : goal.invariant-loop-half
invariant-loop-half g l = (s : Set) × ShowsSet s l.complex
