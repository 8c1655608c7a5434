use Rattle.nef_spair.proofs.Prelude.{IsDropped, AreOthers, AreCircles}
use Rattle.nef_spair.proofs.making.parted.Given as goal

abbrev pub invariant-loop-star : goal.invariant-loop-star
invariant-loop-star l = record { kept : AreOthers IsDropped l.yielded l.kept.items; circles : AreCircles l.yielded l.circles.items }
