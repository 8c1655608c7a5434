use Rattle.nef_turn.proofs.Prelude.{AreImages, IsMoved}
use Rattle.nef_turn.proofs.maps.moved_svertices.Given as goal

abbrev pub invariant-loop-old : goal.invariant-loop-old
invariant-loop-old l = record { images : AreImages (IsMoved l.turn.number) l.old l.map.svertices l.images.items }
