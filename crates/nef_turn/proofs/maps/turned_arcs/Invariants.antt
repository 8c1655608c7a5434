use Rattle.nef_turn.proofs.Prelude.{AreImages, IsSArcImage}
use Rattle.nef_turn.proofs.maps.turned_arcs.Given as goal

abbrev pub invariant-loop-arc : goal.invariant-loop-arc
invariant-loop-arc l = record { images : AreImages (IsSArcImage l.turn.number l.numbers) l.arc-index l.map.arcs l.images.items }
