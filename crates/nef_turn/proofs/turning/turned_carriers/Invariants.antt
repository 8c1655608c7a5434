use Rattle.nef_turn.proofs.Prelude.{AreImages, IsTurnedCarrier}
use Rattle.nef_turn.proofs.turning.turned_carriers.Given as goal

abbrev pub invariant-loop-plane : goal.invariant-loop-plane
invariant-loop-plane l = record { images : AreImages (IsTurnedCarrier l.turn.number) l.plane-index l.planes l.images.items }
