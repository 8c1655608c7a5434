use Rattle.nef_cand.proofs.Prelude.{take, AreThoseNear}
use Rattle.nef_cand.proofs.listing.carriers_near.Given as goal

abbrev pub invariant-loop-carrier : goal.invariant-loop-carrier
invariant-loop-carrier l = record { close : AreThoseNear (take l.carrier-index l.near) l.span l.close.items }
