use Rattle.nef_cand.proofs.Prelude.{take, AreWithinSpan}
use Rattle.nef_cand.proofs.listing.around_carriers.Given as goal

abbrev pub invariant-loop-carrier : goal.invariant-loop-carrier
invariant-loop-carrier l = AreWithinSpan (take l.carrier-index l.near) l.around
