use Rattle.nef_cand.proofs.Prelude.{AreSpannedCarriers}
use Rattle.nef_cand.proofs.listing.spanned_carriers.Given as goal

abbrev pub invariant-loop-number : goal.invariant-loop-number
invariant-loop-number l = record { carriers : AreSpannedCarriers l.c l.number l.near.items }
