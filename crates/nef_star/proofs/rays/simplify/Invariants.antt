use Rattle.nef_star.proofs.Prelude.{BeginsAnywhere, KeepsLabels}
use Rattle.nef_star.proofs.Needed.{IsSeen}
use Rattle.nef_star.proofs.rays.simplify.Given as goal

abbrev pub invariant-loop-unseen : goal.invariant-loop-unseen
invariant-loop-unseen l = record { turned : BeginsAnywhere l.star; kept : KeepsLabels l.fn.star l.star; seen : IsSeen l.unseen l.star }

abbrev pub decreases-loop-unseen : goal.decreases-loop-unseen
decreases-loop-unseen l = l.unseen
