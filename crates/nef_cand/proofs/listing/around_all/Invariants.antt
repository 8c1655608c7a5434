use Rattle.nef_cand.proofs.Prelude.{ℕ, ◌<◌, IsAt, Span, IsNarrower}
use Rattle.nef_cand.proofs.listing.around_all.Given as goal

abbrev pub invariant-loop-span : goal.invariant-loop-span
invariant-loop-span l = (k : ℕ) (s : Span) → k < l.span-index → IsAt l.spans k s → IsNarrower s l.around
