use Rattle.nef_index.proofs.Prelude.{AreNarrowerListed}
use Rattle.nef_index.proofs.spans.span_of.Given as goal

abbrev pub invariant-loop-number : goal.invariant-loop-number
invariant-loop-number l = AreNarrowerListed l.alone l.listed l.number-index l.span
