use Rattle.std.specs.Prelude.{List, ℕ, length}
use Rattle.nef_index.proofs.Prelude.{Span, AreNarrowerListed}
use Rattle.nef_index.proofs.Numbered.{AreValuesTo}
use Rattle.nef_index.proofs.spans.spans_of.Given as goal

abbrev pub invariant-loop-number : goal.invariant-loop-number
invariant-loop-number l = AreValuesTo (λ (row : List ℕ) (span : Span). AreNarrowerListed l.alone row (length row) span) l.rows l.number l.spans
