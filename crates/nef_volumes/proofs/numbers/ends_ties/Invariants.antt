use Rattle.nef_volumes.proofs.Prelude.{[], complex_of, Adds, AnyBelow, IsTieOfEnds}
use Rattle.nef_volumes.proofs.numbers.ends_ties.Given as goal

abbrev pub invariant-loop-number : goal.invariant-loop-number
invariant-loop-number l = Adds (AnyBelow (IsTieOfEnds (complex_of l.c)) l.number) [] l.ties.items
