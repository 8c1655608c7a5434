use Rattle.nef_volumes.proofs.Prelude.{[], complex_of, Adds, AnyBelow, IsTieOfItems}
use Rattle.nef_volumes.proofs.ties.item_ties.Given as goal

abbrev pub invariant-loop-tie : goal.invariant-loop-tie
invariant-loop-tie l = Adds (AnyBelow (IsTieOfItems (complex_of l.c) l.items) l.tie-index) [] l.ties.items
