use Rattle.nef_volumes.proofs.Prelude.{Adds, Any, AnyBelow, IsTieNumbered}
use Rattle.nef_volumes.proofs.ties.add_sfaces.Given as goal

abbrev pub invariant-loop-side : goal.invariant-loop-side
invariant-loop-side l = Adds (AnyBelow (λ s. Any (IsTieNumbered l.vertex l.numbers s)) l.side) l.initial.ties.items l.ties.items
