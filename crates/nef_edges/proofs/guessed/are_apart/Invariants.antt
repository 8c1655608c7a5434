use Rattle.nef_edges.proofs.Prelude.{AreMarkedArrivals, ArriveApart}
use Rattle.nef_edges.proofs.guessed.are_apart.Given as goal

abbrev pub invariant-loop-k : goal.invariant-loop-k
invariant-loop-k l = record { apart : ArriveApart l.edges l.k; taken : AreMarkedArrivals l.starts l.marks.items l.edges l.k }
