use Rattle.nef_facets.proofs.Prelude.{ℕ, IsAt, Corner}
use Rattle.nef_facets.proofs.Lists.{HasOneForEach}
use Rattle.nef_facets.proofs.cycles.cycle_of.Given as goal

abbrev pub invariant-loop-number : goal.invariant-loop-number
invariant-loop-number l = HasOneForEach (λ (x : Corner) (i : ℕ). IsAt l.corners i x) l.number-index l.cycle l.orbit
