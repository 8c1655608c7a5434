use Rattle.nef_unique.proofs.Prelude.{◌≡◌, length, take}
use Rattle.nef_unique.proofs.comparison.same_vertices.Given as goal

abbrev pub invariant-loop-v : goal.invariant-loop-v
invariant-loop-v l = take (length l.yielded) l.a.vertices ≡ take (length l.yielded) l.b.vertices
