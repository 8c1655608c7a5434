use Rattle.tests_places.proofs.Prelude.{ℕ, ◌<◌, SVertex, IsAt}
use Rattle.std.specs.Prelude.{◌≡◌}
use Rattle.tests_places.proofs.rays.has_svertex.Given as goal

abbrev pub invariant-loop-svertex : goal.invariant-loop-svertex
invariant-loop-svertex l = (j : ℕ) (u : SVertex) → j < l.svertex-index → IsAt l.map.svertices j u → u.dir ≡ l.d → ⊥
