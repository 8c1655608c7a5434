use Rattle.std.specs.Prelude.{ℕ, ◌<◌}
use Rattle.nef_plane.proofs.Prelude.{IsAt, complex_of, IsNearest, met_of, AtVertexNumber}
use Rattle.nef_plane.proofs.first.nearest_vertex.Given as goal

abbrev pub invariant-loop-place : goal.invariant-loop-place
invariant-loop-place g l = IsNearest (met_of g.R.At.Stepped.reach) (g.R.PlaneRay.start l.ray) (g.R.PlaneRay.way l.ray)
    (λ m q. (i : ℕ) × (i < l.place) × ((k : ℕ) × IsAt l.numbers i k × AtVertexNumber (complex_of l.c) k m q)) l.best
