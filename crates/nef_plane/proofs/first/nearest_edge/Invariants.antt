use Rattle.nef_plane.proofs.Prelude.{IfSome, IsAt, complex_of, IsInSpan, IsNearest, met_of, AtEdgeNumber, HoldsBefore}
use Rattle.std.specs.Prelude.{ℕ, ◌≤◌, length}
use Rattle.nef_plane.proofs.first.nearest_edge.Given as goal

abbrev pub invariant-loop-place : goal.invariant-loop-place
invariant-loop-place g l = (l.place ≤ length l.items.edges.now) × IsNearest (met_of g.R.At.Stepped.reach) (g.R.PlaneRay.start l.ray) (g.R.PlaneRay.way l.ray)
    (λ m q. (j : ℕ) × (l.place ≤ j) × ((k : ℕ) × IsAt l.items.edges.now j k × AtEdgeNumber (complex_of l.c) (g.R.PlaneRay.plane l.ray) (g.R.PlaneRay.way l.ray) k m q)) l.best
    × IfSome l.start (λ s. IsInSpan s (g.R.PlaneRay.start l.ray))
    × HoldsBefore (met_of g.R.At.Stepped.reach) (g.R.PlaneRay.start l.ray) l.best l.window

abbrev pub decreases-loop-place : goal.decreases-loop-place
decreases-loop-place g l = l.place
