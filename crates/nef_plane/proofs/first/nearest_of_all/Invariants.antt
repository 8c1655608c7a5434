use Rattle.std.specs.Prelude.{ℕ, ◌<◌}
use Rattle.nef_plane.proofs.Prelude.{complex_of, meet_at, IsNearest, met_of, AtMeet}
use Rattle.nef_plane.proofs.first.nearest_of_all.Given as goal

abbrev pub invariant-loop-number : goal.invariant-loop-number
invariant-loop-number g l = IsNearest (met_of g.R.At.Stepped.reach) (g.R.PlaneRay.start l.ray) (g.R.PlaneRay.way l.ray)
    (λ m q. (k : ℕ) × (k < l.number) × AtMeet (complex_of l.c) (g.R.PlaneRay.plane l.ray) (g.R.PlaneRay.way l.ray) (meet_at l.kind k) m q) l.best
