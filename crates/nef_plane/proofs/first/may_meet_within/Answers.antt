use Rattle.nef_plane.proofs.Listed.{lies-has}
use Rattle.nef_plane.proofs.Windowed.{met-outside}
use Rattle.nef_plane.proofs.first.may_meet_within.Goals as goal

pub may_lie_within-requires-clause-within : goal.may_lie_within-requires-clause-within
may_lie_within-requires-clause-within g c = lies-has c.args.c.now (g.R.PlaneRay.plane c.args.ray.now) c.args.meet c.requires.lies

pub returns-else-may_lie_within-clause-outside : goal.returns-else-may_lie_within-clause-outside
returns-else-may_lie_within-clause-outside g c = λ f n q w x.
    met-outside c.args.c.now (g.R.PlaneRay.plane c.args.ray.now) (g.R.PlaneRay.way c.args.ray.now) c.args.meet c.args.window.now (c.may_lie_within.ensures.outside f) n q x
