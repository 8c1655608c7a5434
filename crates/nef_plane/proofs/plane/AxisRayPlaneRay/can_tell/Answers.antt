use Rattle.nef_plane.proofs.Prelude.{form_of, hit_point, vector_of}
use Rattle.nef_plane.proofs.Axes.{axis-level}
use Rattle.nef_plane.proofs.Listed.{met-lies}
use Rattle.nef_plane.proofs.plane.AxisRayPlaneRay.can_tell.Goals as goal

pub returns : goal.returns
returns c =
    let ray = c.args.self.now in let d = vector_of ray.direction.now in
    record {
      told = c.lies_in.ensures.lies.0;
      off = λ f m q w x. f (c.lies_in.ensures.lies.1 (met-lies c.args.c.now (form_of ray.plane.now) d m q (hit_point ray.start.now) ray.axis.0 (ray.on, axis-level ray.plane.now d ray.axis) w c.args.meet x));
    }
