use Rattle.nef_plane.proofs.Prelude.{form_of, hit_point, vector_of}
use Rattle.nef_plane.proofs.Leveled.{unparted}
use Rattle.nef_plane.proofs.Listed.{lies-has}
use Rattle.nef_plane.proofs.plane.AxisRayPlaneRay.may_meet.Goals as goal

pub ends_of-low-requires-clause-within : goal.ends_of-low-requires-clause-within
ends_of-low-requires-clause-within c = lies-has c.args.c.now (form_of c.args.self.now.plane.now) c.args.meet c.requires.lies

pub returns : goal.returns
returns c =
    let ray = c.args.self.now in let S = c.requires.shows in
    record {
      told = λ t. c.requires.lies;
      off = λ f. unparted S.0 c.args.c.now S.1.shows ray.plane.now (hit_point ray.start.now) (vector_of ray.direction.now) ray.axis ray.on c.args.course.now c.requires.course.0 c.args.meet
          c.ends_of-low.result.0 c.ends_of-low.result.1 c.ends_of-low.ensures.ends c.requires.lies (c.may_part.ensures.unparted f);
    }
