use Rattle.nef_plane.proofs.Prelude.{inl, inr, rules, subst, MatchOption, form_of, vector_of, point_of, is-at_one, Vertex, AreOpposite, ray_form}
use Rattle.nef_plane.proofs.Listed.{lies-serves, lies-has}
use Rattle.nef_plane.proofs.Passed.{off-course}
use Rattle.nef_plane.proofs.along.VertexRayPlaneRay.may_meet.Goals as goal

pub ends_of-low-requires-clause-within : goal.ends_of-low-requires-clause-within
ends_of-low-requires-clause-within c = lies-has c.args.c.now (form_of c.args.self.now.plane.now) c.args.meet c.requires.lies

pub returns-then-not-may_reach : goal.returns-then-not-may_reach
returns-then-not-may_reach c =
    let ray = c.args.self.now in let S = c.requires.shows in let C = c.args.c.now in let m = c.args.meet in let n = c.ends_of-low.result in
    record {
      told = λ t. lies-serves C (form_of ray.plane.now) m c.requires.lies;
      off = λ f. off-course S.0 C S.1.shows ray.plane.now ray.start.now (vector_of ray.direction.now) ray.direction.now.some c.args.course.now c.requires.course.0 m n.0 n.1 c.ends_of-low.ensures.ends c.requires.lies
          (inl (c.may_reach.ensures.passed (λ x. absurd (search (rules, x, c.if-not-may_reach.true)))));
    }

pub returns : goal.returns
returns c =
    let ray = c.args.self.now in let S = c.requires.shows in let C = c.args.c.now in let m = c.args.meet in let n = c.ends_of-low.result in
    let p = ray.start.now in let o = c.args.course.now.normal in let a = c.at.result.now in let b = c.at-2.result.now in
    record {
      told = λ t. lies-serves C (form_of ray.plane.now) m c.requires.lies;
      off = λ f. off-course S.0 C S.1.shows ray.plane.now p (vector_of ray.direction.now) ray.direction.now.some c.args.course.now c.requires.course.0 m n.0 n.1 c.ends_of-low.ensures.ends c.requires.lies (inr (λ u v i j.
          subst (λ (y : Vertex). MatchOption o ⊥ (λ k. AreOpposite (ray_form k p) (point_of u.point) (point_of y.point) → ⊥)) (is-at_one C.vertices n.1 b v c.at-2.ensures.element j)
          (subst (λ (x : Vertex). MatchOption o ⊥ (λ k. AreOpposite (ray_form k p) (point_of x.point) (point_of b.point) → ⊥)) (is-at_one C.vertices n.0 a u c.at.ensures.element i) (c.may_pass.ensures.beside f))));
    }
