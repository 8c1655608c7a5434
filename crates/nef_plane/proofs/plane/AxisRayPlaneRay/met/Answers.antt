use Rattle.nef_plane.proofs.Prelude.{◌≡◌, List, Some, None, refl, rules, sym, subst, form_of, point_of, hit_point, vector_of, Plane, AreHolders, complex_of, holders-within, HasEndsAt, AllHold, AtMeet, IsNearest, far_met_of}
use Rattle.nef_plane.proofs.Choosing.{met-answers, none-answers}
use Rattle.nef_plane.proofs.Either.{ends-held}
use Rattle.nef_plane.proofs.Listed.{lies-has}
use Rattle.nef_plane.proofs.Meeting.{met-opposite}
use Rattle.nef_plane.proofs.Swept.{none-swept, swept}
use Rattle.nef_plane.proofs.plane.AxisRayPlaneRay.met.Goals as goal

pub ends_of-low-requires-clause-within : goal.ends_of-low-requires-clause-within
ends_of-low-requires-clause-within c = lies-has c.args.c.now (form_of c.args.self.now.plane.now) c.args.meet c.requires.told

pub holders_of-requires-clause-within : goal.holders_of-requires-clause-within
holders_of-requires-clause-within c = lies-has c.args.c.now (form_of c.args.self.now.plane.now) c.args.meet c.requires.told

pub hit_through-requires : goal.hit_through-requires
hit_through-requires c =
    let u = c.at.result.now in let v = c.at-2.result.now in let n = c.ends_of-low.result in
    let H = c.holders_of.ensures.holders u v (n.0, n.1, c.ends_of-low.ensures.ends, c.at.ensures.element, c.at-2.ensures.element) in
    record { within = holders-within c.as_slice.result.now (point_of u.point) (point_of v.point) c.holders_of.result.now (subst (λ (gs : List Plane). AreHolders gs (point_of u.point) (point_of v.point) c.holders_of.result.now) (sym c.as_slice.ensures.all) H) }

pub returns-then-not-are_parted : goal.returns-then-not-are_parted
returns-then-not-are_parted c =
    let S = c.requires.shows in let ray = c.args.self.now in let u = c.at.result.now in let v = c.at-2.result.now in let n = c.ends_of-low.result in
    let p = hit_point ray.start.now in let d = vector_of ray.direction.now in
    record {
      nearest = none-swept S.0 c.args.c.now S.1.shows ray.plane.now p d ray.axis ray.on c.args.meet u v (n.0, n.1, c.ends_of-low.ensures.ends, c.at.ensures.element, c.at-2.ensures.element)
          (λ q M. absurd (search (rules, c.are_parted.ensures.opposite.1 (met-opposite ray.plane.now p d ray.axis ray.on (point_of u.point) (point_of v.point) q M), c.if-not-are_parted.true)));
    }

none-left : (c : goal.After-from_residual) → c.from_residual.result ≡ None
none-left c = search rules

pub returns-in_err-at : goal.returns-in_err-at
returns-in_err-at c =
    let S = c.requires.shows in let C = c.args.c.now in let ray = c.args.self.now in let u = c.at.result.now in let v = c.at-2.result.now in let n = c.ends_of-low.result in
    let p = hit_point ray.start.now in let d = vector_of ray.direction.now in let a = point_of u.point in let b = point_of v.point in
    let E : HasEndsAt C c.args.meet u v = (n.0, n.1, c.ends_of-low.ensures.ends, c.at.ensures.element, c.at-2.ensures.element) in
    let H = subst (λ (gs : List Plane). AreHolders gs a b c.holders_of.result.now) (sym c.as_slice.ensures.all) (c.holders_of.ensures.holders u v E) in
    record {
      nearest = subst (IsNearest far_met_of p d (AtMeet (complex_of C) (form_of ray.plane.now) d c.args.meet)) (sym (none-left c))
          (none-swept S.0 C S.1.shows ray.plane.now p d ray.axis ray.on c.args.meet u v E
          (λ q M. subst (λ (gs : List Plane). AllHold gs d a b) c.as_slice.ensures.all (none-answers None c.as_slice.result.now ray.plane.now p d ray.axis ray.on a b (c.in_err-at.ensures.hit a b H) refl q M)));
    }

pub returns : goal.returns
returns c =
    let S = c.requires.shows in let C = c.args.c.now in let ray = c.args.self.now in let u = c.at.result.now in let v = c.at-2.result.now in let n = c.ends_of-low.result in
    let p = hit_point ray.start.now in let d = vector_of ray.direction.now in let a = point_of u.point in let b = point_of v.point in
    let E : HasEndsAt C c.args.meet u v = (n.0, n.1, c.ends_of-low.ensures.ends, c.at.ensures.element, c.at-2.ensures.element) in
    let H = subst (λ (gs : List Plane). AreHolders gs a b c.holders_of.result.now) (sym c.as_slice.ensures.all) (c.holders_of.ensures.holders u v E) in
    let through = c.in_ok-at.ensures.hit a b H in
    let held = ends-held C (form_of ray.plane.now) c.args.meet u v E c.requires.told in
    let parted = c.are_parted.ensures.opposite.0 (search (rules, c.if-not-are_parted.false)) in
    record {
      nearest = swept S.0 C S.1.shows ray.plane.now p d ray.axis ray.on c.in_ok-at.at c.args.meet u v E
          (met-answers (Some c.in_ok-at.at) c.as_slice.result.now ray.plane.now p d ray.axis ray.on a b held parted through) through;
    }
