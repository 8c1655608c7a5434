use Rattle.nef_plane.proofs.Prelude.{◌≡◌, List, None, refl, rules, sym, subst, point_of, form_of, vector_of, Plane, complex_of, holders-within, AllHold, AtMeet, IsNearest, near_met_of}
use Rattle.nef_plane.proofs.Either.{has-holders}
use Rattle.nef_plane.proofs.Listed.{serves-has}
use Rattle.nef_plane.proofs.Reached.{uncrossed, missed, reached}
use Rattle.nef_plane.proofs.along.VertexRayPlaneRay.met.Goals as goal

pub holders_of-requires-clause-within : goal.holders_of-requires-clause-within
holders_of-requires-clause-within c = serves-has c.args.c.now (form_of c.args.self.now.plane.now) c.args.meet c.requires.told

pub is_at-requires-clause-within : goal.is_at-requires-clause-within
is_at-requires-clause-within c = serves-has c.args.c.now (form_of c.args.self.now.plane.now) c.args.meet c.requires.told

pub crossed_at-requires : goal.crossed_at-requires
crossed_at-requires c =
    let S = c.requires.shows in let C = c.args.c.now in let m = c.args.meet in let gs = c.as_slice.result.now in let ns = c.holders_of.result.now in
    let (u, v, E, H) = has-holders C S.0 S.1.shows m (serves-has C (form_of c.args.self.now.plane.now) m c.requires.told) gs ns c.as_slice.ensures.all c.holders_of.ensures.holders in
    record { within = holders-within gs (point_of u.point) (point_of v.point) ns H }

none-left : (c : goal.After-from_residual) → c.from_residual.result ≡ None
none-left c = search rules

pub returns-in_err-at : goal.returns-in_err-at
returns-in_err-at c =
    let S = c.requires.shows in let C = c.args.c.now in let ray = c.args.self.now in let m = c.args.meet in let p = point_of ray.start.now in let d = vector_of ray.direction.now in
    let (u, v, E, H) = has-holders C S.0 S.1.shows m (serves-has C (form_of ray.plane.now) m c.requires.told) c.as_slice.result.now c.holders_of.result.now c.as_slice.ensures.all c.holders_of.ensures.holders in
    let a = point_of u.point in let b = point_of v.point in
    record {
      nearest = subst (IsNearest near_met_of p d (AtMeet (complex_of C) (form_of ray.plane.now) d m)) (sym (none-left c))
          (uncrossed S.0 C S.1.shows p d ray.direction.now.some ray.plane.now m u v E (λ q w i. subst (λ (gs : List Plane). AllHold gs d a b) c.as_slice.ensures.all (c.in_err-at.ensures.none a b H refl q w i)));
    }

pub returns-then-is_at : goal.returns-then-is_at
returns-then-is_at c =
    let S = c.requires.shows in let C = c.args.c.now in let ray = c.args.self.now in let m = c.args.meet in
    let (u, v, E, H) = has-holders C S.0 S.1.shows m (serves-has C (form_of ray.plane.now) m c.requires.told) c.as_slice.result.now c.holders_of.result.now c.as_slice.ensures.all c.holders_of.ensures.holders in
    record {
      nearest = reached S.0 C S.1.shows (point_of ray.start.now) (vector_of ray.direction.now) ray.direction.now.some ray.plane.now c.in_ok-at.at m u v E (c.in_ok-at.ensures.through (point_of u.point) (point_of v.point) H) c.requires.told
          (c.is_at.ensures.at.0 c.if-is_at.true);
    }

pub returns-else-is_at : goal.returns-else-is_at
returns-else-is_at c =
    let S = c.requires.shows in let C = c.args.c.now in let ray = c.args.self.now in let m = c.args.meet in
    let (u, v, E, H) = has-holders C S.0 S.1.shows m (serves-has C (form_of ray.plane.now) m c.requires.told) c.as_slice.result.now c.holders_of.result.now c.as_slice.ensures.all c.holders_of.ensures.holders in
    record {
      nearest = missed S.0 C S.1.shows (point_of ray.start.now) (vector_of ray.direction.now) ray.direction.now.some ray.plane.now c.in_ok-at.at m u v E (c.in_ok-at.ensures.through (point_of u.point) (point_of v.point) H)
          (λ x. absurd (search (rules, c.is_at.ensures.at.1 x, c.if-is_at.false)));
    }
