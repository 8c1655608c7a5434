use Rattle.nef_geo.proofs.Prelude.{lit≤, arith, subst, sym, normal_limit, direction_limit, normal_of, Vector, plane_axis, IsAtMost, IsDirection, IsStretched, form_of, vector_of, triple_vector}
use Rattle.nef_geo.proofs.Directions.{SameDirection-stretched, IsAtMost-part}
use Rattle.nef_geo.proofs.InPlane.{pair_small, axis-direction, axis-in_plane, slope-whole}
use Rattle.nef_geo.proofs.Products.{kept_vector, IsAtMost-weaken}
use Rattle.nef_geo.proofs.ways.plane_axis.Goals as goal

pub reduced-requires-clause-small : goal.reduced-requires-clause-small
reduced-requires-clause-small c =
    let s : IsAtMost normal_limit (triple_vector c.axis-numbers.result) = subst (IsAtMost normal_limit) (sym c.axis-numbers.ensures.axis) (pair_small c.args.h.now).axis in
    subst (IsAtMost direction_limit) (sym (kept_vector normal_limit (triple_vector c.axis-numbers.result) (lit≤ tt) s)) (IsAtMost-weaken normal_limit direction_limit (triple_vector c.axis-numbers.result) (omega arith) s)

pub reduced-requires-clause-some : goal.reduced-requires-clause-some
reduced-requires-clause-some c =
    let s : IsAtMost normal_limit (triple_vector c.axis-numbers.result) = subst (IsAtMost normal_limit) (sym c.axis-numbers.ensures.axis) (pair_small c.args.h.now).axis in
    subst IsDirection (sym (kept_vector normal_limit (triple_vector c.axis-numbers.result) (lit≤ tt) s)) (subst IsDirection (sym c.axis-numbers.ensures.axis) (axis-direction c.args.h.now))

pub returns : goal.returns
returns c =
    let n = normal_of (form_of c.args.h.now) in
    let s : IsAtMost normal_limit (triple_vector c.axis-numbers.result) = subst (IsAtMost normal_limit) (sym c.axis-numbers.ensures.axis) (pair_small c.args.h.now).axis in
    let t : IsStretched (plane_axis n) (vector_of c.reduced.result) =
    subst (λ (v : Vector). IsStretched v (vector_of c.reduced.result)) c.axis-numbers.ensures.axis
    (subst (λ (v : Vector). IsStretched v (vector_of c.reduced.result)) (kept_vector normal_limit (triple_vector c.axis-numbers.result) (lit≤ tt) s) c.reduced.ensures.stretched) in
    record {
      axis = SameDirection-stretched (plane_axis n) (vector_of c.reduced.result) t c.reduced.result.some;
      in_plane = slope-whole (form_of c.args.h.now) (plane_axis n) (vector_of c.reduced.result) t (axis-in_plane c.args.h.now);
      small = IsAtMost-part normal_limit (plane_axis n) (vector_of c.reduced.result) t (pair_small c.args.h.now).axis;
    }
