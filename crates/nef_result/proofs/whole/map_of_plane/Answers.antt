use Rattle.nef_result.proofs.Prelude.{subst, normal_of, SameDirection, form_of, vector_of, Plane}
use Rattle.nef_result.proofs.HalfCones.{plane-shown}
use Rattle.nef_result.proofs.whole.map_of_plane.Goals as goal

pub returns : goal.returns
returns c =
    let n = vector_of c.plane_normal.result in let m = c.plane_map in
    record {
      map = plane-shown c.args.oriented.now c.args.closed c.flipped-turned.result n c.inside.result c.inside-2.result c.inside-3.result m.result c.flipped-turned.ensures.flipped
          (subst (λ (h : Plane). SameDirection (normal_of (form_of h)) n) c.plane.ensures.plane c.plane_normal.ensures.normal)
          c.inside.ensures.label c.inside-2.ensures.label c.inside-3.ensures.label m.ensures.map m.ensures.mark m.ensures.labels;
    }
