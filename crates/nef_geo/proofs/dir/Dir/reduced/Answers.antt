use Rattle.nef_geo.proofs.Prelude.{rules, pos, w64, to_z, of_z, FitsSigned, direction_limit, vector, IsStretched}
use Rattle.nef_geo.proofs.Divisors.{IsReduced-kept, part_small, lowest_three}
use Rattle.nef_geo.proofs.Directions.{IsDirection-part, SameDirection-stretched, IsAtMost-part}
use Rattle.nef_geo.proofs.dir.Dir.reduced.Goals as goal

pub invariant_of-result : goal.invariant_of-result
invariant_of-result c =
    let r = c.lowest_terms-x.result in
    let fx : FitsSigned w64 c.lowest_terms-x.result.0 = search rules in let fy : FitsSigned w64 c.lowest_terms-x.result.1 = search rules in
    let fz : FitsSigned w64 c.lowest_terms-x.result.2 = search rules in let fw : FitsSigned w64 c.lowest_terms-x.result.3 = search rules in
    let f0 : FitsSigned w64 (pos 0) = search rules in
    let h = IsReduced-kept c.args.x c.args.y c.args.z (pos 0) r.0 r.1 r.2 r.3 c.ranges.x c.ranges.y c.ranges.z f0 fx fy fz fw c.lowest_terms-x.ensures.reduced in
    let s : IsStretched (vector c.args.x c.args.y c.args.z) (vector (to_z w64 (of_z w64 r.0)) (to_z w64 (of_z w64 r.1)) (to_z w64 (of_z w64 r.2))) =
    record { factor = h.factor; positive = h.positive; x_is = h.x_is; y_is = h.y_is; z_is = h.z_is } in
    record {
      x_small = part_small direction_limit h.factor c.args.x _ h.positive h.x_is c.requires.small.of_x;
      y_small = part_small direction_limit h.factor c.args.y _ h.positive h.y_is c.requires.small.of_y;
      z_small = part_small direction_limit h.factor c.args.z _ h.positive h.z_is c.requires.small.of_z;
      some = IsDirection-part (vector c.args.x c.args.y c.args.z) _ s c.requires.some;
      lowest = lowest_three c.args.x c.args.y c.args.z _ _ _ _ h;
    }

pub returns : goal.returns
returns c =
    let r = c.lowest_terms-x.result in
    let fx : FitsSigned w64 c.lowest_terms-x.result.0 = search rules in let fy : FitsSigned w64 c.lowest_terms-x.result.1 = search rules in
    let fz : FitsSigned w64 c.lowest_terms-x.result.2 = search rules in let fw : FitsSigned w64 c.lowest_terms-x.result.3 = search rules in
    let f0 : FitsSigned w64 (pos 0) = search rules in
    let h = IsReduced-kept c.args.x c.args.y c.args.z (pos 0) r.0 r.1 r.2 r.3 c.ranges.x c.ranges.y c.ranges.z f0 fx fy fz fw c.lowest_terms-x.ensures.reduced in
    let a = vector c.args.x c.args.y c.args.z in
    let s : IsStretched a (vector (to_z w64 (of_z w64 r.0)) (to_z w64 (of_z w64 r.1)) (to_z w64 (of_z w64 r.2))) =
    record { factor = h.factor; positive = h.positive; x_is = h.x_is; y_is = h.y_is; z_is = h.z_is } in
    record { stretched = s; same = SameDirection-stretched a _ s (IsDirection-part a _ s c.requires.some); size = λ k l. IsAtMost-part k a _ s l }
