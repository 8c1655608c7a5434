use Rattle.nef_geo.proofs.Prelude.{rules, w64, FitsSigned, normal_limit, offset_limit}
use Rattle.nef_geo.proofs.Divisors.{IsReduced-kept, part_small}
use Rattle.nef_geo.proofs.Normals.{IsNormal-parts}
use Rattle.nef_geo.proofs.plane.Plane.reduced.Goals as goal

pub invariant_of-result : goal.invariant_of-result
invariant_of-result c =
    let r = c.lowest_terms-a.result in
    let fx : FitsSigned w64 c.lowest_terms-a.result.0 = search rules in let fy : FitsSigned w64 c.lowest_terms-a.result.1 = search rules in
    let fz : FitsSigned w64 c.lowest_terms-a.result.2 = search rules in let fw : FitsSigned w64 c.lowest_terms-a.result.3 = search rules in
    let h = IsReduced-kept c.args.a c.args.b c.args.c c.args.d r.0 r.1 r.2 r.3 c.ranges.a c.ranges.b c.ranges.c c.ranges.d fx fy fz fw c.lowest_terms-a.ensures.reduced in
    record {
      a_small = part_small normal_limit h.factor c.args.a _ h.positive h.x_is c.requires.in_range.a_small;
      b_small = part_small normal_limit h.factor c.args.b _ h.positive h.y_is c.requires.in_range.b_small;
      c_small = part_small normal_limit h.factor c.args.c _ h.positive h.z_is c.requires.in_range.c_small;
      d_small = part_small offset_limit h.factor c.args.d _ h.positive h.w_is c.requires.in_range.d_small;
      lowest = h.lowest;
      normal = IsNormal-parts h.factor c.args.a c.args.b c.args.c _ _ _ h.positive h.x_is h.y_is h.z_is c.requires.normal;
    }

pub returns : goal.returns
returns c =
    let r = c.lowest_terms-a.result in
    let fx : FitsSigned w64 c.lowest_terms-a.result.0 = search rules in let fy : FitsSigned w64 c.lowest_terms-a.result.1 = search rules in
    let fz : FitsSigned w64 c.lowest_terms-a.result.2 = search rules in let fw : FitsSigned w64 c.lowest_terms-a.result.3 = search rules in
    let h = IsReduced-kept c.args.a c.args.b c.args.c c.args.d r.0 r.1 r.2 r.3 c.ranges.a c.ranges.b c.ranges.c c.ranges.d fx fy fz fw c.lowest_terms-a.ensures.reduced in
    record { multiple = record { factor = h.factor; positive = h.positive; a_is = h.x_is; b_is = h.y_is; c_is = h.z_is; d_is = h.w_is } }
