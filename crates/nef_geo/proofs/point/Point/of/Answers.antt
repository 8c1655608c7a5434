use Rattle.nef_geo.proofs.Prelude.{rules, w64, FitsSigned, point_limit, weight_limit}
use Rattle.nef_geo.proofs.Divisors.{IsReduced-kept, part_small, part_positive}
use Rattle.nef_geo.proofs.Places.{SamePoint-reduced}
use Rattle.nef_geo.proofs.point.Point.of.Goals as goal

pub invariant_of-result : goal.invariant_of-result
invariant_of-result c =
    let r = c.lowest_terms-x.result in
    let fx : FitsSigned w64 c.lowest_terms-x.result.0 = search rules in let fy : FitsSigned w64 c.lowest_terms-x.result.1 = search rules in
    let fz : FitsSigned w64 c.lowest_terms-x.result.2 = search rules in let fw : FitsSigned w64 c.lowest_terms-x.result.3 = search rules in
    let h = IsReduced-kept c.args.x c.args.y c.args.z c.args.w r.0 r.1 r.2 r.3 c.ranges.x c.ranges.y c.ranges.z c.ranges.w fx fy fz fw c.lowest_terms-x.ensures.reduced in
    record {
      x_small = part_small point_limit h.factor c.args.x _ h.positive h.x_is c.requires.x_small;
      y_small = part_small point_limit h.factor c.args.y _ h.positive h.y_is c.requires.y_small;
      z_small = part_small point_limit h.factor c.args.z _ h.positive h.z_is c.requires.z_small;
      w_small = part_small weight_limit h.factor c.args.w _ h.positive h.w_is c.requires.w_small;
      proper = part_positive h.factor c.args.w _ h.positive c.requires.positive h.w_is;
      lowest = h.lowest;
    }

pub returns : goal.returns
returns c =
    let r = c.lowest_terms-x.result in
    let fx : FitsSigned w64 c.lowest_terms-x.result.0 = search rules in let fy : FitsSigned w64 c.lowest_terms-x.result.1 = search rules in
    let fz : FitsSigned w64 c.lowest_terms-x.result.2 = search rules in let fw : FitsSigned w64 c.lowest_terms-x.result.3 = search rules in
    let h = IsReduced-kept c.args.x c.args.y c.args.z c.args.w r.0 r.1 r.2 r.3 c.ranges.x c.ranges.y c.ranges.z c.ranges.w fx fy fz fw c.lowest_terms-x.ensures.reduced in
    record { same = λ positive. SamePoint-reduced c.args.x c.args.y c.args.z c.args.w _ _ _ _ positive _ h }
