use Rattle.nef_geo.proofs.Prelude.{rules, arith, ◌∙◌, FitsSigned, far_point, far_limit, far_weight_limit}
use mir.Syntax.{w128}
use Rattle.nef_geo.proofs.Signs.{sign_through}
use Rattle.nef_geo.proofs.Sizes.{form_size, far_within}
use Rattle.nef_geo.proofs.WideForms.{passed_x, passed_y, passed_z, passed_w, form_at-passed}
use Rattle.nef_geo.proofs.sides.far_side.Goals as goal

pub wide_form-requires : goal.wide_form-requires
wide_form-requires c =
    let p = c.args.p.now in let s = far_within p in
    record {
      x_small = passed_x p.x p.y p.z p.w p.proper s;
      y_small = passed_y p.x p.y p.z p.w p.proper s;
      z_small = passed_z p.x p.y p.z p.w p.proper s;
      w_small = passed_w p.x p.y p.z p.w p.proper s;
    }

pub returns-clause-side : goal.returns-clause-side
returns-clause-side c =
    let p = c.args.p.now in
    let fits : FitsSigned w128 c.wide_form.result = search rules in
    sign_through c.of.result c.wide_form.result _ fits c.of.ensures.sign (c.wide_form.ensures.value ∙ form_at-passed p.x p.y p.z p.w p.proper (far_within p) c.args.h.now)

pub returns-clause-width : goal.returns-clause-width
returns-clause-width c = let s = form_size c.args.h.now far_limit far_weight_limit (far_point c.args.p.now) (far_within c.args.p.now) in omega (arith, s)
