use Rattle.nef_geo.proofs.Prelude.{rules, ◌∙◌, FitsSigned, to_z-of_z}
use mir.Syntax.{w128}
use Rattle.nef_geo.proofs.Sizes.{hit_far}
use Rattle.nef_geo.proofs.WideForms.{passed_x, passed_y, passed_z, passed_w, form_at-passed}
use Rattle.nef_geo.proofs.sides.hit_form.Goals as goal

pub wide_form-requires : goal.wide_form-requires
wide_form-requires c =
    let p = c.args.p.now in let s = hit_far p in
    record {
      x_small = passed_x p.x p.y p.z p.w p.proper s;
      y_small = passed_y p.x p.y p.z p.w p.proper s;
      z_small = passed_z p.x p.y p.z p.w p.proper s;
      w_small = passed_w p.x p.y p.z p.w p.proper s;
    }

pub returns : goal.returns
returns c =
    let p = c.args.p.now in
    let fits : FitsSigned w128 c.wide_form.result = search rules in
    record { value = to_z-of_z w128 c.wide_form.result fits ∙ c.wide_form.ensures.value ∙ form_at-passed p.x p.y p.z p.w p.proper (hit_far p) c.args.h.now }
