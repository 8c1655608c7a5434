use Rattle.nef_geo.proofs.Prelude.{rules, FitsSigned, normal_limit, direction_limit, normal_of, form_of, vector_of}
use mir.Syntax.{w128}
use Rattle.nef_geo.proofs.Products.{dot_size, dir_within, normal_within}
use Rattle.nef_geo.proofs.Signs.{sign_through}
use Rattle.nef_geo.proofs.sign.dir_side.Goals as goal

pub returns-clause-side : goal.returns-clause-side
returns-clause-side c =
    let f : FitsSigned w128 c.slope.result = search rules in
    sign_through c.of.result c.slope.result _ f c.of.ensures.sign c.slope.ensures.value

pub returns-clause-width : goal.returns-clause-width
returns-clause-width c = dot_size normal_limit direction_limit (normal_of (form_of c.args.h.now)) (vector_of c.args.d.now) (normal_within c.args.h.now) (dir_within c.args.d.now)
