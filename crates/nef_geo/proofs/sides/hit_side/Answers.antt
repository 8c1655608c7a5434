use Rattle.nef_geo.proofs.Prelude.{arith, hit_point, hit_limit, hit_weight_limit, upright_limit, upright_weight_limit}
use Rattle.nef_geo.proofs.Sizes.{form_size, hit_within}
use Rattle.nef_geo.proofs.sides.hit_side.Goals as goal

pub returns-clause-width : goal.returns-clause-width
returns-clause-width c = let s = form_size c.args.h.now hit_limit hit_weight_limit (hit_point c.args.p.now) (hit_within c.args.p.now) in omega (arith, s)

pub returns-clause-upright_width : goal.returns-clause-upright_width
returns-clause-upright_width c h = let s = form_size c.args.h.now upright_limit upright_weight_limit (hit_point c.args.p.now) h in omega (arith, s)
