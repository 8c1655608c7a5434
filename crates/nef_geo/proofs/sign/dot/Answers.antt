use Rattle.nef_geo.proofs.Prelude.{rules, ◌^◌, sym, ap, ◌∙◌, subst, FitsSigned, lit≤, direction_limit, Vector, dot, IsAtMost, vector_of, wide_vector}
use mir.Syntax.{w128}
use Rattle.nef_geo.proofs.Products.{IsAtMost-weaken, dot_size, dir_within}
use Rattle.nef_geo.proofs.Signs.{sign_through}
use Rattle.nef_geo.proofs.sign.dot.Goals as goal

pub dot_wide-requires-clause-left : goal.dot_wide-requires-clause-left
dot_wide-requires-clause-left c = subst (IsAtMost (2 ^ 75)) (sym c.wide.ensures.wide) (IsAtMost-weaken direction_limit (2 ^ 75) _ (lit≤ tt) (dir_within c.args.a.now))

pub dot_wide-requires-clause-right : goal.dot_wide-requires-clause-right
dot_wide-requires-clause-right c = subst (IsAtMost (2 ^ 47)) (sym c.wide-2.ensures.wide) (IsAtMost-weaken direction_limit (2 ^ 47) _ (lit≤ tt) (dir_within c.args.b.now))

pub returns-clause-dot : goal.returns-clause-dot
returns-clause-dot c =
    let f : FitsSigned w128 c.dot_wide.result = search rules in
    sign_through c.of.result c.dot_wide.result _ f c.of.ensures.sign
    (c.dot_wide.ensures.dot ∙ ap (λ (v : Vector). dot v (wide_vector c.wide-2.result)) c.wide.ensures.wide ∙ ap (dot (vector_of c.args.a.now)) c.wide-2.ensures.wide)

pub returns-clause-width : goal.returns-clause-width
returns-clause-width c = dot_size direction_limit direction_limit (vector_of c.args.a.now) (vector_of c.args.b.now) (dir_within c.args.a.now) (dir_within c.args.b.now)
