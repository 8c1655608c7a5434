use Rattle.nef_geo.proofs.Prelude.{rules, ◌≡◌, ◌*◌, ◌^◌, arith, sym, ap, ◌∙◌, subst, FitsSigned, lit≤, direction_limit, Vector, dot, cross, IsAtMost, vector_of, wide_vector, dot-comm}
use mir.Syntax.{w128}
use Rattle.nef_geo.proofs.Products.{IsAtMost-weaken, dot_size, cross_size, dir_within}
use Rattle.nef_geo.proofs.Signs.{sign_through}
use Rattle.nef_geo.proofs.sign.triple.Goals as goal

pub cross_wide-requires-clause-left : goal.cross_wide-requires-clause-left
cross_wide-requires-clause-left c = subst (IsAtMost direction_limit) (sym c.wide.ensures.wide) (dir_within c.args.b.now)

pub cross_wide-requires-clause-right : goal.cross_wide-requires-clause-right
cross_wide-requires-clause-right c = subst (IsAtMost direction_limit) (sym c.wide-2.ensures.wide) (dir_within c.args.c.now)

cross_is : (b c : Vector) (v w r : Vector) → v ≡ b → w ≡ c → r ≡ cross v w → r ≡ cross b c
cross_is b c v w r p q e = e ∙ ap (λ (u : Vector). cross u w) p ∙ ap (cross b) q

cross_within : (a b : Vector) → IsAtMost direction_limit a → IsAtMost direction_limit b → IsAtMost (2 ^ 75) (cross a b)
cross_within a b h k = IsAtMost-weaken (2 * (direction_limit * direction_limit)) (2 ^ 75) (cross a b) (lit≤ tt) (cross_size direction_limit direction_limit a b h k)

pub dot_wide-requires-clause-left : goal.dot_wide-requires-clause-left
dot_wide-requires-clause-left c =
    subst (IsAtMost (2 ^ 75)) (sym (cross_is (vector_of c.args.b.now) (vector_of c.args.c.now) _ _ _ c.wide.ensures.wide c.wide-2.ensures.wide c.cross_wide.ensures.cross))
    (cross_within (vector_of c.args.b.now) (vector_of c.args.c.now) (dir_within c.args.b.now) (dir_within c.args.c.now))

pub dot_wide-requires-clause-right : goal.dot_wide-requires-clause-right
dot_wide-requires-clause-right c = subst (IsAtMost (2 ^ 47)) (sym c.wide-3.ensures.wide) (IsAtMost-weaken direction_limit (2 ^ 47) _ (lit≤ tt) (dir_within c.args.a.now))

pub returns-clause-triple : goal.returns-clause-triple
returns-clause-triple c =
    let a = vector_of c.args.a.now in let b = vector_of c.args.b.now in let d = vector_of c.args.c.now in
    let f : FitsSigned w128 c.dot_wide.result = search rules in
    sign_through c.of.result c.dot_wide.result _ f c.of.ensures.sign
    (c.dot_wide.ensures.dot
    ∙ ap (λ (v : Vector). dot v (wide_vector c.wide-3.result)) (cross_is b d _ _ _ c.wide.ensures.wide c.wide-2.ensures.wide c.cross_wide.ensures.cross)
    ∙ ap (dot (cross b d)) c.wide-3.ensures.wide
    ∙ dot-comm (cross b d) a)

pub returns-clause-width : goal.returns-clause-width
returns-clause-width c =
    let a = vector_of c.args.a.now in let b = vector_of c.args.b.now in let d = vector_of c.args.c.now in
    let s = dot_size direction_limit (2 ^ 75) a (cross b d) (dir_within c.args.a.now) (cross_within b d (dir_within c.args.b.now) (dir_within c.args.c.now)) in
    omega (arith, s)
