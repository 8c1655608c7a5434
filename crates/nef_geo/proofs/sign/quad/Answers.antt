use Rattle.nef_geo.proofs.Prelude.{rules, ◌≡◌, ◌*◌, ◌^◌, arith, sym, ap, ◌∙◌, subst, FitsSigned, lit≤, svertex_limit, direction_limit, Vector, dot, cross, IsAtMost, vector_of, wide_vector}
use mir.Syntax.{w128}
use Rattle.nef_geo.proofs.Products.{IsAtMost-weaken, dot_size, cross_size, dir_within}
use Rattle.nef_geo.proofs.Signs.{sign_through}
use Rattle.nef_geo.proofs.sign.quad.Goals as goal

small : (v : Vector) → IsAtMost svertex_limit v → IsAtMost direction_limit v
small v h = IsAtMost-weaken svertex_limit direction_limit v (lit≤ tt) h

pub cross_wide-left-requires-clause-left : goal.cross_wide-left-requires-clause-left
cross_wide-left-requires-clause-left c = subst (IsAtMost direction_limit) (sym c.wide.ensures.wide) (dir_within c.args.a.now)

pub cross_wide-left-requires-clause-right : goal.cross_wide-left-requires-clause-right
cross_wide-left-requires-clause-right c = subst (IsAtMost direction_limit) (sym c.wide-2.ensures.wide) (dir_within c.args.b.now)

pub cross_wide-right-requires-clause-left : goal.cross_wide-right-requires-clause-left
cross_wide-right-requires-clause-left c = subst (IsAtMost direction_limit) (sym c.wide-3.ensures.wide) (dir_within c.args.c.now)

pub cross_wide-right-requires-clause-right : goal.cross_wide-right-requires-clause-right
cross_wide-right-requires-clause-right c = subst (IsAtMost direction_limit) (sym c.wide-4.ensures.wide) (dir_within c.args.d.now)

cross_is : (b c : Vector) (v w r : Vector) → v ≡ b → w ≡ c → r ≡ cross v w → r ≡ cross b c
cross_is b c v w r p q e = e ∙ ap (λ (u : Vector). cross u w) p ∙ ap (cross b) q

left_within : (a b : Vector) → IsAtMost direction_limit a → IsAtMost svertex_limit b → IsAtMost (2 ^ 61) (cross a b)
left_within a b h k = IsAtMost-weaken (2 * (direction_limit * svertex_limit)) (2 ^ 61) (cross a b) (lit≤ tt) (cross_size direction_limit svertex_limit a b h k)

right_within : (a b : Vector) → IsAtMost svertex_limit a → IsAtMost svertex_limit b → IsAtMost (2 ^ 47) (cross a b)
right_within a b h k = IsAtMost-weaken (2 * (svertex_limit * svertex_limit)) (2 ^ 47) (cross a b) (lit≤ tt) (cross_size svertex_limit svertex_limit a b h k)

pub dot_wide-requires-clause-left : goal.dot_wide-requires-clause-left
dot_wide-requires-clause-left c =
    let a = vector_of c.args.a.now in let b = vector_of c.args.b.now in
    subst (IsAtMost (2 ^ 75)) (sym (cross_is a b _ _ _ c.wide.ensures.wide c.wide-2.ensures.wide c.cross_wide-left.ensures.cross))
    (IsAtMost-weaken (2 ^ 61) (2 ^ 75) (cross a b) (lit≤ tt) (left_within a b (dir_within c.args.a.now) c.requires.b_small))

pub dot_wide-requires-clause-right : goal.dot_wide-requires-clause-right
dot_wide-requires-clause-right c =
    let e = vector_of c.args.c.now in let f = vector_of c.args.d.now in
    subst (IsAtMost (2 ^ 47)) (sym (cross_is e f _ _ _ c.wide-3.ensures.wide c.wide-4.ensures.wide c.cross_wide-right.ensures.cross))
    (right_within e f c.requires.c_small c.requires.d_small)

pub returns-clause-quad : goal.returns-clause-quad
returns-clause-quad c =
    let a = vector_of c.args.a.now in let b = vector_of c.args.b.now in let e = vector_of c.args.c.now in let h = vector_of c.args.d.now in
    let f : FitsSigned w128 c.dot_wide.result = search rules in
    sign_through c.of.result c.dot_wide.result _ f c.of.ensures.sign
    (c.dot_wide.ensures.dot
    ∙ ap (λ (v : Vector). dot v (wide_vector c.cross_wide-right.result)) (cross_is a b _ _ _ c.wide.ensures.wide c.wide-2.ensures.wide c.cross_wide-left.ensures.cross)
    ∙ ap (dot (cross a b)) (cross_is e h _ _ _ c.wide-3.ensures.wide c.wide-4.ensures.wide c.cross_wide-right.ensures.cross))

pub returns-clause-width : goal.returns-clause-width
returns-clause-width c =
    let a = vector_of c.args.a.now in let b = vector_of c.args.b.now in let e = vector_of c.args.c.now in let h = vector_of c.args.d.now in
    let s = dot_size (2 ^ 61) (2 ^ 47) (cross a b) (cross e h) (left_within a b (dir_within c.args.a.now) c.requires.b_small) (right_within e h c.requires.c_small c.requires.d_small) in
    omega (arith, s)
