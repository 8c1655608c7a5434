use Rattle.nef_locate.proofs.Prelude.{refl, inr, ap, ◌∙◌, sym, subst, IsAhead, Vector, opposite, point_of, complex_of, IsFirstHit}
use Rattle.nef_locate.proofs.Located.{volume-in, volume-at, some-below}
use Rattle.nef_locate.proofs.point.in_volume.Goals as goal

pub first_hit-requires-clause-upright : goal.first_hit-requires-clause-upright
first_hit-requires-clause-upright c = inr (c.back.ensures.back ∙ ap opposite c.up.ensures.up)

pub returns-clause-place : goal.returns-clause-place
returns-clause-place c =
    let C = complex_of c.args.c.now in let p = point_of c.args.p.now in let a = c.side_above-vertex.result in
    let F = subst (λ (d : Vector). IsFirstHit C p d c.in-Some.floor) (c.back.ensures.back ∙ ap opposite c.up.ensures.up) c.in-Some.ensures.some in
    volume-in C p c.requires.off c.in-Some.floor F a.0 a.1 c.side_above-vertex.ensures.above

pub returns-clause-at : goal.returns-clause-at
returns-clause-at c =
    let C = complex_of c.args.c.now in let p = point_of c.args.p.now in let a = c.side_above-vertex.result in
    let F = subst (λ (d : Vector). IsFirstHit C p d c.in-Some.floor) (c.back.ensures.back ∙ ap opposite c.up.ensures.up) c.in-Some.ensures.some in
    volume-at C p c.requires.off c.in-Some.floor F a.0 a.1 c.side_above-vertex.ensures.above

pub unreachable-requires : goal.unreachable-requires
unreachable-requires c =
    let S = c.requires.shows in let p = point_of c.args.p.now in
    some-below S.0 c.args.c.now S.1 p c.requires.framed c.requires.off
    (λ q w o. c.in-None.ensures.none refl q (subst (λ (d : Vector). IsAhead p d q) (sym (c.back.ensures.back ∙ ap opposite c.up.ensures.up)) w) o)
