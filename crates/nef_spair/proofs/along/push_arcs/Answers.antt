use Rattle.nef_spair.proofs.Prelude.{◌+◌, List, length, get_or, Vec, Global, arith, sym, ap, subst, ◌∙◌, IsAt, is-at_one, Ray, Star, IsStar, true_or_false, SArc, is-at_get, AreArcs}
use Rattle.nef_spair.proofs.Places.{all-at}
use Rattle.nef_spair.proofs.Leaving.{arcs-past, arcs-more, arcs-next}
use Rattle.nef_spair.proofs.along.push_arcs.Goals as goal
use Rattle.nef_spair.proofs.along.push_arcs.Goals.{then-ray+in_ok-push, else-ray}
use Rattle.nef_space.proofs.Lists.{is-at_read}

pub arc_along-requires-clause-ray : goal.arc_along-requires-clause-ray
arc_along-requires-clause-ray c =
    let kept = c.args.kept.now in let s = get_or kept c.args.from c.index-kept-from.result in let r = c.ray-item.result in let n = c.loop-number.number in
    let ray = is-at_read c.as_slice-ray-items.result.now n r c.loop-number-test.true c.ray-item.is in
    λ t a.
    let e = is-at_one kept c.args.from s t (is-at_get kept c.args.from c.index-kept-from.result c.requires.within) a in
    subst (λ (x : Star). IsAt x.rays.items n r) e (subst (λ (l : List Ray). IsAt l n r) c.as_slice-ray-items.ensures.value ray)

pub loop-number-preserved : goal.loop-number-preserved
loop-number-preserved c =
    let kept = c.args.kept.now in let s = get_or kept c.args.from c.index-kept-from.result in let r = c.ray-item.result in let i = c.args.from in let n = c.loop-number.number in
    let arcs = c.loop-number.arcs.items in let inv = c.loop-number.invariant in
    let star = is-at_get kept i c.index-kept-from.result c.requires.within in
    let ray = subst (λ (l : List Ray). IsAt l n r) c.as_slice-ray-items.ensures.value (is-at_read c.as_slice-ray-items.result.now n r c.loop-number-test.true c.ray-item.is) in
    elim c.if-ray.branch [
      | then-ray+in_ok-push w ↦
          let e = w.arc_along.ensures in let star = all-at IsStar kept c.requires.stars w.arc_along.result.source e.along.star e.along.has_star in
          subst (AreArcs kept i (n + 1)) (sym {A = List SArc} (ap (λ (v : Vec SArc Global). v.items) w.arcs-is ∙ w.in_ok-push.ensures.items)) (arcs-more kept i n arcs inv w.arc_along.result e.arc e.source e.along star.turned)
      | else-ray w ↦
          subst (AreArcs kept i (n + 1)) (sym {A = List SArc} (ap (λ (v : Vec SArc Global). v.items) w.arcs-is))
          (arcs-past kept i n arcs inv s r star ray (λ t. true_or_false (sym t ∙ w.if-ray.false)))
    ]

pub returns : goal.returns
returns c =
    let kept = c.args.kept.now in let s = get_or kept c.args.from c.index-kept-from.result in
    let a = is-at_get kept c.args.from c.index-kept-from.result c.requires.within in
    record { arcs = arcs-next kept c.args.from c.loop-number.number c.loop-number.arcs.items s a (let e = ap length c.as_slice-ray-items.ensures.value in let f = c.loop-number-test.false in omega (arith, e, f)) c.loop-number.invariant }
