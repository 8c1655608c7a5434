use Rattle.nef_spair.proofs.Prelude.{ℕ, ◌+◌, ◌<◌, length, get_or, refl, sym, ap, subst, ◌∙◌, is-at_one, Star, true_or_false, is-at_get}
use Rattle.nef_spair.proofs.Firsts.{IsFirstStar, first-stays, first-changes, first-all, on-named}
use Rattle.nef_spair.proofs.along.first_after.Goals as goal
use Rattle.nef_spair.proofs.along.first_after.Goals.{then-strictly_on, else-strictly_on}
use Rattle.nef_space.proofs.Lists.{is-at_read}

pub of-way-requires-clause-source_level : goal.of-way-requires-clause-source_level
of-way-requires-clause-source_level c =
    let d = c.index-kept-from.result in
    c.requires.level (get_or c.args.kept.now c.args.from d) (is-at_get c.args.kept.now c.args.from d c.requires.within)

pub of-way-requires-clause-target_level : goal.of-way-requires-clause-target_level
of-way-requires-clause-target_level c =
    let d = c.index-kept-first.result in let w = c.loop-k.invariant in
    w.level (get_or c.args.kept.now c.loop-k.first d) (is-at_get c.args.kept.now c.loop-k.first d w.within)

pub loop-k-preserved : goal.loop-k-preserved
loop-k-preserved c =
    let kept = c.args.kept.now in let n = c.args.normal.now in let v = get_or kept c.args.from c.index-kept-from.result in let s = v.axis in let k = c.loop-k.k in let j = c.loop-k.first in let w = c.loop-k.invariant in
    let t = get_or kept j c.index-kept-first.result in let u = c.index-kept-k.result in
    let kh : k < length kept = c.loop-k-test.true in
    let a = is-at_get kept j c.index-kept-first.result w.within in let b = is-at_read kept k u kh c.index-kept-k.is in
    let way = c.of-way.result in let ew = c.of-way.ensures in
    elim c.if-strictly_on.branch [
      | then-strictly_on r ↦
          let source = c.requires.level v (is-at_get kept c.args.from c.index-kept-from.result c.requires.within) in
          subst (λ (i : ℕ). IsFirstStar kept n s (k + 1) i) (sym r.first-is)
          (first-changes kept n s k j t u w a b kh source (on-named n s t.axis u.axis way.normal way.source way.target u.axis ew.normal ew.source ew.target refl (c.strictly_on.ensures.on.0 r.if-strictly_on.true)))
      | else-strictly_on r ↦
          subst (λ (i : ℕ). IsFirstStar kept n s (k + 1) i) (sym r.first-is)
          (first-stays kept n s k j t u w a b kh
          (λ o. true_or_false (sym (c.strictly_on.ensures.on.1 (on-named way.normal way.source way.target u.axis n s t.axis u.axis (sym ew.normal) (sym ew.source) (sym ew.target) refl o)) ∙ r.if-strictly_on.false)))
    ]

pub returns : goal.returns
returns c =
    let kept = c.args.kept.now in let w = c.loop-k.invariant in let v = get_or kept c.args.from c.index-kept-from.result in
    record {
      first = λ t a.
          let f = is-at_get kept c.loop-k.first v w.within in
          let e = is-at_one kept c.args.from t v a (is-at_get kept c.args.from c.index-kept-from.result c.requires.within) in
          first-all kept c.args.normal.now v.axis c.loop-k.k c.loop-k.first _ c.loop-k-test.false w f t (ap (λ (x : Star). x.axis) e);
    }
