use Rattle.nef_complex.proofs.Prelude.{length, refl, ◌+◌, List, arith, sym, ◌∙◌, subst, slice_get_read, IsAt, not_true, Span, StandsIn, IsInGroup, Group, LiesOutside}
use Rattle.nef_complex.proofs.Reading.{HaveAll, next-numbers, all-numbers}
use Rattle.nef_complex.proofs.Outside.{all-outside}
use Rattle.nef_complex.proofs.walk.ask_cluster.Goals.{then-may_meet, else-may_meet}
use Rattle.nef_complex.proofs.walk.ask_cluster.Goals as goal

pub ask_group-requires-clause-within : goal.ask_group-requires-clause-within
ask_group-requires-clause-within g c = λ j k a.
    let groups : List Group = c.as_slice-group-items.result.now in let n = c.loop-group.group-index in let x = c.group-item.result in
    let here = slice_get_read groups (length groups) n x refl c.loop-group-test.true c.group-item.is in
    let A = c.requires.groups n x (subst (λ (gs : List Group). IsAt gs n x) c.as_slice-group-items.ensures.all here) in
    A.within k (j, a)

pub ask_group-requires-clause-right : goal.ask_group-requires-clause-right
ask_group-requires-clause-right g c = c.loop-group.invariant.0

pub loop-group-init : goal.loop-group-init
loop-group-init g c = (c.requires.right, λ k p. p, λ j k l. absurd (omega (arith, l)))

pub loop-group-preserved : goal.loop-group-preserved
loop-group-preserved g c =
    let C = c.args.c.now in let s = c.args.search.now in
    let groups : List Group = c.as_slice-group-items.result.now in let n = c.loop-group.group-index in let x = c.group-item.result in
    let here = slice_get_read groups (length groups) n x refl c.loop-group-test.true c.group-item.is in
    let I = c.loop-group.invariant in
    elim c.if-may_meet.branch [
      | then-may_meet w ↦ let N = w.ask_group.ensures in let best = w.ask_group.new.found in (
        subst (g.S.Search.right s C) (sym w.found-is) N.right,
        λ k p. subst (λ o. g.S.Search.passed s C o k) (sym w.found-is) (N.kept k (I.1 k p)),
        subst (λ o. HaveAll IsInGroup (g.S.Search.passed s C o) groups (n + 1)) (sym w.found-is)
            (next-numbers IsInGroup (g.S.Search.passed s C best) groups n x here (λ i r l a k b. N.kept k (I.2 i r l a k b)) N.passed),
      )
      | else-may_meet w ↦
          let A = c.requires.groups n x (subst (λ (gs : List Group). IsAt gs n x) c.as_slice-group-items.ensures.all here) in (
            subst (g.S.Search.right s C) (sym w.found-is) I.0,
            λ k p. subst (λ o. g.S.Search.passed s C o k) (sym w.found-is) (I.1 k p),
            subst (λ o. HaveAll IsInGroup (g.S.Search.passed s C o) groups (n + 1)) (sym w.found-is)
                (next-numbers IsInGroup (g.S.Search.passed s C c.loop-group.found) groups n x here I.2
                (λ k b. g.met.S.Search.apart s C c.loop-group.found k (subst (λ (v : Span). LiesOutside C v k) c.window.ensures.window
                (all-outside C x.span c.window.result.now (λ y u v. not_true (sym w.if-may_meet.false ∙ c.may_meet.ensures.meets y u v)) (IsInGroup x) A k b)))),
          )
    ]

pub returns-clause-passed : goal.returns-clause-passed
returns-clause-passed g c = λ k o.
    let groups : List Group = c.as_slice-group-items.result.now in
    all-numbers IsInGroup (g.S.Search.passed c.args.search.now c.args.c.now c.loop-group.found) groups c.loop-group.group-index c.loop-group-test.false c.loop-group.invariant.2 k
    (subst (λ (gs : List Group). StandsIn IsInGroup gs k) (sym c.as_slice-group-items.ensures.all) o)
