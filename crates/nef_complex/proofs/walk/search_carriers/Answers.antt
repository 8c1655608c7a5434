use Rattle.nef_complex.proofs.Prelude.{length, refl, ◌+◌, List, arith, sym, ◌∙◌, subst, slice_get_read, not_true, Span, Cluster, IsInCluster, LiesOutside}
use Rattle.nef_complex.proofs.Reading.{HaveAll, next-numbers, all-numbers}
use Rattle.nef_complex.proofs.Outside.{all-outside}
use Rattle.nef_complex.proofs.walk.search_carriers.Goals.{then-may_meet, else-may_meet}
use Rattle.nef_complex.proofs.walk.search_carriers.Goals as goal

pub ask_cluster-requires-clause-groups : goal.ask_cluster-requires-clause-groups
ask_cluster-requires-clause-groups g c = λ i x a.
    let A = c.carrier_clusters-cluster-items.ensures.clusters in
    let clusters : List Cluster = c.carrier_clusters-cluster-items.result.now in let n = c.loop-cluster.cluster-index in let q = c.cluster-item.result in
    A.groups n i q x (slice_get_read clusters (length clusters) n q refl c.loop-cluster-test.true c.cluster-item.is) a

pub ask_cluster-requires-clause-right : goal.ask_cluster-requires-clause-right
ask_cluster-requires-clause-right g c = c.loop-cluster.invariant.0

pub loop-cluster-init : goal.loop-cluster-init
loop-cluster-init g c = (c.requires.right, λ j k l. absurd (omega (arith, l)))

pub loop-cluster-preserved : goal.loop-cluster-preserved
loop-cluster-preserved g c =
    let C = c.args.c.now in let s = c.args.search.now in
    let A = c.carrier_clusters-cluster-items.ensures.clusters in
    let clusters : List Cluster = c.carrier_clusters-cluster-items.result.now in let n = c.loop-cluster.cluster-index in let q = c.cluster-item.result in
    let here = slice_get_read clusters (length clusters) n q refl c.loop-cluster-test.true c.cluster-item.is in
    let I = c.loop-cluster.invariant in
    elim c.if-may_meet.branch [
      | then-may_meet w ↦ let N = w.ask_cluster.ensures in let best = w.ask_cluster.new.found in (
        subst (g.S.Search.right s C) (sym w.found-is) N.right,
        subst (λ o. HaveAll IsInCluster (g.S.Search.passed s C o) clusters (n + 1)) (sym w.found-is)
            (next-numbers IsInCluster (g.S.Search.passed s C best) clusters n q here (λ i r l a k b. N.kept k (I.1 i r l a k b)) N.passed),
      )
      | else-may_meet w ↦ (
        subst (g.S.Search.right s C) (sym w.found-is) I.0,
        subst (λ o. HaveAll IsInCluster (g.S.Search.passed s C o) clusters (n + 1)) (sym w.found-is)
            (next-numbers IsInCluster (g.S.Search.passed s C c.loop-cluster.found) clusters n q here I.1
            (λ k b. g.met.S.Search.apart s C c.loop-cluster.found k (subst (λ (v : Span). LiesOutside C v k) c.window.ensures.window
            (all-outside C q.span c.window.result.now (λ y u v. not_true (sym w.if-may_meet.false ∙ c.may_meet.ensures.meets y u v)) (IsInCluster q) (A.each n q here) k b)))),
      )
    ]

pub returns-clause-passed : goal.returns-clause-passed
returns-clause-passed g c = λ k l.
    let A = c.carrier_clusters-cluster-items.ensures.clusters in
    all-numbers IsInCluster (g.S.Search.passed c.args.search.now c.args.c.now c.loop-cluster.found) c.carrier_clusters-cluster-items.result.now c.loop-cluster.cluster-index c.loop-cluster-test.false c.loop-cluster.invariant.1 k (A.all k l)
