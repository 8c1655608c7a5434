use Rattle.nef_index.proofs.Prelude.{◌≡◌, ℕ, List, [], sym, ◌∙◌, ap, subst, nil_from_length, chunks_rest, is-at_left, Span, Cluster, StandsIn, IsInCluster}
use Rattle.nef_index.proofs.Grouped.{AreAllButRest, AreWide, taken-none, taken-more, taken-all}
use Rattle.nef_index.proofs.groups.clusters_of.Goals as goal

pub loop-next-init : goal.loop-next-init
loop-next-init c =
    let ss : List Span = c.args.spans.now in let ps : List (ℕ × ℕ) = c.in_ok-keyed.keyed.items in
    let rest : chunks_rest c.into_iter-next-iterator.result ≡ ps = ap chunks_rest c.into_iter-next-iterator.ensures.into_iter_gives ∙ c.chunks-next-items.ensures.rest ∙ c.deref.ensures.value in (
      ps,
      c.in_ok-keyed.ensures.keyed,
      subst (AreAllButRest IsInCluster (AreWide ss) ps (chunks_rest c.into_iter-next-iterator.result)) (sym c.new-clusters.ensures.empty)
          (subst (λ (rs : List (ℕ × ℕ)). AreAllButRest IsInCluster (AreWide ss) ps rs []) (sym rest) (taken-none IsInCluster (AreWide ss) ps)),
    )

pub cluster_of-requires : goal.cluster_of-requires
cluster_of-requires c =
    let ss : List Span = c.args.spans.now in let I = c.loop-next.invariant in
    let rest : List (ℕ × ℕ) = chunks_rest c.next.new.self in let next : List (ℕ × ℕ) = c.in-Some.next.now in
    let T = subst (λ (rs : List (ℕ × ℕ)). AreAllButRest IsInCluster (AreWide ss) I.0 rs c.loop-next.clusters) c.in-Some.ensures.steps.1.0 I.2 in
    let K = I.1 in
    record { within = λ i e a. let o = T.left i e (is-at_left next rest i e a) in K.within o.0 e o.1 }

pub loop-next-preserved : goal.loop-next-preserved
loop-next-preserved c =
    let ss : List Span = c.args.spans.now in let I = c.loop-next.invariant in
    let rest : List (ℕ × ℕ) = chunks_rest c.next.new.self in let next : List (ℕ × ℕ) = c.in-Some.next.now in
    let q : Cluster = c.in_ok-cluster_of.field-0 in let Q = c.in_ok-cluster_of.ensures in
    let T = subst (λ (rs : List (ℕ × ℕ)). AreAllButRest IsInCluster (AreWide ss) I.0 rs c.loop-next.clusters) c.in-Some.ensures.steps.1.0 I.2 in (
      I.0,
      I.1,
      subst (AreAllButRest IsInCluster (AreWide ss) I.0 rest) (sym c.in_ok-push.ensures.ok)
          (taken-more IsInCluster (AreWide ss) (AreWide ss) I.0 next rest c.loop-next.clusters q (λ y w. w) (Q.wide, Q.groups) Q.all T),
    )

pub returns-clause-wide : goal.returns-clause-wide
returns-clause-wide c = let T = c.loop-next.invariant.2 in λ i q a. (T.each i q a).0

pub returns-clause-groups : goal.returns-clause-groups
returns-clause-groups c = let T = c.loop-next.invariant.2 in λ i j q g a b. (T.each i q a).1 j g b

pub returns-clause-all : goal.returns-clause-all
returns-clause-all c = λ k l.
    let ss : List Span = c.args.spans.now in let I = c.loop-next.invariant in
    let none = nil_from_length _ c.in-None.ensures.steps.1.0 in
    let T = subst (λ (rs : List (ℕ × ℕ)). AreAllButRest IsInCluster (AreWide ss) I.0 rs c.loop-next.clusters) none I.2 in
    let K = I.1 in
    let o = K.all k l in
    subst (StandsIn IsInCluster c.loop-next.clusters) o.3 (taken-all IsInCluster (AreWide ss) I.0 c.loop-next.clusters T o.0 o.1 o.2)
