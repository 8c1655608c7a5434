use Rattle.nef_index.proofs.Prelude.{◌≡◌, ℕ, List, [], sym, ◌∙◌, ap, subst, nil_from_length, chunks_rest, is-at_left, Span, Group, IsInGroup}
use Rattle.nef_index.proofs.Grouped.{AreAllButRest, IsGroupWithin, taken-none, taken-more, taken-all, group-within, cluster-wide}
use Rattle.nef_index.proofs.groups.cluster_of.Goals as goal

pub loop-next-init : goal.loop-next-init
loop-next-init c =
    let ss : List Span = c.args.spans.now in let ps : List (ℕ × ℕ) = c.args.keyed.now in let s : Span = c.none-span.result in
    let rest : chunks_rest c.into_iter-next-iterator.result ≡ ps = ap chunks_rest c.into_iter-next-iterator.ensures.into_iter_gives ∙ c.chunks-next-items.ensures.rest in
    record {
      taken = subst (AreAllButRest IsInGroup (IsGroupWithin ss s) ps (chunks_rest c.into_iter-next-iterator.result)) (sym c.new-groups.ensures.empty)
          (subst (λ (rs : List (ℕ × ℕ)). AreAllButRest IsInGroup (IsGroupWithin ss s) ps rs []) (sym rest) (taken-none IsInGroup (IsGroupWithin ss s) ps));
    }

pub group_of-requires : goal.group_of-requires
group_of-requires c =
    let ss : List Span = c.args.spans.now in let ps : List (ℕ × ℕ) = c.args.keyed.now in
    let rest : List (ℕ × ℕ) = chunks_rest c.next.new.self in let next : List (ℕ × ℕ) = c.in-Some.next.now in
    let T = subst (λ (rs : List (ℕ × ℕ)). AreAllButRest IsInGroup (IsGroupWithin ss c.loop-next.span) ps rs c.loop-next.groups) c.in-Some.ensures.steps.1.0 c.loop-next.invariant.taken in
    record { within = λ i e a. let o = T.left i e (is-at_left next rest i e a) in c.requires.within o.0 e o.1 }

pub loop-next-preserved : goal.loop-next-preserved
loop-next-preserved c =
    let ss : List Span = c.args.spans.now in let ps : List (ℕ × ℕ) = c.args.keyed.now in
    let rest : List (ℕ × ℕ) = chunks_rest c.next.new.self in let next : List (ℕ × ℕ) = c.in-Some.next.now in
    let s : Span = c.loop-next.span in let t : Span = c.with_span-span.result in
    let g : Group = c.in_ok-group.group in let G = c.in_ok-group.ensures in
    let T = subst (λ (rs : List (ℕ × ℕ)). AreAllButRest IsInGroup (IsGroupWithin ss s) ps rs c.loop-next.groups) c.in-Some.ensures.steps.1.0 c.loop-next.invariant.taken in
    record {
      taken = subst (AreAllButRest IsInGroup (IsGroupWithin ss t) ps rest) (sym c.in_ok-push.ensures.ok)
          (taken-more IsInGroup (IsGroupWithin ss s) (IsGroupWithin ss t) ps next rest c.loop-next.groups g (group-within ss s t c.with_span-span.ensures.wider) (G.wide, c.with_span-span.ensures.other) G.all T);
    }

pub returns-clause-wide : goal.returns-clause-wide
returns-clause-wide c = cluster-wide c.args.spans.now (record { span = c.loop-next.span; groups = c.loop-next.groups }) c.loop-next.invariant.taken.each

pub returns-clause-groups : goal.returns-clause-groups
returns-clause-groups c = λ i g a. (c.loop-next.invariant.taken.each i g a).0

pub returns-clause-all : goal.returns-clause-all
returns-clause-all c =
    let ss : List Span = c.args.spans.now in let ps : List (ℕ × ℕ) = c.args.keyed.now in let s : Span = c.loop-next.span in
    let none = nil_from_length _ c.in-None.ensures.steps.1.0 in
    taken-all IsInGroup (IsGroupWithin ss s) ps c.loop-next.groups (subst (λ (rs : List (ℕ × ℕ)). AreAllButRest IsInGroup (IsGroupWithin ss s) ps rs c.loop-next.groups) none c.loop-next.invariant.taken)
