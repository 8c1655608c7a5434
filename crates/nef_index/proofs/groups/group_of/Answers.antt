use Rattle.nef_index.proofs.Prelude.{ℕ, pos, ◌+◌, List, get_or, arith, sym, ◌∙◌, subst, is-at_get, is-at_within, Bounds, Span}
use Rattle.nef_index.proofs.Grouped.{IsGroupTo, group-none, group-more}
use Rattle.nef_index.proofs.groups.group_of.Goals as goal

abbrev none : Span
none = let b : Bounds = record { low = pos 0; high = pos 0 } in record { x = b; y = b; z = b }

pub loop-key-init : goal.loop-key-init
loop-key-init c =
    let ss : List Span = c.args.spans.now in let ps : List (ℕ × ℕ) = c.args.keyed.now in let s : Span = c.none-span.result in
    record { group = subst (λ (ks : List ℕ). IsGroupTo ss ps 0 (record { span = s; carriers = ks })) (sym (c.from_vec-carriers.ensures.all ∙ c.in_ok-room.ensures.items)) (group-none ss ps s) }

pub loop-key-preserved : goal.loop-key-preserved
loop-key-preserved c =
    let ss : List Span = c.args.spans.now in let ps : List (ℕ × ℕ) = c.args.keyed.now in
    let n = c.loop-key._key-index in let t : Span = c.with_span-span.result in
    let e : ℕ × ℕ = get_or ps n (0, 0) in
    let here = is-at_get ps n (0, 0) c.loop-key-test.true in
    let u : Span = get_or ss e.1 none in
    let at = is-at_get ss e.1 none (c.requires.within n e here) in
    record {
      group = subst (λ (ks : List ℕ). IsGroupTo ss ps (n + 1) (record { span = t; carriers = ks })) (sym c.in_ok-push.ensures.ok)
          (group-more ss ps n c.loop-key.span t u c.loop-key.carriers e here at c.with_span-span.ensures.wider c.with_span-span.ensures.other c.loop-key.invariant.group);
    }

pub returns-clause-wide : goal.returns-clause-wide
returns-clause-wide c = c.loop-key.invariant.group.wide

pub returns-clause-all : goal.returns-clause-all
returns-clause-all c i e a = c.loop-key.invariant.group.all i e (let l = is-at_within c.args.keyed.now i e a in let f = c.loop-key-test.false in omega arith) a
