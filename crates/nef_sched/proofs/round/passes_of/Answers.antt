use Rattle.nef_sched.proofs.Prelude.{◌≡◌, ◌-◌, rules, arith, ap, ◌∙◌, All-push, view, IsPassOf, View, RoundPass, parts, total_parts, IsFresh}
use Rattle.nef_sched.proofs.Steps.{forks, parts_snoc}
use Rattle.nef_sched.proofs.round.passes_of.Goals as goal

pub another-other-requires-clause-rule : goal.another-other-requires-clause-rule
another-other-requires-clause-rule c =
    let t = c.loop-test.true in
    let r = c.ranges.passes.fits in
    forks _ _ (let i = c.loop.invariant.parts in omega arith) (let d = c.loop.invariant.due in omega arith)

pub loop-preserved : goal.loop-preserved
loop-preserved c =
    let i = c.loop.invariant in
    let made = c.another-other.ensures.rule in
    let fewer : (view c.another-other.new.pass).parts ≡ (view c.loop.pass).parts - 1 = ap (λ (v : View). v.parts) made.0 in
    let less : (view c.another-other.new.pass).due ≡ (view c.loop.pass).due - 1 = ap (λ (v : View). v.due) made.0 in
    let other_part : (view c.another-other.result).parts ≡ 1 = ap (λ (v : View). v.parts) made.1 in
    let made_of = c.in_ok-more.ensures in
    let put = c.push_reserved.ensures in
    let same : parts c.in_ok-more.more ≡ 1 = ap (λ p. (view {V = View} p).parts) made_of.pass ∙ other_part in
    let all = ap total_parts put.items ∙ parts_snoc _ _ in
    let p = i.parts in
    let q = i.every in
    let d = i.due in
    let r = c.ranges.passes.fits in
    let t = c.loop-test.true in
    record {
      of = search rules;
      parts = omega arith;
      due = omega arith;
      none = (ap (λ (v : View). v.taken) made.0 ∙ i.none.0, ap (λ (v : View). v.ended) made.0 ∙ i.none.1);
      knows = search rules;
      every = omega arith;
      len = let l = i.len in omega (arith, put.len, l);
      each = rw put.items (All-push (λ (p : RoundPass). IsPassOf c.args.queue.now p.pass) _ _ i.each (rw made_of.pass (search rules)));
      fresh = rw put.items (All-push (IsFresh (view c.args.pass).known) _ _ i.fresh (ap (λ p. (view {V = View} p).known) made_of.pass ∙ ap (λ (v : View). v.known) made.1 ∙ i.knows, made_of.fresh, ap (λ p. (view {V = View} p).ended) made_of.pass ∙ ap (λ (v : View). v.ended) made.1));
      space = rw put.capacity i.space;
    }

pub returns-clause-every : goal.returns-clause-every
returns-clause-every c =
    let all = ap total_parts c.push_reserved-2.ensures.items ∙ parts_snoc _ _ in
    let last : parts c.in_ok-last.last ≡ (view c.loop.pass).parts = ap (λ p. (view {V = View} p).parts) c.in_ok-last.ensures.pass in
    let q = c.loop.invariant.every in
    omega arith

pub returns-clause-of : goal.returns-clause-of
returns-clause-of c = rw c.push_reserved-2.ensures.items (All-push (λ (p : RoundPass). IsPassOf c.args.queue.now p.pass) _ _ c.loop.invariant.each (rw c.in_ok-last.ensures.pass c.loop.invariant.of))

pub returns-clause-fresh : goal.returns-clause-fresh
returns-clause-fresh c =
    let i = c.loop.invariant in
    let e = c.in_ok-last.ensures in
    rw c.push_reserved-2.ensures.items (All-push (IsFresh (view c.args.pass).known) _ _ i.fresh (ap (λ p. (view {V = View} p).known) e.pass ∙ i.knows, e.fresh, ap (λ p. (view {V = View} p).ended) e.pass ∙ i.none.1))
