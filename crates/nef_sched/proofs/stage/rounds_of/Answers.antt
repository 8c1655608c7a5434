use Rattle.nef_sched.proofs.Prelude.{◌≡◌, ℕ, ◌<◌, max, arith, sym, ◌∙◌, subst, Option, IfSome, round_after, AreRounds}
use Rattle.nef_sched.proofs.Planning.{rounds_next}
use Rattle.nef_sched.proofs.stage.rounds_of.Goals as goal

pub round_after-first-requires-clause-number : goal.round_after-first-requires-clause-number
round_after-first-requires-clause-number g c =
    rw c.deref.ensures.value (subst (λ n. IfSome c.needs-needs.result.first (λ k. k < n)) (sym c.loop-number.invariant.len) c.needs-needs.ensures.below.0)

pub round_after-first-requires-clause-low : goal.round_after-first-requires-clause-low
round_after-first-requires-clause-low g c =
    let i = c.loop-number.invariant in
    let len = i.len in
    rw c.deref.ensures.value (λ k low. i.low k (omega arith))

pub round_after-second-requires-clause-number : goal.round_after-second-requires-clause-number
round_after-second-requires-clause-number g c =
    rw c.deref-in-loop-number.ensures.value (subst (λ n. IfSome c.needs-needs.result.second (λ k. k < n)) (sym c.loop-number.invariant.len) c.needs-needs.ensures.below.1)

pub round_after-second-requires-clause-low : goal.round_after-second-requires-clause-low
round_after-second-requires-clause-low g c =
    let i = c.loop-number.invariant in
    let len = i.len in
    rw c.deref-in-loop-number.ensures.value (λ k low. i.low k (omega arith))

pub loop-number-preserved : goal.loop-number-preserved
loop-number-preserved g c =
    let n = c.loop-number.number in
    let needs = c.needs-needs.ensures in
    let p : c.round_after-first.result ≡ round_after c.loop-number.rounds.items (g.T.Stage.first c.args.stage.now n) = c.round_after-first.ensures ∙ (λ t. round_after (c.deref.ensures.value t) (needs.first t)) in
    let q : c.round_after-second.result ≡ round_after c.loop-number.rounds.items (g.T.Stage.second c.args.stage.now n) = c.round_after-second.ensures ∙ (λ t. round_after (c.deref-in-loop-number.ensures.value t) (needs.second t)) in
    rw c.in_ok-push.ensures.items (rounds_next n (g.T.Stage.first c.args.stage.now) (g.T.Stage.second c.args.stage.now) _ _ c.loop-number.invariant
    (subst (λ (z : Option ℕ). IfSome z (λ k. k < n)) needs.first needs.below.0)
    (subst (λ (z : Option ℕ). IfSome z (λ k. k < n)) needs.second needs.below.1)
    (c.max.ensures ∙ (λ t. max (p t) (q t))))

pub returns : goal.returns
returns g c =
    let size = c.count-number-end.ensures in
    let end = c.loop-number-test.false in
    let low = c.loop-number.auto.number-end in
    let all : c.loop-number.number ≡ g.T.Stage.size c.args.stage.now = omega arith in
    record { rounds = subst (λ n. AreRounds n (g.T.Stage.first c.args.stage.now) (g.T.Stage.second c.args.stage.now) c.loop-number.rounds.items) all c.loop-number.invariant }
