use Rattle.std.proofs.Common.{rules}
use Rattle.nef_plan.proofs.Prelude.{◌≡◌, ◌∙◌, ◌<◌, ◌≤◌, ◌+◌, ◌∷◌, ℕ, ap, Option, None, Some, [], length, arith, subst, sym, inl, inr, IfSome, Made, AddsOnly, GoesOn, DraftLooksAt, IsBoundIn, IsMade, IsNodeReady, Makes, asked, joins_a_line}
use Rattle.nef_plan.proofs.Growth.{makes-one, makes-within, ready-grown, right-more}
use Rattle.nef_plan.proofs.Added.{added-one}
use Rattle.nef_plan.proofs.Bounds.{on-grown, on-set, on-trans, bound-before, bound-here, some-all, unbound-free}
use Rattle.nef_plan.proofs.planner.add_draft.Goals as goal
use Rattle.nef_plan.proofs.planner.add_draft.Goals.{In_default, In_ok-demand-2}

pub demand-requires-clause-bound : goal.demand-requires-clause-bound
demand-requires-clause-bound c = some-all c.looked_at-first.result.0 (IsBoundIn c.args.bounds.now) (λ k e. c.requires.looks k ((c.looked_at-first.ensures.looked_at k).1 (inl e)))

pub demand-requires-2-clause-planned : goal.demand-requires-2-clause-planned
demand-requires-2-clause-planned c = c.in_ok-demand.ensures.goes_on.planned

pub demand-requires-2-clause-bound : goal.demand-requires-2-clause-bound
demand-requires-2-clause-bound c =
    some-all c.looked_at-first.result.1 (IsBoundIn c.demand.new.bounds) (λ k e. c.in_ok-demand.ensures.goes_on.still k (c.requires.looks k ((c.looked_at-first.ensures.looked_at k).1 (inr e))))

-- what is known before the step is added: what it looks at is made
on-here : (c : In_ok-demand-2) → GoesOn c.args.plan.now c.args.bounds.now c.demand-2.new.plan c.demand-2.new.bounds []
on-here c =
    let first = c.demand.new in
    let second = c.demand-2.new in
    on-trans c.args.plan.now first.plan second.plan c.args.bounds.now first.bounds second.bounds [] [] c.in_ok-demand.ensures.goes_on c.in_ok-demand-2.ensures.goes_on

only-here : (c : In_ok-demand-2) (k : ℕ) → IsBoundIn c.demand-2.new.bounds k → IsBoundIn c.args.bounds.now k
only-here c k is = c.in_ok-demand.ensures.only k (c.in_ok-demand-2.ensures.only k is)

made-here : (c : In_ok-demand-2) (k : ℕ) → DraftLooksAt c.args.step k → IsMade c.demand-2.new.plan.steps.items k
made-here c k looks =
    let first = c.demand.new.plan in
    let second = c.demand-2.new.plan in
    elim ((c.looked_at-first.ensures.looked_at k).0 looks) [
      | inl e ↦ (
          let ready : IsNodeReady first k = subst (λ (o : Option ℕ). IfSome o (IsNodeReady first)) e c.in_ok-demand.ensures.ready in
          (ready-grown first second [] k c.in_ok-demand-2.ensures.goes_on.grown ready).made)
      | inr e ↦ (let ready : IsNodeReady second k = subst (λ (o : Option ℕ). IfSome o (IsNodeReady second)) e c.in_ok-demand-2.ensures.ready in ready.made)
    ]

within-here : (c : In_ok-demand-2) (k : ℕ) → Makes c.args.step k → k < length c.demand-2.new.bounds
within-here c k makes = let below = (c.requires.unbound k makes).0 in omega (arith, below, c.demand.auto.bounds, c.demand-2.auto.bounds)

joins-here : (c : In_ok-demand-2) → length c.demand-2.new.plan.nodes ≤ length c.args.plan.now.nodes + joins_a_line
joins-here c = let first = c.in_ok-demand.ensures.joins in let second = c.in_ok-demand-2.ensures.joins in omega (arith, first, second)

pub add_step-requires-clause-steps : goal.add_step-requires-clause-steps
add_step-requires-clause-steps c = c.in_ok-demand-2.ensures.goes_on.planned.steps

pub add_step-requires-clause-right : goal.add_step-requires-clause-right
add_step-requires-clause-right c = right-more c.args.plan.now.nodes c.demand-2.new.plan.nodes c.args.step (on-here (goal.at.add_step-requires-clause-right c).In_ok-demand-2).grown.nodes c.requires.right

pub add_step-requires-clause-follows : goal.add_step-requires-clause-follows
add_step-requires-clause-follows c =
    let at = (goal.at.add_step-requires-clause-follows c).In_ok-demand-2 in
    let middle = c.demand-2.new in
    record {
      looks = made-here at;
      new = λ k makes made. (unbound-free middle.plan middle.bounds k (on-here at).planned (within-here at k makes) (λ is. (c.requires.unbound k makes).1 (only-here at k is))).unmade made;
    }

pub bounds-bounds-node : goal.bounds-bounds-node
bounds-bounds-node c = within-here (goal.at.bounds-bounds-node c).In_ok-demand-2 c.in-Some.node ((c.made_by.ensures.made c.in-Some.node).1 c.in-Some.is)

pub offset_bounds-bounds-node : goal.offset_bounds-bounds-node
offset_bounds-bounds-node c =
    let below : c.in-Some.node < length c.demand-2.new.bounds = within-here (goal.at.offset_bounds-bounds-node c).In_ok-demand-2 c.in-Some.node ((c.made_by.ensures.made c.in-Some.node).1 c.in-Some.is) in
    search rules

pub returns-in-Some-clause-goes_on : goal.returns-in-Some-clause-goes_on
returns-in-Some-clause-goes_on c =
    let at = (goal.at.returns-in-Some-clause-goes_on c).In_ok-demand-2 in
    let node = c.in-Some.node in
    let makes = (c.made_by.ensures.made node).1 c.in-Some.is in
    let middle = c.demand-2.new in
    let plan = c.add_step.new.plan in
    let on = on-here at in
    let did = c.in_ok-add_step.ensures in
    let there = makes-within c.args.plan.now.nodes c.args.step node c.requires.right makes in
    let ready : IsNodeReady plan node = record { within = omega (arith, there, on.grown.nodes.as_many, did.grown.nodes.as_many); made = did.made node makes } in
    let added : AddsOnly middle.plan plan (λ k. k ≡ node) = added-one middle.plan plan (λ k. k ≡ node) c.args.step did.steps (λ k also. inl (makes-one c.args.step node k makes also)) in
    on-trans c.args.plan.now middle.plan plan c.args.bounds.now middle.bounds _ [] (asked (c.args.step ∷ [])) on
    (on-set middle.plan plan (asked (c.args.step ∷ [])) middle.bounds node Made on.planned did.grown (within-here at node makes) tt ready added)

pub returns-in-Some-clause-bound : goal.returns-in-Some-clause-bound
returns-in-Some-clause-bound c k makes =
    let node = c.in-Some.node in
    let here = (c.made_by.ensures.made node).1 c.in-Some.is in
    let bounds = c.demand-2.new.bounds in
    rw (makes-one c.args.step node k here makes) (bound-here bounds node Made (within-here (goal.at.returns-in-Some-clause-bound c).In_ok-demand-2 node here) tt)

pub returns-in-Some-clause-only : goal.returns-in-Some-clause-only
returns-in-Some-clause-only c k is =
    elim (bound-before c.demand-2.new.bounds c.in-Some.node Made k is) [
      | inl before ↦ inl (only-here (goal.at.returns-in-Some-clause-only c).In_ok-demand-2 k before)
      | inr e ↦ inr (rw e ((c.made_by.ensures.made c.in-Some.node).1 c.in-Some.is))
    ]

-- a question makes nothing
none : (c : In_default) (k : ℕ) → Makes c.args.step k → ⊥
none c k makes = let f : None ≡ Some k = sym c.in_default.is ∙ (c.made_by.ensures.made k).0 makes in cc

pub returns-in_default-clause-goes_on : goal.returns-in_default-clause-goes_on
returns-in_default-clause-goes_on c =
    let middle = c.demand-2.new in
    let plan = c.add_step.new.plan in
    let on = on-here (goal.at.returns-in_default-clause-goes_on c).In_ok-demand-2 in
    let did = c.in_ok-add_step.ensures in
    on-trans c.args.plan.now middle.plan plan c.args.bounds.now middle.bounds middle.bounds [] (asked (c.args.step ∷ [])) on
    (on-grown middle.plan plan (asked (c.args.step ∷ [])) middle.bounds on.planned did.grown
    (added-one middle.plan plan (λ k. ⊥) c.args.step did.steps (λ k makes. absurd (none (goal.at.returns-in_default-clause-goes_on c).In_default k makes))))

pub returns-in_default-clause-bound : goal.returns-in_default-clause-bound
returns-in_default-clause-bound c k makes = absurd (none (goal.at.returns-in_default-clause-bound c).In_default k makes)

pub returns-in_default-clause-only : goal.returns-in_default-clause-only
returns-in_default-clause-only c k is = inl (only-here (goal.at.returns-in_default-clause-only c).In_ok-demand-2 k is)

pub returns-in-Some-clause-joins : goal.returns-in-Some-clause-joins
returns-in-Some-clause-joins c =
    let joined = joins-here (goal.at.returns-in-Some-clause-joins c).In_ok-demand-2 in
    let same = ap length c.add_step.ensures.nodes in
    omega (arith, joined, same)

pub returns-in_default-clause-joins : goal.returns-in_default-clause-joins
returns-in_default-clause-joins c =
    let joined = joins-here (goal.at.returns-in_default-clause-joins c).In_ok-demand-2 in
    let same = ap length c.add_step.ensures.nodes in
    omega (arith, joined, same)
