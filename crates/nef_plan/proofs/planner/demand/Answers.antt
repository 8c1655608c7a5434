use Rattle.nef_plan.proofs.Prelude.{◌≡◌, ◌∙◌, [], ap, arith, refl, sym, subst, Some, length, slice_get, slice_set, slice_get_read, slice_get-get_or, Bound, Made, Deferred, GoesOn, IsBoundIn, Tells}
use Rattle.nef_plan.proofs.Growth.{grown-refl}
use Rattle.nef_plan.proofs.Added.{added-none}
use Rattle.nef_plan.proofs.Bounds.{on-set, on-grown, bound-place, bound-made, bound-same}
use Rattle.nef_plan.proofs.planner.demand.Goals as goal
use Rattle.nef_plan.proofs.planner.demand.Goals.{In-Deferred}

-- what is told of the node
told : (c : In-Deferred) → Tells c.args.plan.now c.in-Some.node (Deferred c.in-Deferred.row)
told c =
    let bounds = c.args.bounds.now in
    let node = c.in-Some.node in
    let bound : IsBoundIn bounds node = rw c.in-Some.is at c.requires.bound in
    let at = slice_get-get_or bounds node c.index-bounds-node.result (bound-place bounds node bound) in
    c.requires.planned.told node (Deferred c.in-Deferred.row) (at ∙ ap Some (sym c.in-Deferred.ensures.value))

pub finish-requires-clause-free : goal.finish-requires-clause-free
finish-requires-clause-free c = (told (goal.at.finish-requires-clause-free c).In-Deferred).0

pub finish-requires-clause-row : goal.finish-requires-clause-row
finish-requires-clause-row c = (told (goal.at.finish-requires-clause-row c).In-Deferred).1

pub returns-in_ok-finish-clause-goes_on : goal.returns-in_ok-finish-clause-goes_on
returns-in_ok-finish-clause-goes_on c =
    let bounds = c.args.bounds.now in
    let node = c.in-Some.node in
    let bound : IsBoundIn bounds node = rw c.in-Some.is at c.requires.bound in
    let made = c.in_ok-finish.ensures in
    subst (λ (z : Bound). GoesOn c.args.plan.now bounds c.finish.new.plan (slice_set bounds node z) []) (sym c.in-Deferred.ensures.after)
    (on-set c.args.plan.now c.finish.new.plan [] bounds node Made c.requires.planned made.grown (bound-place bounds node bound) tt made.ready made.added)

pub returns-in_ok-finish-clause-only : goal.returns-in_ok-finish-clause-only
returns-in_ok-finish-clause-only c k is =
    let bounds = c.args.bounds.now in
    let node = c.in-Some.node in
    let bound : IsBoundIn bounds node = rw c.in-Some.is at c.requires.bound in
    bound-same bounds node Made bound k (subst (λ (z : Bound). IsBoundIn (slice_set bounds node z) k) c.in-Deferred.ensures.after is)

pub returns-in_ok-finish-clause-ready : goal.returns-in_ok-finish-clause-ready
returns-in_ok-finish-clause-ready c = rw c.in-Some.is c.in_ok-finish.ensures.ready

pub returns-in_default-clause-goes_on : goal.returns-in_default-clause-goes_on
returns-in_default-clause-goes_on c = on-grown c.args.plan.now c.args.plan.now [] c.args.bounds.now c.requires.planned (grown-refl c.args.plan.now c.requires.planned.steps) (added-none c.args.plan.now (λ k. ⊥))

pub returns-in_default-replace : goal.returns-in_default-replace
returns-in_default-replace c =
    let plan = c.args.plan.now in
    let bounds = c.args.bounds.now in
    let node = c.in-Some.node in
    let bound : IsBoundIn bounds node = rw c.in-Some.is at c.requires.bound in
    let within = bound-place bounds node bound in
    let b = c.index-bounds-node.result in
    let at : slice_get bounds node ≡ Some b = slice_get_read bounds (length bounds) node b refl within c.index-bounds-node.is in
    let made = bound-made bounds node b bound at (λ row e. c.in_default-replace.not-Deferred row (c.replace.ensures.value ∙ sym c.index-bounds-node.is ∙ e)) in
    let ready = c.requires.planned.told node Made (at ∙ ap Some made) in
    let grown = grown-refl plan c.requires.planned.steps in
    record {
      goes_on = subst (λ (z : Bound). GoesOn plan bounds plan (slice_set bounds node z) []) (sym c.replace.ensures.after) (on-set plan plan [] bounds node Made c.requires.planned grown within tt ready (added-none plan (λ k. k ≡ node)));
      only = λ k is. bound-same bounds node Made bound k (subst (λ (z : Bound). IsBoundIn (slice_set bounds node z) k) c.replace.ensures.after is);
      joins = omega arith;
      ready = rw c.in-Some.is ready;
    }

pub returns-in_ok-finish-clause-joins : goal.returns-in_ok-finish-clause-joins
returns-in_ok-finish-clause-joins c =
    let few = (told (goal.at.returns-in_ok-finish-clause-joins c).In-Deferred).2 in
    let made = c.in_ok-finish.ensures.joins in
    omega (arith, few, made)
