use Rattle.nef_plan.proofs.Prelude.{◌≡◌, ◌∙◌, ◌∷◌, ◌++◌, [], ap, refl, sym, subst, length, take, Some, arith, inl, inr, slice_get, take_all, slice_get_read, place-push, AreLastUses, AreUses, IsLastAt, tasks_in}
use Rattle.std.proofs.lemmas.List.{length-append}
use Rattle.nef_plan.proofs.Ended.{ends-all, tasks_in-push}
use Rattle.nef_plan.proofs.Grouping.{parts-at}
use Rattle.nef_plan.proofs.numbering.ended.Goals as goal

pub loop-now-preserved : goal.loop-now-preserved
loop-now-preserved c =
    let tasks = c.args.tasks.now in
    let now = c.loop-now.now in
    let item = c.index-tasks-now.result in
    let so_far = c.loop-now.invariant in
    let out = c.loop-now.steps.items in
    let step = c.step_of.result in
    let (next, whole) = parts-at tasks now item (omega arith) c.index-tasks-now.is in
    let items : c.push.new.self.items ≡ out ++ step ∷ [] = c.in_ok-push.ensures.items in
    let longer = ap length items ∙ length-append out (step ∷ []) in
    let count = so_far.count in
    record {
      tasks = ap tasks_in items ∙ tasks_in-push out step ∙ ap (λ z. z ++ step.task ∷ []) so_far.tasks ∙ ap (λ z. take now tasks ++ z ∷ []) c.step_of.ensures.task ∙ sym next;
      count = omega (arith, longer, count);
      last = λ i s at. elim (place-push out step i s (subst (λ z. slice_get z i ≡ Some s) items at)) [
        | inl o ↦ so_far.last i s o.1
        | inr l ↦ subst (λ z. IsLastAt c.as_slice-uses.result.now z s) (sym (l.0 ∙ count)) (subst (IsLastAt c.as_slice-uses.result.now now) (sym l.1) c.step_of.ensures.last)
      ];
    }

pub step_of-requires : goal.step_of-requires
step_of-requires c =
    let tasks = c.args.tasks.now in
    let now = c.loop-now.now in
    let item = c.index-tasks-now.result in
    let at = slice_get_read tasks _ now item refl (omega arith) c.index-tasks-now.is in
    let count = ap length c.as_slice-uses.ensures.value in
    let few = c.in_ok-found.ensures.count in
    record { now = omega (arith, count, few); looks = λ k looks. let below = c.requires.below now item at k looks in omega (arith, below, count, few) }

pub returns-clause-ends : goal.returns-clause-ends
returns-clause-ends c =
    let tasks = c.args.tasks.now in
    let uses = c.as_slice-uses.result.now in
    let same = c.as_slice-uses.ensures.value in
    ends-all c.loop-now.steps.items tasks uses (c.loop-now.invariant.tasks ∙ take_all c.loop-now.now tasks (omega arith))
    (subst (AreLastUses tasks) (sym same) c.in_ok-found.ensures.last)
    (subst (AreUses tasks) (sym same) c.in_ok-found.ensures.uses)
    c.loop-now.invariant.last
