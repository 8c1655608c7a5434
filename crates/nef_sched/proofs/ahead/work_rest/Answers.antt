use Rattle.nef_sched.proofs.Prelude.{◌∙◌, ap, arith, sym, subst, slice_index_or, not, IsKept}
use Rattle.nef_sched.proofs.Outs.{all_next, any_default, kept_found, kept_here, ready_after, worked_both, worked_none, worked_set}
use Rattle.nef_sched.proofs.ahead.work_rest.Goals.{then-is_none+in_ok-out, else-is_none}
use Rattle.nef_sched.proofs.ahead.work_rest.Goals as goal

pub loop-number-init : goal.loop-number-init
loop-number-init g c = record { worked = worked_none _ _ _ c.requires.ready.sound; there = λ k low. absurd (omega arith) }

pub work-requires-clause-number : goal.work-requires-clause-number
work-requires-clause-number g c = ((ready_after _ _ _ _ _ _ _ c.requires.ready c.loop-number.invariant.worked).each c.loop-number.number-index 0 c.loop-number-test.true).0

pub work-requires-clause-workable : goal.work-requires-clause-workable
work-requires-clause-workable g c = c.requires.workable

pub work-requires-clause-there : goal.work-requires-clause-there
work-requires-clause-there g c = ((ready_after _ _ _ _ _ _ _ c.requires.ready c.loop-number.invariant.worked).each c.loop-number.number-index 0 c.loop-number-test.true).1

pub loop-number-preserved : goal.loop-number-preserved
loop-number-preserved g c =
    let i = c.loop-number.invariant in
    let numbers = c.args.numbers.now in
    let place = c.loop-number.number-index in
    let n = slice_index_or numbers place 0 in
    let list = c.loop-number.done.list.items in
    let within = ((ready_after _ _ _ _ _ _ _ c.requires.ready i.worked).each place 0 c.loop-number-test.true).0 in
    let len = i.worked.sound.0 in
    elim c.if-is_none.branch [
      | then-is_none+in_ok-out w ↦
          let made = worked_set _ _ list n w.in_ok-out.out w.in_ok-out.ensures i.worked.sound in
          rw (w.done-is, w.set.ensures.set) (record {
            worked = worked_both _ _ _ _ _ i.worked made;
            there = all_next (λ k. IsKept _ (slice_index_or numbers k 0)) place (λ k low. made.still _ (i.there k low)) (kept_here list n w.in_ok-out.out (omega (arith, within, len)));
          })
      | else-is_none w ↦
          rw w.done-is (record {
            worked = i.worked;
            there = all_next (λ k. IsKept list (slice_index_or numbers k 0)) place i.there
                (kept_found (λ out. out.now) c.get.result list n c.get.ensures (c.is_none.ensures ∙ ap not w.if-is_none.false));
          })
    ]

pub returns-clause-there : goal.returns-clause-there
returns-clause-there g c k d low =
    let end = c.loop-number-test.false in
    subst (IsKept c.loop-number.done.list.items) (sym (any_default c.args.numbers.now k d low)) (c.loop-number.invariant.there k (omega arith))

pub returns-in_err-out-clause-worked : goal.returns-in_err-out-clause-worked
returns-in_err-out-clause-worked g c = c.loop-number.invariant.worked
