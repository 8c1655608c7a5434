use Rattle.nef_sched.proofs.Prelude.{◌≡◌, ◌++◌, ℕ, ap, sym, ◌∙◌, arith, subst, length, [], ◌∷◌, append_assoc, Some, length-append, kept}
use Rattle.nef_sched.proofs.Outs.{slot_holds, slot_kept, pushed_fits}
use Rattle.nef_sched.proofs.ahead.all_of.Goals as goal

pub loop-slot-preserved : goal.loop-slot-preserved
loop-slot-preserved g c =
    let y = c.loop-slot.yielded in
    absurd (slot_holds c.args.list.items y c.next.new.self.rest.items c.in-Some.slot (c.loop-slot.invariant.parted ∙ ap (λ l. y ++ l) c.in-Some.ensures.steps.0) c.requires.all c.in_default.is)

pub loop-slot-preserved-in-Some-slot : goal.loop-slot-preserved-in-Some-slot
loop-slot-preserved-in-Some-slot g c =
    let list = c.args.list.items in
    let y = c.loop-slot.yielded in
    let i = c.loop-slot.invariant in
    let pushed = c.push_reserved.ensures in
    let e = i.parted ∙ ap (λ l. y ++ l) c.in-Some.ensures.steps.0 in
    let here = slot_kept list y _ c.in-Some.slot e ∙ c.in-Some-slot.is in
    let k = pushed.len in
    let l = i.len in
    let o = c.loop-slot.outs.ok in
    let same : length y ≡ length c.loop-slot.outs.items = omega arith in
    record {
      len = omega (arith, length-append y (c.in-Some.slot ∷ []));
      same = rw pushed.items (pushed_fits (λ (n : ℕ) out. kept list n ≡ Some out) _ _ i.same (subst (λ (n : ℕ). kept list n ≡ Some c.in-Some-slot.out) same here));
      parted = e ∙ sym (append_assoc y (c.in-Some.slot ∷ []) c.next.new.self.rest.items);
      room = rw pushed.capacity i.room;
    }

pub push_reserved-requires : goal.push_reserved-requires
push_reserved-requires g c =
    let y = c.loop-slot.yielded in
    let i = c.loop-slot.invariant in
    let e = ap length (i.parted ∙ ap (λ l. y ++ l) c.in-Some.ensures.steps.0) in
    let l = i.len in
    let room = i.room in
    omega (arith, e, length-append y (c.in-Some.slot ∷ c.next.new.self.rest.items))
