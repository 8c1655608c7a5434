use Rattle.nef_sched.proofs.Prelude.{◌≡◌, ◌+◌, arith, inl, inr, sym, ◌∙◌, subst, length, drop, Some, slice_get, slice_index, IsRoundList}
use Rattle.std.proofs.Math.Seq.{take-append_seam}
use Rattle.nef_sched.proofs.Planning.{group_here, group_other}
use Rattle.nef_sched.proofs.stage.grouped.Goals as goal
use Rattle.nef_core.proofs.Places.{same_or_not}

pub loop-number-preserved : goal.loop-number-preserved
loop-number-preserved c =
    let i = c.loop-number.invariant in
    let n = c.loop-number.number in
    let rounds = c.args.rounds.now in
    let e = c.in_ok-add_to.ensures in
    record {
      len = e.len ∙ i.len;
      each = λ r group at. elim (same_or_not r (slice_index rounds n)) [
        | inl same ↦
            let h = e.here group (subst (λ z. slice_get c.add_to.new.groups z ≡ Some group) same at) in
            subst (IsRoundList (n + 1) rounds r) (sym h.2) (group_here n rounds r _ (sym same) (i.each r h.0 (subst (λ z. slice_get c.loop-number.list z ≡ Some h.0) (sym same) h.1)))
        | inr other ↦ group_other n rounds r _ (λ q. other (sym q)) (i.each r group (sym (e.other r other) ∙ at))
      ];
    }

pub returns : goal.returns
returns c =
    let list = c.loop-number.list in
    let end = c.loop-number-test.false in
    let low = c.loop-number.auto.number-end in
    let i = c.loop-number.invariant in
    let all : c.loop-number.number ≡ length c.args.rounds.now = omega arith in
    let count : c.in_ok-groups.groups.len ≡ length list = omega (arith, c.loop-number.auto.list, c.as_mut_slice-list.ensures.len) in
    record { groups = rw (count, take-append_seam list (drop (length list) c.in_ok-groups.groups.items)) (i.len, λ r group at. subst (λ n. IsRoundList n c.args.rounds.now r group.items) all (i.each r group at)) }
