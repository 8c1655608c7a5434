use Rattle.nef_plan.proofs.Prelude.{◌≡◌, ◌⊎◌, ◌∙◌, refl, sym, subst, arith, length, drop, Some, inl, inr, slice_get, cases_lt, get_or_past, slice_get_read, slice_get_within, get_or_from_slice_get, take-append_seam, Task, LooksAtValue}
use Rattle.nef_plan.proofs.Ended.{if-some}
use Rattle.nef_plan.proofs.numbering.last_uses.Goals as goal

pub mark-requires : goal.mark-requires
mark-requires c =
    let now = c.loop-now.now in
    let item = c.index-tasks-now.result in
    let at = slice_get_read c.args.tasks.now _ now item refl (omega arith) c.index-tasks-now.is in
    record { within = if-some _ _ _ c.loop-now.invariant.count (λ k e. c.requires.below now item at k ((c.looked_at-first.ensures.looked_at k).1 (inl e))) }

pub mark-requires-in-loop-now : goal.mark-requires-in-loop-now
mark-requires-in-loop-now c =
    let now = c.loop-now.now in
    let item = c.index-tasks-now.result in
    let at = slice_get_read c.args.tasks.now _ now item refl (omega arith) c.index-tasks-now.is in
    record { within = if-some _ _ _ (c.mark.ensures.length ∙ c.loop-now.invariant.count) (λ k e. c.requires.below now item at k ((c.looked_at-first.ensures.looked_at k).1 (inr e))) }

pub loop-now-preserved : goal.loop-now-preserved
loop-now-preserved c =
    let items = c.args.tasks.now in
    let now = c.loop-now.now in
    let item = c.index-tasks-now.result in
    let so_far = c.loop-now.invariant in
    let first = c.mark.ensures in
    let second = c.mark-in-loop-now.ensures in
    let here : slice_get items now ≡ Some item = slice_get_read items _ now item refl (omega arith) c.index-tasks-now.is in
    record {
      count = omega (arith, first.length, second.length, so_far.count);
      used = λ k below. elim (second.exact k) [
        | inr (is, at) ↦ inr (item, subst (λ z. slice_get items z ≡ Some item) (sym at) here, (c.looked_at-first.ensures.looked_at k).1 (inr is))
        | inl same ↦ elim (first.exact k) [
          | inr (is, at) ↦ inr (item, subst (λ z. slice_get items z ≡ Some item) (sym (same ∙ at)) here, (c.looked_at-first.ensures.looked_at k).1 (inl is))
          | inl also ↦ subst (λ z. (z ≡ 0) ⊎ ((d : Task) × (slice_get items z ≡ Some d) × LooksAtValue d k)) (sym (same ∙ also)) (so_far.used k below)
        ]
      ];
      last = λ i k d below at looks. elim (cases_lt i now) [
        | inl earlier ↦ second.later i k (omega arith) (first.later i k (omega arith) (so_far.last i k d earlier at looks))
        | inr past ↦
            let now_is : i ≡ now = omega arith in
            let same : d ≡ item = sym (get_or_from_slice_get items i d item at) ∙ rw now_is (sym c.index-tasks-now.is) in
            elim ((c.looked_at-first.ensures.looked_at k).0 (subst (λ z. LooksAtValue z k) same looks)) [
              | inl e ↦ rw now_is (second.later now k (omega arith) (first.marked k e))
              | inr e ↦ rw now_is (second.marked k e)
            ]
      ];
    }

pub returns-clause-last : goal.returns-clause-last
returns-clause-last c i k d at looks =
    let places = c.loop-now.places in
    let within = slice_get_within c.args.tasks.now i d at in
    let count : c.in_ok-uses.uses.len ≡ length places = omega (arith, c.loop-now.auto.places, c.as_mut_slice-places.ensures.len) in
    rw (count, take-append_seam places (drop (length places) c.in_ok-uses.uses.items)) (c.loop-now.invariant.last i k d (omega arith) at looks)

pub returns-clause-uses : goal.returns-clause-uses
returns-clause-uses c k =
    let places = c.loop-now.places in
    let count : c.in_ok-uses.uses.len ≡ length places = omega (arith, c.loop-now.auto.places, c.as_mut_slice-places.ensures.len) in
    elim (cases_lt k (length c.args.tasks.now)) [
      | inl below ↦ rw (count, take-append_seam places (drop (length places) c.in_ok-uses.uses.items)) (c.loop-now.invariant.used k below)
      | inr past ↦ rw (count, take-append_seam places (drop (length places) c.in_ok-uses.uses.items)) (inl (get_or_past places k 0 (omega (arith, past, c.loop-now.invariant.count))))
    ]
