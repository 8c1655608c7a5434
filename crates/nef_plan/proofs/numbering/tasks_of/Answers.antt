use Rattle.nef_plan.proofs.Prelude.{◌≡◌, ◌∙◌, ◌+◌, ◌∷◌, ◌++◌, [], ap, refl, sym, length, take, arith, length-take-le, take_all, slice_get_read, put_value, put_values, task_over, tasks_over}
use Rattle.nef_plan.proofs.Ended.{among-right, put_values-push, tasks-push}
use Rattle.nef_plan.proofs.Followed.{look-below}
use Rattle.nef_plan.proofs.Grouping.{parts-at}
use Rattle.nef_plan.proofs.numbering.tasks_of.Goals as goal

pub loop-now-preserved : goal.loop-now-preserved
loop-now-preserved c =
    let drafts = c.args.drafts.now in
    let now = c.loop-now.now in
    let item = c.index-drafts-now.result in
    let so_far = c.loop-now.invariant in
    let before = c.as_mut_slice-values.result.now in
    let front = take now drafts in
    let (next, whole) = parts-at drafts now item (omega arith) c.index-drafts-now.is in
    let count : now ≡ 0 + length front = (let n = length-take-le now drafts (omega arith) in omega (arith, n)) in
    record {
      table = c.put_value.ensures.put ∙ ap (λ z. put_value z item now) so_far.table ∙ ap (put_value (put_values before 0 front) item) count ∙ sym (put_values-push before 0 front item) ∙ ap (put_values before 0) (sym next);
      as_many = c.put_value.ensures.length ∙ so_far.as_many;
      tasks = c.in_ok-push.ensures.items ∙ ap (λ z. z ++ c.task_of.result ∷ []) so_far.tasks ∙ ap (λ z. tasks_over before 0 front ++ z ∷ []) (c.task_of.ensures.task ∙ ap (λ z. task_over z item) so_far.table) ∙ sym (tasks-push before 0 front item) ∙ ap (tasks_over before 0) (sym next);
    }

pub task_of-requires : goal.task_of-requires
task_of-requires c =
    let item = c.index-drafts-now.result in
    let at = slice_get_read c.args.drafts.now _ c.loop-now.now item refl (omega arith) c.index-drafts-now.is in
    let many = c.loop-now.invariant.as_many in
    let table = c.as_mut_slice-values.ensures.len in
    let vec = c.in_ok-table.ensures.len in
    let count = c.len.ensures.count in
    record { among = among-right c.args.nodes.now (length c.loop-now.values) item (omega (arith, many, table, vec, count)) (c.requires.drafts.right c.loop-now.now item at) }

pub put_value-requires : goal.put_value-requires
put_value-requires c =
    let item = c.index-drafts-now.result in
    let at = slice_get_read c.args.drafts.now _ c.loop-now.now item refl (omega arith) c.index-drafts-now.is in
    let many = c.loop-now.invariant.as_many in
    let table = c.as_mut_slice-values.ensures.len in
    let vec = c.in_ok-table.ensures.len in
    let count = c.len.ensures.count in
    record { among = among-right c.args.nodes.now (length c.loop-now.values) item (omega (arith, many, table, vec, count)) (c.requires.drafts.right c.loop-now.now item at) }

pub returns-clause-tasks : goal.returns-clause-tasks
returns-clause-tasks c =
    let table = c.as_mut_slice-values.ensures.len in
    let vec = c.in_ok-table.ensures.len in
    let count = c.len.ensures.count in
    let before = c.as_mut_slice-values.result.now in
    (before, omega (arith, table, vec, count), c.loop-now.invariant.tasks ∙ ap (tasks_over before 0) (take_all c.loop-now.now c.args.drafts.now (omega arith)))

pub returns-clause-below : goal.returns-clause-below
returns-clause-below c =
    let table = c.as_mut_slice-values.ensures.len in
    let vec = c.in_ok-table.ensures.len in
    let count = c.len.ensures.count in
    let before = c.as_mut_slice-values.result.now in
    look-below c.args.nodes.now c.args.drafts.now c.loop-now.tasks.items before c.requires.drafts (omega (arith, table, vec, count)) (c.loop-now.invariant.tasks ∙ ap (tasks_over before 0) (take_all c.loop-now.now c.args.drafts.now (omega arith)))
