use Rattle.nef_shell.proofs.Prelude.{[], slice_index_or, slice_get-get_or, slice_get_within, IfOk-weaker, values_after}
use Rattle.nef_shell.proofs.Needs.{lent-both, fits-of, no-early}
use Rattle.nef_shell.proofs.early.work_value.Goals as goal

pub task_of-task-requires : goal.task_of-task-requires
task_of-task-requires g c =
    let e = slice_index_or c.args.early.now c.args.n no-early in
    let is = c.requires.early c.args.n e (slice_get-get_or c.args.early.now c.args.n no-early c.requires.number) in
    record { within = slice_get_within c.args.steps.now e.value is.step is.at }

pub made-requires-clause-task : goal.made-requires-clause-task
made-requires-clause-task g c κs within =
    let e = slice_index_or c.args.early.now c.args.n no-early in
    let is = c.requires.early c.args.n e (slice_get-get_or c.args.early.now c.args.n no-early c.requires.number) in
    rw (c.task_of-task.ensures.task is.step is.at) (c.requires.placed.right.tasks e.value is.step is.at, is.makes)

pub made-requires-clause-operands : goal.made-requires-clause-operands
made-requires-clause-operands g c κs within =
    let steps = c.args.steps.now in
    let early = c.args.early.now in
    let e = slice_index_or c.args.early.now c.args.n no-early in
    let at = slice_get-get_or early c.args.n no-early c.requires.number in
    let is = c.requires.early c.args.n e at in
    let looked = c.looked_at-first.ensures in
    let lent = lent-both c.args.means.now.options.text steps c.args.values.now early c.requires.placed.held c.args.n e is.step c.args.done.now.list.items c.requires.early at is.at c.requires.there in
    rw (c.needed-first.ensures.needed, c.needed-second.ensures.needed, looked.first, looked.second, c.task_of-task.ensures.task is.step is.at)
    (values_after [] steps, lent.0, lent.1)

pub returns : goal.returns
returns g c =
    let version = c.args.means.now.options.text in
    let steps = c.args.steps.now in
    let values = c.args.values.now in
    let early = c.args.early.now in
    let e = slice_index_or c.args.early.now c.args.n no-early in
    let at = slice_get-get_or early c.args.n no-early c.requires.number in
    let is = c.requires.early c.args.n e at in
    let looked = c.looked_at-first.ensures in
    let task = c.task_of-task.ensures.task is.step is.at in
    let lent = lent-both version steps values early c.requires.placed.held c.args.n e is.step c.args.done.now.list.items c.requires.early at is.at c.requires.there in
    let made = rw task at c.made.ensures.new in
    record {
      fits = IfOk-weaker c.made.result _ _ (λ o new.
          fits-of version steps values early c.requires.placed.held c.args.n e is.step o c.requires.placed.right at is.at
          (new (values_after [] steps) (rw (c.needed-first.ensures.needed, looked.first, task) lent.0) (rw (c.needed-second.ensures.needed, looked.second, task) lent.1))) made;
    }
