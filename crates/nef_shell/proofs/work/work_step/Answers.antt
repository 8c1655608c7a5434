use Rattle.nef_shell.proofs.Prelude.{◌≡◌, ◌∙◌, refl, arith, slice_get_read, err_from_is_err_and}
use Rattle.nef_shell.proofs.Kept.{held-less}
use Rattle.nef_shell.proofs.Uses.{ready-next, lean-next}
use Rattle.nef_shell.proofs.work.work_step.Goals as goal

pub release-requires-clause-now : goal.release-requires-clause-now
release-requires-clause-now g c = let count = c.in_ok-do_task.ensures.done.count in omega (arith, count, c.requires.stand.placed.count, c.requires.now)

pub release-requires-clause-within : goal.release-requires-clause-within
release-requires-clause-within g c k looks =
    let item = c.index-steps-now.result in
    let at = slice_get_read c.args.steps.now _ c.args.now item refl c.requires.now c.index-steps-now.is in
    let (d, below, seen, makes) = c.requires.stand.placed.right.made_before c.args.now item at k looks in
    let count = c.in_ok-do_task.ensures.done.count in
    omega (arith, below, count, c.requires.stand.placed.count, c.requires.now)

pub returns-clause-stand : goal.returns-clause-stand
returns-clause-stand g c =
    let steps = c.args.steps.now in
    let item = c.index-steps-now.result in
    let at = slice_get_read steps _ c.args.now item refl c.requires.now c.index-steps-now.is in
    let before = c.requires.stand.placed in
    let did = c.in_ok-do_task.ensures in
    let less = c.release.ensures.less in
    record {
      placed = record { right = before.right; ends = before.ends; count = less.count ∙ did.done.count ∙ before.count; held = held-less c.args.means.now.options.text steps _ _ _ less did.held };
      ready = ready-next steps c.args.now item (before.ends c.args.now item at) at before.right c.args.values.now c.do_task.new.values c.release.new.values did.done less c.requires.stand.ready;
    }

pub returns-clause-lean : goal.returns-clause-lean
returns-clause-lean g c =
    let steps = c.args.steps.now in
    let item = c.index-steps-now.result in
    let at = slice_get_read steps _ c.args.now item refl c.requires.now c.index-steps-now.is in
    lean-next steps c.args.now item (c.requires.stand.placed.ends c.args.now item at) at c.requires.stand.placed.right c.args.values.now c.do_task.new.values c.release.new.values c.in_ok-do_task.ensures.done c.release.ensures.less c.release.ensures.gone c.requires.lean

pub returns-in_err-do_task-clause-ends : goal.returns-in_err-do_task-clause-ends
returns-in_err-do_task-clause-ends g c nodes step asked found =
    let p = err_from_is_err_and c.from_residual.result c.from_residual.ensures.1 in
    rw (p.1, p.2) (c.in_err-do_task.ensures.ends nodes step asked found)
