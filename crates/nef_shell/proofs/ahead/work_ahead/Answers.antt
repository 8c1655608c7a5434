use Rattle.nef_shell.proofs.Prelude.{◌∙◌, arith, inl, refl, slice_get_within}
use Rattle.nef_shell.proofs.Needs.{placed-held, placed-more}
use Rattle.nef_shell.proofs.ahead.work_ahead.Goals as goal

pub returns-then-not-begins_block-clause-more : goal.returns-then-not-begins_block-clause-more
returns-then-not-begins_block-clause-more g c = record { count = refl; stays = λ k there. there; only = λ k there. inl there }

pub put_each-requires-clause-within : goal.put_each-requires-clause-within
put_each-requires-clause-within g c n e at =
    let is = c.in_ok-early.ensures.early n e (rw c.deref-2.ensures.value at at) in
    let low = slice_get_within c.args.steps.now e.value is.step is.at in
    let count = c.requires.placed.count in
    omega (arith, low, count)

pub returns-clause-placed : goal.returns-clause-placed
returns-clause-placed g c = record {
  right = c.requires.placed.right;
  ends = c.requires.placed.ends;
  count = c.put_each.ensures.put.count ∙ c.requires.placed.count;
  held = placed-held c.args.means.now.options.text c.args.steps.now c.args.now c.in_ok-early.early.items c.in_ok-made.made.items c.args.values.now c.put_each.new.places c.in_ok-early.ensures.early (rw c.deref.ensures.value at c.in_ok-made.ensures.fits) (rw c.deref-2.ensures.value at c.put_each.ensures.put) c.requires.placed.held;
}

pub returns-clause-more : goal.returns-clause-more
returns-clause-more g c =
    placed-more c.args.means.now.options.text c.args.steps.now c.args.now c.in_ok-early.early.items c.in_ok-made.made.items c.args.values.now c.put_each.new.places c.in_ok-early.ensures.early (rw c.deref.ensures.value at c.in_ok-made.ensures.fits) (rw c.deref-2.ensures.value at c.put_each.ensures.put) c.in_ok-early.ensures.late
