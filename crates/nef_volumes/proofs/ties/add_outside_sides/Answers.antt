use Rattle.nef_volumes.proofs.Prelude.{List, arith, refl, sym, ap, ◌∙◌, subst, not_true, Tie, complex_of, Adds, any-start, any-next, any-all, outside_cell, IsTieOutside}
use Rattle.nef_volumes.proofs.OutsideTies.{outside-added, outside-none, outside-below}
use Rattle.nef_volumes.proofs.ties.add_outside_sides.Goals as goal
use Rattle.nef_volumes.proofs.ties.add_outside_sides.Goals.{then-is_outside+in_ok-push, else-is_outside}

pub loop-side-init : goal.loop-side-init
loop-side-init c = any-start (IsTieOutside (complex_of c.args.c.now) c.args.vertex) c.args.ties.now.items

pub loop-side-preserved : goal.loop-side-preserved
loop-side-preserved c =
    let C = c.args.c.now in
    let i = c.args.vertex in
    let s = c.loop-side.side in
    let u = c.at.result.now in
    let now = c.loop-side.ties.items in
    any-next (IsTieOutside (complex_of C) i) s c.args.ties.now.items now c.if-is_outside.ties.items c.loop-side.invariant
    (elim c.if-is_outside.branch [
      | then-is_outside+in_ok-push w ↦ subst (λ (ts : List Tie). Adds (IsTieOutside (complex_of C) i s) now ts) (sym (ap (λ v. v.items) w.ties-is ∙ w.in_ok-push.ensures.items))
          (outside-added C i s u c.at.ensures.element now (c.is_outside.ensures.out.0 w.if-is_outside.true) outside_cell w.cell.result refl w.cell.ensures.cell)
      | else-is_outside w ↦ subst (λ (ts : List Tie). Adds (IsTieOutside (complex_of C) i s) now ts) (sym (ap (λ v. v.items) w.ties-is))
          (outside-none C i s u c.at.ensures.element now (λ p. not_true (sym w.if-is_outside.false ∙ c.is_outside.ensures.out.1 p)))
    ])

pub returns : goal.returns
returns c =
    let C = c.args.c.now in
    let i = c.args.vertex in
    record {
      added = any-all (IsTieOutside (complex_of C) i) c.loop-side.side c.args.ties.now.items c.loop-side.ties.items
          (λ k t p. let l = outside-below C i k c.at.result.now c.at.ensures.element t p in omega (arith, l, c.loop-side-test.false, c.sides-side-end.ensures.count)) c.loop-side.invariant;
    }
