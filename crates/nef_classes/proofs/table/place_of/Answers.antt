use Rattle.nef_classes.proofs.Prelude.{arith, get_or}
use Rattle.nef_space.proofs.Lists.{is-at_get, is-at_within}
use Rattle.nef_classes.proofs.Places.{cell-within}
use Rattle.nef_classes.proofs.table.place_of.Goals as goal

pub overflow_add-result : goal.overflow_add-result
overflow_add-result c =
    let row = c.args.cell.now.row in
    let w = cell-within c.args.counts.now c.args.cell.now c.requires.within in
    let h = is-at_within c.args.counts.now row c.requires.within.count c.requires.within.is_row in
    let n = c.requires.starts.as_many in
    let e = c.requires.starts.each row (get_or c.args.starts.now row 0) (is-at_get c.args.starts.now row 0 (omega arith)) in
    let f = c.requires.fits in
    omega arith

pub returns : goal.returns
returns c =
    let row = c.args.cell.now.row in
    let w = cell-within c.args.counts.now c.args.cell.now c.requires.within in
    let h = is-at_within c.args.counts.now row c.requires.within.count c.requires.within.is_row in
    let n = c.requires.starts.as_many in
    let e = c.requires.starts.each row (get_or c.args.starts.now row 0) (is-at_get c.args.starts.now row 0 (omega arith)) in
    record { place = omega arith; within = omega arith }
