use Rattle.nef_star.proofs.Prelude.{◌∙◌, diff_label, xor_label, op_label, Diff, Xor}
use Rattle.nef_star.proofs.Labels.{less_numbers, label_of_two}
use Rattle.nef_star.proofs.star.Op.label.Goals as goal

pub returns-in-Diff : goal.returns-in-Diff
returns-in-Diff c =
    let a = c.args.a in let b = c.args.b in
    let same = label_of_two diff_label _ _ _ a b c.op_diff.type_inv c.number.type_inv c.number-2.type_inv c.number.ensures.number c.number-2.ensures.number c.op_diff.ensures.label ∙ (less_numbers a b).0 in
    let found = c.label_of-in-Diff.ensures.label (op_label Diff a b) same in
    record { label = rw c.in-Diff.is found }

pub returns-in-Xor : goal.returns-in-Xor
returns-in-Xor c =
    let a = c.args.a in let b = c.args.b in
    let same = label_of_two xor_label _ _ _ a b c.op_xor.type_inv c.number.type_inv c.number-2.type_inv c.number.ensures.number c.number-2.ensures.number c.op_xor.ensures.label ∙ (less_numbers a b).1 in
    let found = c.label_of-in-Xor.ensures.label (op_label Xor a b) same in
    record { label = rw c.in-Xor.is found }
