-- The operations on two sets, and the label of a combination.
use Rattle.nef_space.specs.declared.label.Label.{Label}
use Rattle.nef_space.specs.declared.label.Label.TheVariants.{Out, Not, In}
use Rattle.nef_star.specs.declared.star.Op.{Op}
use Rattle.nef_star.specs.declared.star.Op.TheVariants.{And, Or, Diff, Xor}

-- the label of the combination: Out where one of the two labels is Out
abbrev pub op_label : Op → Label → Label → Label
op_label _ Out _ = Out
op_label _ Not Out = Out
op_label _ In Out = Out
op_label And Not Not = Not
op_label And Not In = Not
op_label And In Not = Not
op_label And In In = In
op_label Or Not Not = Not
op_label Or Not In = In
op_label Or In Not = In
op_label Or In In = In
op_label Diff Not Not = Not
op_label Diff Not In = Not
op_label Diff In Not = In
op_label Diff In In = Not
op_label Xor Not Not = Not
op_label Xor Not In = In
op_label Xor In Not = In
op_label Xor In In = Not
