use Rattle.nef_sover.proofs.Prelude.{take, op_label, map_of, AreMerged}
use Rattle.nef_sover.proofs.overlaid.merged_stars.Given as goal

abbrev pub invariant-loop-axis : goal.invariant-loop-axis
invariant-loop-axis l = record { merged : AreMerged (map_of l.a) (map_of l.b) (op_label l.op) (take l.axis-index l.axes) l.stars }
