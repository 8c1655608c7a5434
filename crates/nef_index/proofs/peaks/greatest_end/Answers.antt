use Rattle.nef_index.proofs.Prelude.{arith}
use Rattle.nef_index.proofs.Peaked.{end-none}
use Rattle.nef_index.proofs.peaks.greatest_end.Goals as goal

pub loop-place-init : goal.loop-place-init
loop-place-init c = end-none c.args.edges.now c.args.numbers.now c.args.first c.args.first 1 (omega arith)
