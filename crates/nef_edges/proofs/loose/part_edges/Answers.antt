use Rattle.nef_edges.proofs.Prelude.{refl}
use Rattle.nef_edges.proofs.Walked.{part-same, part-trans}
use Rattle.nef_edges.proofs.loose.part_edges.Goals as goal

pub loop-k-init : goal.loop-k-init
loop-k-init c = record { kept = part-same c.args.loose.now.numbers.items c.args.loose.now.numbers.items refl }

pub loop-k-preserved : goal.loop-k-preserved
loop-k-preserved c = record { kept = part-trans c.args.loose.now.numbers.items c.loop-k.loose.numbers.items c.part.new.loose.numbers.items c.loop-k.invariant.kept c.in_ok-part.ensures.kept }

pub returns : goal.returns
returns c = record { kept = c.loop-k.invariant.kept }
