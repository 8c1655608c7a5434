use Rattle.nef_plan.proofs.Prelude.{length, arith, names-wider}
use Rattle.nef_plan.proofs.hints.node_before.Goals as goal

pub operand_note-requires : goal.operand_note-requires
operand_note-requires c =
    let count = length c.args.notes.now in
    let names = names-wider c.args.node count c.get.result.now (omega (arith, c.requires.node, c.requires.count)) c.get.ensures.operands in
    record { operand = (c.operands-first.ensures.below count names).0 }

pub returns-then-goes_on : goal.returns-then-goes_on
returns-then-goes_on c = record { before = (c.operands-first.ensures.below c.args.node c.get.ensures.operands).0 }
