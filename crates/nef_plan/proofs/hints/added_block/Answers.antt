use Rattle.nef_plan.proofs.Prelude.{length, arith, names-wider}
use Rattle.nef_plan.proofs.hints.added_block.Goals as goal

pub operand_note-requires : goal.operand_note-requires
operand_note-requires c =
    let count = length c.args.notes.now in
    let names = names-wider c.args.node count c.get.result.now (omega (arith, c.requires.node, c.requires.count)) c.get.ensures.operands in
    record { operand = (c.operands.ensures.below count names).1 }
