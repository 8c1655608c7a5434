use Rattle.nef_plan.proofs.Prelude.{length}
use Rattle.nef_plan.proofs.notes.is_own.Goals as goal

pub is_operand_own-requires : goal.is_operand_own-requires
is_operand_own-requires c = record { operand = (c.operands-first.ensures.below (length c.args.notes.now) c.requires.operands).0 }

pub is_operand_own-requires-then-is_operand_own : goal.is_operand_own-requires-then-is_operand_own
is_operand_own-requires-then-is_operand_own c = record { operand = (c.operands-first.ensures.below (length c.args.notes.now) c.requires.operands).1 }
