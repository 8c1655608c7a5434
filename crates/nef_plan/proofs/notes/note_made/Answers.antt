use Rattle.nef_plan.proofs.Prelude.{length}
use Rattle.nef_plan.proofs.notes.note_made.Goals as goal

pub note_both-requires : goal.note_both-requires
note_both-requires c =
    let below = c.operands.ensures.below (length c.args.notes.now) c.requires.operands in
    record { first = below.0; second = below.1 }
