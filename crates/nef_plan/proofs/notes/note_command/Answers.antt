use Rattle.nef_plan.proofs.Prelude.{length, arith, slice_get_within, names-wider}
use Rattle.nef_plan.proofs.notes.note_command.Goals as goal

pub note_made-requires-clause-operands : goal.note_made-requires-clause-operands
note_made-requires-clause-operands c =
    let nodes = c.args.nodes.now in
    let node = c.in-Bind.node in
    let made = c.get.result.now in
    let within = slice_get_within nodes node made c.get.ensures.node in
    names-wider node (length c.args.notes.now) made (omega (arith, within, c.requires.count)) c.get.ensures.operands

pub note_both-requires : goal.note_both-requires
note_both-requires c =
    let within = c.asked_nodes.ensures.within (length c.args.nodes.now) c.requires.within in
    rw c.requires.count (record { first = within.0; second = within.1 })
