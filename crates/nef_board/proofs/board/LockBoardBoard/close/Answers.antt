use Rattle.nef_board.proofs.Prelude.{◌∙◌}
use Rattle.nef_board.proofs.Turns.{takes_at, slot_held, state_held, closed_right, closed_done, closed_with}
use Rattle.nef_board.proofs.board.LockBoardBoard.close.Goals as goal

pub take_turn-requires-clause-rule : goal.take_turn-requires-clause-rule
take_turn-requires-clause-rule g c = let p = c.args.pass in takes_at _ _ _ _ _ _ _ p.free p.live

pub slot_mut-state-requires : goal.slot_mut-state-requires
slot_mut-state-requires g c = (c.take_turn.ensures.of.0 ∙ c.requires.of.0, slot_held c.args.pass.seat.me.0 c.take_turn.new.seat.me c.take_turn.ensures.found)

pub returns-clause-right : goal.returns-clause-right
returns-clause-right g c =
    let turn = state_held c.args.pass.seat.me.0 c.take_turn.new.seat.me c.slot_mut-state.result.now c.take_turn.ensures.found c.slot_mut-state.ensures.value in
    rw c.replace-results.ensures.value (closed_right _ _ _ _ _ c.args.pass.seat.me.0 c.slot_mut-state.result.now _ _ c.close_with-closed.ensures.values.2 turn.0 c.args.pass.live)

pub returns-clause-done : goal.returns-clause-done
returns-clause-done g c =
    let turn = state_held c.args.pass.seat.me.0 c.take_turn.new.seat.me c.slot_mut-state.result.now c.take_turn.ensures.found c.slot_mut-state.ensures.value in
    rw c.replace-results.ensures.value (closed_done c.args.pass.seat.me.0.known c.slot_mut-state.result.now turn.2)

pub returns-clause-closed : goal.returns-clause-closed
returns-clause-closed g c =
    let turn = state_held c.args.pass.seat.me.0 c.take_turn.new.seat.me c.slot_mut-state.result.now c.take_turn.ensures.found c.slot_mut-state.ensures.value in
    rw c.replace-results.ensures.value (closed_with _ c.args.pass.seat.me.0.known c.slot_mut-state.result.now turn.2 (c.requires.of.1 ∙ c.requires.of.2))
