use Rattle.nef_board.proofs.Prelude.{◌∷◌, arith, sym, ap, ◌∙◌, rest, after, Deposit}
use Rattle.nef_board.proofs.Turns.{takes_at, slot_held, state_held, deposits_of}
use Rattle.nef_board.proofs.board.LockBoardBoard.deposit.Goals as goal

pub take_turn-requires-clause-rule : goal.take_turn-requires-clause-rule
take_turn-requires-clause-rule g c = let p = c.args.pass.now in takes_at _ _ _ _ _ _ _ p.free p.live

pub slot_mut-state-requires : goal.slot_mut-state-requires
slot_mut-state-requires g c = (c.take_turn.ensures.of.0 ∙ c.requires.of.0, slot_held c.args.pass.now.seat.me.0 c.take_turn.new.seat.me c.take_turn.ensures.found)

pub store-requires : goal.store-requires
store-requires g c =
    let p = c.args.pass.now in
    let turn = state_held p.seat.me.0 c.take_turn.new.seat.me c.slot_mut-state.result.now c.take_turn.ensures.found c.slot_mut-state.ensures.value in
    let left = c.deposit-receipt.ensures in (
      c.take_turn.ensures.of.0 ∙ c.requires.of.0,
      (let w = c.args.self.now.word_count in omega arith),
      deposits_of _ _ _ _ _ _ _ p.seat.me.0 c.slot_mut-state.result.now c.deposit-receipt.new.self c.args.job c.args.out turn.0 (ap (λ l. (0, c.deposit-receipt.new.self) ∷ rest l) turn.1) p.live c.requires.held c.requires.right left.sound (left.machine ∙ ap (λ n. after c.slot_mut-state.result.now.machine (Deposit n c.args.job)) (sym p.same_number)) left.results,
    )
