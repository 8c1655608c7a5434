use Rattle.nef_board.proofs.Prelude.{◌∷◌, arith, sym, ap, ◌∙◌, rest, after, GiveBack}
use Rattle.nef_board.proofs.Turns.{takes_at, slot_held, state_held, backs_of}
use Rattle.nef_board.proofs.board.LockBoardBoard.give_back.Goals as goal

pub take_turn-requires-clause-rule : goal.take_turn-requires-clause-rule
take_turn-requires-clause-rule g c = let p = c.args.pass.now in takes_at _ _ _ _ _ _ _ p.free p.live

pub slot_mut-state-requires : goal.slot_mut-state-requires
slot_mut-state-requires g c = (c.take_turn.ensures.of.0 ∙ c.requires.of.0, slot_held c.args.pass.now.seat.me.0 c.take_turn.new.seat.me c.take_turn.ensures.found)

pub store-requires : goal.store-requires
store-requires g c =
    let p = c.args.pass.now in
    let turn = state_held p.seat.me.0 c.take_turn.new.seat.me c.slot_mut-state.result.now c.take_turn.ensures.found c.slot_mut-state.ensures.value in
    let left = c.give_back.ensures in (
      c.take_turn.ensures.of.0 ∙ c.requires.of.0,
      (let w = c.args.self.now.word_count in omega arith),
      backs_of _ _ _ _ _ _ _ p.seat.me.0 c.slot_mut-state.result.now c.give_back.new.self c.args.job turn.0 (ap (λ l. (0, c.give_back.new.self) ∷ rest l) turn.1) p.live c.requires.held left.sound (left.machine ∙ ap (λ n. after c.slot_mut-state.result.now.machine (GiveBack n c.args.job)) (sym p.same_number)) left.results,
    )
