use Rattle.nef_board.proofs.Prelude.{◌∷◌, Some, arith, sym, ap, ◌∙◌, rest, seen_next, after, Claim, got_free, got_next, got_none}
use Rattle.nef_board.proofs.Sounds.{is_fresh}
use Rattle.nef_board.proofs.Turns.{takes_at, slot_held, state_held, claims_of, ends_of, not_among_next}
use Rattle.nef_board.proofs.board.LockBoardBoard.claim.Goals as goal

pub take_turn-requires-clause-rule : goal.take_turn-requires-clause-rule
take_turn-requires-clause-rule g c = let p = c.args.pass.now in takes_at _ _ _ _ _ _ _ p.free p.live

pub slot_mut-state-requires : goal.slot_mut-state-requires
slot_mut-state-requires g c = (c.take_turn.ensures.of.0 ∙ c.requires.of.0, slot_held c.args.pass.now.seat.me.0 c.take_turn.new.seat.me c.take_turn.ensures.found)

pub store-requires : goal.store-requires
store-requires g c =
    let p = c.args.pass.now in
    let b = c.slot_mut-state.result.now in
    let turn = state_held p.seat.me.0 c.take_turn.new.seat.me c.slot_mut-state.result.now c.take_turn.ensures.found c.slot_mut-state.ensures.value in
    let left = c.claim-claim.ensures in
    let free = got_free b.machine p.number c.in-Got.job (sym left.reply ∙ c.in-Got.is) in (
      c.take_turn.ensures.of.0 ∙ c.requires.of.0,
      (let w = c.args.self.now.word_count in omega arith),
      claims_of _ _ _ _ _ _ _ p.seat.me.0 b c.claim-claim.new.self turn.0 (ap (λ l. (0, c.claim-claim.new.self) ∷ rest l) turn.1) p.live c.requires.free left.sound (left.machine ∙ ap (λ n. after c.slot_mut-state.result.now.machine (Claim n)) (sym p.same_number)) left.results free,
    )

pub store-requires-in-NoneLeft : goal.store-requires-in-NoneLeft
store-requires-in-NoneLeft g c =
    let p = c.args.pass.now in
    let b = c.slot_mut-state.result.now in
    let turn = state_held p.seat.me.0 c.take_turn.new.seat.me c.slot_mut-state.result.now c.take_turn.ensures.found c.slot_mut-state.ensures.value in
    let left = c.claim-claim.ensures in
    let past = got_none b.machine p.number (sym left.reply ∙ c.in-NoneLeft.is) in (
      c.take_turn.ensures.of.0 ∙ c.requires.of.0,
      (let w = c.args.self.now.word_count in omega arith),
      ends_of _ _ _ _ _ _ _ p.seat.me.0 b c.claim-claim.new.self turn.0 (ap (λ l. (0, c.claim-claim.new.self) ∷ rest l) turn.1) p.live left.sound (left.machine ∙ ap (λ n. after c.slot_mut-state.result.now.machine (Claim n)) (sym p.same_number)) left.results past,
    )

pub returns-in-Got-clause-claim : goal.returns-in-Got-clause-claim
returns-in-Got-clause-claim g c =
    let p = c.args.pass.now in
    let m = c.slot_mut-state.result.now.machine in
    let turn = state_held p.seat.me.0 c.take_turn.new.seat.me c.slot_mut-state.result.now c.take_turn.ensures.found c.slot_mut-state.ensures.value in
    let found = turn.2 in
    let replied = sym c.claim-claim.ensures.reply ∙ c.in-Got.is in
    let next = got_next m p.number c.in-Got.job replied in
    let free = got_free m p.number c.in-Got.job replied in
    let told = c.store.ensures.2.0 in (
      (let a = found.jobs_are in let b = c.requires.of.1 in let d = c.requires.of.2 in omega arith),
      rw next (not_among_next m p.seat.me.0.known.deposits (is_fresh m c.slot_mut-state.result.now.history.items found.sound.replayed found.sound.legal m.next (omega arith) free) found.deposits),
      ap (λ z. z.known.hand) told ∙ (ap (λ z. Some (seen_next z.saw)) turn.0 ∙ ap Some (sym next)),
      ap (λ z. z.known.ended) told ∙ (ap (λ z. z.known.ended) turn.0 ∙ (p.same_end ∙ c.if-pass.false)),
    )
