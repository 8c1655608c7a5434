use Rattle.nef_board.proofs.Prelude.{arith, sym, ◌∙◌, got_free}
use Rattle.nef_board.proofs.Sounds.{sound_claim}
use Rattle.nef_board.proofs.state.BoardState.claim.Goals as goal

pub push_reserved-requires : goal.push_reserved-requires
push_reserved-requires g c =
    let free = got_free _ c.args.pass _ (sym c.step-claim.ensures.reply ∙ c.in-Got.is) in
    let k = sound_claim _ _ _ _ c.args.pass c.requires free in
    let r = c.args.self.now.history.ok in
    let h = k.0 in omega arith

pub returns-in-Got-clause-sound : goal.returns-in-Got-clause-sound
returns-in-Got-clause-sound g c =
    let free = got_free _ c.args.pass _ (sym c.step-claim.ensures.reply ∙ c.in-Got.is) in
    rw (c.step-claim.ensures.state, c.push_reserved.ensures.items, c.push_reserved.ensures.capacity) (sound_claim _ _ _ _ c.args.pass c.requires free).1
