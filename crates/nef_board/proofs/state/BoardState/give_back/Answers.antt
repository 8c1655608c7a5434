use Rattle.nef_board.proofs.Prelude.{arith}
use Rattle.nef_board.proofs.Sounds.{sound_give_back}
use Rattle.nef_board.proofs.state.BoardState.give_back.Goals as goal

pub push_reserved-requires : goal.push_reserved-requires
push_reserved-requires g c =
    let k = sound_give_back _ _ _ _ c.args.job c.args.pass c.requires.sound c.requires.held in
    let r = c.args.self.now.history.ok in
    let h = k.0 in omega arith

pub returns-clause-sound : goal.returns-clause-sound
returns-clause-sound g c =
    rw (c.step.ensures.state, c.push_reserved.ensures.items, c.push_reserved.ensures.capacity) (sound_give_back _ _ _ _ c.args.job c.args.pass c.requires.sound c.requires.held).1
