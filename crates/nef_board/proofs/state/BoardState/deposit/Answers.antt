use Rattle.nef_board.proofs.Prelude.{arith}
use Rattle.nef_board.proofs.Sounds.{sound_deposit}
use Rattle.nef_board.proofs.state.BoardState.deposit.Goals as goal

pub push_reserved-requires : goal.push_reserved-requires
push_reserved-requires g c =
    let k = sound_deposit _ _ _ _ c.args.job c.args.pass c.args.out c.requires.sound c.requires.held in
    let r = c.args.self.now.history.ok in
    let h = k.0 in omega arith

pub index_mut-requires : goal.index_mut-requires
index_mut-requires g c =
    let k = sound_deposit _ _ _ _ c.args.job c.args.pass c.args.out c.requires.sound c.requires.held in
    let r = c.args.self.now.results.ok in
    let h = k.1 in omega arith

pub returns-clause-sound : goal.returns-clause-sound
returns-clause-sound g c =
    rw (c.step.ensures.state, c.push_reserved.ensures.items, c.push_reserved.ensures.capacity) (sound_deposit _ _ _ _ c.args.job c.args.pass c.args.out c.requires.sound c.requires.held).2
