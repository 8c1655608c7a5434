use Rattle.nef_board.proofs.Prelude.{arith}
use Rattle.nef_board.proofs.Turns.{joins}
use Rattle.nef_board.proofs.board.LockBoardBoard.join.Goals as goal

pub join_seat-requires : goal.join_seat-requires
join_seat-requires g c =
    let p = c.args.pass.now in
    let o = c.args.other in
    (c.requires.of.0.0, c.requires.of.1.0, o.free, (let w = c.args.self.now.word_count in omega arith), joins _ _ _ _ _ _ _ p.live o.live c.requires.free)
