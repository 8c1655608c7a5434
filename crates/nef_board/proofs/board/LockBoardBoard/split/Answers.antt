use Rattle.nef_board.proofs.Prelude.{arith}
use Rattle.nef_board.proofs.Turns.{splits}
use Rattle.nef_board.proofs.board.LockBoardBoard.split.Goals as goal

pub split_seat-seat-requires : goal.split_seat-seat-requires
split_seat-seat-requires g c =
    let p = c.args.pass.now in
    (c.requires.of.0, (let w = c.args.self.now.word_count in omega arith), splits _ _ _ _ _ p.live c.requires.may)
