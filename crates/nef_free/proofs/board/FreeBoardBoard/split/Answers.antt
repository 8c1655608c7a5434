use Rattle.nef_free.proofs.Prelude.{arith}
use Rattle.nef_free.proofs.Steps.{splits}
use Rattle.nef_free.proofs.board.FreeBoardBoard.split.Goals as goal

pub split_seat-seat-requires : goal.split_seat-seat-requires
split_seat-seat-requires g c =
    let b = c.args.self.now in
    let p = c.args.pass.now in
    (c.requires.of.0, (let w = b.word_count in omega arith), splits _ _ _ _ _ p.live c.requires.may)
