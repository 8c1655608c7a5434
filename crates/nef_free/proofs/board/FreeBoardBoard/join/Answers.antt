use Rattle.nef_free.proofs.Prelude.{arith, ap, ◌∙◌, carried}
use Rattle.nef_free.proofs.Steps.{joins}
use Rattle.nef_free.proofs.board.FreeBoardBoard.join.Goals as goal

pub join_seat-requires : goal.join_seat-requires
join_seat-requires g c =
    let b = c.args.self.now in
    let p = c.args.pass.now in
    let o = c.args.other in (
      c.requires.of.0.0,
      c.requires.of.1.0,
      o.held ∙ ap carried c.requires.free,
      (let w = b.word_count in omega arith),
      joins _ _ _ _ _ _ _ p.live o.live c.requires.free,
    )
