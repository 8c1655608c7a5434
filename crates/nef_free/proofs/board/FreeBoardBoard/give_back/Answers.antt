use Rattle.nef_free.proofs.Prelude.{arith, ap, ◌∙◌, carried}
use Rattle.nef_free.proofs.Steps.{gives_back_at, below_of}
use Rattle.nef_free.proofs.board.FreeBoardBoard.give_back.Goals as goal

pub store-requires : goal.store-requires
store-requires g c =
    let b = c.args.self.now in
    let p = c.args.pass.now in
    let low = below_of _ _ _ p.below c.requires.held in (
      c.requires.of.0,
      (let w = b.word_count in let n = c.requires.of.1 in omega arith),
      gives_back_at _ _ _ _ _ _ _ _ (b.slot_count ∙ b.jobs_are) (p.held ∙ ap carried c.requires.held) p.live c.requires.held,
    )
