use Rattle.nef_free.proofs.Prelude.{arith, ap, ◌∙◌, carried}
use Rattle.nef_free.proofs.Steps.{claims_at}
use Rattle.nef_free.proofs.board.FreeBoardBoard.claim.Goals as goal

pub fetch_add-found-requires : goal.fetch_add-found-requires
fetch_add-found-requires g c =
    let b = c.args.self.now in
    let p = c.args.pass.now in (
      c.requires.of.0,
      (let w = b.word_count in omega arith),
      claims_at _ _ _ _ _ _ _ (b.slot_count ∙ b.jobs_are) (p.held ∙ ap carried c.requires.free) p.live c.requires.free (p.same_end ∙ c.if-pass.false) (c.requires.of.1 ∙ b.jobs_are),
    )
