use Rattle.nef_free.proofs.Prelude.{◌≡◌, arith, ap, ◌∙◌, Some, [], ◌∷◌, carried, rest}
use Rattle.nef_free.proofs.Steps.{deposits_at, below_of}
use Rattle.nef_free.proofs.board.FreeBoardBoard.deposit.Goals as goal

pub store-requires : goal.store-requires
store-requires g c =
    let b = c.args.self.now in
    let p = c.args.pass.now in
    let x = c.exchange.ensures in
    let me = x.3 in
    let l : rest p.seat.me.1 ≡ [] = ap rest (p.held ∙ ap carried c.requires.held) in
    let low = below_of _ _ _ p.below c.requires.held in (
      x.0 ∙ c.requires.of.0,
      (let w = b.word_count in let n = c.requires.of.1 in omega arith),
      deposits_at _ _ _ _ _ _ _ _ _ (b.slot_count ∙ b.jobs_are) (ap (λ m. m.1) me ∙ ap (λ r. (c.args.job, Some c.args.out) ∷ r) l) (ap (λ m. m.0.live) me ∙ p.live) (ap (λ m. m.0.hand) me ∙ c.requires.held) c.requires.right,
    )
