use Rattle.nef_board.proofs.Prelude.{subst, ◌∙◌, HasTurn}
use Rattle.nef_board.proofs.board.take_turn.Goals as goal

pub compare_exchange-requires : goal.compare_exchange-requires
compare_exchange-requires g c =
    let i = c.loop.invariant in
    (i.2 ∙ c.requires.of, c.requires.word, rw (i.3, i.4) c.requires.rule)

pub returns-then-compare_exchange-eq0-clause-found : goal.returns-then-compare_exchange-eq0-clause-found
returns-then-compare_exchange-eq0-clause-found g c =
    let told = rw c.if-compare_exchange-eq0.true at c.compare_exchange.ensures.2 in
    subst (λ m. HasTurn m.0 c.compare_exchange.new.seat.me) c.loop.invariant.4 told
