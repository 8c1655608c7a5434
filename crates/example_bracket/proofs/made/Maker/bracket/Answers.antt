use Rattle.example_bracket.proofs.Prelude.{arith, turned_set, leg}
use Rattle.example_bracket.proofs.made.Maker.bracket.Goals as goal
use Rattle.nef_space.proofs.Elementary.{if-ok}

pub turn_complex-requires : goal.turn_complex-requires
turn_complex-requires g c = record { turn = omega arith; shows = (leg, c.in_ok-flat.ensures.shows) }

pub combined-requires-clause-first : goal.combined-requires-clause-first
combined-requires-clause-first g c = λ _ _. (leg, c.in_ok-flat.ensures.shows)

pub combined-requires-clause-second : goal.combined-requires-clause-second
combined-requires-clause-second g c = λ _ _. (turned_set 40 leg, c.in_ok-upright.ensures.shows leg c.in_ok-flat.ensures.shows)

pub returns : goal.returns
returns g c =
    let L = c.in_ok-flat.ensures.shows in
    record { shows = if-ok _ _ c.combined.result (λ x f. f leg (turned_set 40 leg) L (c.in_ok-upright.ensures.shows leg L)) c.combined.ensures.shows }
