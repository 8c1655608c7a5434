use Rattle.example_bracket.proofs.Prelude.{plate, hole}
use Rattle.example_bracket.proofs.made.Maker.leg.Goals as goal
use Rattle.nef_space.proofs.Elementary.{if-ok}

pub combined-requires-clause-first : goal.combined-requires-clause-first
combined-requires-clause-first g c = λ _ _. (plate, c.in_ok-plate.ensures.shows)

pub combined-requires-clause-second : goal.combined-requires-clause-second
combined-requires-clause-second g c = λ _ _. (hole, c.in_ok-hole.ensures.shows)

pub returns : goal.returns
returns g c = record { shows = if-ok _ _ c.combined.result (λ x f. f plate hole c.in_ok-plate.ensures.shows c.in_ok-hole.ensures.shows) c.combined.ensures.shows }
