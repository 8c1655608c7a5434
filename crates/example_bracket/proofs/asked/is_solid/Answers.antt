use Rattle.example_bracket.proofs.Prelude.{Set}
use Rattle.example_bracket.proofs.asked.is_solid.Goals as goal

pub returns : goal.returns
returns g c = record { solid = λ s S. c.compare.ensures.same s (Set.regular s) S (c.in_ok-regular.ensures.shows s S) }
