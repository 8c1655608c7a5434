use Rattle.example_bracket.proofs.asked.are_joined.Goals as goal

pub returns : goal.returns
returns c = record { joined = c.joined.ensures.joined }
