use Rattle.example_bracket.proofs.Prelude.{refl, low-within, high-within}
use Rattle.example_bracket.proofs.read.edge_ends.Goals as goal

pub at-requires : goal.at-requires
at-requires c =
    let S = c.requires.shows in let e = c.at-edge.result.now in
    record { within = low-within S.0 c.args.c.now S.1.shows c.args.number e c.at-edge.ensures.element }

pub at-requires-2 : goal.at-requires-2
at-requires-2 c =
    let S = c.requires.shows in let e = c.at-edge.result.now in
    record { within = high-within S.0 c.args.c.now S.1.shows c.args.number e c.at-edge.ensures.element }

pub returns : goal.returns
returns c = record { ends = (c.at-edge.result.now, c.at-edge.ensures.element, (c.at.result.now, c.at.ensures.element, refl), (c.at-2.result.now, c.at-2.ensures.element, refl)) }
