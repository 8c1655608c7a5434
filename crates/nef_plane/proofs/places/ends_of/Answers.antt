use Rattle.nef_plane.proofs.Prelude.{low-within, high-within}
use Rattle.nef_plane.proofs.places.ends_of.Goals as goal

pub returns-in-AtEdge-clause-low : goal.returns-in-AtEdge-clause-low
returns-in-AtEdge-clause-low c = let S = c.requires.shows in low-within S.0 c.args.c.now S.1.shows c.in-AtEdge.number c.at-edge.result.now c.at-edge.ensures.element

pub returns-in-AtEdge-clause-high : goal.returns-in-AtEdge-clause-high
returns-in-AtEdge-clause-high c = let S = c.requires.shows in high-within S.0 c.args.c.now S.1.shows c.in-AtEdge.number c.at-edge.result.now c.at-edge.ensures.element
