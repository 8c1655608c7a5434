use Rattle.nef_volumes.proofs.Prelude.{edge_of, as-none}
use Rattle.nef_volumes.proofs.ReadVertex.{edge-there}
use Rattle.nef_volumes.proofs.EndsFound.{low-there, high-there, low-end, high-end, none-low, none-high}
use Rattle.nef_volumes.proofs.numbers.ends_tie.Goals as goal

pub around_cell-requires-clause-within : goal.around_cell-requires-clause-within
around_cell-requires-clause-within c = low-there c.requires.shows.0 c.args.c.now c.requires.shows.1 c.args.number c.at-edge.result.now c.at-edge.ensures.element

pub around_cell-requires-clause-svertex : goal.around_cell-requires-clause-svertex
around_cell-requires-clause-svertex c = low-end c.requires.shows.0 c.args.c.now c.requires.shows.1 c.args.number c.at-edge.result.now c.at-edge.ensures.element

pub around_cell-requires-2-clause-within : goal.around_cell-requires-2-clause-within
around_cell-requires-2-clause-within c = high-there c.requires.shows.0 c.args.c.now c.requires.shows.1 c.args.number c.at-edge.result.now c.at-edge.ensures.element

pub around_cell-requires-2-clause-svertex : goal.around_cell-requires-2-clause-svertex
around_cell-requires-2-clause-svertex c = high-end c.requires.shows.0 c.args.c.now c.requires.shows.1 c.args.number c.at-edge.result.now c.at-edge.ensures.element

pub returns-in_err-first : goal.returns-in_err-first
returns-in_err-first c = record {
  tie = as-none _ _ c.from_residual.result c.from_residual.ensures (none-low c.requires.shows.0 c.args.c.now c.requires.shows.1 c.args.number c.at-edge.result.now c.at-edge.ensures.element c.in_err-first.ensures.cell);
}

pub returns-in_err-second : goal.returns-in_err-second
returns-in_err-second c = record {
  tie = as-none _ _ c.from_residual-in_err-second.result c.from_residual-in_err-second.ensures (none-high c.requires.shows.0 c.args.c.now c.requires.shows.1 c.args.number c.at-edge.result.now c.at-edge.ensures.element c.in_err-second.ensures.cell);
}

pub returns : goal.returns
returns c = record { tie = (edge_of c.at-edge.result.now, edge-there c.args.c.now c.args.number c.at-edge.result.now c.at-edge.ensures.element, c.in_ok-first.ensures.cell, c.in_ok-second.ensures.cell) }
