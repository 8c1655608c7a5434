use Rattle.nef_volumes.proofs.Prelude.{subst, ap, ◌∙◌, IsAt, items, Vertex, map_of, is-at_within, vertex_of, complex_of, side_cell}
use Rattle.nef_volumes.proofs.ReadVertex.{vertex-there, vertex-read, vertex-within}
use Rattle.nef_volumes.proofs.ItemTies.{item-there}
use Rattle.nef_volumes.proofs.ties.item_cell.Goals as goal

pub at-requires : goal.at-requires
at-requires c =
    let r = item-there (complex_of c.args.c.now) c.args.item.now c.requires.within in
    record { within = vertex-within c.args.c.now c.args.item.now.row r.0 r.2 }

pub item_side-requires : goal.item_side-requires
item_side-requires c =
    let r = item-there (complex_of c.args.c.now) c.args.item.now c.requires.within in
    let one = vertex-read c.args.c.now c.args.item.now.row c.at.result.now r.0 c.at.ensures.element r.2 in
    record { within = is-at_within (items (map_of c.at.result.now.map)) c.args.item.now.column r.1 (subst (λ (v : Vertex). IsAt (items v.map) c.args.item.now.column r.1) one r.3) }

pub cell-requires : goal.cell-requires
cell-requires c =
    let r = item-there (complex_of c.args.c.now) c.args.item.now c.requires.within in
    record { within = vertex-within c.args.c.now c.args.item.now.row r.0 r.2 }

pub returns : goal.returns
returns c = record {
  cell = (vertex_of c.at.result.now, vertex-there c.args.c.now c.args.item.now.row c.at.result.now c.at.ensures.element, c.cell.ensures.cell ∙ ap (side_cell c.args.item.now.row) c.item_side.ensures.number);
}
