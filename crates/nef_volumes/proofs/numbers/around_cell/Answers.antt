use Rattle.nef_volumes.proofs.Prelude.{arith, ap, ◌∙◌, svertex_of, map-is_at, vertex_of, side_cell}
use Rattle.nef_volumes.proofs.ReadVertex.{vertex-there}
use Rattle.nef_volumes.proofs.EndsFound.{svertex-within, none-around}
use Rattle.nef_volumes.proofs.numbers.around_cell.Goals as goal

pub at-requires-2 : goal.at-requires-2
at-requires-2 c = record { within = svertex-within c.args.c.now c.args.vertex c.at.result.now c.at.ensures.element c.args.svertex c.requires.svertex }

pub around_side-requires : goal.around_side-requires
around_side-requires c = record { within = let l = svertex-within c.args.c.now c.args.vertex c.at.result.now c.at.ensures.element c.args.svertex c.requires.svertex in omega (arith, l) }

pub returns-in-Some : goal.returns-in-Some
returns-in-Some c =
    let u = c.at.result.now in
    let sv = c.at-2.result.now in
    record {
      cell = (
        vertex_of u,
        svertex_of sv,
        c.in-Some.field-0,
        vertex-there c.args.c.now c.args.vertex u c.at.ensures.element,
        map-is_at svertex_of u.map.svertices c.args.svertex sv c.at-2.ensures.element,
        c.in-Some.is,
        c.cell.ensures.cell ∙ ap (side_cell c.args.vertex) c.around_side.ensures.number,
      );
    }

pub returns-in-None : goal.returns-in-None
returns-in-None c = record { cell = none-around c.args.c.now c.args.vertex c.at.result.now c.at.ensures.element c.args.svertex c.at-2.result.now c.at-2.ensures.element c.in-None.is }
