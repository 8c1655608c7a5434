use Rattle.nef_volumes.proofs.DownTies.{down-all}
use Rattle.nef_volumes.proofs.by_threads.parts_by_two.Goals as goal

pub parts_of_pieces-requires-clause-pieces : goal.parts_of_pieces-requires-clause-pieces
parts_of_pieces-requires-clause-pieces g c =
    let found = c.in_ok-down.ensures in
    record {
      facets = found.second.1.facets;
      items = found.second.1.items;
      sfaces = found.second.0;
      down = down-all c.args.c.now c.in_ok-down.down.items found.first;
    }
