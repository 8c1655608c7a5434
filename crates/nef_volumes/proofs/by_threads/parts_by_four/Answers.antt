use Rattle.nef_volumes.proofs.Prelude.{◌++◌, List, length, subst, sym, Tie, complex_of, AreTiesDown}
use Rattle.nef_volumes.proofs.DownTies.{down-appended, down-all}
use Rattle.nef_volumes.proofs.by_threads.parts_by_four.Goals as goal

pub parts_of_pieces-requires-clause-pieces : goal.parts_of_pieces-requires-clause-pieces
parts_of_pieces-requires-clause-pieces g c =
    let d = c.args.c.now in let C = complex_of d in
    let found = c.in_ok-sface_of in
    let ts = found.front.items in let us = found.back.items in
    let down = down-all d (ts ++ us) (down-appended C _ (length d.vertices) ts us found.ensures.second found.ensures.third) in
    record {
      facets = found.ensures.fourth.facets;
      items = found.ensures.fourth.items;
      sfaces = found.ensures.first;
      down = subst (λ (xs : List Tie). AreTiesDown C xs) (sym c.in_ok-down.ensures.items) down;
    }
