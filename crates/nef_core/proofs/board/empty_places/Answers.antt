use Rattle.nef_core.proofs.Prelude.{arith, ap, ◌∙◌, ◌++◌, [], ◌∷◌, None}
use Rattle.nef_core.proofs.Places.{none_more, replicate_more}
use Rattle.nef_core.proofs.board.empty_places.Goals as goal

pub loop-preserved : goal.loop-preserved
loop-preserved g c =
    let i = c.loop.invariant in
    let e = c.push_reserved.ensures in
    let len = i.len in
    record {
      len = omega (arith, e.len, len);
      room = rw e.capacity i.room;
      items = e.items ∙ ap (λ l. l ++ None ∷ []) i.items ∙ replicate_more c.loop.counter None;
      empty = λ k x at. none_more _ i.empty k x (rw e.items at at);
    }
