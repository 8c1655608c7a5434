use Rattle.nef_volumes.proofs.Prelude.{ℕ, subst, IfOk-weaker, complex_of, AreDownBetween}
use Rattle.nef_volumes.proofs.Components.{facets-are_components, volumes-are_components, are-counted}
use Rattle.nef_volumes.proofs.DownTies.{down-all}
use Rattle.nef_volumes.proofs.all.parts.Goals as goal

pub parts_of_pieces-requires-clause-pieces : goal.parts_of_pieces-requires-clause-pieces
parts_of_pieces-requires-clause-pieces c =
    let C = complex_of c.args.c.now in
    let ts = c.in_ok-down.down.items in
    record {
      facets = c.in_ok-facets.ensures.pieces.facets;
      items = c.in_ok-facets.ensures.pieces.items;
      sfaces = c.in_ok-sface_of.ensures.numbers;
      down = down-all c.args.c.now ts (subst (λ (n : ℕ). AreDownBetween C 0 n ts) c.len.ensures.len c.in_ok-down.ensures.ties);
    }

pub returns : goal.returns
returns c =
    let d = c.args.c.now in let r = c.parts_of_pieces.result in let P = c.parts_of_pieces.ensures.parts in
    record {
      parts = P;
      items_joined = IfOk-weaker r _ _ (λ p I. facets-are_components d p I) P;
      sides_joined = IfOk-weaker r _ _ (λ p I. volumes-are_components d p I) P;
      counted = IfOk-weaker r _ _ (λ p I. are-counted d p I) P;
    }
