use Rattle.nef_edges.proofs.Prelude.{List, ℕ, length, sym, subst, Edge, IsEarlierSvertex, AreLaid, ArriveApart}
use Rattle.nef_edges.proofs.Walked.{laid-part, laid-are_edges}
use Rattle.nef_edges.proofs.guessed.are_completed.Goals as goal

pub join_loose-is_joined-requires : goal.join_loose-is_joined-requires
join_loose-is_joined-requires c =
    let vs = c.args.vertices.now in let es : List Edge = c.args.edges.now.items in
    record {
      laid = subst (λ (ns : List ℕ). AreLaid vs (IsEarlierSvertex (length vs) 0) es ns 0) (sym c.as_slice-2.ensures.value)
          (laid-part vs (IsEarlierSvertex (length vs) 0) es c.args.loose.now.numbers.items c.part_edges.new.loose.numbers.items c.in_ok-part_edges.ensures.kept c.requires.laid);
    }

pub returns : goal.returns
returns c =
    let vs = c.args.vertices.now in
    record {
      edges = λ t. laid-are_edges vs c.join_loose-is_joined.new.edges.items c.requires.joined (c.join_loose-is_joined.ensures.joined c.if-not-is_joined.false)
          (subst (λ (xs : List Edge). ArriveApart xs (length xs)) c.as_slice-5.ensures.value (c.are_apart.ensures.apart t));
    }
