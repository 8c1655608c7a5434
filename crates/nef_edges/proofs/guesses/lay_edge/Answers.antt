use Rattle.nef_edges.proofs.Prelude.{◌+◌, ℕ, List, refl, inl, sym, subst, Edge, IsEarlierSvertex, AreLaid, edge_between}
use Rattle.nef_edges.proofs.Walked.{part-same, laid-add}
use Rattle.nef_edges.proofs.guesses.lay_edge.Goals as goal

pub returns-in-Some : goal.returns-in-Some
returns-in-Some c =
    let vs = c.args.vertices.now in let x = c.args.low.now in let es : List Edge = c.args.edges.now.items in let ns : List ℕ = c.args.loose.now.numbers.items in let t = c.in-Some.end in let f : Edge = edge_between x t.0 t.1 in
    record {
      added = subst (λ (xs : List Edge). AreLaid vs (IsEarlierSvertex x.vertex_number (x.svertex_number + 1)) xs ns 0) (sym c.in_ok-push.ensures.items)
          (laid-add vs x.vertex_number x.svertex_number es ns ns f c.requires.before (part-same ns ns refl) refl refl (inl (c.in-Some.ensures.leads c.requires.end)));
    }

pub returns : goal.returns
returns c = record { added = c.in_ok-lay_loose.ensures.added c.args.vertices.now c.requires.before }
