use Rattle.nef_edges.proofs.Prelude.{◌≡◌, ◌+◌, ℕ, List, length, refl, inr, sym, subst, ◌∙◌, IsAt, Edge, IsEarlierSvertex, AreLaid, edge_between}
use Rattle.nef_edges.proofs.Walked.{part-more, laid-add}
use Rattle.nef_edges.proofs.guesses.lay_loose.Goals as goal
use Rattle.nef_space.proofs.Lists.{is-at_last}

pub returns : goal.returns
returns c =
    let x = c.args.low.now in let es : List Edge = c.args.edges.now.items in let ns : List ℕ = c.args.loose.now.numbers.items in let ms : List ℕ = c.push.new.self.items in
    let f : Edge = edge_between x 0 0 in
    let count : c.len.result ≡ length es = c.len.ensures ∙ c.args.edges.now.ok.0 in
    let told : IsAt ms (length ns) (length es) = subst (IsAt ms (length ns)) count (subst (λ (xs : List ℕ). IsAt xs (length ns) c.len.result) (sym c.in_ok-push.ensures.items) (is-at_last ns c.len.result)) in
    record {
      added = λ vs before. subst (λ (xs : List Edge). AreLaid vs (IsEarlierSvertex x.vertex_number (x.svertex_number + 1)) xs ms 0) (sym c.in_ok-push-3.ensures.items)
          (laid-add vs x.vertex_number x.svertex_number es ns ms f before (part-more ns ms c.len.result c.in_ok-push.ensures.items) refl refl (inr (length ns, told)));
    }
