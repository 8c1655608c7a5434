use Rattle.nef_edges.proofs.Prelude.{◌≡◌, ◌+◌, ◌<◌, ◌≤◌, length, List, sym, subst, get_or, Vec, Global, IsNormal, vector_of, SVertex, Edge, IsEarlierSvertex, AreLaid}
use Rattle.nef_edges.specs.declared.loose.Loose.{Loose}
use Rattle.nef_edges.proofs.Arrivals.{IsTrue-false}
use Rattle.nef_edges.proofs.Walked.{laid-pass, laid-row}
use Rattle.nef_edges.proofs.guesses.lay_edges_from.Goals.{then-is_normal+in_ok-lay_edge, else-is_normal+in_ok-add_arrival}
use Rattle.nef_edges.proofs.guesses.lay_edges_from.Goals as goal
use Rattle.nef_space.proofs.Lists.{is-at_read}

pub lay_edge-requires-clause-end : goal.lay_edge-requires-clause-end
lay_edge-requires-clause-end c =
    let vs = c.args.vertices.now in let k = c.loop-k.k in let v = c.index-vertices-i.result in let s = c.svertex-item.result in
    let all = c.as_slice-svertex-items.ensures.all in
    record {
      vertex = is-at_read vs c.args.i v c.requires.within c.index-vertices-i.is;
      svertex = is-at_read v.map.svertices k s (subst (λ (ss : List SVertex). k < length ss) all c.loop-k-test.true) (subst (λ (ss : List SVertex). s ≡ get_or ss k s) all c.svertex-item.is);
    }

pub loop-k-preserved : goal.loop-k-preserved
loop-k-preserved c =
    let vs = c.args.vertices.now in let i = c.args.i in let k = c.loop-k.k in
    let v = c.index-vertices-i.result in let s = c.svertex-item.result in
    let a = is-at_read vs i v c.requires.within c.index-vertices-i.is in
    let all = c.as_slice-svertex-items.ensures.all in
    let b = is-at_read v.map.svertices k s (subst (λ (ss : List SVertex). k < length ss) all c.loop-k-test.true) (subst (λ (ss : List SVertex). s ≡ get_or ss k s) all c.svertex-item.is) in
    record {
      laid = elim c.if-is_normal.branch [
        | then-is_normal+in_ok-lay_edge w ↦
            subst (λ (x : Vec Edge Global). AreLaid vs (IsEarlierSvertex i (k + 1)) x.items c.if-is_normal.loose.numbers.items 0) (sym w.edges-is)
            (subst (λ (x : Loose). AreLaid vs (IsEarlierSvertex i (k + 1)) w.lay_edge.new.edges.items x.numbers.items 0) (sym w.loose-is) w.in_ok-lay_edge.ensures.added)
        | else-is_normal+in_ok-add_arrival w ↦
            let none = λ (n : IsNormal (vector_of s.dir)). IsTrue-false c.is_normal.result (c.is_normal.ensures.normal.1 n) w.if-is_normal.false in
            subst (λ (x : Vec Edge Global). AreLaid vs (IsEarlierSvertex i (k + 1)) x.items c.if-is_normal.loose.numbers.items 0) (sym w.edges-is)
            (subst (λ (x : Loose). AreLaid vs (IsEarlierSvertex i (k + 1)) c.loop-k.edges.items x.numbers.items 0) (sym w.loose-is)
            (laid-pass vs i k c.loop-k.edges.items c.loop-k.loose.numbers.items v s a b none c.loop-k.invariant.laid))
      ];
    }

pub returns : goal.returns
returns c =
    let vs = c.args.vertices.now in let i = c.args.i in let k = c.loop-k.k in
    let v = c.index-vertices-i.result in
    let a = is-at_read vs i v c.requires.within c.index-vertices-i.is in
    let l = subst (λ (ss : List SVertex). length ss ≤ k) c.as_slice-svertex-items.ensures.all c.loop-k-test.false in
    record { added = laid-row vs i k c.loop-k.edges.items c.loop-k.loose.numbers.items v a l c.loop-k.invariant.laid }
