use Rattle.nef_edges.proofs.Prelude.{◌≡◌, ◌+◌, ◌<◌, ◌≤◌, length, List, sym, ap, subst, ◌∙◌, get_or, Vec, Global, IsNormal, vector_of, SVertex, Edge, IsEarlierSvertex, AreEdges}
use Rattle.nef_edges.proofs.Added.{edges-row, edges-pass, edges-add}
use Rattle.nef_edges.proofs.Arrivals.{IsTrue-false}
use Rattle.nef_edges.proofs.Partners.{leading, some-after, pair-is}
use Rattle.nef_edges.proofs.pairing.add_edges.Goals.{then-is_normal+in_ok-push, else-is_normal}
use Rattle.nef_edges.proofs.pairing.add_edges.Goals as goal
use Rattle.nef_space.proofs.Lists.{is-at_read}

pub next_after-next-requires-clause-some : goal.next_after-next-requires-clause-some
next_after-next-requires-clause-some c =
    let vs = c.args.vertices.now in let i = c.args.i in let k = c.loop-k.k in
    let v = c.index-vertices-i.result in let s = c.svertex-item.result in
    let a = is-at_read vs i v c.requires.within c.index-vertices-i.is in
    let all = c.as_slice-svertex-items.ensures.all in
    let b = is-at_read v.map.svertices k s (subst (λ (ss : List SVertex). k < length ss) all c.loop-k-test.true) (subst (λ (ss : List SVertex). s ≡ get_or ss k s) all c.svertex-item.is) in
    some-after vs c.requires.joined c.args.arriving.now c.requires.arriving c.of-from.result
    (leading vs i k v s c.of-from.result a b c.of-from.ensures.point c.of-from.ensures.dir c.of-from.ensures.vertex c.of-from.ensures.svertex (c.is_normal.ensures.normal.0 c.if-is_normal.true))

pub loop-k-preserved : goal.loop-k-preserved
loop-k-preserved c =
    let vs = c.args.vertices.now in let i = c.args.i in let k = c.loop-k.k in
    let v = c.index-vertices-i.result in let s = c.svertex-item.result in
    let a = is-at_read vs i v c.requires.within c.index-vertices-i.is in
    let all = c.as_slice-svertex-items.ensures.all in
    let b = is-at_read v.map.svertices k s (subst (λ (ss : List SVertex). k < length ss) all c.loop-k-test.true) (subst (λ (ss : List SVertex). s ≡ get_or ss k s) all c.svertex-item.is) in
    record {
      added = elim c.if-is_normal.branch [
        | then-is_normal+in_ok-push w ↦
            let f = w.of-from.result in let o = w.of-from.ensures in
            let up = c.is_normal.ensures.normal.0 w.if-is_normal.true in
            let leads = leading vs i k v s f a b o.point o.dir o.vertex o.svertex up in
            let pair = pair-is vs c.requires.joined c.args.arriving.now c.requires.arriving f leads w.next_after-next.result w.next_after-next.ensures.next in
            subst (AreEdges vs (IsEarlierSvertex i (k + 1))) (sym w.in_ok-push.ensures.items ∙ ap (λ (x : Vec Edge Global). x.items) (sym w.edges-is))
            (edges-add vs c.requires.joined i k c.loop-k.edges.items v s a b c.loop-k.invariant.added f w.next_after-next.result o.vertex o.svertex pair)
        | else-is_normal w ↦
            let none = λ (n : IsNormal (vector_of s.dir)). IsTrue-false c.is_normal.result (c.is_normal.ensures.normal.1 n) w.if-is_normal.false in
            subst (λ (x : Vec Edge Global). AreEdges vs (IsEarlierSvertex i (k + 1)) x.items) (sym w.edges-is) (edges-pass vs c.requires.joined i k c.loop-k.edges.items v s a b none c.loop-k.invariant.added)
      ];
    }

pub returns : goal.returns
returns c =
    let vs = c.args.vertices.now in let i = c.args.i in let k = c.loop-k.k in
    let v = c.index-vertices-i.result in
    let a = is-at_read vs i v c.requires.within c.index-vertices-i.is in
    let l = subst (λ (ss : List SVertex). length ss ≤ k) c.as_slice-svertex-items.ensures.all c.loop-k-test.false in
    record { added = edges-row vs c.requires.joined i k c.loop-k.edges.items v a l c.loop-k.invariant.added }
