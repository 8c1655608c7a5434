use Rattle.nef_edges.proofs.Prelude.{◌≡◌, ◌+◌, ◌<◌, ◌≤◌, length, List, sym, ap, subst, ◌∙◌, get_or, Vec, Global, opposite, IsNormal, vector_of, SVertex, EdgeEnd, AreArriving, IsEarlierSvertex}
use Rattle.nef_edges.proofs.Arrivals.{before-row, arriving-weaken, arriving-pass, arriving-end, arriving-add, IsTrue-false}
use Rattle.nef_edges.proofs.arriving.add_arriving.Goals.{then-is_normal+in_ok-push, else-is_normal}
use Rattle.nef_edges.proofs.arriving.add_arriving.Goals as goal
use Rattle.nef_space.proofs.Lists.{is-at_read}

pub loop-k-init : goal.loop-k-init
loop-k-init c = record { added = c.requires.before }

pub loop-k-preserved : goal.loop-k-preserved
loop-k-preserved c =
    let vs = c.args.vertices.now in let i = c.args.i in let k = c.loop-k.k in
    let v = c.index-vertices-i.result in let s = c.svertex-item.result in
    let a = is-at_read vs i v c.requires.within c.index-vertices-i.is in
    let all = c.as_slice-svertex-items.ensures.all in
    let b = is-at_read v.map.svertices k s (subst (λ (ss : List SVertex). k < length ss) all c.loop-k-test.true) (subst (λ (ss : List SVertex). s ≡ get_or ss k s) all c.svertex-item.is) in
    record {
      added = elim c.if-is_normal.branch [
        | then-is_normal+in_ok-push w ↦
            let h = w.of.result in let o = w.of.ensures in
            subst (AreArriving vs (IsEarlierSvertex i (k + 1))) (sym w.in_ok-push.ensures.items ∙ ap (λ (x : Vec EdgeEnd Global). x.items) (sym w.ends-is))
            (arriving-add vs i k c.loop-k.ends.items h c.loop-k.invariant.added (arriving-end vs i k v s h a b o.point (ap vector_of o.dir ∙ c.back-dir.ensures.back) o.vertex o.svertex) o.vertex o.svertex)
        | else-is_normal w ↦
            let none = λ (n : IsNormal (opposite (vector_of s.dir))). IsTrue-false c.is_normal.result (c.is_normal.ensures.normal.1 (subst IsNormal (sym c.back-dir.ensures.back) n)) w.if-is_normal.false in
            subst (λ (x : Vec EdgeEnd Global). AreArriving vs (IsEarlierSvertex i (k + 1)) x.items) (sym w.ends-is) (arriving-pass vs i k c.loop-k.ends.items v s c.loop-k.invariant.added a b none)
      ];
    }

pub returns : goal.returns
returns c =
    let vs = c.args.vertices.now in let i = c.args.i in let k = c.loop-k.k in
    let v = c.index-vertices-i.result in
    let a = is-at_read vs i v c.requires.within c.index-vertices-i.is in
    let l = subst (λ (ss : List SVertex). length ss ≤ k) c.as_slice-svertex-items.ensures.all c.loop-k-test.false in
    record { added = arriving-weaken vs (IsEarlierSvertex i k) (IsEarlierSvertex (i + 1) 0) c.loop-k.ends.items c.loop-k.invariant.added (before-row vs i k v a l) }
