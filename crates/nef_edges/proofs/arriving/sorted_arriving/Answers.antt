use Rattle.nef_edges.proofs.Prelude.{◌≡◌, ℕ, length, arith, rules, subst, answers_always, IsEarlierSvertex, AreArriving, end_lt}
use Rattle.nef_edges.proofs.Next.{weak, sorted-kept}
use Rattle.nef_edges.proofs.arriving.sorted_arriving.Goals as goal

pub returns-clause-all : goal.returns-clause-all
returns-clause-all c =
    let vs = c.args.vertices.now in
    let l = c.loop-i.auto.i-end in let m = c.loop-i-test.false in
    let e : c.loop-i.i ≡ length vs = omega arith in
    sorted-kept vs (IsEarlierSvertex (length vs) 0) c.loop-i.ends.items c.sort_unstable_by.new.self.items c.sort_unstable_by.ensures.permutation (subst (λ (n : ℕ). AreArriving vs (IsEarlierSvertex n 0) c.loop-i.ends.items) e c.loop-i.invariant.added)

pub returns-clause-sorted : goal.returns-clause-sorted
returns-clause-sorted c = c.sort_unstable_by.ensures.sorted end_lt weak (answers_always _ _ _ (λ f a r g h. search rules))
