use Rattle.tests_places.proofs.Prelude.{◌≡◌, List, arith, rules, sym, subst, SVertex, is-at_within, IsAt, none-more}
use Rattle.tests_places.proofs.rays.has_svertex.Goals as goal

pub loop-svertex-preserved : goal.loop-svertex-preserved
loop-svertex-preserved c j u l a =
    let hs = c.as_slice-svertex-items.result.now in let all = c.as_slice-svertex-items.ensures.all in
    none-more (λ (v : SVertex). v.dir ≡ c.args.d.now) hs c.loop-svertex.svertex-index c.svertex-item.result c.loop-svertex-test.true c.svertex-item.is
    (λ k v m b. c.loop-svertex.invariant k v m (subst (λ (r : List SVertex). IsAt r k v) all b)) (λ e. c.is_same.ensures.other (search (rules, c.if-is_same.false)) e) j u l (subst (λ (r : List SVertex). IsAt r j u) (sym all) a)

pub returns : goal.returns
returns c = record {
  none = λ e j u a.
      let hs = c.as_slice-svertex-items.result.now in
      let l = is-at_within hs j u (subst (λ (r : List SVertex). IsAt r j u) (sym c.as_slice-svertex-items.ensures.all) a) in
      c.loop-svertex.invariant j u (let t = c.loop-svertex-test.false in omega (arith, l, t)) a;
}
