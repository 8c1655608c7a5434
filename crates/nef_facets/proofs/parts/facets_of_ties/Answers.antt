use Rattle.nef_facets.proofs.Prelude.{◌≡◌, ℕ, List, length, arith, sym, ap, ◌∙◌, subst, IsAt, Corner, complex_of, StandFrom, AreFirsts}
use Rattle.nef_facets.proofs.PartsOf.{facet-parts}
use Rattle.nef_facets.proofs.parts.facets_of_ties.Goals as goal

pub facet_cycles-requires-clause-count : goal.facet_cycles-requires-clause-count
facet_cycles-requires-clause-count c =
    let rows : List (List ℕ) = c.in_ok-facet_of.facet_of in
    let js : List Corner = c.in_ok-firsts.firsts.items in
    let F : AreFirsts rows c.in_ok-corners.corners.items js = subst (λ (ks : List Corner). AreFirsts rows ks js) c.deref.ensures.value c.in_ok-firsts.ensures.firsts in
    λ i k n a f.
    let b = F.all i n k (subst (λ (ks : List Corner). IsAt ks i k) c.deref-3.ensures.value a) f in
    let e = c.len.ensures in let o = c.in_ok-firsts.firsts.ok in
    omega arith

pub facet_cycles-requires-clause-starts : goal.facet_cycles-requires-clause-starts
facet_cycles-requires-clause-starts c =
    subst (λ (ks : List Corner). StandFrom ks c.deref-4.result.now) (sym c.deref-3.ensures.value)
    (subst (λ (fs : List ℕ). StandFrom c.in_ok-corners.corners.items fs) (sym c.deref-4.ensures.value) c.in_ok-corners.ensures.starts)

pub returns : goal.returns
returns c =
    let S = c.requires.shows in
    let rows : List (List ℕ) = c.in_ok-facet_of.facet_of in
    let js : List Corner = c.in_ok-firsts.firsts.items in
    let F : AreFirsts rows c.in_ok-corners.corners.items js = subst (λ (ks : List Corner). AreFirsts rows ks js) c.deref.ensures.value c.in_ok-firsts.ensures.firsts in
    let e = c.len.ensures in let o = c.in_ok-firsts.firsts.ok in
    let many : c.len.result ≡ length js = omega arith in
    record {
      parts = facet-parts S.0 (complex_of c.args.c.now) (record { planes = c.in_ok-planes.planes; marks = c.in_ok-planes.marks; cycles = c.in_ok-cycles.cycles; facet_of = rows }) c.in_ok-corners.corners.items js S.1.shows
          c.in_ok-facet_of.ensures.numbers c.in_ok-corners.ensures.all F
          (c.in_ok-planes.ensures.as_many.0 ∙ ap (λ (ks : List Corner). length ks) c.deref-2.ensures.value)
          (c.in_ok-planes.ensures.as_many.1 ∙ ap (λ (ks : List Corner). length ks) c.deref-2.ensures.value)
          (c.in_ok-cycles.ensures.as_many ∙ many)
          (λ n h k a b. c.in_ok-planes.ensures.planes n h k a (subst (λ (ks : List Corner). IsAt ks n k) (sym c.deref-2.ensures.value) b))
          (λ n l k a b. c.in_ok-planes.ensures.marks n l k a (subst (λ (ks : List Corner). IsAt ks n k) (sym c.deref-2.ensures.value) b))
          c.in_ok-cycles.ensures.cycles;
    }
