use Rattle.nef_cand.proofs.Prelude.{◌≡◌, ◌∙◌, List, [], map, ap, sym, subst, Plane, Point, complex_of, Named, First, Second, IsListed, AreCandidates, AreFramed, named_point, IsNamedIn, AddsPoints, CutsOne}
use Rattle.nef_cand.proofs.Complete.{lists-candidates}
use Rattle.nef_cand.proofs.listing.candidates.Goals as goal

pub returns : goal.returns
returns c =
    let S = c.requires.first in let T = c.requires.second in let a = c.args.a.now in let b = c.args.b.now in
    let C = complex_of a in let D = complex_of b in let N = IsNamedIn First C in let M = IsNamedIn Second D in
    let us = c.in_ok-inside_a.inside_a.items in let vs = c.in_ok-inside_b.inside_b.items in
    let third = subst (λ (zs : List Named). AddsPoints (CutsOne C b.carriers) N [] zs) (sym c.as_slice-3.ensures.value)
    (subst (λ (hs : List Plane). AddsPoints (CutsOne C hs) N [] us) c.as_slice.ensures.all c.in_ok-inside_a.ensures.cuts) in
    let fourth = subst (λ (zs : List Named). AddsPoints (CutsOne D a.carriers) M [] zs) (sym c.as_slice-4.ensures.value)
    (subst (λ (hs : List Plane). AddsPoints (CutsOne D hs) M [] vs) c.as_slice-2.ensures.all c.in_ok-inside_b.ensures.cuts) in
    let lists = lists-candidates S.0 T.0 a b c.as_slice-3.result.now c.as_slice-4.result.now c.in_ok-listed.listed.items S.1 T.1 c.in_ok-listed.ensures.together third fourth in
    let same : map named_point c.in_ok-listed.listed.items ≡ c.in_ok-points.points.items = sym (c.in_ok-points.ensures.points ∙ ap (map named_point) c.as_slice-5.ensures.value) in
    record {
      exactly = subst (AreCandidates C D) same lists.exactly;
      framed = subst AreFramed same lists.framed;
      complete = λ s t y S T u. subst (λ (ps : List Point). IsListed ps y) same (lists.complete s t y S T u);
    }
