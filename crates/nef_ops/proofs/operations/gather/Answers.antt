use Rattle.nef_ops.proofs.Prelude.{◌≡◌, ◌∙◌, List, map, length, arith, ap, sym, subst, Point, complex_of, Named, AreFramed, named_point, AreNamed, moved_if, AreHeldBySpan}
use Rattle.nef_ops.proofs.Gathered.{both-outcomes}
use Rattle.nef_ops.proofs.HeldPoints.{first-held, second-held}
use Rattle.nef_ops.proofs.operations.gather.Goals as goal

-- the points are those of the candidates
points-are : (cs ns : List Named) (ps qs : List Point) → cs ≡ ns → ps ≡ map named_point cs → qs ≡ ps → map named_point ns ≡ qs
points-are cs ns ps qs e f g = sym (g ∙ f ∙ ap (map named_point) e)

pub regions_of-far_first-requires-clause-held : goal.regions_of-far_first-requires-clause-held
regions_of-far_first-requires-clause-held g c =
    let a = c.args.a.now in let b = c.args.b.now in let t = c.requires.second in let ns = c.in_ok-listed.listed.items in
    subst (AreHeldBySpan a c.core_span-core_b.result) (points-are c.as_slice-candidates.result.now ns c.in_ok-points.points.items c.as_slice.result.now c.as_slice-candidates.ensures.value c.in_ok-points.ensures.points c.as_slice.ensures.value)
    (first-held a b ns c.in_ok-listed.ensures.lists.named t.0 c.core_span-core_b.result t.1 c.core_span-core_b.ensures.core)

pub regions_of-far_second-requires-clause-held : goal.regions_of-far_second-requires-clause-held
regions_of-far_second-requires-clause-held g c =
    let a = c.args.a.now in let b = c.args.b.now in let s = c.requires.first in let ns = c.in_ok-listed.listed.items in
    subst (AreHeldBySpan b c.core_span-core_a.result) (points-are c.as_slice-candidates.result.now ns c.in_ok-points.points.items c.as_slice-2.result.now c.as_slice-candidates.ensures.value c.in_ok-points.ensures.points c.as_slice-2.ensures.value)
    (second-held a b ns c.in_ok-listed.ensures.lists.named s.0 c.core_span-core_a.result s.1 c.core_span-core_a.ensures.core)

pub all_worked-requires-clause-workable : goal.all_worked-requires-clause-workable
all_worked-requires-clause-workable g c = λ κs within.
    let same = sym c.as_slice-candidates.ensures.value in let lists = c.in_ok-listed.ensures.lists in
    ((c.requires.first, c.regions_of-far_first.ensures.told), (c.requires.second, c.regions_of-far_second.ensures.told), subst (λ (ns : List Named). AreFramed (map named_point ns)) same lists.framed, subst (AreNamed (complex_of c.args.a.now) (complex_of c.args.b.now)) same lists.named)

pub returns : goal.returns
returns g c =
    let a = c.args.a.now in let b = c.args.b.now in let ns = c.as_slice-candidates.result.now in
    let n = c.in_ok-outcomes.ensures.len in let o = c.in_ok-outcomes.outcomes.ok in
    let alike : length c.in_ok-outcomes.outcomes.items ≡ length ns = omega arith in
    record {
      gathered = both-outcomes c.args.op a b c.in_ok-carriers.carriers c.in_ok-listed.listed.items ns ns c.in_ok-points.points.items (moved_if c.args.own_a a) (moved_if c.args.own_b b) c.in_ok-outcomes.outcomes.items
          c.as_slice-candidates.ensures.value c.as_slice-candidates.ensures.value c.in_ok-points.ensures.points c.in_ok-listed.ensures.lists c.in_ok-carriers.ensures.carriers alike c.in_ok-outcomes.ensures.right;
    }
