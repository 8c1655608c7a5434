use Rattle.nef_volumes.proofs.Prelude.{List, [], arith, sym, subst, Tie, complex_of, Adds, Any, AnyBelow, any-start, any-next, any-all, IsTieOutside}
use Rattle.nef_volumes.proofs.OutsideTies.{outside-tied, outside-all}
use Rattle.nef_volumes.proofs.ReadVertex.{vertex-within}
use Rattle.nef_volumes.proofs.ties.outside_ties.Goals as goal

pub loop-vertex-init : goal.loop-vertex-init
loop-vertex-init c =
    let C = complex_of c.args.c.now in
    subst (λ (ts : List Tie). Adds (AnyBelow (λ i. Any (IsTieOutside C i)) 0) [] ts) (sym c.new-ties.ensures.items) (any-start (λ i. Any (IsTieOutside C i)) [])

pub loop-vertex-preserved : goal.loop-vertex-preserved
loop-vertex-preserved c =
    let C = complex_of c.args.c.now in
    any-next (λ i. Any (IsTieOutside C i)) c.loop-vertex.vertex [] c.loop-vertex.ties.items c.add_outside_sides.new.ties.items c.loop-vertex.invariant c.in_ok-add_outside_sides.ensures.added

pub returns-clause-ties : goal.returns-clause-ties
returns-clause-ties c =
    let C = complex_of c.args.c.now in
    outside-tied C c.loop-vertex.ties.items (any-all (λ i. Any (IsTieOutside C i)) c.loop-vertex.vertex [] c.loop-vertex.ties.items
    (λ k t (s, p). let (v, o, a, g) = p.0 in let l = vertex-within c.args.c.now k v a in omega (arith, l, c.loop-vertex-test.false, c.len-vertex-end.ensures.len)) c.loop-vertex.invariant)

pub returns-clause-outside : goal.returns-clause-outside
returns-clause-outside c =
    let C = complex_of c.args.c.now in
    outside-all C c.loop-vertex.ties.items (any-all (λ i. Any (IsTieOutside C i)) c.loop-vertex.vertex [] c.loop-vertex.ties.items
    (λ k t (s, p). let (v, o, a, g) = p.0 in let l = vertex-within c.args.c.now k v a in omega (arith, l, c.loop-vertex-test.false, c.len-vertex-end.ensures.len)) c.loop-vertex.invariant)
