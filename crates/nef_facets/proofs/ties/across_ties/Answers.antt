use Rattle.nef_facets.proofs.Prelude.{[], map, arith, complex_of, LinkAcross, count_items, IsTieAcross, Any, Adds}
use Rattle.nef_facets.proofs.Adding.{any-next, any-all}
use Rattle.nef_facets.proofs.TiedLinks.{tied, tied-within, across-in, across-to, across-from}
use Rattle.nef_facets.proofs.WayInward.{vertex-below}
use Rattle.nef_facets.proofs.ties.across_ties.Goals as goal

pub loop-vertex-preserved : goal.loop-vertex-preserved
loop-vertex-preserved c = record {
  added = any-next (λ i. Any (IsTieAcross (complex_of c.args.c.now) i)) c.loop-vertex.vertex [] c.loop-vertex.ties.items c.add_vertex_ties.new.ties.items c.loop-vertex.invariant.added c.in_ok-add_vertex_ties.ensures.added;
}

-- the list has the ties of all vertices
all : (c : goal.After-loop-vertex) → Adds (Any (λ i. Any (IsTieAcross (complex_of c.args.c.now) i))) [] c.loop-vertex.ties.items
all c = any-all (λ i. Any (IsTieAcross (complex_of c.args.c.now) i)) c.loop-vertex.vertex [] c.loop-vertex.ties.items
    (λ k t p. let b = vertex-below c.args.c.now k t p in let e = c.len-vertex-end.ensures.len in let f = c.loop-vertex-test.false in omega (arith, b, e, f)) c.loop-vertex.invariant.added

pub returns-clause-within : goal.returns-clause-within
returns-clause-within c =
    let C = complex_of c.args.c.now in
    tied-within (LinkAcross C) (λ i. Any (IsTieAcross C i)) (across-to C) (across-from C) c.loop-vertex.ties.items (all c) (map count_items C.vertices) (across-in C)

pub returns-clause-across : goal.returns-clause-across
returns-clause-across c =
    let C = complex_of c.args.c.now in
    tied (LinkAcross C) (λ i. Any (IsTieAcross C i)) (across-to C) (across-from C) c.loop-vertex.ties.items (all c)
