use Rattle.nef_volumes.proofs.Prelude.{List, ℕ, arith, sym, subst, length-map, is-at_some, vertex_of, complex_of, HasSfaces}
use Rattle.nef_volumes.proofs.SfaceTies.{below-none, below-more, sface-tied}
use Rattle.nef_volumes.proofs.ReadVertex.{vertex-within}
use Rattle.nef_volumes.proofs.ties.sface_ties.Goals as goal

pub at-requires : goal.at-requires
at-requires c =
    let e = c.requires.sfaces.as_many in
    let m = length-map c.args.c.now.vertices vertex_of in
    record { within = omega (arith, e, m, c.loop-vertex-test.true, c.len-vertex-end.ensures.len) }

pub add_sfaces-requires-clause-numbers : goal.add_sfaces-requires-clause-numbers
add_sfaces-requires-clause-numbers c =
    let C = complex_of c.args.c.now in
    let i = c.loop-vertex.vertex in
    let m = length-map c.args.c.now.vertices vertex_of in
    let v = is-at_some C.vertices i (omega (arith, m, c.loop-vertex-test.true, c.len-vertex-end.ensures.len)) in
    subst (λ (ns : List ℕ). HasSfaces C i ns) (sym c.as_slice.ensures.all) (v.0, v.1, c.requires.sfaces.row i v.0 c.at.result.now v.1 c.at.ensures.element)

pub loop-vertex-init : goal.loop-vertex-init
loop-vertex-init c = below-none (complex_of c.args.c.now) c.new-ties.result.items c.new-ties.ensures.items

pub loop-vertex-preserved : goal.loop-vertex-preserved
loop-vertex-preserved c =
    let before = c.loop-vertex.ties.items in let after = c.add_sfaces.new.ties.items in
    below-more (complex_of c.args.c.now) c.loop-vertex.vertex before after c.loop-vertex.invariant c.in_ok-add_sfaces.ensures.added

pub returns : goal.returns
returns c =
    record {
      ties = sface-tied (complex_of c.args.c.now) c.loop-vertex.vertex c.loop-vertex.ties.items c.loop-vertex.invariant
          (λ i v a. let w = vertex-within c.args.c.now i v a in omega (arith, w, c.loop-vertex-test.false, c.len-vertex-end.ensures.len));
    }
