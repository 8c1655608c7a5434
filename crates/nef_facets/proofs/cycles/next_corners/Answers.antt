use Rattle.nef_facets.proofs.Prelude.{◌≡◌, ℕ, ◌<◌, List, length, get_or, arith, refl, ap, inl, inr, subst, IsAt, Out, is-at_get, map-is_at, is-at_map, is-at_within, edge_of, complex_of}
use Rattle.nef_index.specs.declared.skeleton.Edge.{Edge}
use Rattle.nef_complex.specs.declared.complex.Complex.{Complex}
use Rattle.nef_facets.proofs.Nexts.{next-none, next-more, next-all}
use Rattle.nef_facets.proofs.cycles.next_corners.Goals as goal

edge-here : (c : Complex) (es : List Edge) (i : ℕ) (d : Edge) → es ≡ c.edges → i < length es → IsAt (complex_of c).edges i (edge_of (get_or es i d))
edge-here c es i d e h = map-is_at edge_of c.edges i (get_or es i d) (subst (λ (xs : List Edge). IsAt xs i (get_or es i d)) e (is-at_get es i d h))

pub loop-edge-init : goal.loop-edge-init
loop-edge-init c = next-none (complex_of c.args.c.now) c.args.corners.now c.in_ok-next.next.items c.in_ok-next.ensures.as_many c.in_ok-next.ensures.own

pub add_next-requires-clause-edge : goal.add_next-requires-clause-edge
add_next-requires-clause-edge c =
    let d : Edge = record { low = 0; low_svertex = 0; high = 0; high_svertex = 0; mark = Out } in
    let es = c.as_slice-edge-items.result.now in let i = c.loop-edge.edge-index in
    (i, edge_of (get_or es i d), edge-here c.args.c.now es i d c.as_slice-edge-items.ensures.all c.loop-edge-test.true, inl (refl, refl, refl, refl))

pub add_next-requires-in-loop-edge-clause-edge : goal.add_next-requires-in-loop-edge-clause-edge
add_next-requires-in-loop-edge-clause-edge c =
    let d : Edge = record { low = 0; low_svertex = 0; high = 0; high_svertex = 0; mark = Out } in
    let es = c.as_slice-edge-items.result.now in let i = c.loop-edge.edge-index in
    (i, edge_of (get_or es i d), edge-here c.args.c.now es i d c.as_slice-edge-items.ensures.all c.loop-edge-test.true, inr (refl, refl, refl, refl))

pub loop-edge-preserved : goal.loop-edge-preserved
loop-edge-preserved c =
    let C = c.args.c.now in
    let d : Edge = record { low = 0; low_svertex = 0; high = 0; high_svertex = 0; mark = Out } in
    let es = c.as_slice-edge-items.result.now in let i = c.loop-edge.edge-index in
    let first = c.add_next.ensures in
    let second = c.add_next-in-loop-edge.ensures in
    next-more (complex_of C) c.args.corners.now i c.loop-edge.next.items c.add_next.new.next.items c.add_next-in-loop-edge.new.next.items (edge_of (get_or es i d)) c.loop-edge.invariant
    (edge-here C es i d c.as_slice-edge-items.ensures.all c.loop-edge-test.true) second.as_many first.kept first.added second.kept second.added

pub returns : goal.returns
returns c =
    let S = c.requires.shows in let C = c.args.c.now in
    record {
      next = next-all S.0 (complex_of C) S.1.shows c.args.corners.now c.requires.corners c.loop-edge.edge-index c.loop-edge.next.items c.loop-edge.invariant
          (λ m e a. let r = is-at_map edge_of C.edges m e a in let h = is-at_within C.edges m r.0 r.1 in let f = ap length c.as_slice-edge-items.ensures.all in let g = c.loop-edge-test.false in omega arith);
    }
