use Rattle.nef_facets.proofs.Prelude.{[], map, get_or, complex_of, edge_of, low-within, high-within, LinkAlong, count_items, IsTieAlong, Any, Adds}
use Rattle.nef_facets.proofs.Adding.{any-next, any-all}
use Rattle.nef_facets.proofs.EdgeTies.{image-below, at-slice, edge-read}
use Rattle.nef_facets.proofs.TiedLinks.{tied, tied-within, along-in, along-to, along-from}
use Rattle.nef_facets.proofs.ties.along_ties.Goals as goal

pub at-requires : goal.at-requires
at-requires c =
    let C = c.args.c.now in
    let n = c.loop-edge.edge-index in
    let es = c.as_slice-edge-items.result.now in
    record { within = low-within c.requires.shows.0 C c.requires.shows.1.shows n (get_or es n _) (at-slice C.edges es c.as_slice-edge-items.ensures.all n c.loop-edge-test.true _) }

pub at-requires-in-loop-edge : goal.at-requires-in-loop-edge
at-requires-in-loop-edge c =
    let C = c.args.c.now in
    let n = c.loop-edge.edge-index in
    let es = c.as_slice-edge-items.result.now in
    record { within = high-within c.requires.shows.0 C c.requires.shows.1.shows n (get_or es n _) (at-slice C.edges es c.as_slice-edge-items.ensures.all n c.loop-edge-test.true _) }

pub loop-edge-preserved : goal.loop-edge-preserved
loop-edge-preserved c =
    let C = c.args.c.now in
    let n = c.loop-edge.edge-index in
    let es = c.as_slice-edge-items.result.now in
    let v = c.at.result.now in
    let w = c.at-in-loop-edge.result.now in
    let now = c.loop-edge.ties.items in
    let new = c.add_edge_ties.new.ties.items in
    record {
      added = any-next (IsTieAlong (complex_of C)) n [] now new c.loop-edge.invariant.added
          (edge-read C n (get_or es n _) (at-slice C.edges es c.as_slice-edge-items.ensures.all n c.loop-edge-test.true _) v w c.at.ensures.element c.at-in-loop-edge.ensures.element now new c.in_ok-add_edge_ties.ensures.added);
    }

-- the list has the ties of all edges
all : (c : goal.After-loop-edge) → Adds (Any (IsTieAlong (complex_of c.args.c.now))) [] c.loop-edge.ties.items
all c = any-all (IsTieAlong (complex_of c.args.c.now)) c.loop-edge.edge-index [] c.loop-edge.ties.items
    (λ k t p. image-below edge_of c.args.c.now.edges c.as_slice-edge-items.result.now c.as_slice-edge-items.ensures.all c.loop-edge.edge-index c.loop-edge-test.false k p.0 p.3) c.loop-edge.invariant.added

pub returns-clause-within : goal.returns-clause-within
returns-clause-within c =
    let C = complex_of c.args.c.now in
    tied-within (LinkAlong C) (IsTieAlong C) (along-to C) (along-from C) c.loop-edge.ties.items (all c) (map count_items C.vertices) (along-in C)

pub returns-clause-along : goal.returns-clause-along
returns-clause-along c = let C = complex_of c.args.c.now in tied (LinkAlong C) (IsTieAlong C) (along-to C) (along-from C) c.loop-edge.ties.items (all c)
