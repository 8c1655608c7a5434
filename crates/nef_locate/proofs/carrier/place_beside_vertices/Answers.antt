use Rattle.nef_locate.proofs.Prelude.{IsTrue, arith, ⊎_elim, refl, rules, form_of, hit_point, is-at_within, complex_of}
use Rattle.nef_locate.proofs.EdgeOrder.{parts-off}
use Rattle.nef_locate.proofs.Listed.{flat-item, unmet}
use Rattle.nef_locate.proofs.Located.{corner-at, edge-at}
use Rattle.nef_locate.proofs.carrier.place_beside_vertices.Goals as goal

pub carrier_items-items-requires-clause-within : goal.carrier_items-items-requires-clause-within
carrier_items-items-requires-clause-within c = is-at_within c.args.c.now.carriers c.args.number c.args.h.now c.requires.number

pub edge_among-requires-clause-parts : goal.edge_among-requires-clause-parts
edge_among-requires-clause-parts c = (form_of c.args.h.now, c.carrier_items-items.ensures.edges c.args.h.now c.requires.number, c.requires.parts)

pub at-requires : goal.at-requires
at-requires c =
    let e = c.requires.shows.1.flagged.flags.as_many in let l = is-at_within c.args.c.now.carriers c.args.number c.args.h.now c.requires.number in
    record { within = omega (arith, l, e) }

pub in_facet_among-requires-clause-items : goal.in_facet_among-requires-clause-items
in_facet_among-requires-clause-items c =
    let I = c.carrier_items-items.ensures in let h = c.args.h.now in let a = c.requires.number in
    record { edges = I.edges h a; vertices = I.vertices h a; peaks = I.peaks }

pub in_facet_among-requires-clause-off : goal.in_facet_among-requires-clause-off
in_facet_among-requires-clause-off c =
    let C = c.args.c.now in let h = form_of c.args.h.now in let q = hit_point c.args.q.now in
    unmet C h q c.carrier_items-items.result.edges.now (c.carrier_items-items.ensures.edges c.args.h.now c.requires.number) (parts-off C h q c.args.next c.requires.on c.requires.parts) c.in_default.ensures.edge

pub returns-then-not-at-clause-none : goal.returns-then-not-at-clause-none
returns-then-not-at-clause-none c = λ e s S.
    let C = c.args.c.now in let h = form_of c.args.h.now in let q = hit_point c.args.q.now in
    let off : IsTrue c.at.result.now → ⊥ = search rules in
    ⊎_elim
    (λ m. unmet C h q c.carrier_items-items.result.edges.now (c.carrier_items-items.ensures.edges c.args.h.now c.requires.number) (parts-off C h q c.args.next c.requires.on c.requires.parts) c.in_default.ensures.edge m.0 m.1)
    (λ F. off ((c.requires.shows.1.flagged.flags.each c.args.number c.args.h.now c.at.result.now c.requires.number c.at.ensures.element).1 (flat-item s C S c.args.h.now q c.requires.on F)))

pub returns-in_err-corner-clause-none : goal.returns-in_err-corner-clause-none
returns-in_err-corner-clause-none c = λ e s S.
    let C = c.args.c.now in let h = form_of c.args.h.now in let q = hit_point c.args.q.now in
    ⊎_elim
    (λ m. unmet C h q c.carrier_items-items.result.edges.now (c.carrier_items-items.ensures.edges c.args.h.now c.requires.number) (parts-off C h q c.args.next c.requires.on c.requires.parts) c.in_default.ensures.edge m.0 m.1)
    (c.in_err-corner.ensures.none refl s S)

pub returns-clause-at : goal.returns-clause-at
returns-clause-at c = corner-at (complex_of c.args.c.now) (hit_point c.args.q.now) c.in_ok-corner.corner c.in_ok-corner.ensures.corner

pub returns-in-Some-clause-at : goal.returns-in-Some-clause-at
returns-in-Some-clause-at c = edge-at (complex_of c.args.c.now) (hit_point c.args.q.now) c.in-Some.edge c.in-Some.ensures.edge
