use Rattle.nef_locate.proofs.Prelude.{List, IsTrue, get_or, arith, rules, form_of, hit_point, is-at_get, is-at_within, Span, complex_of, skeleton-framed, no_span, spanned}
use Rattle.nef_locate.proofs.Located.{vertex-at}
use Rattle.nef_locate.proofs.carrier.place_on.Goals as goal

pub returns-then-not-is_in_span-clause-none : goal.returns-then-not-is_in_span-clause-none
returns-then-not-is_in_span-clause-none c =
    let off : IsTrue c.is_in_span.result → ⊥ = search rules in
    let A = c.carrier_spans.ensures.spans in let n = c.args.number in let spans : List Span = c.carrier_spans.result.now in
    let m = A.as_many in let l = is-at_within c.args.c.now.carriers n c.args.h.now c.requires.number in
    λ e s S i. off (c.is_in_span.ensures.spanned.1 (
      skeleton-framed s c.args.c.now S (form_of c.args.h.now) (hit_point c.args.q.now) i,
      spanned s c.args.c.now S (form_of c.args.h.now) (get_or spans n no_span) (A.each n c.args.h.now (get_or spans n no_span) c.requires.number (is-at_get spans n no_span (omega (arith, m, l)))) (hit_point c.args.q.now) c.requires.on i,
    ))

pub carrier_items-requires-clause-within : goal.carrier_items-requires-clause-within
carrier_items-requires-clause-within c = is-at_within c.args.c.now.carriers c.args.number c.args.h.now c.requires.number

pub find_among-requires-clause-listed : goal.find_among-requires-clause-listed
find_among-requires-clause-listed c = (form_of c.args.h.now, c.carrier_items.ensures.vertices c.args.h.now c.requires.number)

pub returns-in-Ok-clause-at : goal.returns-in-Ok-clause-at
returns-in-Ok-clause-at c = vertex-at (complex_of c.args.c.now) (hit_point c.args.q.now) c.in-Ok.vertex c.in-Ok.ensures.found

pub place_beside_vertices-requires-clause-parts : goal.place_beside_vertices-requires-clause-parts
place_beside_vertices-requires-clause-parts c = c.in-Err.ensures.parts (form_of c.args.h.now) (c.carrier_items.ensures.vertices c.args.h.now c.requires.number)
