use Rattle.nef_facets.proofs.Prelude.{◌≡◌, pos, Option, None, refl, sym, ◌∙◌, subst, normal_of, Vector, dot, not_true, is-at_within, form_of, vector_of, Corner, complex_of, corner_of, vertex_of, meet_of, level-of_opposite, IsLinkedFrom}
use Rattle.nef_locate.proofs.ItemsFound.{met-listed}
use Rattle.nef_facets.proofs.ItemCarriers.{vertex-within, item-within, corner-at, carrier-plane}
use Rattle.nef_facets.proofs.WayInward.{level-inward, not-on, none-along, linked-from, small-back, vertex-some, named-met}
use Rattle.nef_facets.proofs.ties.across.Goals as goal

pub at-h-requires : goal.at-h-requires
at-h-requires c = let (g, a, P) = c.carrier_of-carrier.ensures.plane in record { within = is-at_within c.args.c.now.carriers c.carrier_of-carrier.result g a }

pub at-requires : goal.at-requires
at-requires c = record { within = vertex-within c.args.c.now (corner_of c.args.k.now) c.requires.corner }

pub item_holds-requires-clause-map : goal.item_holds-requires-clause-map
item_holds-requires-clause-map c = (c.requires.shows.1.maps c.args.k.now.vertex c.at.result.now c.at.ensures.element).sphere_map

pub item_holds-requires-clause-within : goal.item_holds-requires-clause-within
item_holds-requires-clause-within c = item-within c.args.c.now (corner_of c.args.k.now) c.requires.corner c.at.result.now c.at.ensures.element

pub carrier_items-requires-clause-within : goal.carrier_items-requires-clause-within
carrier_items-requires-clause-within c = is-at_within c.args.c.now.carriers c.carrier_of-carrier.result c.at-h.result.now c.at-h.ensures.element

pub first_along_dir-requires-clause-items : goal.first_along_dir-requires-clause-items
first_along_dir-requires-clause-items c = record { edges = c.carrier_items.ensures.edges c.at-h.result.now c.at-h.ensures.element; vertices = c.carrier_items.ensures.vertices c.at-h.result.now c.at-h.ensures.element; peaks = c.carrier_items.ensures.peaks }

pub first_along_dir-requires-clause-within : goal.first_along_dir-requires-clause-within
first_along_dir-requires-clause-within c = vertex-within c.args.c.now (corner_of c.args.k.now) c.requires.corner

pub first_along_dir-requires-clause-small : goal.first_along_dir-requires-clause-small
first_along_dir-requires-clause-small c = small-back (vector_of c.plane_dir.result) (vector_of c.back-inward.result) c.back-inward.ensures.back c.plane_dir.ensures.small.each

pub corner_toward-requires-clause-level : goal.corner_toward-requires-clause-level
corner_toward-requires-clause-level c =
    let h = form_of c.at-h.result.now in
    let u = c.at.result.now in
    let r = c.item_holds.ensures.on in
    let b = corner-at c.args.c.now (corner_of c.args.k.now) u c.at.ensures.element r.0 r.1 in
    let level = level-inward c.requires.shows.0 c.args.c.now c.requires.shows.1 (corner_of c.args.k.now) (vertex_of u) r.0 b c.at-h.result.now (carrier-plane c.args.c.now (corner_of c.args.k.now) c.carrier_of-carrier.result c.at-h.result.now c.carrier_of-carrier.ensures.plane c.at-h.ensures.element)
    (vector_of c.plane_dir.result) (vector_of c.back-inward.result) c.plane_dir.ensures.dir c.plane_dir.ensures.in_plane c.back-inward.ensures.back in
    subst (λ (v : Vector). dot (normal_of h) v ≡ pos 0) (sym c.back.ensures.back) (level-of_opposite (normal_of h) (vector_of c.back-inward.result) level)

pub first_along_dir-requires-clause-no_svertex : goal.first_along_dir-requires-clause-no_svertex
first_along_dir-requires-clause-no_svertex c =
    let u = c.at.result.now in
    let r = c.item_holds.ensures.on in
    let b = corner-at c.args.c.now (corner_of c.args.k.now) u c.at.ensures.element r.0 r.1 in
    none-along c.requires.shows.0 c.args.c.now c.requires.shows.1 (corner_of c.args.k.now) (vertex_of u) r.0 b c.at-h.result.now (carrier-plane c.args.c.now (corner_of c.args.k.now) c.carrier_of-carrier.result c.at-h.result.now c.carrier_of-carrier.ensures.plane c.at-h.ensures.element)
    (vector_of c.plane_dir.result) (vector_of c.back-inward.result) c.plane_dir.ensures.dir c.plane_dir.ensures.in_plane c.back-inward.ensures.back (r.2.0 c.if-not-item_holds.false)

pub returns-then-not-item_holds : goal.returns-then-not-item_holds
returns-then-not-item_holds c =
    let u = c.at.result.now in
    let r = c.item_holds.ensures.on in
    let b = corner-at c.args.c.now (corner_of c.args.k.now) u c.at.ensures.element r.0 r.1 in
    record {
      linked = not-on c.requires.shows.0 c.args.c.now c.requires.shows.1 (corner_of c.args.k.now) (vertex_of u) r.0 b c.at-h.result.now (carrier-plane c.args.c.now (corner_of c.args.k.now) c.carrier_of-carrier.result c.at-h.result.now c.carrier_of-carrier.ensures.plane c.at-h.ensures.element)
          (vector_of c.plane_dir.result) (vector_of c.back-inward.result) c.plane_dir.ensures.dir c.plane_dir.ensures.in_plane c.back-inward.ensures.back (λ o. not_true (sym c.if-not-item_holds.true ∙ r.2.1 o));
    }

pub corner_toward-requires-clause-met : goal.corner_toward-requires-clause-met
corner_toward-requires-clause-met c =
    let v = vertex-some c.args.c.now.vertices c.args.k.now.vertex (vertex-within c.args.c.now (corner_of c.args.k.now) c.requires.corner) in
    let I = c.in_ok-met.ensures.some v.0 v.1 in
    met-listed (complex_of c.args.c.now) (form_of c.at-h.result.now) (meet_of c.in_ok-met.met) I.place I.meets

pub returns-in_err-met : goal.returns-in_err-met
returns-in_err-met c =
    let u = c.at.result.now in
    let r = c.item_holds.ensures.on in
    let b = corner-at c.args.c.now (corner_of c.args.k.now) u c.at.ensures.element r.0 r.1 in
    let none : IsLinkedFrom (complex_of c.args.c.now) (corner_of c.args.k.now) None =
    linked-from c.requires.shows.0 c.args.c.now c.requires.shows.1 (corner_of c.args.k.now) (vertex_of u) r.0 b c.at-h.result.now (carrier-plane c.args.c.now (corner_of c.args.k.now) c.carrier_of-carrier.result c.at-h.result.now c.carrier_of-carrier.ensures.plane c.at-h.ensures.element)
    (vector_of c.plane_dir.result) (vector_of c.back-inward.result) c.plane_dir.ensures.dir c.plane_dir.ensures.in_plane c.back-inward.ensures.back (r.2.0 c.if-not-item_holds.false) None
    (λ v a l (m, I, K). c.in_err-met.ensures.none refl v a m I.place I.ahead I.meets) in
    record { linked = subst (λ (o : Option Corner). IsLinkedFrom (complex_of c.args.c.now) (corner_of c.args.k.now) o) (sym c.from_residual.ensures) none }

pub returns : goal.returns
returns c =
    let u = c.at.result.now in
    let r = c.item_holds.ensures.on in
    let b = corner-at c.args.c.now (corner_of c.args.k.now) u c.at.ensures.element r.0 r.1 in
    record {
      linked = linked-from c.requires.shows.0 c.args.c.now c.requires.shows.1 (corner_of c.args.k.now) (vertex_of u) r.0 b c.at-h.result.now (carrier-plane c.args.c.now (corner_of c.args.k.now) c.carrier_of-carrier.result c.at-h.result.now c.carrier_of-carrier.ensures.plane c.at-h.ensures.element)
          (vector_of c.plane_dir.result) (vector_of c.back-inward.result) c.plane_dir.ensures.dir c.plane_dir.ensures.in_plane c.back-inward.ensures.back (r.2.0 c.if-not-item_holds.false) c.corner_toward.result
          (λ v a. named-met c.requires.shows.0 (complex_of c.args.c.now) c.requires.shows.1.shows (form_of c.at-h.result.now) v.point (vector_of c.back-inward.result) (vector_of c.back.result) c.back.ensures.back
          (meet_of c.in_ok-met.met) (c.in_ok-met.ensures.some v a) c.corner_toward.result c.corner_toward.ensures.corner);
    }
