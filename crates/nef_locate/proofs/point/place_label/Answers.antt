use Rattle.nef_locate.proofs.Prelude.{◌≡◌, refl, sym, subst, Item, items, item_mark, item_of, IsSide, sides_of, map_of, is-at_within, is-at_one, Vertex as PlainVertex, vertex_of, edge_of, complex_of, corner_of, IsPlaceIn, IsPlaceLabel}
use Rattle.nef_locate.specs.declared.point.Place.{Place}
use Rattle.nef_locate.proofs.Marks.{image-read, side-within, corner-read, label-holds}
use Rattle.nef_locate.proofs.point.place_label.Goals as goal
use Rattle.nef_smap.proofs.Lists.{map-within}

pub at-requires : goal.at-requires
at-requires c =
    let p = subst (IsPlaceIn (complex_of c.args.c.now)) c.in-Vertex.is c.requires.place in
    record { within = map-within vertex_of c.args.c.now.vertices c.in-Vertex.number p.0 p.1 }

pub at-requires-in-OnEdge : goal.at-requires-in-OnEdge
at-requires-in-OnEdge c =
    let p = subst (IsPlaceIn (complex_of c.args.c.now)) c.in-OnEdge.is c.requires.place in
    record { within = map-within edge_of c.args.c.now.edges c.in-OnEdge.number p.0 p.1 }

pub at-requires-in-InFacet : goal.at-requires-in-InFacet
at-requires-in-InFacet c =
    let p = subst (IsPlaceIn (complex_of c.args.c.now)) c.in-InFacet.is c.requires.place in
    record { within = map-within vertex_of c.args.c.now.vertices c.in-InFacet.corner.vertex p.0 p.2.vertex }

pub item_at-requires : goal.item_at-requires
item_at-requires c =
    let p = subst (IsPlaceIn (complex_of c.args.c.now)) c.in-InFacet.is c.requires.place in
    let v = corner-read c.args.c.now.vertices (complex_of c.args.c.now) (corner_of c.in-InFacet.corner) c.at-in-InFacet.result.now p.1 refl c.at-in-InFacet.ensures.element p.0 p.2 in
    record { within = is-at_within (items (map_of c.at-in-InFacet.result.now.map)) c.in-InFacet.corner.item p.1 v.item }

pub at-requires-in-InVolume : goal.at-requires-in-InVolume
at-requires-in-InVolume c =
    let p = subst (IsPlaceIn (complex_of c.args.c.now)) c.in-InVolume.is c.requires.place in
    record { within = map-within vertex_of c.args.c.now.vertices c.in-InVolume.vertex p.2.0 p.2.1 }

pub side_label-requires : goal.side_label-requires
side_label-requires c =
    let p = subst (IsPlaceIn (complex_of c.args.c.now)) c.in-InVolume.is c.requires.place in
    let u = c.at-in-InVolume.result.now in
    let e = is-at_one (complex_of c.args.c.now).vertices c.in-InVolume.vertex p.2.0 (vertex_of u) p.2.1 (image-read vertex_of c.args.c.now.vertices c.in-InVolume.vertex u c.at-in-InVolume.ensures.element) in
    record { within = side-within (sides_of (map_of u.map)) c.in-InVolume.side (p.0, p.1) (subst (λ (v : PlainVertex). IsSide v.map c.in-InVolume.side p.0 p.1) e p.2.2) }

-- ---- the label
pub returns-in-Vertex-clause-label : goal.returns-in-Vertex-clause-label
returns-in-Vertex-clause-label c =
    let u = c.at.result.now in
    subst (λ (p : Place). IsPlaceLabel (complex_of c.args.c.now) p u.map.mark) (sym c.in-Vertex.is) (vertex_of u, image-read vertex_of c.args.c.now.vertices c.in-Vertex.number u c.at.ensures.element, refl)

pub returns-in-Vertex-clause-set : goal.returns-in-Vertex-clause-set
returns-in-Vertex-clause-set c = label-holds c.args.c.now c.args.at.now c.at.result.now.map.mark (returns-in-Vertex-clause-label c)

pub returns-in-OnEdge-clause-label : goal.returns-in-OnEdge-clause-label
returns-in-OnEdge-clause-label c =
    let e = c.at-in-OnEdge.result.now in
    subst (λ (p : Place). IsPlaceLabel (complex_of c.args.c.now) p e.mark) (sym c.in-OnEdge.is) (edge_of e, image-read edge_of c.args.c.now.edges c.in-OnEdge.number e c.at-in-OnEdge.ensures.element, refl)

pub returns-in-OnEdge-clause-set : goal.returns-in-OnEdge-clause-set
returns-in-OnEdge-clause-set c = label-holds c.args.c.now c.args.at.now c.at-in-OnEdge.result.now.mark (returns-in-OnEdge-clause-label c)

pub returns-in-InFacet-clause-label : goal.returns-in-InFacet-clause-label
returns-in-InFacet-clause-label c =
    let p = subst (IsPlaceIn (complex_of c.args.c.now)) c.in-InFacet.is c.requires.place in
    let u = c.at-in-InFacet.result.now in
    let v = corner-read c.args.c.now.vertices (complex_of c.args.c.now) (corner_of c.in-InFacet.corner) u p.1 refl c.at-in-InFacet.ensures.element p.0 p.2 in
    let e = is-at_one (items (map_of u.map)) c.in-InFacet.corner.item (item_of c.item_at.result) p.1 c.item_at.ensures.item v.item in
    subst (λ (q : Place). IsPlaceLabel (complex_of c.args.c.now) q c.mark.result) (sym c.in-InFacet.is) (vertex_of u, p.1, v, subst (λ (x : Item). item_mark x ≡ c.mark.result) e (sym c.mark.ensures.mark))

pub returns-in-InFacet-clause-set : goal.returns-in-InFacet-clause-set
returns-in-InFacet-clause-set c = label-holds c.args.c.now c.args.at.now c.mark.result (returns-in-InFacet-clause-label c)

pub returns-in-InVolume-clause-label : goal.returns-in-InVolume-clause-label
returns-in-InVolume-clause-label c =
    let u = c.at-in-InVolume.result.now in
    let l = c.side_label.ensures.label in
    subst (λ (p : Place). IsPlaceLabel (complex_of c.args.c.now) p c.side_label.result) (sym c.in-InVolume.is)
    (l.0, (vertex_of u, image-read vertex_of c.args.c.now.vertices c.in-InVolume.vertex u c.at-in-InVolume.ensures.element, l.1))

pub returns-in-InVolume-clause-set : goal.returns-in-InVolume-clause-set
returns-in-InVolume-clause-set c = label-holds c.args.c.now c.args.at.now c.side_label.result (returns-in-InVolume-clause-label c)
