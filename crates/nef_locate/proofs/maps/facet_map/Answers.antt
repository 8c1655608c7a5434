use Rattle.nef_locate.proofs.Prelude.{◌≡◌, ℕ, refl, sym, subst, ◌∙◌, normal_limit, IsNormal, IsAtMost, vector_of, IsAt, Item, items, item_normal, item_pos, item_mark, item_neg, is-at_one, SLoop, SphereMap, item_of, map_of, sloop_of, is-at_within, vertex_of, complex_of, corner_of, IsPlaneOf}
use Rattle.nef_smap.specs.declared.item.Item.{Item as MapItem}
use Rattle.nef_locate.proofs.Marks.{corner-read}
use Rattle.nef_locate.proofs.Cones.{cone-of_corner}
use Rattle.nef_locate.proofs.maps.facet_map.Goals as goal
use Rattle.nef_smap.proofs.Lists.{map-within}

-- the plane of the item that is read is that of the item there
plane-read : (m : SphereMap) (k : ℕ) (i : MapItem) (x : Item) (l : SLoop) → IsAt (items (map_of m)) k (item_of i) → IsAt (items (map_of m)) k x
    → vector_of l.normal ≡ item_normal (item_of i) → l.pos ≡ item_pos (item_of i) → l.mark ≡ item_mark (item_of i) → l.neg ≡ item_neg (item_of i) → IsPlaneOf x (sloop_of l)
plane-read m k i x l a b en ep em eq =
    subst (λ (r : Item). IsPlaneOf r (sloop_of l)) (is-at_one (items (map_of m)) k (item_of i) x a b) (record { normal = sym en; pos = sym ep; mark = sym em; neg = sym eq })

pub at-requires : goal.at-requires
at-requires c = let p = c.requires.place in record { within = map-within vertex_of c.args.c.now.vertices c.args.corner.now.vertex p.0 p.2.vertex }

pub item_at-item-requires : goal.item_at-item-requires
item_at-item-requires c =
    let p = c.requires.place in
    let i = corner-read c.args.c.now.vertices (complex_of c.args.c.now) (corner_of c.args.corner.now) c.at.result.now p.1 refl c.at.ensures.element p.0 p.2 in
    record { within = is-at_within (items (map_of c.at.result.now.map)) c.args.corner.now.item p.1 i.item }

pub plane_map-requires-clause-normal : goal.plane_map-requires-clause-normal
plane_map-requires-clause-normal c =
    let p = c.requires.place in
    let i = corner-read c.args.c.now.vertices (complex_of c.args.c.now) (corner_of c.args.corner.now) c.at.result.now p.1 refl c.at.ensures.element p.0 p.2 in
    let S = c.requires.shows.1 in
    let P = plane-read c.at.result.now.map c.args.corner.now.item c.item_at-item.result p.1 (record { normal = c.normal.result.now; mark = c.mark.result; pos = c.label.result; neg = c.label-2.result }) c.item_at-item.ensures.item i.item
    c.normal.ensures.normal c.label.ensures.label c.mark.ensures.mark c.label-2.ensures.label in
    subst IsNormal P.normal ((S.maps c.args.corner.now.vertex c.at.result.now c.at.ensures.element).sphere_map.valid.shaped.normals c.args.corner.now.item p.1 i.item)

pub plane_map-requires-clause-small : goal.plane_map-requires-clause-small
plane_map-requires-clause-small c =
    let p = c.requires.place in
    let i = corner-read c.args.c.now.vertices (complex_of c.args.c.now) (corner_of c.args.corner.now) c.at.result.now p.1 refl c.at.ensures.element p.0 p.2 in
    let S = c.requires.shows.1 in
    let P = plane-read c.at.result.now.map c.args.corner.now.item c.item_at-item.result p.1 (record { normal = c.normal.result.now; mark = c.mark.result; pos = c.label.result; neg = c.label-2.result }) c.item_at-item.ensures.item i.item
    c.normal.ensures.normal c.label.ensures.label c.mark.ensures.mark c.label-2.ensures.label in
    subst (IsAtMost normal_limit) P.normal ((S.maps c.args.corner.now.vertex c.at.result.now c.at.ensures.element).sphere_map.small.normals c.args.corner.now.item p.1 i.item)

pub returns-clause-least : goal.returns-clause-least
returns-clause-least c =
    let p = c.requires.place in
    let i = corner-read c.args.c.now.vertices (complex_of c.args.c.now) (corner_of c.args.corner.now) c.at.result.now p.1 refl c.at.ensures.element p.0 p.2 in
    let S = c.requires.shows.1 in
    let P = plane-read c.at.result.now.map c.args.corner.now.item c.item_at-item.result p.1 (record { normal = c.normal.result.now; mark = c.mark.result; pos = c.label.result; neg = c.label-2.result }) c.item_at-item.ensures.item i.item
    c.normal.ensures.normal c.label.ensures.label c.mark.ensures.mark c.label-2.ensures.label in
    c.plane_map.ensures.least (λ e f. (S.maps c.args.corner.now.vertex c.at.result.now c.at.ensures.element).least.items_differ c.args.corner.now.item p.1 i.item (P.pos ∙ e ∙ sym P.mark) (P.neg ∙ f ∙ sym P.mark))

pub returns-clause-cone : goal.returns-clause-cone
returns-clause-cone c s y S H =
    let p = c.requires.place in
    let i = corner-read c.args.c.now.vertices (complex_of c.args.c.now) (corner_of c.args.corner.now) c.at.result.now p.1 refl c.at.ensures.element p.0 p.2 in
    let P = plane-read c.at.result.now.map c.args.corner.now.item c.item_at-item.result p.1 (record { normal = c.normal.result.now; mark = c.mark.result; pos = c.label.result; neg = c.label-2.result }) c.item_at-item.ensures.item i.item
    c.normal.ensures.normal c.label.ensures.label c.mark.ensures.mark c.label-2.ensures.label in
    cone-of_corner (map_of c.plane_map.result) s (complex_of c.args.c.now) S.shows y (corner_of c.args.corner.now) (vertex_of c.at.result.now) p.1 H i (sloop_of (record { normal = c.normal.result.now; mark = c.mark.result; pos = c.label.result; neg = c.label-2.result })) P
    c.plane_map.ensures.map.valid c.plane_map.ensures.mark c.plane_map.ensures.labels
