use Rattle.nef_ops.proofs.Prelude.{refl, is-at_within, item_of, map_of, items, IsCorner, vertex_of, complex_of, corner_of, map-within, image-read, corner-read}
use Rattle.nef_ops.proofs.PlaceShares.{corner-nothing, corner-everything}
use Rattle.nef_ops.proofs.share.facet_share.Goals as goal

pub at-requires : goal.at-requires
at-requires c = record { within = map-within vertex_of c.args.c.now.vertices c.args.corner.now.vertex c.requires.place.0 c.requires.place.2.vertex }

pub item_at-item-requires : goal.item_at-item-requires
item_at-item-requires c =
    let p = c.requires.place in
    let u = c.at.result.now in
    let i = corner-read c.args.c.now.vertices (complex_of c.args.c.now) (corner_of c.args.corner.now) u p.1 refl c.at.ensures.element p.0 p.2 in
    record { within = is-at_within (items (map_of u.map)) c.args.corner.now.item p.1 i.item }

pub returns-then-item_lacks : goal.returns-then-item_lacks
returns-then-item_lacks c = record {
  share = λ s y S H.
      let u = c.at.result.now in
      let x = item_of c.item_at-item.result in
      let i : IsCorner (complex_of c.args.c.now) (corner_of c.args.corner.now) (vertex_of u) x = record { vertex = image-read vertex_of c.args.c.now.vertices c.args.corner.now.vertex u c.at.ensures.element; item = c.item_at-item.ensures.item } in
      corner-nothing s (complex_of c.args.c.now) S.shows y (corner_of c.args.corner.now) (vertex_of u) x H i (c.if-item_lacks.ensures.lacks refl);
}

pub returns-then-item_lacks-2 : goal.returns-then-item_lacks-2
returns-then-item_lacks-2 c = record {
  share = λ s y S H.
      let u = c.at.result.now in
      let x = item_of c.item_at-item.result in
      let i : IsCorner (complex_of c.args.c.now) (corner_of c.args.corner.now) (vertex_of u) x = record { vertex = image-read vertex_of c.args.c.now.vertices c.args.corner.now.vertex u c.at.ensures.element; item = c.item_at-item.ensures.item } in
      corner-everything s (complex_of c.args.c.now) S.shows y (corner_of c.args.corner.now) (vertex_of u) x H i (c.if-item_lacks-2.ensures.lacks refl);
}
