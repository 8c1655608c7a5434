use Rattle.nef_ops.proofs.Prelude.{subst, IsAt, is-at_one, Edge as PlainEdge, vertex_of, edge_of, complex_of, IsPlaceIn, IsPlaceAt, map-within, image-read, volume-flat}
use Rattle.nef_locate.proofs.EdgeFound.{low-within}
use Rattle.nef_ops.proofs.PlaceShares.{edge-share, flat-share}
use Rattle.nef_ops.proofs.share.share_at.Goals as goal
use Rattle.nef_space.proofs.Elementary.{same-itself}

pub vertex_share-requires : goal.vertex_share-requires
vertex_share-requires c =
    let p = subst (IsPlaceIn (complex_of c.args.c.now)) c.in-Vertex.is c.requires.place in
    record { within = map-within vertex_of c.args.c.now.vertices c.in-Vertex.number p.0 p.1 }

pub returns-in-Vertex : goal.returns-in-Vertex
returns-in-Vertex c = record { share = λ s y S a. c.vertex_share.ensures.share s y S (subst (IsPlaceAt (complex_of c.args.c.now) y) c.in-Vertex.is a) }

pub at-requires : goal.at-requires
at-requires c =
    let p = subst (IsPlaceIn (complex_of c.args.c.now)) c.in-OnEdge.is c.requires.place in
    record { within = map-within edge_of c.args.c.now.edges c.in-OnEdge.number p.0 p.1 }

pub vertex_share-requires-in-OnEdge : goal.vertex_share-requires-in-OnEdge
vertex_share-requires-in-OnEdge c = let S = c.requires.shows in record { within = low-within S.0 c.args.c.now S.1 c.in-OnEdge.number c.at.result.now c.at.ensures.element }

pub returns-in-OnEdge : goal.returns-in-OnEdge
returns-in-OnEdge c = record {
  share = λ s y S a.
      let C = complex_of c.args.c.now in
      let k = c.in-OnEdge.number in
      let e = c.at.result.now in
      let f = c.vertex_share-in-OnEdge in
      let p = subst (IsPlaceAt C y) c.in-OnEdge.is a in
      let same = is-at_one C.edges k p.0 (edge_of e) p.3 (image-read edge_of c.args.c.now.edges k e c.at.ensures.element) in
      let low = subst (λ (r : PlainEdge). IsAt C.vertices r.low p.1) same p.4.low in
      edge-share f.result s C S.shows k p.0 p.1 p.2 y p.3 p.4 p.5 (f.ensures.share s p.1.point S (p.1, low, same-itself p.1.point));
}

pub returns-in-InFacet : goal.returns-in-InFacet
returns-in-InFacet c = record { share = λ s y S a. c.facet_share.ensures.share s y S (subst (IsPlaceAt (complex_of c.args.c.now) y) c.in-InFacet.is a) }

pub returns-in-InVolume : goal.returns-in-InVolume
returns-in-InVolume c = record {
  share = λ s y S a.
      let v = subst (IsPlaceAt (complex_of c.args.c.now) y) c.in-InVolume.is a in
      flat-share c.face_share.result s y c.place_label.result (c.place_label.ensures.set s y S a) (volume-flat s c.args.c.now S y v.3.0) c.face_share.ensures.share;
}
