use Rattle.nef_locate.proofs.Prelude.{refl, sym, subst, Vector, items, IsFree, map_of, SideSees, is-at_within, vertex_of, edge_of, complex_of, corner_of, IsPlaceIn, IsSideAbove}
use Rattle.nef_locate.proofs.UpwardSides.{up-free}
use Rattle.nef_locate.specs.declared.point.Place.{Place}
use Rattle.nef_locate.proofs.EdgeFound.{low-within, low-svertex}
use Rattle.nef_locate.proofs.Located.{above-vertex, above-edge, above-facet, above-volume}
use Rattle.nef_locate.proofs.Marks.{corner-read}
use Rattle.nef_locate.proofs.above.side_above.Goals as goal
use Rattle.nef_smap.proofs.Lists.{map-within}

pub at-requires : goal.at-requires
at-requires c =
    let p = subst (λ (t : Place). IsPlaceIn (complex_of c.args.c.now) t) c.in-Vertex.is c.requires.place in
    record { within = map-within vertex_of c.args.c.now.vertices c.in-Vertex.number p.0 p.1 }

pub face_toward-requires-clause-map : goal.face_toward-requires-clause-map
face_toward-requires-clause-map c = let S = c.requires.shows.1 in let M = S.maps c.in-Vertex.number c.at.result.now c.at.ensures.element in M.sphere_map

pub face_toward-requires-clause-free : goal.face_toward-requires-clause-free
face_toward-requires-clause-free c =
    let S = c.requires.shows.1 in
    let M = S.maps c.in-Vertex.number c.at.result.now c.at.ensures.element in
    let m = c.at.result.now.map in
    subst (IsFree (map_of m)) (sym c.up.ensures.up) (up-free m M.sphere_map)

pub returns-in-Vertex : goal.returns-in-Vertex
returns-in-Vertex c = record {
  above = subst (λ (t : Place). IsSideAbove (complex_of c.args.c.now) t c.in-Vertex.number c.face_toward.result) (sym c.in-Vertex.is)
      (above-vertex c.args.c.now c.in-Vertex.number c.face_toward.result c.at.result.now c.at.ensures.element (subst (λ (d : Vector). SideSees (map_of c.at.result.now.map) c.face_toward.result d) c.up.ensures.up c.face_toward.ensures.side));
}

pub at-edge-requires : goal.at-edge-requires
at-edge-requires c =
    let p = subst (λ (t : Place). IsPlaceIn (complex_of c.args.c.now) t) c.in-OnEdge.is c.requires.place in
    record { within = map-within edge_of c.args.c.now.edges c.in-OnEdge.number p.0 p.1 }

pub at-requires-in-OnEdge : goal.at-requires-in-OnEdge
at-requires-in-OnEdge c = let S = c.requires.shows in record { within = low-within S.0 c.args.c.now S.1 c.in-OnEdge.number c.at-edge.result.now c.at-edge.ensures.element }

pub side_near-requires-clause-map : goal.side_near-requires-clause-map
side_near-requires-clause-map c = let S = c.requires.shows.1 in let M = S.maps c.at-edge.result.now.low c.at-in-OnEdge.result.now c.at-in-OnEdge.ensures.element in M.sphere_map

pub side_near-requires-clause-within : goal.side_near-requires-clause-within
side_near-requires-clause-within c = let S = c.requires.shows in low-svertex S.0 c.args.c.now S.1 c.in-OnEdge.number c.at-edge.result.now c.at-edge.ensures.element c.at-in-OnEdge.result.now c.at-in-OnEdge.ensures.element

pub returns-in-OnEdge : goal.returns-in-OnEdge
returns-in-OnEdge c = record {
  above = subst (λ (t : Place). IsSideAbove (complex_of c.args.c.now) t c.at-edge.result.now.low c.side_near.result) (sym c.in-OnEdge.is)
      (above-edge c.args.c.now c.in-OnEdge.number c.side_near.result c.at-edge.result.now c.at-in-OnEdge.result.now c.at-edge.ensures.element c.at-in-OnEdge.ensures.element c.side_near.ensures.side);
}

pub at-requires-in-InFacet : goal.at-requires-in-InFacet
at-requires-in-InFacet c =
    let p = subst (λ (t : Place). IsPlaceIn (complex_of c.args.c.now) t) c.in-InFacet.is c.requires.place in
    record { within = map-within vertex_of c.args.c.now.vertices c.in-InFacet.corner.vertex p.0 p.2.vertex }

pub item_side-requires : goal.item_side-requires
item_side-requires c =
    let p = subst (λ (t : Place). IsPlaceIn (complex_of c.args.c.now) t) c.in-InFacet.is c.requires.place in
    let u = c.at-in-InFacet.result.now in
    let i = corner-read c.args.c.now.vertices (complex_of c.args.c.now) (corner_of c.in-InFacet.corner) u p.1 refl c.at-in-InFacet.ensures.element p.0 p.2 in
    record { within = is-at_within (items (map_of u.map)) c.in-InFacet.corner.item p.1 i.item }

pub returns-in-InFacet : goal.returns-in-InFacet
returns-in-InFacet c =
    let p = subst (λ (t : Place). IsPlaceIn (complex_of c.args.c.now) t) c.in-InFacet.is c.requires.place in
    let u = c.at-in-InFacet.result.now in
    let i = corner-read c.args.c.now.vertices (complex_of c.args.c.now) (corner_of c.in-InFacet.corner) u p.1 refl c.at-in-InFacet.ensures.element p.0 p.2 in
    record {
      above = subst (λ (t : Place). IsSideAbove (complex_of c.args.c.now) t c.in-InFacet.corner.vertex c.item_side.result) (sym c.in-InFacet.is)
          (above-facet c.args.c.now c.in-InFacet.corner c.item_side.result u p.1 c.at-in-InFacet.ensures.element i.item c.item_side.ensures.number);
    }

pub returns-in-InVolume : goal.returns-in-InVolume
returns-in-InVolume c =
    let C = complex_of c.args.c.now in
    let p = subst (IsPlaceIn C) c.in-InVolume.is c.requires.place in
    record { above = subst (λ (t : Place). IsSideAbove C t c.in-InVolume.vertex c.in-InVolume.side) (sym c.in-InVolume.is) (above-volume c.args.c.now c.in-InVolume.vertex c.in-InVolume.side p) }
