use Rattle.nef_locate.proofs.Prelude.{◌≡◌, sym, subst, IfOk-weaker, Cone, is-at_one, SphereMap, map_of, IsLeastMap, Vertex as PlainVertex, vertex_of, complex_of, IsPlaceIn, IsPlaceAt}
use Rattle.nef_locate.proofs.Marks.{image-read}
use Rattle.nef_locate.proofs.VolumeLabels.{volume-flat}
use Rattle.nef_locate.proofs.Cones.{cone-flat}
use Rattle.nef_locate.proofs.maps.place_map.Goals as goal
use Rattle.nef_smap.proofs.Lists.{map-within}
use Rattle.law_geometry.proofs.sphere.Dimensions.{cone-same}

pub at-requires : goal.at-requires
at-requires c =
    let p = subst (IsPlaceIn (complex_of c.args.c.now)) c.in-Vertex.is c.requires.place in
    record { within = map-within vertex_of c.args.c.now.vertices c.in-Vertex.number p.0 p.1 }

pub returns-in-Vertex-clause-least : goal.returns-in-Vertex-clause-least
returns-in-Vertex-clause-least c =
    let u = c.at.result.now in
    IfOk-weaker c.copy.result (λ m. m ≡ u.map) _ (λ m w. subst IsLeastMap (sym w) (c.requires.shows.1.maps c.in-Vertex.number u c.at.ensures.element)) c.copy.ensures.same

pub returns-in-Vertex-clause-cone : goal.returns-in-Vertex-clause-cone
returns-in-Vertex-clause-cone c =
    let u = c.at.result.now in let k = c.in-Vertex.number in
    IfOk-weaker c.copy.result (λ m. m ≡ u.map) _
    (λ m w s y S a.
    let p = subst (IsPlaceAt (complex_of c.args.c.now) y) c.in-Vertex.is a in
    let e = is-at_one (complex_of c.args.c.now).vertices k p.0 (vertex_of u) p.1 (image-read vertex_of c.args.c.now.vertices k u c.at.ensures.element) in
    let K = subst (λ (v : PlainVertex). Cone v.map s p.0.point) e (S.shows.cones k p.0 p.1) in
    cone-same (map_of m) s p.0.point y p.2 (subst (λ (n : SphereMap). Cone (map_of n) s p.0.point) (sym w) K))
    c.copy.ensures.same

pub returns-in-OnEdge-clause-cone : goal.returns-in-OnEdge-clause-cone
returns-in-OnEdge-clause-cone c = IfOk-weaker c.edge_map.result _ _ (λ m k s y S a. k s y S (subst (IsPlaceAt (complex_of c.args.c.now) y) c.in-OnEdge.is a)) c.edge_map.ensures.cone

pub returns-in-InFacet-clause-cone : goal.returns-in-InFacet-clause-cone
returns-in-InFacet-clause-cone c = λ s y S a. c.facet_map.ensures.cone s y S (subst (IsPlaceAt (complex_of c.args.c.now) y) c.in-InFacet.is a)

pub returns-in-InVolume-clause-cone : goal.returns-in-InVolume-clause-cone
returns-in-InVolume-clause-cone c = λ s y S a.
    let v = subst (IsPlaceAt (complex_of c.args.c.now) y) c.in-InVolume.is a in
    cone-flat (map_of c.face_map.result) s y c.place_label-label.result c.face_map.ensures.map.sphere_map.valid c.face_map.ensures.mark c.face_map.ensures.labels
    (c.place_label-label.ensures.set s y S a) (volume-flat s c.args.c.now S y v.3.0)
