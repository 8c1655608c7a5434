use Rattle.nef_result.proofs.Prelude.{◌∙◌, ap, sym, subst, set, SpacePoint, Set, Cone, IsAt, is-at_one, Vertex, map_of, IsLeastMap, SphereMap, vertex_at}
use Rattle.nef_result.proofs.Filled.{set-here, set-other}
use Rattle.nef_result.proofs.filling.turn_map.Goals as goal
use Rattle.nef_space.proofs.Lists.{is-at_read}

pub exchanged-requires : goal.exchanged-requires
exchanged-requires c =
    let u = c.index_mut-vertex.result.now in
    record { least = subst IsLeastMap (sym c.replace-map.ensures.value) (c.requires.least u (is-at_read c.args.vertices.now.items c.args.number u c.requires.within c.index_mut-vertex.ensures.value)) }

pub returns-clause-turned : goal.returns-clause-turned
returns-clause-turned c = λ v a.
    let us = c.args.vertices.now.items in let n = c.args.number in let u = c.index_mut-vertex.result.now in let m = c.exchanged.result in
    let e = is-at_one us n u v (is-at_read us n u c.requires.within c.index_mut-vertex.ensures.value) a in
    let is = c.replace-map.ensures.value ∙ ap (λ (w : Vertex). w.map) e in
    let cone = subst (λ (l : SphereMap). (s : Set) (p : SpacePoint) → Cone (map_of l) s p → Cone (map_of m) (Set.other s) p) is c.exchanged.ensures.cone in (
      m,
      subst (λ (w : Vertex). IsAt (set us n (vertex_at w.point m)) n (vertex_at v.point m)) (sym e) (set-here us n v (vertex_at v.point m) a),
      (c.exchanged.ensures.least, cone),
    )

pub returns-clause-rest : goal.returns-clause-rest
returns-clause-rest c = λ k v n a. set-other c.args.vertices.now.items c.args.number _ k v n a
