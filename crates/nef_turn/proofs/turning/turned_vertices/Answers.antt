-- Each vertex has its image, at its place, and the sorted images are the turned vertices.
use Rattle.nef_turn.proofs.Prelude.{List, map, sym, subst, rules, ranks_by, answers_always, is_lt, point_of, map_of, vertex_of, Vertex, IsOrder, is-at_read, AreTurnedVertices, AreImages, IsVertexImage}
use Rattle.nef_cand.proofs.Order.{answers-less}
use Rattle.law_geometry.proofs.turns.TurnedLists.{lists-turned}
use Rattle.nef_turn.proofs.Images.{images-none, images-step, images-end}
use Rattle.nef_turn.proofs.Orders.{vertex_order, vertex_total, vertices-in_order}
use Rattle.nef_turn.proofs.TurnedVertices.{vertices-apart, vertices-turned}
use Rattle.nef_turn.proofs.turning.turned_vertices.Goals as goal

pub loop-vertex-init : goal.loop-vertex-init
loop-vertex-init c =
    let R = IsVertexImage c.args.turn.now.number in
    record { images = subst (λ (l : List Vertex). AreImages R 0 c.args.vertices.now l) (sym c.new-images.ensures.items) (images-none R c.args.vertices.now) }

pub turned_map-requires : goal.turned_map-requires
turned_map-requires c =
    let i = c.loop-vertex.vertex-index in let v = c.vertex-item.result in
    record { map = c.requires.least i v (is-at_read c.args.vertices.now i v c.loop-vertex-test.true c.vertex-item.is) }

pub loop-vertex-preserved : goal.loop-vertex-preserved
loop-vertex-preserved c =
    let k = c.args.turn.now.number in let v = c.vertex-item.result in
    let m = c.in_ok-turned_map.field-0 in
    record {
      images = images-step (IsVertexImage k) c.args.vertices.now c.loop-vertex.vertex-index v c.loop-vertex.images.items c.push.new.self.items _
          c.loop-vertex-test.true c.vertex-item.is c.loop-vertex.invariant.images
          (c.turned_point.ensures.same, lists-turned k (map_of v.map) (map_of m) c.in_ok-turned_map.ensures.lists, c.in_ok-turned_map.ensures.ordered) c.in_ok-push.ensures.items;
    }

pub returns : goal.returns
returns c =
    let k = c.args.turn.now.number in let us = c.args.vertices.now in let vs = c.loop-vertex.images.items in
    let I = images-end (IsVertexImage k) us c.loop-vertex.vertex-index vs c.loop-vertex-test.false c.loop-vertex.auto.vertex-index-end c.loop-vertex.invariant.images in
    let ws = c.sort_unstable_by.new.self.items in
    let permutation = c.sort_unstable_by.ensures.permutation in
    let ordered = vertices-in_order vs ws permutation (vertices-apart k us vs I c.requires.sorted)
    (c.sort_unstable_by.ensures.sorted (λ u v. is_lt (vertex_order u v)) (ranks_by vertex_total (λ (v : Vertex). v))
    (answers_always _ _ _ (λ f a r g h. let k : IsOrder (point_of a.0.now.point) (point_of a.1.0.now.point) r = search rules in answers-less a.0.now.point a.1.0.now.point r k))) in
    record {
      turned = subst (λ (l : List Vertex). AreTurnedVertices k (map vertex_of us) (map vertex_of l)) (sym {A = List Vertex} c.from_vec.ensures.all)
          (vertices-turned k us vs I ws permutation ordered);
    }
