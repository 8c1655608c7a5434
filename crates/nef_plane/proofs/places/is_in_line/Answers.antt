use Rattle.nef_plane.proofs.Prelude.{List, subst, sym, point_of, hit_point, Plane, is-at_some, low-within, high-within, holders-within, AllThrough}
use Rattle.nef_plane.proofs.Holding.{edge-held}
use Rattle.nef_plane.proofs.places.is_in_line.Goals as goal

pub are_through-requires : goal.are_through-requires
are_through-requires c =
    let S = c.requires.shows in let C = c.args.c.now in let k = c.args.number in
    let e = is-at_some C.edges k c.requires.within in
    let l = e.1 in
    let u = is-at_some C.vertices e.0.low (low-within S.0 C S.1.shows k e.0 l) in
    let v = is-at_some C.vertices e.0.high (high-within S.0 C S.1.shows k e.0 l) in
    record { within = holders-within c.as_slice.result.now (point_of u.0.point) (point_of v.0.point) c.edge_holders.result.now (edge-held C k c.as_slice.result.now c.edge_holders.result.now c.as_slice.ensures.all e.0 u.0 v.0 e.1 u.1 v.1 c.edge_holders.ensures.holders) }

pub returns : goal.returns
returns c = record {
  line = λ e u v l i j.
      let C = c.args.c.now in
      let a = point_of u.point in let b = point_of v.point in
      let T = c.are_through.ensures.through a b (edge-held C c.args.number c.as_slice.result.now c.edge_holders.result.now c.as_slice.ensures.all e u v l i j c.edge_holders.ensures.holders) in
      (λ t. subst (λ (gs : List Plane). AllThrough gs a b (hit_point c.args.q.now)) c.as_slice.ensures.all (T.0 t), λ A. T.1 (subst (λ (gs : List Plane). AllThrough gs a b (hit_point c.args.q.now)) (sym c.as_slice.ensures.all) A));
}
