use Rattle.nef_plane.proofs.Prelude.{List, sym, subst, point_of, hit_point, Plane, holders-within, AllSideWith}
use Rattle.nef_plane.proofs.Amid.{vertex-amid, amid-vertex}
use Rattle.nef_plane.proofs.Holding.{vertex-held}
use Rattle.nef_plane.proofs.places.is_at_vertex.Goals as goal

pub sides_with-requires : goal.sides_with-requires
sides_with-requires c =
    let p = point_of c.at.result.now.point in
    record { within = holders-within c.as_slice.result.now p p c.vertex_holders.result.now (vertex-held c.args.c.now c.args.number c.as_slice.result.now c.vertex_holders.result.now c.as_slice.ensures.all c.at.result.now c.at.ensures.element c.vertex_holders.ensures.holders) }

pub returns : goal.returns
returns c =
    let S = c.requires.shows in let C = c.args.c.now in let v = c.at.result.now in let p = point_of v.point in let y = hit_point c.args.q.now in
    let a = c.at.ensures.element in
    let T = c.sides_with.ensures.sides p (vertex-held C c.args.number c.as_slice.result.now c.vertex_holders.result.now c.as_slice.ensures.all v c.at.ensures.element c.vertex_holders.ensures.holders) in
    record {
      at = (
        λ h. let A = subst (λ (gs : List Plane). AllSideWith gs p p y) c.as_slice.ensures.all (T.0 h) in vertex-amid S.0 C S.1.shows c.args.number v y a (λ k g l. (A k g l, A k g l)),
        λ x. T.1 (subst (λ (gs : List Plane). AllSideWith gs p p y) (sym c.as_slice.ensures.all) (λ k g l. (amid-vertex S.0 C S.1.shows c.args.number v y a x k g l).0)),
      );
    }
