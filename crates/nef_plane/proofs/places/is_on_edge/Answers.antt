use Rattle.nef_plane.proofs.Prelude.{sym, ◌∙◌, rules, not_true, form_of, point_of, hit_point, is-at_some, low-within, high-within, edge-inside, held-between, holders-within}
use Rattle.nef_plane.proofs.Amid.{sides-edge, edge-low, edge-high}
use Rattle.nef_plane.proofs.Holding.{vertex-held}
use Rattle.nef_plane.proofs.places.is_on_edge.Goals as goal

pub at-requires : goal.at-requires
at-requires c = let S = c.requires.shows in record { within = low-within S.0 c.args.c.now S.1.shows c.args.number c.at-edge.result.now c.at-edge.ensures.element }

pub at-requires-2 : goal.at-requires-2
at-requires-2 c = let S = c.requires.shows in record { within = high-within S.0 c.args.c.now S.1.shows c.args.number c.at-edge.result.now c.at-edge.ensures.element }

pub vertex_holders-at_low-requires-clause-within : goal.vertex_holders-at_low-requires-clause-within
vertex_holders-at_low-requires-clause-within c = let S = c.requires.shows in low-within S.0 c.args.c.now S.1.shows c.args.number c.at-edge.result.now c.at-edge.ensures.element

pub vertex_holders-at_high-requires-clause-within : goal.vertex_holders-at_high-requires-clause-within
vertex_holders-at_high-requires-clause-within c = let S = c.requires.shows in high-within S.0 c.args.c.now S.1.shows c.args.number c.at-edge.result.now c.at-edge.ensures.element

pub returns-then-not-is_in_line : goal.returns-then-not-is_in_line
returns-then-not-is_in_line c =
    let S = c.requires.shows in let C = c.args.c.now in let k = c.args.number in
    let E = is-at_some C.edges k c.requires.within in let e = E.0 in let l = E.1 in
    let U = is-at_some C.vertices e.low (low-within S.0 C S.1.shows k e l) in let u = U.0 in let i = U.1 in
    let V = is-at_some C.vertices e.high (high-within S.0 C S.1.shows k e l) in let v = V.0 in let j = V.1 in
    let a = point_of u.point in let b = point_of v.point in let y = hit_point c.args.q.now in
    record {
      on = (
        λ t. absurd (not_true t),
        λ x. absurd (search (rules, (c.is_in_line.ensures.line e u v E.1 U.1 V.1).1 (λ m h o H. held-between (form_of h) a b y (edge-inside S.0 C S.1.shows k e u v l i j y x) H), c.if-not-is_in_line.true)),
      );
    }

pub sides_with-requires : goal.sides_with-requires
sides_with-requires c =
    let p = point_of c.at.result.now.point in
    record { within = holders-within c.as_slice-carriers.result.now p p c.vertex_holders-at_low.result.now (vertex-held c.args.c.now c.at-edge.result.now.low c.as_slice-carriers.result.now c.vertex_holders-at_low.result.now c.as_slice-carriers.ensures.all c.at.result.now c.at.ensures.element c.vertex_holders-at_low.ensures.holders) }

pub sides_with-requires-then-sides_with : goal.sides_with-requires-then-sides_with
sides_with-requires-then-sides_with c =
    let p = point_of c.at-2.result.now.point in
    record { within = holders-within c.as_slice-carriers.result.now p p c.vertex_holders-at_high.result.now (vertex-held c.args.c.now c.at-edge.result.now.high c.as_slice-carriers.result.now c.vertex_holders-at_high.result.now c.as_slice-carriers.ensures.all c.at-2.result.now c.at-2.ensures.element c.vertex_holders-at_high.ensures.holders) }

pub returns-then-sides_with : goal.returns-then-sides_with
returns-then-sides_with c =
    let S = c.requires.shows in let C = c.args.c.now in let k = c.args.number in let e = c.at-edge.result.now in let u = c.at.result.now in let v = c.at-2.result.now in let y = hit_point c.args.q.now in
    let l = c.at-edge.ensures.element in let i = c.at.ensures.element in let j = c.at-2.ensures.element in
    let gs = c.as_slice-carriers.result.now in let all = c.as_slice-carriers.ensures.all in
    let L = c.sides_with.ensures.sides (point_of u.point) (vertex-held C e.low gs c.vertex_holders-at_low.result.now all u c.at.ensures.element c.vertex_holders-at_low.ensures.holders) in
    let H = c.sides_with-then-sides_with.ensures.sides (point_of v.point) (vertex-held C e.high gs c.vertex_holders-at_high.result.now all v c.at-2.ensures.element c.vertex_holders-at_high.ensures.holders) in
    record {
      on = (
        λ t. sides-edge S.0 C S.1.shows k e u v l i j y gs all (L.0 c.if-sides_with.true) (H.0 t),
        λ x. H.1 (edge-high S.0 C S.1.shows k e u v l i j y gs all x),
      );
    }

pub returns-else-sides_with : goal.returns-else-sides_with
returns-else-sides_with c =
    let S = c.requires.shows in let C = c.args.c.now in let k = c.args.number in let e = c.at-edge.result.now in let u = c.at.result.now in let v = c.at-2.result.now in let y = hit_point c.args.q.now in
    let l = c.at-edge.ensures.element in let i = c.at.ensures.element in let j = c.at-2.ensures.element in
    let gs = c.as_slice-carriers.result.now in let all = c.as_slice-carriers.ensures.all in
    let L = c.sides_with.ensures.sides (point_of u.point) (vertex-held C e.low gs c.vertex_holders-at_low.result.now all u c.at.ensures.element c.vertex_holders-at_low.ensures.holders) in
    record {
      on = (
        λ t. absurd (search (rules, t, c.if-sides_with.false)),
        λ x. absurd (not_true (sym c.if-sides_with.false ∙ L.1 (edge-low S.0 C S.1.shows k e u v l i j y gs all x))),
      );
    }
