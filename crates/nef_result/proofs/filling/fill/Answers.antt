use Rattle.nef_result.proofs.Prelude.{refl, sym, subst, is-at_one, Vertex, IsLeastMap, MapSource, vertex_at, HasNamed, IsFilledAt}
use Rattle.nef_smap.proofs.SideLists.{is-at_some as element-at}
use Rattle.nef_result.proofs.filling.fill.Goals as goal
use Rattle.nef_space.proofs.Lists.{is-at_within}

pub swap_with-requires : goal.swap_with-requires
swap_with-requires c =
    let h = subst (HasNamed c.args.first.now.items c.args.second.now.items) c.in-Kept.is c.requires.named in
    record { within = c.requires.within; from_within = is-at_within _ c.in-Kept.from h.0 h.1 }

pub swap_with-requires-in-Turned : goal.swap_with-requires-in-Turned
swap_with-requires-in-Turned c =
    let h = subst (HasNamed c.args.first.now.items c.args.second.now.items) c.in-Turned.is c.requires.named in
    record { within = c.requires.within; from_within = is-at_within _ c.in-Turned.from h.0 h.1 }

pub turn_map-requires-clause-least : goal.turn_map-requires-clause-least
turn_map-requires-clause-least c = λ w b.
    let h = subst (HasNamed c.args.first.now.items c.args.second.now.items) c.in-Turned.is c.requires.named in
    let v = element-at c.args.vertices.now.items c.args.number c.requires.within in
    let there = c.swap_with-in-Turned.ensures.swapped v.0 h.0 v.1 h.1 in
    subst (λ (x : Vertex). IsLeastMap x.map) (is-at_one _ c.args.number (vertex_at v.0.point h.0.map) w there b) h.2

pub returns-in-Here-clause-filled : goal.returns-in-Here-clause-filled
returns-in-Here-clause-filled c = λ v a.
    subst (λ (f : MapSource). IsFilledAt c.args.first.now.items c.args.second.now.items f c.args.number v c.args.vertices.now.items) (sym c.in-Here.is) (v, a, refl, refl)

pub returns-in-Kept-clause-filled : goal.returns-in-Kept-clause-filled
returns-in-Kept-clause-filled c = λ v a.
    let us = c.args.first.now.items in let vs = c.args.second.now.items in
    let h = subst (HasNamed us vs) c.in-Kept.is c.requires.named in
    subst (λ (f : MapSource). IsFilledAt us vs f c.args.number v c.swap_with.new.vertices.items) (sym c.in-Kept.is)
    (vertex_at v.point h.0.map, c.swap_with.ensures.swapped v h.0 a h.1, refl, (h.0, h.1, refl))

pub returns-in-Turned-clause-filled : goal.returns-in-Turned-clause-filled
returns-in-Turned-clause-filled c = λ v a.
    let us = c.args.first.now.items in let vs = c.args.second.now.items in
    let h = subst (HasNamed us vs) c.in-Turned.is c.requires.named in
    let t = c.turn_map.ensures.turned (vertex_at v.point h.0.map) (c.swap_with-in-Turned.ensures.swapped v h.0 a h.1) in
    subst (λ (f : MapSource). IsFilledAt us vs f c.args.number v c.turn_map.new.vertices.items) (sym c.in-Turned.is)
    (vertex_at v.point t.0, t.1, refl, (h.0, h.1, t.2))
