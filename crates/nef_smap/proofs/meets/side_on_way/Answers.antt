use Rattle.nef_smap.proofs.Prelude.{ℕ, ◌+◌, ◌^◌, arith, ap, sym, ◌∙◌, length, Vector, dot, cross, blend, up, vector_of, sign_of, IsAt, Item, items, item_normal, dir_of, forms, amount, is-at_one, item_of, map_of, arc_of, wide_vector}
use Rattle.nef_smap.proofs.ArcEnds.{source-within, source-end, normal-small}
use Rattle.nef_smap.proofs.MapLists.{length-items}
use Rattle.nef_smap.proofs.MeetSigns.{start-value}
use Rattle.nef_smap.proofs.FreeSeen.{first-above, first-below, first-parts, up-leads, side-chosen, firsts-carried}
use Rattle.nef_smap.proofs.meets.side_on_way.Goals as goal
use Rattle.nef_space.proofs.Lists.{is-at_within, map-is_at}

pub at-requires : goal.at-requires
at-requires c = record { within = source-within c.args.map.now c.requires.map 0 c.at-arc.result.now (map-is_at arc_of c.args.map.now.arcs 0 c.at-arc.result.now c.at-arc.ensures.element) }

pub way_to-way-requires-clause-svertex_small : goal.way_to-way-requires-clause-svertex_small
way_to-way-requires-clause-svertex_small c =
    let e = source-end c.args.map.now c.requires.map 0 c.at-arc.result.now (map-is_at arc_of c.args.map.now.arcs 0 c.at-arc.result.now c.at-arc.ensures.element) c.at.result.now c.at.ensures.element in
    e.small

pub way_to-way-requires-clause-normal_small : goal.way_to-way-requires-clause-normal_small
way_to-way-requires-clause-normal_small c = normal-small c.args.map.now c.requires.map 0 c.at-arc.result.now (map-is_at arc_of c.args.map.now.arcs 0 c.at-arc.result.now c.at-arc.ensures.element)

pub first_met-first-requires-clause-some : goal.first_met-first-requires-clause-some
first_met-first-requires-clause-some c = let e = length-items c.args.map.now.arcs c.args.map.now.sloop in let f = c.requires.arcs in omega arith

pub item_at-requires : goal.item_at-requires
item_at-requires c = let f = c.first_met-first.ensures.first in record { within = is-at_within (items (map_of c.args.map.now)) c.first_met-first.result f.0 f.1 }

pub item_values-requires-clause-normal : goal.item_values-requires-clause-normal
item_values-requires-clause-normal c = c.requires.map.small.normals c.first_met-first.result (item_of c.item_at.result) c.item_at.ensures.item

pub item_side-requires : goal.item_side-requires
item_side-requires c = let f = c.first_met-first.ensures.first in record { within = is-at_within (items (map_of c.args.map.now)) c.first_met-first.result f.0 f.1 }

pub returns : goal.returns
returns c =
    let m = c.args.map.now in
    let S = c.requires.map in
    let M = map_of m in
    let d = vector_of c.args.d.now in
    let arc = c.at-arc.result.now in
    let h = map-is_at arc_of m.arcs 0 arc c.at-arc.ensures.element in
    let v = source-end m S 0 arc h c.at.result.now c.at.ensures.element in
    let w = c.way_to-way.result in
    let n = vector_of arc.normal in
    let s = dir_of M.svertices arc.source in
    let f = c.first_met-first.ensures.first in
    let i = c.first_met-first.result in
    let x = f.0 in
    let q = f.1 in
    let first = firsts-carried M (length (items M)) x (wide_vector w.start) (wide_vector w.upward) (wide_vector w.end) (wide_vector w.beside) d up s (cross n s)
    c.way_to-way.ensures.start c.way_to-way.ensures.upward (c.way_to-way.ensures.end ∙ sym v.dir) (c.way_to-way.ensures.beside ∙ ap (cross n) (sym v.dir)) f.2 in
    let leads = λ (l : ℕ) (y : Item) (k : IsAt (items M) l y). up-leads (item_normal y) (S.valid.shaped.normals l y k) (S.small.normals l y k) in
    let V = S.valid.shaped in
    let F = c.requires.free in
    let j = 2 ^ 128 + amount (forms M) up in
    let z = dot (item_normal x) (blend j d 1 up) in
    let one = is-at_one (items M) i (item_of c.item_at.result) x c.item_at.ensures.item q in
    let value = c.sign-start.ensures.sign j (omega arith)
    ∙ ap sign_of (start-value w (item_normal (item_of c.item_at.result)) c.item_values.result j c.item_values.ensures.values
    ∙ ap (λ (y : Item). dot (item_normal y) (blend j (wide_vector w.start) 1 (wide_vector w.upward))) one
    ∙ ap (λ (y : Vector). dot (item_normal x) (blend j y 1 (wide_vector w.upward))) c.way_to-way.ensures.start
    ∙ ap (λ (y : Vector). dot (item_normal x) (blend j d 1 y)) c.way_to-way.ensures.upward) in
    let t = c.item_side.ensures.side in
    record {
      side = (
        _,
        _,
        t.2,
        side-chosen M d i c.is_plus.result z (c.is_plus.ensures.plus z value)
            (first-parts M V d up F leads (arc_of arc) h i x q first) (first-above M V d up F leads (arc_of arc) h i x q first) (first-below M V d up F leads (arc_of arc) h i x q first),
      );
    }
