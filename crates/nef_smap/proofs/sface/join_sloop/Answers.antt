use Rattle.nef_smap.proofs.Prelude.{ℕ, length, arith, refl, ap, ◌∙◌, vector_of, sloop_item, items, pos_item, side_number, map_of, sloop_of}
use Rattle.nef_smap.proofs.MapLists.{item-sloop}
use Rattle.nef_smap.proofs.Joining.{normal-small, plane-across}
use Rattle.nef_smap.proofs.sface.join_sloop.Goals as goal
use Rattle.nef_space.proofs.Lists.{is-at_within}

pub on_circle-at-requires : goal.on_circle-at-requires
on_circle-at-requires c =
    let m = c.args.map.now in
    record { small = normal-small m c.requires.map (length m.arcs) (sloop_item (sloop_of c.args.circle.now)) (item-sloop m.arcs m.sloop (length m.arcs) c.args.circle.now refl c.requires.circle) }

pub beside-requires : goal.beside-requires
beside-requires c =
    let m = c.args.map.now in
    record {
      apart = plane-across m c.requires.map (length m.arcs) (sloop_item (sloop_of c.args.circle.now)) (item-sloop m.arcs m.sloop (length m.arcs) c.args.circle.now refl c.requires.circle)
          (vector_of c.on_circle-at.result) c.on_circle-at.result.some c.on_circle-at.ensures.on.level;
    }

pub item_side-requires : goal.item_side-requires
item_side-requires c =
    let m = c.args.map.now in
    let h = is-at_within (items (map_of m)) (length m.arcs) (sloop_item (sloop_of c.args.circle.now)) (item-sloop m.arcs m.sloop (length m.arcs) c.args.circle.now refl c.requires.circle) in
    record { within = omega (arith, c.len.ensures.len) }

pub returns : goal.returns
returns c =
    let m = c.args.map.now in
    let M = map_of m in
    let l = item-sloop m.arcs m.sloop (length m.arcs) c.args.circle.now refl c.requires.circle in
    let near = c.number_near.ensures.number in
    record {
      joins = (
        sloop_of c.args.circle.now,
        l,
        (
          record {
            point = vector_of c.on_circle-at.result;
            on = c.on_circle-at.ensures.on;
            aside = vector_of c.beside.result;
            off = c.beside.ensures.off;
            first = near.0;
            is_first = near.2;
          },
          c.item_side.ensures.number ∙ ap (λ (k : ℕ). side_number M (pos_item k)) c.len.ensures.len,
          near.1,
        ),
      );
    }
