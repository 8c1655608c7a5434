use Rattle.nef_smap.proofs.Prelude.{◌≡◌, ℕ, ◌+◌, map, option_map, length, is_some, arith, ap, sym, dot, vector_of, IsAt, Item, items, map_of, arc_of, sloop_of}
use mir.Val.{bool_byte}
use Rattle.nef_smap.proofs.MapLists.{length-items, item-sloop}
use Rattle.nef_smap.proofs.FreeSeen.{bare-seen, circle-off, circle-above, circle-below, side-chosen}
use Rattle.nef_smap.proofs.map.SphereMap.face_toward.Goals as goal
use Rattle.nef_space.proofs.Lists.{is-at_within}

pub item_side-requires : goal.item_side-requires
item_side-requires c =
    let m = c.args.self.now in
    let one : length (items (map_of m)) ≡ length m.arcs + bool_byte (is_some m.sloop) = length-items m.arcs m.sloop in
    let some : bool_byte (is_some m.sloop) ≡ 1 = ap (λ o. bool_byte (is_some o)) c.in-Some.is in
    record { within = omega (arith, one, some) }

pub returns-in-Some : goal.returns-in-Some
returns-in-Some c =
    let m = c.args.self.now in
    let M = map_of m in
    let l = c.in-Some.circle in
    let d = vector_of c.args.d.now in
    let none : length m.arcs ≡ 0 = ap length (c.is_empty.ensures.empty.0 c.if-not-is_empty.false) in
    let h = item-sloop m.arcs m.sloop 0 l (sym none) c.in-Some.is in
    let one : length (items M) ≡ length m.arcs + bool_byte (is_some m.sloop) = length-items m.arcs m.sloop in
    let some : bool_byte (is_some m.sloop) ≡ 1 = ap (λ o. bool_byte (is_some o)) c.in-Some.is in
    let only : (i : ℕ) (x : Item) → IsAt (items M) i x → i ≡ 0 = λ i x a. let w = is-at_within (items M) i x a in omega arith in
    let V = c.requires.map.valid.shaped in
    let F = c.requires.free in
    let s = c.item_side.ensures.side in
    record {
      side = (
        _,
        _,
        s.2,
        side-chosen M d 0 c.is_plus.result (dot (vector_of l.normal) d) (c.is_plus.ensures.plus (dot (vector_of l.normal) d) c.dot.ensures.dot)
            (circle-off M V d F (sloop_of l) h only) (circle-above M V d F (sloop_of l) h only) (circle-below M V d F (sloop_of l) h only),
      );
    }

pub returns-in-None : goal.returns-in-None
returns-in-None c = record { side = bare-seen (map_of c.args.self.now) c.requires.map.valid.shaped (vector_of c.args.d.now) c.requires.free (ap (map arc_of) (c.is_empty.ensures.empty.0 c.if-not-is_empty.false)) (ap (option_map sloop_of) c.in-None.is) }
