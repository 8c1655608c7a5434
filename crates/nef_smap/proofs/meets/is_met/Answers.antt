use Rattle.nef_smap.proofs.Prelude.{ℤ, ◌*ℤ◌, ◌<ℤ◌, pos, arith, refl, sym, ◌∙◌, subst, ◌↔◌, true, not_true, dot, IsDirection, vector_of, IsAt, items, item_normal, arc-at, slid-level, item_of, map_of, start_at, end_at, way_meet, IsMetOnWay}
use Rattle.std.specs.Bool.{IsTrue}
use Rattle.nef_smap.specs.declared.item.Item.{Item}
use Rattle.nef_smap.proofs.MeetSigns.{parted-by}
use Rattle.nef_smap.proofs.MeetTests.{met-direction}
use Rattle.nef_smap.proofs.meets.is_met.Goals as goal

pub returns-then-not-is_opposite_to : goal.returns-then-not-is_opposite_to
returns-then-not-is_opposite_to c = record {
  met = λ j k large fair. (
    λ h. absurd (not_true h),
    λ m.
        let o = c.is_opposite_to.ensures.product _ _ (c.sign.ensures.sign j large.first) (c.sign-2.ensures.sign k (let f = large.first in let s = large.second in omega arith)) in
        let t = o.1 (subst (λ (x : ℤ). x <ℤ pos 0) (sym (parted-by c.args.way.now (item_normal (item_of c.args.item.now)) c.args.n.now j k c.requires.values)) m.parted) in
        absurd (not_true (sym c.if-not-is_opposite_to.true ∙ t)),
  );
}

pub is_met_on_arc-requires-clause-arc : goal.is_met_on_arc-requires-clause-arc
is_met_on_arc-requires-clause-arc c =
    let m = map_of c.args.map.now in
    (c.requires.item.0, arc-at m.arcs m.sloop c.requires.item.0 _ (subst (λ (it : Item). IsAt (items m) c.requires.item.0 (item_of it)) c.in-Arc.is c.requires.item.1))

pub returns-in-Arc : goal.returns-in-Arc
returns-in-Arc c = record {
  met = λ j k large fair.
      let m = map_of c.args.map.now in
      let w = c.args.way.now in
      let a = start_at w j in
      let b = end_at w k in
      let o = c.is_opposite_to.ensures.product _ _ (c.sign.ensures.sign j large.first) (c.sign-2.ensures.sign k (let f = large.first in let s = large.second in omega arith)) in
      let parted = subst (λ (x : ℤ). x <ℤ pos 0) (parted-by w (item_normal (item_of c.args.item.now)) c.args.n.now j k c.requires.values) (o.0 c.if-not-is_opposite_to.false) in
      let some = met-direction m a b fair c.requires.item.0 (item_of c.args.item.now) c.requires.item.1 in
      let P : Item → Type 0 = λ (it : Item). (dot (item_normal (item_of it)) a *ℤ dot (item_normal (item_of it)) b) <ℤ pos 0 in
      let D : Item → Type 0 = λ (it : Item). IsDirection (way_meet (item_normal (item_of it)) a b) in
      let p = subst P c.in-Arc.is parted in
      let law = c.is_met_on_arc.ensures.on j k large (subst D c.in-Arc.is some) in
      subst (λ (it : Item). IsTrue c.is_met_on_arc.result ↔ IsMetOnWay m a b (item_of it)) (sym c.in-Arc.is) (λ h. record { parted = p; on = law.0 h }, λ h. law.1 h.on);
}

pub returns-in-Loop : goal.returns-in-Loop
returns-in-Loop c = record {
  met = λ j k large fair.
      let m = map_of c.args.map.now in
      let w = c.args.way.now in
      let a = start_at w j in
      let b = end_at w k in
      let o = c.is_opposite_to.ensures.product _ _ (c.sign.ensures.sign j large.first) (c.sign-2.ensures.sign k (let f = large.first in let s = large.second in omega arith)) in
      let parted = subst (λ (x : ℤ). x <ℤ pos 0) (parted-by w (item_normal (item_of c.args.item.now)) c.args.n.now j k c.requires.values) (o.0 c.if-not-is_opposite_to.false) in
      let some = met-direction m a b fair c.requires.item.0 (item_of c.args.item.now) c.requires.item.1 in
      let P : Item → Type 0 = λ (it : Item). (dot (item_normal (item_of it)) a *ℤ dot (item_normal (item_of it)) b) <ℤ pos 0 in
      let D : Item → Type 0 = λ (it : Item). IsDirection (way_meet (item_normal (item_of it)) a b) in
      let p = subst P c.in-Loop.is parted in
      let d = subst D c.in-Loop.is some in
      subst (λ (it : Item). IsTrue true ↔ IsMetOnWay m a b (item_of it)) (sym c.in-Loop.is)
      (λ h. record { parted = p; on = record { direction = d; level = slid-level (vector_of c.in-Loop.field-0.normal) a b } }, λ h. refl);
}
