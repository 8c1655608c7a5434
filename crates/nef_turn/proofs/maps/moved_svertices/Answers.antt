-- Each svertex has its image, at its place, and the sorted images are the turned svertices, in order.
use Rattle.nef_turn.proofs.Prelude.{◌≡◌, ◌<◌, ◌≤◌, List, length, get_or, sym, subst, refl, ap, rules, always_returns_same, Vector, MapVertex, SVertex, Moved, AreImages, IsMoved}
use Rattle.nef_turn.proofs.Images.{images-none, images-step, images-end}
use Rattle.nef_turn.proofs.MovedSvertices.{images-apart, moved-sorted}
use Rattle.nef_turn.proofs.Orders.{moved-in_order}
use Rattle.nef_turn.proofs.maps.moved_svertices.Goals as goal

pub loop-old-init : goal.loop-old-init
loop-old-init c =
    let R = IsMoved c.args.turn.now.number in let vs = c.args.map.now.svertices in
    record { images = subst (λ (l : List Moved). AreImages R 0 vs l) (sym c.new-images.ensures.items) (images-none R vs) }

pub loop-old-preserved : goal.loop-old-preserved
loop-old-preserved c =
    let vs = c.args.map.now.svertices in let i = c.loop-old.old in let v = c.svertex-item.result in
    let all = c.as_slice-svertex-items.ensures.all in
    record {
      images = images-step (IsMoved c.args.turn.now.number) vs i v c.loop-old.images.items c.push.new.self.items _
          (subst (λ (l : List SVertex). i < length l) all c.loop-old-test.true) (subst (λ (l : List SVertex). v ≡ get_or l i v) all c.svertex-item.is) c.loop-old.invariant.images
          (refl, ap (λ (w : Vector). let s : MapVertex = record { dir = w; mark = v.mark; around = v.around } in s) c.turned_dir.ensures.turned) c.in_ok-push.ensures.items;
    }

pub returns : goal.returns
returns c =
    let k = c.args.turn.now.number in let m = c.args.map.now in let i = c.loop-old.old in let us = c.loop-old.images.items in
    let all = c.as_slice-svertex-items.ensures.all in
    let I = images-end (IsMoved k) m.svertices i us (subst (λ (l : List SVertex). length l ≤ i) all c.loop-old-test.false) (subst (λ (l : List SVertex). i ≤ length l) all c.loop-old.auto.old-end) c.loop-old.invariant.images in
    let ordered = moved-in_order us c.sort_unstable_by_key.new.self.items c.sort_unstable_by_key.ensures.permutation (images-apart k m c.requires.shaped us I)
    (c.sort_unstable_by_key.ensures.sorted (λ (u : Moved). u.svertex.dir) (always_returns_same _ _ _ (λ a r f h. search rules))) in
    record { moved = moved-sorted k m c.requires.shaped us I c.sort_unstable_by_key.new.self.items c.sort_unstable_by_key.ensures.permutation ordered }
