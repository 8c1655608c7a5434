-- Each arc has its image, at its place, and the sorted images are the turned arcs, in order.
use Rattle.nef_turn.proofs.Prelude.{◌≡◌, ◌<◌, ◌≤◌, List, length, get_or, sym, subst, SArc, is-at_read, AreImages, IsSArcImage}
use Rattle.nef_turn.proofs.Images.{images-none, images-step, images-end}
use Rattle.nef_turn.proofs.TurnedArcs.{ends-within, arcs-apart, arcs-sorted}
use Rattle.nef_turn.proofs.maps.turned_arcs.Goals as goal

pub loop-arc-init : goal.loop-arc-init
loop-arc-init c =
    let R = IsSArcImage c.args.turn.now.number c.args.numbers.now in let arcs = c.args.map.now.arcs in
    record { images = subst (λ (l : List SArc). AreImages R 0 arcs l) (sym c.new-images.ensures.items) (images-none R arcs) }

pub turned_arc-requires : goal.turned_arc-requires
turned_arc-requires c =
    let m = c.args.map.now in let i = c.loop-arc.arc-index in let a = c.arc-item.result in let all = c.as_slice-arc-items.ensures.all in
    record {
      ends = ends-within c.args.turn.now.number m c.requires.shaped c.args.numbers.now c.requires.numbers i a
          (is-at_read m.arcs i a (subst (λ (l : List SArc). i < length l) all c.loop-arc-test.true) (subst (λ (l : List SArc). a ≡ get_or l i a) all c.arc-item.is));
    }

pub loop-arc-preserved : goal.loop-arc-preserved
loop-arc-preserved c =
    let arcs = c.args.map.now.arcs in let i = c.loop-arc.arc-index in let a = c.arc-item.result in let all = c.as_slice-arc-items.ensures.all in
    record {
      images = images-step (IsSArcImage c.args.turn.now.number c.args.numbers.now) arcs i a c.loop-arc.images.items c.push.new.self.items c.turned_arc.result
          (subst (λ (l : List SArc). i < length l) all c.loop-arc-test.true) (subst (λ (l : List SArc). a ≡ get_or l i a) all c.arc-item.is)
          c.loop-arc.invariant.images c.turned_arc.ensures.turned c.in_ok-push.ensures.items;
    }

pub sort_arcs-requires : goal.sort_arcs-requires
sort_arcs-requires c =
    let k = c.args.turn.now.number in let m = c.args.map.now in let ns = c.args.numbers.now in let i = c.loop-arc.arc-index in let xs = c.loop-arc.images.items in
    let all = c.as_slice-arc-items.ensures.all in
    let I = images-end (IsSArcImage k ns) m.arcs i xs (subst (λ (l : List SArc). length l ≤ i) all c.loop-arc-test.false) (subst (λ (l : List SArc). i ≤ length l) all c.loop-arc.auto.arc-index-end) c.loop-arc.invariant.images in
    record { apart = arcs-apart k m c.requires.shaped ns c.requires.numbers xs I }

pub returns : goal.returns
returns c =
    let k = c.args.turn.now.number in let m = c.args.map.now in let ns = c.args.numbers.now in let i = c.loop-arc.arc-index in let xs = c.loop-arc.images.items in
    let all = c.as_slice-arc-items.ensures.all in
    let I = images-end (IsSArcImage k ns) m.arcs i xs (subst (λ (l : List SArc). length l ≤ i) all c.loop-arc-test.false) (subst (λ (l : List SArc). i ≤ length l) all c.loop-arc.auto.arc-index-end) c.loop-arc.invariant.images in
    record { turned = arcs-sorted k m c.requires.shaped ns c.requires.numbers xs I c.sort_arcs.new.arcs.items c.sort_arcs.ensures.permutation c.sort_arcs.ensures.ordered }
