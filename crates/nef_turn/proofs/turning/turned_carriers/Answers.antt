-- Each plane has its image, at its place, and the sorted images are the turned planes.
use Rattle.nef_turn.proofs.Prelude.{List, map, sym, subst, form_of, Plane, AreTurnedPlanes, AreImages, IsTurnedCarrier}
use Rattle.nef_turn.proofs.Images.{images-none, images-step, images-end}
use Rattle.nef_turn.proofs.TurnedCarriers.{carriers-turned}
use Rattle.nef_turn.proofs.turning.turned_carriers.Goals as goal

pub loop-plane-init : goal.loop-plane-init
loop-plane-init c =
    let R = IsTurnedCarrier c.args.turn.now.number in
    record { images = subst (λ (l : List Plane). AreImages R 0 c.args.planes.now l) (sym c.new-images.ensures.items) (images-none R c.args.planes.now) }

pub loop-plane-preserved : goal.loop-plane-preserved
loop-plane-preserved c = record {
  images = images-step (IsTurnedCarrier c.args.turn.now.number) c.args.planes.now c.loop-plane.plane-index c.plane-item.result c.loop-plane.images.items c.push.new.self.items c.turned_carrier.result
      c.loop-plane-test.true c.plane-item.is c.loop-plane.invariant.images c.turned_carrier.ensures.turned c.in_ok-push.ensures.items;
}

pub returns : goal.returns
returns c =
    let k = c.args.turn.now.number in let gs = c.args.planes.now in let hs = c.loop-plane.images.items in
    let I = images-end (IsTurnedCarrier k) gs c.loop-plane.plane-index hs c.loop-plane-test.false c.loop-plane.auto.plane-index-end c.loop-plane.invariant.images in
    record {
      turned = subst (λ (l : List Plane). AreTurnedPlanes k (map form_of gs) (map form_of l)) (sym {A = List Plane} c.from_vec.ensures.all)
          (carriers-turned k gs hs c.sort_unstable.new.self.items c.requires.ordered I c.sort_unstable.ensures.permutation c.sort_unstable.ensures.sorted);
    }
