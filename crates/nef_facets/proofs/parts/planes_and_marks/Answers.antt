use Rattle.nef_facets.proofs.Prelude.{◌≡◌, List, ◌+◌, get_or, sym, subst, is-at_get, is-at_within, item_mark, item_of, Label, Plane, Corner, complex_of, corner_of, IsMarkAt, IsPlaneAt}
use Rattle.nef_facets.proofs.ItemCarriers.{carrier-plane, vertex-within, item-within, of-item}
use Rattle.nef_facets.proofs.Lists.{HasOneForEach, each-more}
use Rattle.nef_facets.proofs.parts.planes_and_marks.Goals as goal

pub carrier_of-requires-clause-corner : goal.carrier_of-requires-clause-corner
carrier_of-requires-clause-corner c = c.requires.corners c.loop-corner.corner-index _ (is-at_get c.args.corners.now c.loop-corner.corner-index _ c.loop-corner-test.true)

pub at-requires : goal.at-requires
at-requires c = let (g, a, P) = c.carrier_of.ensures.plane in record { within = is-at_within c.args.c.now.carriers c.carrier_of.result g a }

pub at-requires-in-loop-corner : goal.at-requires-in-loop-corner
at-requires-in-loop-corner c =
    let ks : List Corner = c.args.corners.now in let i = c.loop-corner.corner-index in let k : Corner = get_or ks i (record { vertex = 0; item = 0 }) in
    record { within = vertex-within c.args.c.now (corner_of k) (c.requires.corners i k (is-at_get ks i (record { vertex = 0; item = 0 }) c.loop-corner-test.true)) }

pub item_at-requires : goal.item_at-requires
item_at-requires c =
    let ks : List Corner = c.args.corners.now in let i = c.loop-corner.corner-index in let k : Corner = get_or ks i (record { vertex = 0; item = 0 }) in
    record { within = item-within c.args.c.now (corner_of k) (c.requires.corners i k (is-at_get ks i (record { vertex = 0; item = 0 }) c.loop-corner-test.true)) c.at-in-loop-corner.result.now c.at-in-loop-corner.ensures.element }

pub loop-corner-preserved : goal.loop-corner-preserved
loop-corner-preserved c =
    let C = complex_of c.args.c.now in
    let P : Plane → Corner → Type 0 = λ h k. IsPlaneAt C h (corner_of k) in
    let Q : Label → Corner → Type 0 = λ m k. IsMarkAt C m (corner_of k) in
    let ks : List Corner = c.args.corners.now in let i = c.loop-corner.corner-index in
    let d : Corner = record { vertex = 0; item = 0 } in
    let k : Corner = get_or ks i d in let a = is-at_get ks i d c.loop-corner-test.true in
    let m : Label = c.mark.result in
    let own : Q m k = of-item c.args.c.now (corner_of k) (c.requires.corners i k a) c.at-in-loop-corner.result.now c.at-in-loop-corner.ensures.element
    (λ v x. m ≡ item_mark x) (item_of c.item_at.result) c.item_at.ensures.item c.mark.ensures.mark in
    record {
      planes = subst (λ (r : List Plane). HasOneForEach P (i + 1) r ks) (sym c.in_ok-push.ensures.ok)
          (each-more P i c.loop-corner.planes ks c.at.result.now k c.loop-corner.invariant.planes a (carrier-plane c.args.c.now (corner_of k) c.carrier_of.result c.at.result.now c.carrier_of.ensures.plane c.at.ensures.element));
      marks = subst (λ (r : List Label). HasOneForEach Q (i + 1) r ks) (sym c.in_ok-push-2.ensures.ok) (each-more Q i c.loop-corner.marks ks m k c.loop-corner.invariant.marks a own);
    }
