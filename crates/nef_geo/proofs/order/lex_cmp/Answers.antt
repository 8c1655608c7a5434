use Rattle.nef_geo.proofs.Prelude.{rules, refl, ap, ◌∙◌, ◌*ℤ◌, Ordering, w64, to_z, of_z, int_cmp, ordering_then, point_of}
use Rattle.nef_geo.proofs.Orders.{IsRanked-from_cmp, order-in_turn, then-is}
use Rattle.nef_geo.proofs.order.lex_cmp.Goals as goal

pub returns : goal.returns
returns c =
    let p = c.args.p.now in let q = c.args.q.now in
    let x = c.ratio_cmp.result in
    let y = int_cmp (to_z w64 (of_z w64 p.y) *ℤ to_z w64 (of_z w64 q.w)) (to_z w64 (of_z w64 q.y) *ℤ to_z w64 (of_z w64 p.w)) in
    let z = int_cmp (to_z w64 (of_z w64 p.z) *ℤ to_z w64 (of_z w64 q.w)) (to_z w64 (of_z w64 q.z) *ℤ to_z w64 (of_z w64 p.w)) in
    record {
      order = order-in_turn (point_of p) (point_of q) x y z c.then_with-2.result
          (IsRanked-from_cmp p.x p q.x q x p.x_small q.x_small c.ratio_cmp.ensures.order)
          (IsRanked-from_cmp p.y p q.y q y p.y_small q.y_small refl)
          (IsRanked-from_cmp p.z p q.z q z p.z_small q.z_small refl)
          (then-is c.then_with.result z c.then_with-2.result _ c.then_with-2.ensures (λ h. search rules)
          ∙ ap (λ (o : Ordering). ordering_then o z) (then-is x y c.then_with.result _ c.then_with.ensures (λ h. search rules)));
    }
