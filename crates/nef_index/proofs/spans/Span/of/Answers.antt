use Rattle.nef_index.proofs.Prelude.{arith, ◌≡◌, ◌<◌, ◌≤◌, ◌^◌, ℤ, nat_abs, w64, to_z, of_z, ap, ◌∙◌, to_z-of_z, fits_signed_from_abs, point_limit, weight_limit, pos-abs}
use Rattle.nef_index.proofs.spans.Span.of.Goals as goal
use Rattle.nef_space.proofs.Elementary.{product-above, product-below}

-- a number of the point, as it was read
number : (r y : ℤ) → r ≡ y → nat_abs y < 2 ^ 63 → to_z w64 (of_z w64 r) ≡ y
number r y e l = ap (λ (z : ℤ). to_z w64 (of_z w64 z)) e ∙ to_z-of_z w64 y (fits_signed_from_abs w64 y l)

coordinate : (r y : ℤ) → r ≡ y → nat_abs y ≤ point_limit → to_z w64 (of_z w64 r) ≡ y
coordinate r y e l = number r y e (omega (arith, l))

weight : (r v : ℤ) → r ≡ v → nat_abs v ≤ weight_limit → to_z w64 (of_z w64 r) ≡ v
weight r v e l = number r v e (omega (arith, l))

pub returns-clause-point : goal.returns-clause-point
returns-clause-point c =
    let p = c.args.point.now in
    let g = pos-abs p.w p.proper in
    let x = coordinate c.x.result p.x c.x.ensures.x p.x_small in
    let y = coordinate c.y.result p.y c.y.ensures.y p.y_small in
    let z = coordinate c.z.result p.z c.z.ensures.z p.z_small in
    let w = weight c.w.result p.w c.w.ensures.w p.w_small in
    let w2 = weight c.w-2.result p.w c.w-2.ensures.w p.w_small in
    let w3 = weight c.w-3.result p.w c.w-3.ensures.w p.w_small in (
      (product-above c.of.result.low _ p.x _ p.w c.of.ensures.low x w g, product-below c.of.result.high _ p.x _ p.w c.of.ensures.high x w g),
      (product-above c.of-2.result.low _ p.y _ p.w c.of-2.ensures.low y w2 g, product-below c.of-2.result.high _ p.y _ p.w c.of-2.ensures.high y w2 g),
      (product-above c.of-3.result.low _ p.z _ p.w c.of-3.ensures.low z w3 g, product-below c.of-3.result.high _ p.z _ p.w c.of-3.ensures.high z w3 g),
    )
