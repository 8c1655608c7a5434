use Rattle.nef_plane.proofs.Prelude.{pos-abs}
use Rattle.nef_plane.proofs.Sweep.{exact-hit, exact-hit_weight}
use Rattle.nef_plane.proofs.window.hit_span.Goals as goal
use Rattle.nef_space.proofs.Elementary.{product-above, product-below}

pub returns : goal.returns
returns c =
    let q = c.args.q.now in
    let g = pos-abs q.w q.proper in
    let x = exact-hit c.x.result q.x c.x.ensures.x q.x_small in
    let y = exact-hit c.y.result q.y c.y.ensures.y q.y_small in
    let z = exact-hit c.z.result q.z c.z.ensures.z q.z_small in
    let w = exact-hit_weight c.w.result q.w c.w.ensures.w q.w_small in
    let w2 = exact-hit_weight c.w-2.result q.w c.w-2.ensures.w q.w_small in
    let w3 = exact-hit_weight c.w-3.result q.w c.w-3.ensures.w q.w_small in
    record {
      hit = (
        (product-above c.in_ok-x.x.low _ q.x _ q.w c.in_ok-x.ensures.low x w g, product-below c.in_ok-x.x.high _ q.x _ q.w c.in_ok-x.ensures.high x w g),
        (product-above c.in_ok-y.y.low _ q.y _ q.w c.in_ok-y.ensures.low y w2 g, product-below c.in_ok-y.y.high _ q.y _ q.w c.in_ok-y.ensures.high y w2 g),
        (product-above c.in_ok-z.z.low _ q.z _ q.w c.in_ok-z.ensures.low z w3 g, product-below c.in_ok-z.z.high _ q.z _ q.w c.in_ok-z.ensures.high z w3 g),
      );
    }
