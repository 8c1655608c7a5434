use Rattle.nef_geo.proofs.Prelude.{◌≡◌, ◌≤◌, ℤ, pos, ◌+ℤ◌, ◌*ℤ◌, nat_abs, [], ◌∷◌, arith, ◌∙◌, w64, to_z, of_z, ints, point_limit, load, wrap, exact_of, IsReachedBy, point_of, pos-abs}
use mir.Syntax.{w128}
use Rattle.nef_geo.proofs.Crossings.{IsReached-by}
use Rattle.nef_geo.proofs.ray.hit_at.Goals as goal

-- a number that was cast
cast_is : (n : ℤ) → nat_abs n ≤ point_limit → to_z w128 (of_z w128 (to_z w64 (of_z w64 n))) ≡ n
cast_is n s = exact_of (point_limit ∷ []) (n ∷ []) (wrap w128 (wrap w64 (load 0))) (s, tt) tt

-- a coordinate at the step 0/1
at_start : (n k d : ℤ) → k ≡ n → k ≡ n *ℤ pos 1 +ℤ pos 0 *ℤ d
at_start n k d e = e ∙ once n d
  where
    once : (n d : ℤ) → n ≡ n *ℤ pos 1 +ℤ pos 0 *ℤ d
    once n d = omega (arith, ints)

weight_once : (n m k : ℤ) → k ≡ n → m ≡ n → k ≡ m *ℤ pos 1
weight_once n m k e f = omega (arith, ints)

pub returns-clause-reached : goal.returns-clause-reached
returns-clause-reached c d =
    let p = c.args.p.now in
    let sw : nat_abs p.w ≤ point_limit = let s = p.w_small in omega (arith, s) in
    let by : IsReachedBy (point_of p) d (pos 0) (pos 1) (to_z w128 (of_z w128 (to_z w64 (of_z w64 p.x)))) (to_z w128 (of_z w128 (to_z w64 (of_z w64 p.y)))) (to_z w128 (of_z w128 (to_z w64 (of_z w64 p.z)))) (to_z w128 (of_z w128 (to_z w64 (of_z w64 p.w)))) = record {
      x_is = at_start p.x _ d.x (cast_is p.x p.x_small);
      y_is = at_start p.y _ d.y (cast_is p.y p.y_small);
      z_is = at_start p.z _ d.z (cast_is p.z p.z_small);
      w_is = weight_once p.w (pos (nat_abs p.w)) _ (cast_is p.w sw) (pos-abs p.w p.proper);
    } in
    IsReached-by (point_of p) d (pos 0) (pos 1) _ _ _ _ _ _ by
