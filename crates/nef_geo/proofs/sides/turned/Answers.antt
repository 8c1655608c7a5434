use Rattle.nef_geo.proofs.Prelude.{◌≡◌, ◌≤◌, ℤ, pos, neg_ℤ, ◌-ℤ◌, ◌<ℤ◌, nat_abs, arith, w64, to_z, of_z, ◌∙◌, ◌∷◌, [], rules, ints, to_z-of_z, point_limit, load, const, wrap, ◌⊟◌, exact_of}
use Rattle.nef_geo.proofs.Cramer.{IsSameRatios-from_point, IsSameRatios-turned}
use Rattle.nef_geo.proofs.sides.turned.Goals as goal
use Rattle.nef_space.proofs.Elementary.{nought-less}

negated : (n : ℤ) → nat_abs n ≤ point_limit → to_z w64 (of_z w64 (pos 0 -ℤ to_z w64 (of_z w64 n))) ≡ neg_ℤ n
negated n h = exact_of (point_limit ∷ []) (n ∷ []) (wrap w64 (const (pos 0) ⊟ wrap w64 (load 0))) (h, tt) tt ∙ nought-less n

pub returns-then-w-lt0 : goal.returns-then-w-lt0
returns-then-w-lt0 c =
    let n : c.args.w <ℤ pos 0 = search rules in
    let p : pos 0 <ℤ neg_ℤ c.args.w = omega (arith, ints) in
    let r = c.of.result in
    let s = rw (to_z-of_z w64 c.args.x c.ranges.x, to_z-of_z w64 c.args.y c.ranges.y, to_z-of_z w64 c.args.z c.ranges.z, negated c.args.w (omega (arith, c.requires.w_small))) at c.of.ensures.same in
    record { same = IsSameRatios-from_point c.args.x c.args.y c.args.z (neg_ℤ c.args.w) r.x r.y r.z r.w p r.proper (s p) }

pub returns-else-w-lt0 : goal.returns-else-w-lt0
returns-else-w-lt0 c =
    let i = c.requires.small in
    let p : pos 0 <ℤ c.args.w = search rules in
    let r = c.of-else-w-lt0.result in
    let s = rw (negated c.args.x i.of_x, negated c.args.y i.of_y, negated c.args.z i.of_z, to_z-of_z w64 c.args.w c.ranges.w) at c.of-else-w-lt0.ensures.same in
    record { same = IsSameRatios-turned c.args.x c.args.y c.args.z c.args.w r.x r.y r.z r.w (IsSameRatios-from_point (neg_ℤ c.args.x) (neg_ℤ c.args.y) (neg_ℤ c.args.z) c.args.w r.x r.y r.z r.w p r.proper (s p)) }
