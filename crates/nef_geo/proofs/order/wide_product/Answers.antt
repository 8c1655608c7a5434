use Rattle.nef_geo.proofs.Prelude.{◌≤◌, ◌^◌, ℤ, nat_abs, [], ◌∷◌, arith, w64, FitsSigned, ints, to_z-of_z, load, wrap, ◌⊠◌, exact_of, fits_of}
use mir.Syntax.{w128}
use Rattle.nef_geo.proofs.order.wide_product.Goals as goal

word_small : (n : ℤ) → FitsSigned w64 n → nat_abs n ≤ 2 ^ 63
word_small n h = let s = h.sfits in omega (arith, ints, s)

pub overflow_mul-result : goal.overflow_mul-result
overflow_mul-result c =
    rw (to_z-of_z w64 c.args.a c.ranges.a, to_z-of_z w64 c.args.b c.ranges.b)
    (fits_of (2 ^ 63 ∷ 2 ^ 63 ∷ []) (c.args.a ∷ c.args.b ∷ []) w128 (wrap w128 (load 0) ⊠ wrap w128 (load 1)) (word_small c.args.a c.ranges.a, (word_small c.args.b c.ranges.b, tt)) tt)

pub returns : goal.returns
returns c = record {
  product = rw (to_z-of_z w64 c.args.a c.ranges.a, to_z-of_z w64 c.args.b c.ranges.b)
      (exact_of (2 ^ 63 ∷ 2 ^ 63 ∷ []) (c.args.a ∷ c.args.b ∷ []) (wrap w128 (wrap w128 (load 0) ⊠ wrap w128 (load 1))) (word_small c.args.a c.ranges.a, (word_small c.args.b c.ranges.b, tt)) tt);
}
