use Rattle.nef_locate.proofs.Prelude.{pos, neg_ℤ, w64, to_z, of_z, arith, refl, sym, ◌∙◌, subst, ints, to_z-of_z, not_true, half_side, IsAhead, Vector, point_of, vector_of}
use Rattle.nef_locate.proofs.Windows.{points-down, in-window_up, in-window_down, amid_up, amid_down}
use Rattle.nef_locate.proofs.beam.ray_window.Goals as goal

pub returns-then-is_up : goal.returns-then-is_up
returns-then-is_up c = record {
  ahead = λ q i j a.
      let p = point_of c.args.p.now in let h = c.of-here.result in
      in-window_up h (record { x = record { low = to_z w64 (of_z w64 h.x.low); high = pos half_side }; y = c.above.result; z = c.above-then-is_up.result }) p q (to_z-of_z w64 h.x.low (let s = c.of-here.ensures.small.0.0 in omega (arith, ints, s))) refl c.above.ensures.low c.above.ensures.high c.above-then-is_up.ensures.low c.above-then-is_up.ensures.high i j
      (subst (λ (v : Vector). IsAhead p v q) (c.is_up.ensures.upward.0 c.if-is_up.true) a) c.of-here.ensures.point;
  amid = λ q i j a.
      let p = point_of c.args.p.now in let h = c.of-here.result in
      amid_up h (record { x = record { low = to_z w64 (of_z w64 h.x.low); high = pos half_side }; y = c.above.result; z = c.above-then-is_up.result }) p q c.above.ensures.low c.above.ensures.high c.above-then-is_up.ensures.low c.above-then-is_up.ensures.high i j
      (subst (λ (v : Vector). IsAhead p v q) (c.is_up.ensures.upward.0 c.if-is_up.true) a) c.of-here.ensures.point;
}

pub returns-else-is_up : goal.returns-else-is_up
returns-else-is_up c = record {
  ahead = λ q i j a.
      let p = point_of c.args.p.now in let h = c.of-here.result in
      let e = points-down (vector_of c.args.d.now) c.requires.upright (λ e. not_true (sym c.if-is_up.false ∙ c.is_up.ensures.upward.1 e)) in
      in-window_down h (record { x = record { low = neg_ℤ (pos half_side); high = to_z w64 (of_z w64 h.x.high) }; y = c.below.result; z = c.below-else-is_up.result }) p q refl (to_z-of_z w64 h.x.high (let s = c.of-here.ensures.small.0.1 in omega (arith, ints, s))) c.below.ensures.low c.below.ensures.high c.below-else-is_up.ensures.low c.below-else-is_up.ensures.high i j
      (subst (λ (v : Vector). IsAhead p v q) e a) c.of-here.ensures.point;
  amid = λ q i j a.
      let p = point_of c.args.p.now in let h = c.of-here.result in
      let e = points-down (vector_of c.args.d.now) c.requires.upright (λ e. not_true (sym c.if-is_up.false ∙ c.is_up.ensures.upward.1 e)) in
      amid_down h (record { x = record { low = neg_ℤ (pos half_side); high = to_z w64 (of_z w64 h.x.high) }; y = c.below.result; z = c.below-else-is_up.result }) p q c.below.ensures.low c.below.ensures.high c.below-else-is_up.ensures.low c.below-else-is_up.ensures.high i j
      (subst (λ (v : Vector). IsAhead p v q) e a) c.of-here.ensures.point;
}
