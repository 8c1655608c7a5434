-- Close after a direction on a circle the labels above, in and below the circle stay.
use Rattle.law_geometry.proofs.sphere.cones.Prelude.{◌≡◌, ℕ, ◌+◌, pos, ◌+ℤ◌, ◌*ℤ◌, ◌<ℤ◌, arith, ap, sym, ◌∙◌, List, ◌∷◌, subst, [], ints, ring, at, num, ◌⊕◌, ◌⊗◌, neg, follows, given, none, sign, sign-plus, sign-minus, mul_pos, Lies, Vector, IsDirection, cross, dot, SameDirection, opposite, Label, by_side, Labelling, Near, StraightAfter, Proper, dot-comb, amount, far-same, past_source, level-same, Axial, self-pos, square-cross, dir-self, dir-signs, direction-left, cross_of, dot-opposite, dot_of, dot_poly, level_cross_second, numbers, parallel-in_plane, triple-dot, vec, zero-dot}
use Rattle.law_geometry.proofs.sphere.cones.Signs.{leading, leading-nought, far-leading, straight-carried, straight-pos, straight-neg}
use Rattle.law_geometry.proofs.sphere.cones.Smooth.{FormOf, proper-form, parallel-by, straight-if}
use lib.IntN.{*ℤ-zero}
use Rattle.law_geometry.proofs.sphere.StarKinds.{turn-ahead}
use Rattle.law_geometry.proofs.sphere.Flips.{far_directed-by}

-- (n x d) x (u x d) = d (d.(n x u)), and (n x d).(u x d) = (n.u)(d.d) - (n.d)(u.d)
pub cross-same : (n u d : Vector) → SameDirection n u → IsDirection d → dot n d ≡ pos 0 → SameDirection (cross n d) (cross u d)
cross-same n u d w hd q = record {
  parallel = parallel-in_plane d (cross n d) (cross u d) hd (level_cross_second n d) (level_cross_second u d)
      (turn-ahead n d (cross u d) q ∙ ap (λ r. dot d d *ℤ r) (triple-dot n u d ∙ zero-dot (cross n u) d w.parallel) ∙ *ℤ-zero (dot d d));
  forward =
      let p = mul_pos (dot n u) (dot d d) w.forward (self-pos d hd) in
      let e = follows (numbers n u d d) (dot_of (cross_of (vec 0) (vec 6)) (cross_of (vec 3) (vec 6))) (dot_poly 0 3 ⊗ dot_poly 6 6) (given (neg (dot_poly 3 6)) (dot_poly 0 6) (num (pos 0)) q none) tt in
      omega (arith, ints);
}

module _ (gs : List Vector) (F : Vector → Label → Type 0) (L : Labelling gs F) (axial : Axial gs) where
  pub record After (n d : Vector) : Type 0 where
    pub pos : Label
    pub mark : Label
    pub neg : Label
    pub labels : StraightAfter F n pos mark neg d

  past-level : (n d : Vector) (i : ℕ) → dot n d ≡ pos 0 → dot n (past_source n d i) ≡ pos 0
  past-level n d i q =
      dot-comb n (pos i) d (pos 1) (cross n d) ∙ ap (λ r. pos i *ℤ r +ℤ pos 1 *ℤ dot n (cross n d)) q ∙ ap (λ r. pos i *ℤ pos 0 +ℤ pos 1 *ℤ r) (square-cross n d)
      ∙ ring (pos i ∷ []) (at 0 ⊗ num (pos 0) ⊕ num (pos 1) ⊗ num (pos 0)) (num (pos 0)) tt

  pub after-of : (n d : Vector) → IsDirection n → IsDirection d → dot n d ≡ pos 0 → After n d
  after-of n d hn hd q =
      let c = cross n d in
      let k = amount gs c in
      let z = past_source n d k in
      let hz = far_directed-by gs axial d c k (omega arith) hd in
      let one = λ (g : Vector) (l : Lies gs g) (e : dot g z ≡ pos 0).
      let r = leading-nought (dot g d) (dot g c) (sym (far-leading gs d c k (omega arith) g l) ∙ ap sign e) in parallel-by n d g hd q r.0 r.1 in
      let p = straight-if gs F L axial n z hn hz (past-level n d k q) one in
      record {
        pos = _;
        mark = _;
        neg = _;
        labels = (k, λ i l. straight-carried gs F L axial n n _ _ _ z (past_source n d i) hz (far_directed-by gs axial d c i l hd) (dir-self n hn) (past-level n d i q) (far-same gs d c k i (omega arith) l) p);
      }

  -- the same circle
  pub after-same : (n u : Vector) (a m b : Label) (d : Vector) → IsDirection d → dot n d ≡ pos 0 → SameDirection n u → StraightAfter F n a m b d → StraightAfter F u a m b d
  after-same n u a m b d hd q w (k, f) = (
    k + amount gs (cross n d) + amount gs (cross u d),
    λ i l.
        let hn = direction-left n u w in
        let v = cross-same n u d w hd q in
        straight-carried gs F L axial n u a m b (past_source n d i) (past_source u d i) (far_directed-by gs axial d (cross n d) i (omega arith) hd) (far_directed-by gs axial d (cross u d) i (omega arith) hd) w
        (past-level u d i (level-same n u d d w (dir-self d hd) q))
        (λ g j. far-leading gs d (cross u d) i (omega arith) g j ∙ ap (leading (sign (dot g d))) (dir-signs (cross n d) (cross u d) g (direction-left (cross n d) (cross u d) v) v) ∙ sym (far-leading gs d (cross n d) i (omega arith) g j))
        (f i (omega arith)),
  )

  pub after-one : (n : Vector) (a m b : Label) (d : Vector) (a' m' b' : Label) → IsDirection n → IsDirection d → StraightAfter F n a m b d → StraightAfter F n a' m' b' d → (a ≡ a') × (m ≡ m') × (b ≡ b')
  after-one n a m b d a' m' b' hn hd (j, f) (k, g) =
      let i = j + k + amount gs (cross n d) in
      let z = past_source n d i in
      let hz = far_directed-by gs axial d (cross n d) i (omega arith) hd in
      let p = f i (omega arith) in
      let r = g i (omega arith) in
      let h = self-pos n hn in
      let w = dot-opposite n n in
      let down : dot n (opposite n) <ℤ pos 0 = omega (arith, ints) in (
        straight-pos gs F L axial n a m b z n a' hz p h (subst (Near F z n) (ap (by_side a' m' b') (sign-plus (dot n n) h)) (r.near n)),
        L.one z m m' hz p.at_d r.at_d,
        straight-neg gs F L axial n a m b z (opposite n) b' hz p down (subst (Near F z (opposite n)) (ap (by_side a' m' b') (sign-minus (dot n (opposite n)) down)) (r.near (opposite n))),
      )

  pub after-form : (n : Vector) (a m b : Label) (d : Vector) → IsDirection n → IsDirection d → Proper a m b → StraightAfter F n a m b d → FormOf gs F L axial n
  after-form n a m b d hn hd proper (k, f) =
      let i = k + amount gs (cross n d) in
      proper-form gs F L axial n a m b (past_source n d i) hn (far_directed-by gs axial d (cross n d) i (omega arith) hd) proper (f i (omega arith))
