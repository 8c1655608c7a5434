-- A ray of a script has an answer: its end is a point of the program.
use Rattle.nef_statement.proofs.Prelude.{◌≡◌, ℕ, ◌*◌, ◌^◌, ℤ, pos, ◌+ℤ◌, ◌*ℤ◌, ◌<ℤ◌, neg_ℤ, nat_abs, arith, refl, sym, ap, ◌∙◌, inl, inr, ⊎_elim, List, [], ◌∷◌, Bool, true, false, ints, mul_pos, pos-abs, ring, at, num, neg, ◌⊕◌, ◌⊗◌, normal_limit, ray_direction_limit, ray_point_limit, ray_weight_limit, HasLabel, SpacePoint, Form, form_at, slope, normal_of, SamePoint, toward, InFrame, Set, sign, Lies, Vector, opposite, IsDirection, SameDirection, IsAtMost, Label, Out, IsCrossing, IsPointAtMost, IsReachedBy, form_of, point_at, point_of, HasOppositeSigns, IsZeroStep, Plane, Point, dot_size, normal_within, carriers, between-turned, InFrame-decided, start, start-close, start-between, sign-toward, near-same, label-one, Label-cells, between-same, reach_all, within-self, slope-same, same-point_sym, Germ-same, SamePlane, ahead-back, ahead-same, plane-turned, plane-point, plane-slope, same-point_trans, one-crossing, between-way, IsRayEnd, Changes, point-with, answer_of, end_line, IsRayAnswer, SameDirection-turned, SameDirection-trans, dir-self, direction-left}
use Rattle.nef_geo.proofs.Crossings.{IsCrossing-reached, opposite-crossing}
use Rattle.nef_geo.proofs.Rays.{reached_within}
use Rattle.nef_geo.proofs.Sizes.{form_size}
use Rattle.nef_ray.proofs.Along.{crossing-or, level-label, CarriersHoldRay}
use Rattle.nef_ray.proofs.SomeEnd.{some-end}
use Rattle.law_geometry.proofs.complex.Spans.{opposite-level}
use Rattle.nef_unique.proofs.Sets.{label-moved}
use Rattle.nef_space.proofs.Elementary.{same-itself}

-- the step to where a form with the opposite sign of its slope is zero
zero-step : (v g : ℤ) → HasOppositeSigns v g → IsZeroStep v g (pos (nat_abs v)) (pos (nat_abs g))
zero-step v g (inl (l, k)) =
    let a : pos (nat_abs v) ≡ neg_ℤ v = omega (arith, ints, l) in
    let b : pos (nat_abs g) ≡ g = omega (arith, ints, k) in
    record {
      num_positive = omega (arith, ints, l);
      den_positive = omega (arith, ints, k);
      num_size = refl;
      den_size = refl;
      balance = ap (λ x. x *ℤ g +ℤ pos (nat_abs g) *ℤ v) a ∙ ap (λ x. neg_ℤ v *ℤ g +ℤ x *ℤ v) b ∙ ring (v ∷ g ∷ []) (neg (at 0) ⊗ at 1 ⊕ at 1 ⊗ at 0) (num (pos 0)) tt;
    }
zero-step v g (inr (l, k)) =
    let a : pos (nat_abs v) ≡ v = omega (arith, ints, l) in
    let b : pos (nat_abs g) ≡ neg_ℤ g = omega (arith, ints, k) in
    record {
      num_positive = omega (arith, ints, l);
      den_positive = omega (arith, ints, k);
      num_size = refl;
      den_size = refl;
      balance = ap (λ x. x *ℤ g +ℤ pos (nat_abs g) *ℤ v) a ∙ ap (λ x. v *ℤ g +ℤ x *ℤ v) b ∙ ring (v ∷ g ∷ []) (at 0 ⊗ at 1 ⊕ neg (at 1) ⊗ at 0) (num (pos 0)) tt;
    }

module _ (s : Set) (p : SpacePoint) (d : Vector) (some : IsDirection d) where
  -- ---- a carrier crosses the ray at its end
  module _ (q : SpacePoint) (after : Bool) (l : Label) (E : IsRayEnd s p d q after l) where
    back : SameDirection (toward q p) (opposite d)
    back = ahead-back p q d E.ahead

    before-label : CarriersHoldRay s d E.before q → HasLabel s q E.before
    before-label level =
        let n = reach_all (carriers s) q in
        let y = start n q p in
        let e = between-turned q p y (start-between n q p (direction-left (toward q p) (opposite d) back)) in
        let v = SameDirection-trans (toward y q) (toward p y) d (SameDirection-turned (toward p y) (toward y q) e) (SameDirection-trans (toward p y) (toward p q) d (between-way p y q e) E.ahead) in
        let c = start-close n q p in
        Label-cells s E.before y q (near-same (carriers s) q y q c (within-self n q)
        (λ h i o. sign-toward h q y o ∙ slope-same h (toward q y) (opposite d) (ahead-back y q d v) ∙ ap sign (opposite-level h d (level h i o)) ∙ sym o)) (E.same y e)

    after-label : (b : Bool) → Changes s q d E.before b l → CarriersHoldRay s d E.before q → HasLabel s q l
    after-label false h level = h
    after-label true (h, g) level = level-label s d l q level g

    pub crossed : (h : Form) × Lies (carriers s) h × IsCrossing p d h q
    crossed = ⊎_elim (λ c. c) (λ level. absurd (E.other (label-one s q l E.before (after-label after E.changes level) (before-label level)))) (crossing-or s d E.before p q E.ahead)

  -- ---- the end at another name of its point
  end-placed : (q r : SpacePoint) (after : Bool) (l : Label) → SamePoint q r → IsRayEnd s p d q after l → IsRayEnd s p d r after l
  end-placed q r after l e E = record {
    before = E.before;
    germ = E.germ;
    ahead = ahead-same p q r d (same-point_sym q r e) E.ahead;
    same = λ x b. E.same x (between-same p x r p x q (same-itself p) (same-itself x) (same-point_sym q r e) b);
    other = E.other;
    changes = by after E.changes;
  }
    where
      by : (b : Bool) → Changes s q d E.before b l → Changes s r d E.before b l
      by false h = label-moved s q r l e h
      by true (h, g) = (label-moved s q r E.before e h, Germ-same s q r d d l e (dir-self d some) g)

  -- ---- the point
  module _ (ps : IsPointAtMost ray_point_limit ray_weight_limit p) (ds : IsAtMost ray_direction_limit d) (planes : (f : Form) → Lies (carriers s) f → (h : Plane) × SamePlane (form_of h) f) where
    point-at : (q : SpacePoint) (h : Plane) → IsCrossing p d (form_of h) q → (r : Point) × SamePoint q (point_of r)
    point-at q h X = by (zero-step (form_at (form_of h) p) (slope (form_of h) d) (opposite-crossing (form_of h) p d q some X))
      where
        by : IsZeroStep (form_at (form_of h) p) (slope (form_of h) d) (pos (nat_abs (form_at (form_of h) p))) (pos (nat_abs (slope (form_of h) d))) → (r : Point) × SamePoint q (point_of r)
        by Z =
            let n : ℤ = pos (nat_abs (form_at (form_of h) p)) in
            let m : ℤ = pos (nat_abs (slope (form_of h) d)) in
            let x = p.x *ℤ m +ℤ n *ℤ d.x in
            let y = p.y *ℤ m +ℤ n *ℤ d.y in
            let z = p.z *ℤ m +ℤ n *ℤ d.z in
            let w = pos p.w *ℤ m in
            let positive : pos 0 <ℤ w = mul_pos (pos p.w) m (let l = p.proper in omega (arith, ints, l)) Z.den_positive in
            let R : IsReachedBy p d n m x y z w = record { x_is = refl; y_is = refl; z_is = refl; w_is = refl } in
            let Y = IsCrossing-reached (form_of h) p d n m x y z w positive some Z.num_positive R Z.balance X.passes in
            let one = one-crossing (form_of h) d p q (point_at x y z w positive) X.ahead.parallel Y.ahead.parallel (X.on, Y.on) X.passes in
            let ms = dot_size normal_limit ray_direction_limit (normal_of (form_of h)) d (normal_within h) ds in
            let ns = form_size h ray_point_limit ray_weight_limit p ps in
            let B = reached_within p d n m x y z w positive ray_point_limit ray_weight_limit (3 * 2 ^ 21) (2 ^ 34) ray_direction_limit R ps (omega (arith, ms)) (omega (arith, ns)) ds in
            let (r, Q) = point-with x y z w (let b = B.numbers.of_x in omega (arith, b)) (let b = B.numbers.of_y in omega (arith, b)) (let b = B.numbers.of_z in omega (arith, b)) (let b = B.weight in omega (arith, b)) positive in (
              r,
              same-point_trans q (point_at x y z w positive) (point_of r) one (record {
                along_x = along x w r.x r.w Q.factor positive r.proper Q.x_is Q.w_is;
                along_y = along y w r.y r.w Q.factor positive r.proper Q.y_is Q.w_is;
                along_z = along z w r.z r.w Q.factor positive r.proper Q.z_is Q.w_is;
              }),
            )
          where
            along : (x w a c k : ℤ) → pos 0 <ℤ w → pos 0 <ℤ c → x ≡ k *ℤ a → w ≡ k *ℤ c → x *ℤ pos (nat_abs c) ≡ a *ℤ pos (nat_abs w)
            along x w a c k hw hc e f =
                ap (λ i. x *ℤ i) (pos-abs c hc) ∙ ap (λ i. i *ℤ c) e ∙ ring (k ∷ a ∷ c ∷ []) (at 0 ⊗ at 1 ⊗ at 2) (at 1 ⊗ (at 0 ⊗ at 2)) tt ∙ ap (λ i. a *ℤ i) (sym f) ∙ ap (λ i. a *ℤ i) (sym (pos-abs w hw))

    pub ray-answer : (x : List ℕ) × IsRayAnswer s p d x
    ray-answer = ⊎_elim (λ inside. ends inside (some-end s p d inside some)) (λ out. (answer_of Out, IsRayAnswer.outside out refl)) (InFrame-decided p)
      where
        crossing : (q : SpacePoint) → (f : Form) × Lies (carriers s) f × IsCrossing p d f q → (h : Plane) × IsCrossing p d (form_of h) q
        crossing q (f, i, X) =
            let (h, e) = planes f i in
            (h, record { on = plane-point f (form_of h) q (plane-turned (form_of h) f e) X.on; ahead = X.ahead; passes = λ z. X.passes (plane-slope (form_of h) f d e z) })

        told : (q : SpacePoint) (after : Bool) (l : Label) → InFrame p → IsRayEnd s p d q after l → (r : Point) × SamePoint q (point_of r) → (x : List ℕ) × IsRayAnswer s p d x
        told q after l inside E (r, g) = (end_line (record { point = r; after = after; label = l }), IsRayAnswer.ends inside (record { point = r; after = after; label = l }) (end-placed q (point_of r) after l g E) refl)

        ends : InFrame p → ((q : SpacePoint) × (after : Bool) × (l : Label) × IsRayEnd s p d q after l) → (x : List ℕ) × IsRayAnswer s p d x
        ends inside (q, after, l, E) = let (h, X) = crossing q (crossed q after l E) in told q after l inside E (point-at q h X)
