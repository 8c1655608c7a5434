-- Points along a ray within a facet name the same corners.
use Rattle.nef_conn.proofs.Prelude.{◌≡◌, pos, ◌<ℤ◌, ◌-ℤ◌, arith, ◌⊎◌, inl, inr, ⊎_elim, ◌∷◌, [], ints, by_order, ring, at, num, ◌⊕◌, ◌⊖◌, ◌⊗◌, IsEven, SpacePoint, Form, SamePoint, toward, IsBetween, Set, Vector, dot, cross, IsZero, IsDirection, SameDirection, same-point_sym, toward-point, Complex, Shows, PlaneMeet, Meets, IsFirstInPlane, between-way, between-cases, between-outer, two-off, meets-on, aligned, cross-back, NamesAlong, nought-if, SameDirection-turned, SameDirection-trans, direction-left}

-- of two points ahead on one ray one lies before the other, or they are one
pub on-ray : (v p q : SpacePoint) → SameDirection (toward v p) (toward v q) → IsBetween v p q ⊎ (SamePoint p q ⊎ IsBetween v q p)
on-ray v p q w = by_order (dot (toward v p) (toward p q)) (pos 0)
    (λ h. inr (inr (SameDirection-trans (toward v q) (toward v p) (toward q p) (SameDirection-turned (toward v p) (toward v q) w) (record { parallel = back; forward = turned h }))))
    (λ e. inr (inl (toward-point p q (nought-if (toward v p) (toward p q) some along e))))
    (λ h. inl (record { parallel = along; forward = h }))
  where
    some : IsDirection (toward v p)
    some = direction-left (toward v p) (toward v q) w

    back : IsZero (cross (toward v p) (toward q p))
    back = aligned v p q w.parallel

    along : IsZero (cross (toward v p) (toward p q))
    along = cross-back (toward v p) q p back

    turned : dot (toward v p) (toward p q) <ℤ pos 0 → pos 0 <ℤ dot (toward v p) (toward q p)
    turned h = let e = turned-dot (toward v p) in omega (arith, ints)
      where
        turned-dot : (d : Vector) → dot d (toward q p) ≡ pos 0 -ℤ dot d (toward p q)
        turned-dot d = ring (d.x ∷ d.y ∷ d.z ∷ p.x ∷ p.y ∷ p.z ∷ pos p.w ∷ q.x ∷ q.y ∷ q.z ∷ pos q.w ∷ [])
            (at 0 ⊗ (at 3 ⊗ at 10 ⊖ at 7 ⊗ at 6) ⊕ at 1 ⊗ (at 4 ⊗ at 10 ⊖ at 8 ⊗ at 6) ⊕ at 2 ⊗ (at 5 ⊗ at 10 ⊖ at 9 ⊗ at 6))
            (num (pos 0) ⊖ (at 0 ⊗ (at 7 ⊗ at 6 ⊖ at 3 ⊗ at 10) ⊕ at 1 ⊗ (at 8 ⊗ at 6 ⊖ at 4 ⊗ at 10) ⊕ at 2 ⊗ (at 9 ⊗ at 6 ⊖ at 5 ⊗ at 10))) tt

-- ---- along a ray
module _ (s : Set) (C : Complex) (S : Shows s C) (h : Form) (y z : SpacePoint) (d : Vector) (to-z : SameDirection (toward y z) d) (even : IsEven s 2 y z) where
  off : (r : SpacePoint) (n : PlaneMeet) → SamePoint r y ⊎ IsBetween y r z ⊎ SamePoint r z → Meets C h n r → ⊥
  off r n o e = two-off s C S r (even r o) (meets-on s C S h n r e)

  module _ (m : PlaneMeet) where
    from-there : IsFirstInPlane C h z d m → IsFirstInPlane C h y d m
    from-there I = record {
      place = I.place;
      ahead = SameDirection-trans (toward y I.place) (toward y z) d (SameDirection-turned (toward y z) (toward y I.place) (between-way y z I.place before)) to-z;
      meets = I.meets;
      first = λ r n b e. ⊎_elim (λ c. off r n (inr (inl c)) e) (⊎_elim (λ c. off r n (inr (inr c)) e) (λ c. I.first r n c e)) (between-cases y z I.place r before b);
    }
      where
        before : IsBetween y z I.place
        before = SameDirection-trans (toward y z) d (toward z I.place) to-z (SameDirection-turned (toward z I.place) d I.ahead)

    from-here : IsFirstInPlane C h y d m → IsFirstInPlane C h z d m
    from-here I = ⊎_elim (λ b. made b) (⊎_elim (λ e. absurd (off I.place m (inr (inr (same-point_sym z I.place e))) I.meets)) (λ b. absurd (off I.place m (inr (inl b)) I.meets)))
        (on-ray y z I.place (SameDirection-trans (toward y z) d (toward y I.place) to-z (SameDirection-turned (toward y I.place) d I.ahead)))
      where
        made : IsBetween y z I.place → IsFirstInPlane C h z d m
        made b = record {
          place = I.place;
          ahead = SameDirection-trans (toward z I.place) (toward y z) d (SameDirection-turned (toward y z) (toward z I.place) b) to-z;
          meets = I.meets;
          first = λ r n c e. I.first r n (between-outer y z r I.place b c) e;
        }

pub names-along : NamesAlong
names-along s C h y z d k S w even = (
  λ N. let I = N.1 in (N.0, from-here s C S h y z d w even N.0 I, N.2),
  λ N. let I = N.1 in (N.0, from-there s C S h y z d w even N.0 I, N.2),
)
