-- Where a ray along the axis of a plane meets a segment of the plane, or a point of it.
use Rattle.nef_plane.proofs.Prelude.{◌≡◌, zero, suc, ℤ, pos, negsuc, neg_ℤ, ◌*ℤ◌, List, ap, sym, ◌∙◌, arith, ◌⊎◌, inl, inr, ⊎_elim, refl, [], ◌∷◌, ints, ring, at, num, ◌⊖◌, ◌⊗◌, given, none, follows_times, nought-or, SpacePoint, Form, form_at, slope, normal_of, toward, SamePoint, IsAhead, IsBetween, Vector, dot, cross, IsZero, IsDirection, IsCrossing, form_of, sign_of, HasOppositeSigns, Plane, sign_of-positive, sign_of-negative, between-same, toward-point, point-toward, slope-toward, same-point_sym, through-at, through-slope, plane-way, HoldsBoth, IsParallelToAxis, sweep_axis, sweep_form, AreOpposite, NoneCrosses, IsMetBetween, AllHold, positive-factor, parted-cut, held-between, crossed-parted, zero-decided, dot-zero, cross-turned, in-span}
use Rattle.nef_plane.proofs.Axes.{axis-some, axis-level, axis-keeps, axis-parallel}
use Rattle.nef_space.proofs.Elementary.{weight-positive, same-itself}
use Rattle.law_geometry.proofs.near.Same.{level-same_point}

-- ---- signs
opposite-cases : (x y : ℤ) → sign_of x ≡ sign_of (neg_ℤ y) → HasOppositeSigns x y ⊎ ((x ≡ pos 0) × (y ≡ pos 0))
opposite-cases (pos zero) (pos zero) e = inr (refl, refl)
opposite-cases (pos zero) (pos (suc m)) e = cc
opposite-cases (pos zero) (negsuc m) e = cc
opposite-cases (pos (suc n)) (pos zero) e = cc
opposite-cases (pos (suc n)) (pos (suc m)) e = cc
opposite-cases (pos (suc n)) (negsuc m) e = inl (inr (omega (arith, ints), omega (arith, ints)))
opposite-cases (negsuc n) (pos zero) e = cc
opposite-cases (negsuc n) (pos (suc m)) e = inl (inl (omega (arith, ints), omega (arith, ints)))
opposite-cases (negsuc n) (negsuc m) e = cc

opposite-by : (x y : ℤ) → HasOppositeSigns x y → sign_of x ≡ sign_of (neg_ℤ y)
opposite-by x y (inl (m, n)) = sign_of-negative x m ∙ sym (sign_of-negative (neg_ℤ y) (omega (arith, ints)))
opposite-by x y (inr (m, n)) = sign_of-positive x m ∙ sym (sign_of-positive (neg_ℤ y) (omega (arith, ints)))

opposite-noughts : (x y : ℤ) → x ≡ pos 0 → y ≡ pos 0 → sign_of x ≡ sign_of (neg_ℤ y)
opposite-noughts x y e f = ap sign_of e ∙ sym (ap (λ z. sign_of (neg_ℤ z)) f)

-- a point on the plane lies on no side
pub level-opposite : (k : Form) (a : SpacePoint) → form_at k a ≡ pos 0 → AreOpposite k a a
level-opposite k a e = opposite-noughts (form_at k a) (form_at k a) e e

-- ---- planes through points

-- a plane through p that holds d holds what is ahead
pub ahead-level : (f : Form) (p : SpacePoint) (d : Vector) (y : SpacePoint) → IsAhead p d y → IsDirection d → form_at f p ≡ pos 0 → slope f d ≡ pos 0 → form_at f y ≡ pos 0
ahead-level f p d y w some e z =
    follows_times (form_at f p ∷ form_at f y ∷ slope f (toward p y) ∷ pos p.w ∷ pos y.w ∷ []) (at 3) (at 1) (num (pos 0))
    (given (num (pos 0) ⊖ num (pos 1)) (at 2) (at 3 ⊗ at 1 ⊖ at 4 ⊗ at 0) (slope-toward f p y)
    (given (at 4) (at 0) (num (pos 0)) e (given (num (pos 1)) (at 2) (num (pos 0)) (in-span (normal_of f) d (toward p y) some (cross-turned (toward p y) d w.parallel) z) none))) (weight-positive p) tt

-- a plane through a point between two others parts them, or holds both
pub between-opposite : (k : Form) (a b y : SpacePoint) → IsBetween a y b → form_at k y ≡ pos 0 → AreOpposite k a b
between-opposite k a b y w e = ⊎_elim
    (λ i. ⊎_elim (λ j. opposite-noughts (form_at k a) (form_at k b) i j) (λ n. opposite-by (form_at k a) (form_at k b) (crossed-parted k a b y w e (λ z. n z.1))) (nought-or (form_at k b)))
    (λ n. opposite-by (form_at k a) (form_at k b) (crossed-parted k a b y w e (λ z. n z.0))) (nought-or (form_at k a))

module _ (h : Plane) (p : SpacePoint) (d : Vector) (A : IsParallelToAxis (form_of h) d) (on : form_at (form_of h) p ≡ pos 0) where
  abbrev e : Vector
  e = sweep_axis (form_of h)

  abbrev k : Form
  k = sweep_form (form_of h) p

  pub ahead-on : (y : SpacePoint) → IsAhead p d y → form_at (form_of h) y ≡ pos 0
  ahead-on y w = ahead-level (form_of h) p d y w (axis-some h d A) on (axis-level h d A)

  start-kept : form_at k p ≡ pos 0
  start-kept = through-at e p p ∙ dot-zero e (toward p p) (point-toward p p (same-itself p))

  kept-slope : slope k d ≡ pos 0
  kept-slope = through-slope e p d ∙ ap (λ r. pos p.w *ℤ r) (axis-keeps h d A) ∙ ring (pos p.w ∷ []) (at 0 ⊗ num (pos 0)) (num (pos 0)) tt

  pub ahead-kept : (y : SpacePoint) → IsAhead p d y → form_at k y ≡ pos 0
  ahead-kept y w = ahead-level k p d y w (axis-some h d A) start-kept kept-slope

  -- points of the plane with one sweep coordinate lie on a line along d
  line-way : (y z : SpacePoint) → HoldsBoth (form_of h) y z → HoldsBoth k y z → IsZero (cross (toward y z) d)
  line-way y z (i, j) (m, n) = axis-parallel h d A (toward y z) (plane-way (form_of h) y z i j)
      (positive-factor (pos p.w) (dot e (toward y z)) (weight-positive p) (sym (through-slope e p (toward y z)) ∙ plane-way k y z m n))

  -- and a plane that isn't along d holds only one of them
  pub one-point : (g : Form) (y z : SpacePoint) → HoldsBoth (form_of h) y z → HoldsBoth k y z → HoldsBoth g y z → (slope g d ≡ pos 0 → ⊥) → SamePoint y z
  one-point g y z i j (m, n) f = ⊎_elim (toward-point y z) (λ t. absurd (f (in-span (normal_of g) (toward y z) d t (line-way y z i j) (plane-way g y z m n)))) (zero-decided (toward y z))

  module _ (a b : SpacePoint) where
    pub met-some : (g : Form) (q : SpacePoint) → HoldsBoth (form_of h) a b → AreOpposite k a b → HoldsBoth g a b → IsCrossing p d g q → IsMetBetween (form_of h) p d a b q
    met-some g q i o m c = record { holds = i; ahead = c.ahead; on = ⊎_elim cut same (opposite-cases (form_at k a) (form_at k b) o) }
      where
        cut : HasOppositeSigns (form_at k a) (form_at k b) → IsBetween a q b ⊎ (SamePoint a q × SamePoint b q)
        cut s =
            let y = parted-cut k a b s in
            inl (between-same a y.0 b a q b (same-itself a) (one-point g y.0 q (held-between (form_of h) a b y.0 y.1 i, ahead-on q c.ahead) (y.2, ahead-kept q c.ahead) (held-between g a b y.0 y.1 m, c.on) c.passes) (same-itself b) y.1)

        same : (form_at k a ≡ pos 0) × (form_at k b ≡ pos 0) → IsBetween a q b ⊎ (SamePoint a q × SamePoint b q)
        same (x, y) = inr (
          one-point g a q (i.0, ahead-on q c.ahead) (x, ahead-kept q c.ahead) (m.0, c.on) c.passes,
          one-point g b q (i.1, ahead-on q c.ahead) (y, ahead-kept q c.ahead) (m.1, c.on) c.passes,
        )

    pub met-opposite : (y : SpacePoint) → IsMetBetween (form_of h) p d a b y → AreOpposite k a b
    met-opposite y M = ⊎_elim (λ w. between-opposite k a b y w (ahead-kept y M.ahead)) same M.on
      where
        same : SamePoint a y × SamePoint b y → AreOpposite k a b
        same (i, j) = opposite-noughts (form_at k a) (form_at k b) (level-same_point k y a (same-point_sym a y i) (ahead-kept y M.ahead)) (level-same_point k y b (same-point_sym b y j) (ahead-kept y M.ahead))

    pub met-all : (gs : List Plane) (y : SpacePoint) → IsMetBetween (form_of h) p d a b y → NoneCrosses gs p d a b → AllHold gs d a b
    met-all gs y M N i g l m = ⊎_elim (λ z. z) (λ f. absurd (N i g l m y (record { on = on_g; ahead = M.ahead; passes = f }))) (nought-or (slope (form_of g) d))
      where
        on_g : form_at (form_of g) y ≡ pos 0
        on_g = ⊎_elim (λ (w : IsBetween a y b). held-between (form_of g) a b y w m) (λ (s : SamePoint a y × SamePoint b y). level-same_point (form_of g) a y s.0 m.0) M.on
