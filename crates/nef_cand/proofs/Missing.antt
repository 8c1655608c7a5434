-- A plane that leaves the open frame on one side crosses no edge.
use Rattle.nef_cand.proofs.Prelude.{◌≡◌, ℕ, ℤ, pos, neg_ℤ, ◌+◌, ◌*◌, ◌<◌, ◌≤◌, ◌+ℤ◌, ◌*ℤ◌, ◌≤ℤ◌, ◌<ℤ◌, nat_abs, [], ◌∷◌, arith, ap, sym, subst, ◌∙◌, inr, ⊎_elim, cases_lt, ints, by_lt_z, unsigned_abs-mul, mul-le-mul_right, ring, at, neg, ◌⊗◌, abs_plus, abs_times, mul_nonneg, mul_le_right, half_side, point_limit, SpacePoint, Form, form_at, InClosedFrame, Set, HasOppositeSigns, Shows, dim-framed, IsCutBy, MissesFrame}
use lib.IntN.{zero-*ℤ}
use Rattle.law_geometry.specs.complex.Complexes.{Complex}
use Rattle.nef_cand.proofs.Crossing.{never-crosses}

module _ (h : Form) (far : half_side * (nat_abs h.a + nat_abs h.b + nat_abs h.c) ≤ nat_abs h.d) where
  share : (a b c d w : ℕ) → half_side * (a + b + c) ≤ d → a * (half_side * w) + b * (half_side * w) + c * (half_side * w) ≤ d * w
  share a b c d w l = omega (arith, mul-le-mul_right w l)

  -- without its last number the form is no greater than that alone
  small : (p : SpacePoint) → InClosedFrame p → nat_abs (h.a *ℤ p.x +ℤ h.b *ℤ p.y +ℤ h.c *ℤ p.z) ≤ nat_abs h.d * p.w
  small p i =
      let n = half_side * p.w in
      let x = abs_times h.a p.x (nat_abs h.a) n (omega arith) i.along_x in
      let y = abs_times h.b p.y (nat_abs h.b) n (omega arith) i.along_y in
      let z = abs_times h.c p.z (nat_abs h.c) n (omega arith) i.along_z in
      let xy = abs_plus (h.a *ℤ p.x) (h.b *ℤ p.y) (nat_abs h.a * n) (nat_abs h.b * n) x y in
      let all = abs_plus (h.a *ℤ p.x +ℤ h.b *ℤ p.y) (h.c *ℤ p.z) (nat_abs h.a * n + nat_abs h.b * n) (nat_abs h.c * n) xy z in
      let s = share (nat_abs h.a) (nat_abs h.b) (nat_abs h.c) (nat_abs h.d) p.w far in
      omega (arith, all, s)

  plus : (r d : ℤ) (w : ℕ) → nat_abs r ≤ nat_abs d * w → pos 0 ≤ℤ d → pos 0 ≤ℤ (r +ℤ d *ℤ pos w)
  plus r d w l s = let t = mul_nonneg d (pos w) s (omega (arith, ints)) in omega (arith, ints, t, l, unsigned_abs-mul d (pos w))

  minus : (r d : ℤ) (w : ℕ) → nat_abs r ≤ nat_abs d * w → d <ℤ pos 0 → (r +ℤ d *ℤ pos w) ≤ℤ pos 0
  minus r d w l s = let t = mul_le_right d (pos 0) (pos w) (omega (arith, ints)) (omega (arith, ints, s)) in omega (arith, ints, t, l, zero-*ℤ (pos w), unsigned_abs-mul d (pos w))

  pub misses : MissesFrame h
  misses p q i k o = by_lt_z h.d (pos 0)
      (λ s. let f = minus (h.a *ℤ p.x +ℤ h.b *ℤ p.y +ℤ h.c *ℤ p.z) h.d p.w (small p i) s in let g = minus (h.a *ℤ q.x +ℤ h.b *ℤ q.y +ℤ h.c *ℤ q.z) h.d q.w (small q k) s in
      ⊎_elim (λ m. let t = m.1 in absurd (omega (arith, ints, g, t))) (λ m. let t = m.0 in absurd (omega (arith, ints, f, t))) o)
      (λ s. let f = plus (h.a *ℤ p.x +ℤ h.b *ℤ p.y +ℤ h.c *ℤ p.z) h.d p.w (small p i) s in let g = plus (h.a *ℤ q.x +ℤ h.b *ℤ q.y +ℤ h.c *ℤ q.z) h.d q.w (small q k) s in
      ⊎_elim (λ m. let t = m.0 in absurd (omega (arith, ints, f, t))) (λ m. let t = m.1 in absurd (omega (arith, ints, g, t))) o)

pub never-cut : (s : Set) (C : Complex) (h : Form) → Shows s C → MissesFrame h → (y : SpacePoint) → IsCutBy C h y → ⊥
never-cut s C h S n y (k, e, v, w, x, H, m, o, off) =
    never-crosses h v.point w.point
    (n v.point w.point (dim-framed s v.point 0 (omega arith) (S.vertices e.low v H.low)) (dim-framed s w.point 0 (omega arith) (S.vertices e.high w H.high)))
    y (record { between = m; on = o; parts = off })

-- ---- where the last number doesn't outweigh the others
-- the end of the frame's side at which the product is greatest
module _ (a : ℤ) where
  abbrev IsOutermost : ℤ → Type 0
  IsOutermost x = (nat_abs x ≤ half_side) × (a *ℤ x ≡ pos (half_side * nat_abs a))

  outermost : (x : ℤ) × IsOutermost x
  outermost = by_lt_z a (pos 0)
      (λ l. (neg_ℤ (pos half_side), (omega (arith, ints), omega (arith, ints, l))))
      (λ l. (pos half_side, (omega (arith, ints), omega (arith, ints, l))))

module _ (h : Form) (M : MissesFrame h) where
  corner : (x y z : ℤ) → nat_abs x ≤ half_side → nat_abs y ≤ half_side → nat_abs z ≤ half_side → (p : SpacePoint) × InClosedFrame p × (form_at h p ≡ h.a *ℤ x +ℤ h.b *ℤ y +ℤ h.c *ℤ z +ℤ h.d)
  corner x y z i j k = (record { x = x; y = y; z = z; w = 1; proper = omega arith }, record { along_x = omega (arith, i); along_y = omega (arith, j); along_z = omega (arith, k) }, omega (arith, ints))

  turned : (a x : ℤ) → IsOutermost a x → a *ℤ neg_ℤ x ≡ neg_ℤ (pos (half_side * nat_abs a))
  turned a x o = ring (a ∷ x ∷ []) (at 0 ⊗ neg (at 1)) (neg (at 0 ⊗ at 1)) tt ∙ ap neg_ℤ o.1

  never-parts : (r d : ℤ) (n : ℕ) → r ≡ pos n → nat_abs d < n → (s : ℤ) → s ≡ neg_ℤ (pos n) → HasOppositeSigns (r +ℤ d) (s +ℤ d)
  never-parts r d n e l s f = inr (omega (arith, ints, e, l), omega (arith, ints, f, l))

  -- then two opposite corners lie on both sides
  pub outweighs : half_side * (nat_abs h.a + nat_abs h.b + nat_abs h.c) ≤ nat_abs h.d
  outweighs = ⊎_elim (λ l. absurd (parted l)) (λ l. l) (cases_lt (nat_abs h.d) (half_side * (nat_abs h.a + nat_abs h.b + nat_abs h.c)))
    where
      parted : nat_abs h.d < half_side * (nat_abs h.a + nat_abs h.b + nat_abs h.c) → ⊥
      parted l =
          let x = outermost h.a in let y = outermost h.b in let z = outermost h.c in
          let p = corner x.0 y.0 z.0 x.1.0 y.1.0 z.1.0 in
          let q = corner (neg_ℤ x.0) (neg_ℤ y.0) (neg_ℤ z.0) (let i = x.1.0 in omega (arith, ints, i)) (let i = y.1.0 in omega (arith, ints, i)) (let i = z.1.0 in omega (arith, ints, i)) in
          let e = x.1.1 in let f = y.1.1 in let g = z.1.1 in
          let a = turned h.a x.0 x.1 in let b = turned h.b y.0 y.1 in let c = turned h.c z.0 z.1 in
          M p.0 q.0 p.1 q.1
          (subst (λ (v : ℤ). HasOppositeSigns v (form_at h q.0)) (sym p.2)
          (subst (λ (v : ℤ). HasOppositeSigns (h.a *ℤ x.0 +ℤ h.b *ℤ y.0 +ℤ h.c *ℤ z.0 +ℤ h.d) v) (sym q.2)
          (never-parts (h.a *ℤ x.0 +ℤ h.b *ℤ y.0 +ℤ h.c *ℤ z.0) h.d (half_side * (nat_abs h.a + nat_abs h.b + nat_abs h.c)) (omega (arith, ints, e, f, g)) l
          (h.a *ℤ neg_ℤ x.0 +ℤ h.b *ℤ neg_ℤ y.0 +ℤ h.c *ℤ neg_ℤ z.0) (omega (arith, ints, a, b, c)))))

-- ---- by the numbers that the program reads
pub number-fits : (x y : ℤ) (k : ℕ) → x ≡ y → nat_abs y ≤ k → k ≤ point_limit → nat_abs x ≤ point_limit
number-fits x y k e l m = let n = ap nat_abs e in omega (arith, n, l, m)

pub lengthened : (u v w s t a b c k d : ℕ) → u ≡ a → v ≡ b → w ≡ c → s ≡ k → t ≡ d → s * (u + v + w) ≤ t → k * (a + b + c) ≤ d
lengthened u v w s t a b c k d e f g r q l =
    subst (λ (n : ℕ). k * (a + b + c) ≤ n) q (subst (λ (n : ℕ). n * (a + b + c) ≤ t) r
    (subst (λ (n : ℕ). s * (a + b + n) ≤ t) g (subst (λ (n : ℕ). s * (a + n + w) ≤ t) f (subst (λ (n : ℕ). s * (n + v + w) ≤ t) e l))))
