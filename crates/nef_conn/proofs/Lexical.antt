-- The order of points: what lies below another point on a line along up comes before it, and so does what lies between two points that do.
use Rattle.nef_conn.proofs.Prelude.{◌≡◌, ℕ, ◌+◌, ◌<◌, ℤ, pos, ◌+ℤ◌, ◌-ℤ◌, ◌*ℤ◌, ◌<ℤ◌, ◌≤ℤ◌, arith, ap, inl, inr, ◌∷◌, subst, [], ints, at, num, ◌⊕◌, ◌⊖◌, ◌⊗◌, given, none, follows, by_order, mul_pos, mul_nonneg, mul_neg, SpacePoint, toward, IsBetween, IsPointBelow, Vector, opposite, IsNormal, SameDirection, up, mixed-of, Decided, ahead-back, SameDirection-turned, opposite-twice}
use Rattle.law_geometry.proofs.near.Normals.{toward-normal, normal-kept}

pub normal-below : (p q : SpacePoint) → IsNormal (toward p q) → IsPointBelow p q
normal-below p q n = by_order (toward p q).x (pos 0)
    (λ l. let a = n.first in absurd (omega (arith, ints)))
    (λ e. by_order (toward p q).y (pos 0)
    (λ l. let a = n.second e in absurd (omega (arith, ints)))
    (λ f. let a = n.third e f in inr (omega (arith, ints), inr (omega (arith, ints), inl (omega (arith, ints)))))
    (λ l. inr (omega (arith, ints), inl (omega (arith, ints)))))
    (λ l. inl (omega (arith, ints)))

-- a positive multiple of a sum
module _ (k i j : ℕ) (sk : 0 < k) (si : 0 < i) (sj : 0 < j) where
  at-least : (a b c : ℤ) → pos k *ℤ c ≡ pos i *ℤ a +ℤ pos j *ℤ b → pos 0 ≤ℤ a → pos 0 ≤ℤ b → pos 0 ≤ℤ c
  at-least a b c e x y = by_order c (pos 0)
      (λ l. absurd (
      let u = mul_nonneg (pos i) a (omega (arith, ints)) x in
      let v = mul_nonneg (pos j) b (omega (arith, ints)) y in
      let w = mul_neg (pos k) c (omega (arith, ints)) (omega (arith, ints)) in
      omega (arith, ints)))
      (λ l. omega (arith, ints)) (λ l. omega (arith, ints))

  -- where the sum is nought, so are both
  both-zero : (a b c : ℤ) → pos k *ℤ c ≡ pos i *ℤ a +ℤ pos j *ℤ b → pos 0 ≤ℤ a → pos 0 ≤ℤ b → c ≡ pos 0 → (a ≡ pos 0) × (b ≡ pos 0)
  both-zero a b c e x y z =
      let f = ap (λ r. pos k *ℤ r) z in
      let u = mul_nonneg (pos i) a (omega (arith, ints)) x in
      let v = mul_nonneg (pos j) b (omega (arith, ints)) y in (
        by_order a (pos 0) (λ l. absurd (omega (arith, ints))) (λ l. l) (λ l. absurd (let w = mul_pos (pos i) a (omega (arith, ints)) l in omega (arith, ints))),
        by_order b (pos 0) (λ l. absurd (omega (arith, ints))) (λ l. l) (λ l. absurd (let w = mul_pos (pos j) b (omega (arith, ints)) l in omega (arith, ints))),
      )

  more : (a b c : ℤ) → pos k *ℤ c ≡ pos i *ℤ a +ℤ pos j *ℤ b → pos 0 <ℤ a → pos 0 <ℤ b → pos 0 <ℤ c
  more a b c e x y = by_order c (pos 0)
      (λ l. absurd (let z = at-least a b c e (omega (arith, ints)) (omega (arith, ints)) in omega (arith, ints)))
      (λ l. absurd (let z = both-zero a b c e (omega (arith, ints)) (omega (arith, ints)) l in let z0 = z.0 in omega (arith, ints))) (λ l. l)

  pub normal-sum : (a b c : Vector) → pos k *ℤ c.x ≡ pos i *ℤ a.x +ℤ pos j *ℤ b.x → pos k *ℤ c.y ≡ pos i *ℤ a.y +ℤ pos j *ℤ b.y → pos k *ℤ c.z ≡ pos i *ℤ a.z +ℤ pos j *ℤ b.z → IsNormal a → IsNormal b → IsNormal c
  normal-sum a b c ex ey ez n m = record {
    first = at-least a.x b.x c.x ex n.first m.first;
    second = λ e. let z = both-zero a.x b.x c.x ex n.first m.first e in at-least a.y b.y c.y ey (n.second z.0) (m.second z.1);
    third = λ e f.
        let z = both-zero a.x b.x c.x ex n.first m.first e in
        let w = both-zero a.y b.y c.y ey (n.second z.0) (m.second z.1) f in
        more a.z b.z c.z ez (n.third z.0 w.0) (m.third z.1 w.1);
  }

-- between two points that come before y
pub before-between : (y p u q : SpacePoint) → IsPointBelow p y → IsPointBelow q y → IsBetween p u q → IsPointBelow u y
before-between y p u q a b c =
    let m = mixed-of p u q c in
    normal-below u y (normal-sum m.k m.i m.j m.some_k m.some_i m.some_j (toward p y) (toward q y) (toward u y)
    (each m.k m.i m.j p.x u.x q.x y.x m.sum.is_x m.sum.is_w) (each m.k m.i m.j p.y u.y q.y y.y m.sum.is_y m.sum.is_w) (each m.k m.i m.j p.z u.z q.z y.z m.sum.is_z m.sum.is_w)
    (toward-normal p y a) (toward-normal q y b))
  where
    each : (k i j : ℕ) (a b c d : ℤ) → pos k *ℤ b ≡ pos i *ℤ a +ℤ pos j *ℤ c → pos k *ℤ pos u.w ≡ pos i *ℤ pos p.w +ℤ pos j *ℤ pos q.w
        → pos k *ℤ (d *ℤ pos u.w -ℤ b *ℤ pos y.w) ≡ pos i *ℤ (d *ℤ pos p.w -ℤ a *ℤ pos y.w) +ℤ pos j *ℤ (d *ℤ pos q.w -ℤ c *ℤ pos y.w)
    each k i j a b c d e f = follows (pos k ∷ pos i ∷ pos j ∷ a ∷ b ∷ c ∷ d ∷ pos u.w ∷ pos p.w ∷ pos q.w ∷ pos y.w ∷ [])
        (at 0 ⊗ (at 6 ⊗ at 7 ⊖ at 4 ⊗ at 10)) (at 1 ⊗ (at 6 ⊗ at 8 ⊖ at 3 ⊗ at 10) ⊕ at 2 ⊗ (at 6 ⊗ at 9 ⊖ at 5 ⊗ at 10))
        (given (num (pos 0) ⊖ at 10) (at 0 ⊗ at 4) (at 1 ⊗ at 3 ⊕ at 2 ⊗ at 5) e (given (at 6) (at 0 ⊗ at 7) (at 1 ⊗ at 8 ⊕ at 2 ⊗ at 9) f none)) tt

-- what lies below comes before
pub down-before : (y r : SpacePoint) → SameDirection (toward y r) (opposite up) → IsPointBelow r y
down-before y r w = normal-below r y (normal-kept up (toward r y) (SameDirection-turned (toward r y) up (subst (λ (v : Vector). SameDirection (toward r y) v) (opposite-twice up) (ahead-back y r (opposite up) w)))
    (record { first = omega (arith, ints); second = λ e. omega (arith, ints); third = λ e f. omega (arith, ints) }))

pub below-decided : (p q : SpacePoint) → Decided (IsPointBelow p q)
below-decided p q = by_order (p.x *ℤ pos q.w) (q.x *ℤ pos p.w)
    (λ l. inl (inl l))
    (λ e. by_order (p.y *ℤ pos q.w) (q.y *ℤ pos p.w)
    (λ l. inl (inr (e, inl l)))
    (λ f. by_order (p.z *ℤ pos q.w) (q.z *ℤ pos p.w)
    (λ l. inl (inr (e, inr (f, inl l))))
    (λ g. inr (λ x. no-z (omega (arith, ints)) e f x))
    (λ l. inr (λ x. no-z (omega (arith, ints)) e f x)))
    (λ l. inr (λ x. no-y l e x)))
    (λ l. inr (λ x. no-x l x))
  where
    no-x : (q.x *ℤ pos p.w) <ℤ (p.x *ℤ pos q.w) → IsPointBelow p q → ⊥
    no-x l (inl m) = omega (arith, ints)
    no-x l (inr (e, m)) = omega (arith, ints)

    no-y : (q.y *ℤ pos p.w) <ℤ (p.y *ℤ pos q.w) → p.x *ℤ pos q.w ≡ q.x *ℤ pos p.w → IsPointBelow p q → ⊥
    no-y l e (inl m) = omega (arith, ints)
    no-y l e (inr (f, inl m)) = omega (arith, ints)
    no-y l e (inr (f, inr (g, m))) = omega (arith, ints)

    no-z : (q.z *ℤ pos p.w) ≤ℤ (p.z *ℤ pos q.w) → p.x *ℤ pos q.w ≡ q.x *ℤ pos p.w → p.y *ℤ pos q.w ≡ q.y *ℤ pos p.w → IsPointBelow p q → ⊥
    no-z l e f (inl m) = omega (arith, ints)
    no-z l e f (inr (g, inl m)) = omega (arith, ints)
    no-z l e f (inr (g, inr (i, inl m))) = omega (arith, ints)
    no-z l e f (inr (g, inr (i, inr m))) = absurd m.1
