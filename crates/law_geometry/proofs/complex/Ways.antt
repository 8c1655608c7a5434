-- Directions from point to point along a segment.
use Rattle.law_geometry.proofs.complex.Prelude.{◌≡◌, ℕ, ◌*◌, ℤ, pos, neg_ℤ, ◌+ℤ◌, ◌-ℤ◌, ◌*ℤ◌, arith, ◌⊎◌, inl, inr, ⊎_elim, ◌∷◌, [], mul-pos, ring, at, num, neg, ◌⊕◌, ◌⊖◌, ◌⊗◌, ints, given, none, follows, SpacePoint, step, SamePoint, toward, IsBetween, Vector, SameDirection, IsDirection, SameUpToFactor, of_point, of_direction, from-start, point-factor, factor-point, same-trans, past-mixed, before-at-after, factor-same, mixed-of, between-of, between-turned, between-inner, SameDirection-turned, SameDirection-trans, direction-left, direction-right}

-- from p the point u between p and q lies in the direction of q
pub between-way : (p u q : SpacePoint) → IsBetween p u q → SameDirection (toward p u) (toward p q)
between-way p u q b =
    let m = mixed-of p u q b in
    let f : SameUpToFactor (of_direction (toward p u)) (of_direction (toward p q)) = record {
      k = m.k;
      l = m.j;
      some_k = m.some_k;
      some_l = m.some_j;
      is_x = from-start p u q m p.x q.x u.x m.sum.is_x;
      is_y = from-start p u q m p.y q.y u.y m.sum.is_y;
      is_z = from-start p u q m p.z q.z u.z m.sum.is_z;
      is_w = omega (arith, ints);
    } in
    factor-same (toward p u) (toward p q) f (direction-left (toward p u) (toward u q) b)

-- with r between p and q, and u between p and r, r lies between u and q
pub between-rest : (p u r q : SpacePoint) → IsBetween p u r → IsBetween p r q → IsBetween u r q
between-rest p u r q b c =
    SameDirection-trans (toward u r) (toward p u) (toward r q) (SameDirection-turned (toward p u) (toward u r) b)
    (SameDirection-trans (toward p u) (toward p r) (toward r q) (between-way p u r b) c)

-- what is between u and q, with u between p and q, is between p and q
pub between-outer : (p u r q : SpacePoint) → IsBetween p u q → IsBetween u r q → IsBetween p r q
between-outer p u r q b c = between-turned q p r (between-inner q u p r (between-turned p q u b) (between-turned u q r c))

-- the ends of a segment with a point between are different points
pub between-ends : (p u q : SpacePoint) → IsBetween p u q → IsDirection (toward p q)
between-ends p u q b = direction-right (toward p u) (toward p q) (between-way p u q b)

pub between-start : (p u q : SpacePoint) → IsBetween p u q → IsDirection (toward p u)
between-start p u q b = direction-left (toward p u) (toward u q) b

pub same-point_trans : (p q r : SpacePoint) → SamePoint p q → SamePoint q r → SamePoint p r
same-point_trans p q r e f = factor-point p r (same-trans (of_point p) (of_point q) (of_point r) (point-factor p q e) (point-factor q r f))

-- with m between p and q, a point between p and q is before, at or after m
pub between-cases : (p m q r : SpacePoint) → IsBetween p m q → IsBetween p r q → IsBetween p r m ⊎ SamePoint r m ⊎ IsBetween m r q
between-cases p m q r b c =
    let t = past-mixed (of_point p) (of_point m) (of_point q) (mixed-of p m q b) in
    let u = mixed-of p r q c in
    ⊎_elim
    (λ l. inl (between-of p r m (direction-left (toward p m) (toward m q) b) l))
    (λ o. ⊎_elim
    (λ e. inr (inl (factor-point r m e)))
    (λ l. inr (inr (between-of m r q (direction-right (toward p m) (toward m q) b) l))) o)
    (before-at-after (of_point p) (of_point q) (of_point m) (of_point r) t u)

-- p + d
abbrev pub onward : SpacePoint → Vector → SpacePoint
onward p d = step p (record { a = pos 1; b = 1; proper = omega arith }) d

pub onward-way : (p : SpacePoint) (d : Vector) → IsDirection d → SameDirection (toward p (onward p d)) d
onward-way p d i = SameDirection-turned d (toward p (onward p d)) (factor-same d (toward p (onward p d)) (record {
  k = p.w * p.w;
  l = 1;
  some_k = mul-pos p.proper p.proper;
  some_l = omega arith;
  is_x = each p.x d.x;
  is_y = each p.y d.y;
  is_z = each p.z d.z;
  is_w = ring (pos p.w ∷ []) (at 0 ⊗ at 0 ⊗ num (pos 0)) (num (pos 1) ⊗ num (pos 0)) tt;
}) i)
  where
    each : (x e : ℤ) → pos (p.w * p.w) *ℤ e ≡ pos 1 *ℤ ((x *ℤ pos 1 +ℤ pos 1 *ℤ pos p.w *ℤ e) *ℤ pos p.w -ℤ x *ℤ pos (p.w * 1))
    each x e = ring (pos p.w ∷ x ∷ e ∷ []) (at 0 ⊗ at 0 ⊗ at 2) (num (pos 1) ⊗ ((at 1 ⊗ num (pos 1) ⊕ num (pos 1) ⊗ at 0 ⊗ at 2) ⊗ at 0 ⊖ at 1 ⊗ (at 0 ⊗ num (pos 1)))) tt

-- ---- opposite directions
pub opposed : (k l : ℕ) (x y : ℤ) → pos k *ℤ x ≡ pos l *ℤ y → pos k *ℤ neg_ℤ x ≡ pos l *ℤ neg_ℤ y
opposed k l x y e = follows (pos k ∷ pos l ∷ x ∷ y ∷ []) (at 0 ⊗ neg (at 2)) (at 1 ⊗ neg (at 3)) (given (neg (num (pos 1))) (at 0 ⊗ at 2) (at 1 ⊗ at 3) e none) tt
