-- Points that are the same, and points strictly between two others, as sums of homogeneous vectors.
use Rattle.law_geometry.proofs.near.Prelude.{◌≡◌, ◌+◌, ◌*◌, ℤ, pos, ◌+ℤ◌, ◌-ℤ◌, ◌*ℤ◌, arith, ◌⊎◌, inl, inr, ⊎_elim, List, ◌∷◌, ◌↔◌, [], ints, mul-pos, ring, at, num, ◌⊕◌, ◌⊖◌, ◌⊗◌, follows, follows_times, given, none, IsZero, SpacePoint, SamePoint, toward, IsBetween, zero-decided, zero-dot}
pub use Rattle.law_geometry.specs.near.Homogeneous.{of_point, of_direction, IsOnSegment}
use Rattle.law_geometry.proofs.near.Sums.{SameUpToFactor, IsMixed, OnSegment, same-sym, same-refl, same-trans, mixed-same, mixed-itself, on-cases, on-same, on-start, on-end, on-mixed}
use Rattle.law_geometry.proofs.near.Directions.{same-factor, factor-same}
use Rattle.nef_space.proofs.Elementary.{counted-positive}

-- ---- the same point
pub point-factor : (p q : SpacePoint) → SamePoint p q → SameUpToFactor (of_point p) (of_point q)
point-factor p q s = record {
  k = q.w;
  l = p.w;
  some_k = q.proper;
  some_l = p.proper;
  is_x = turned p.x q.x s.along_x;
  is_y = turned p.y q.y s.along_y;
  is_z = turned p.z q.z s.along_z;
  is_w = ring (pos p.w ∷ pos q.w ∷ []) (at 1 ⊗ at 0) (at 0 ⊗ at 1) tt;
}
  where
    turned : (x y : ℤ) → x *ℤ pos q.w ≡ y *ℤ pos p.w → pos q.w *ℤ x ≡ pos p.w *ℤ y
    turned x y e = follows (x ∷ y ∷ pos p.w ∷ pos q.w ∷ []) (at 3 ⊗ at 0) (at 2 ⊗ at 1) (given (num (pos 1)) (at 0 ⊗ at 3) (at 1 ⊗ at 2) e none) tt

pub factor-point : (p q : SpacePoint) → SameUpToFactor (of_point p) (of_point q) → SamePoint p q
factor-point p q s = record { along_x = one p.x q.x s.is_x; along_y = one p.y q.y s.is_y; along_z = one p.z q.z s.is_z }
  where
    one : (x y : ℤ) → pos s.k *ℤ x ≡ pos s.l *ℤ y → x *ℤ pos q.w ≡ y *ℤ pos p.w
    one x y e = follows_times (x ∷ y ∷ pos p.w ∷ pos q.w ∷ pos s.k ∷ pos s.l ∷ []) (at 5) (at 0 ⊗ at 3) (at 1 ⊗ at 2)
        (given (at 2) (at 4 ⊗ at 0) (at 5 ⊗ at 1) e (given (num (pos 0) ⊖ at 0) (at 4 ⊗ at 2) (at 5 ⊗ at 3) s.is_w none)) (counted-positive s.l s.some_l) tt

-- THE SAME POINT IS THE SAME UP TO A POSITIVE FACTOR
pub same-point : (p q : SpacePoint) → SamePoint p q ↔ SameUpToFactor (of_point p) (of_point q)
same-point p q = (point-factor p q, factor-point p q)

pub toward-point : (p q : SpacePoint) → IsZero (toward p q) → SamePoint p q
toward-point p q z = record { along_x = one p.x q.x z.0; along_y = one p.y q.y z.1; along_z = one p.z q.z z.2 }
  where
    one : (x y : ℤ) → y *ℤ pos p.w -ℤ x *ℤ pos q.w ≡ pos 0 → x *ℤ pos q.w ≡ y *ℤ pos p.w
    one x y e = omega (arith, ints)

pub point-toward : (p q : SpacePoint) → SamePoint p q → IsZero (toward p q)
point-toward p q s = (one p.x q.x s.along_x, one p.y q.y s.along_y, one p.z q.z s.along_z)
  where
    one : (x y : ℤ) → x *ℤ pos q.w ≡ y *ℤ pos p.w → y *ℤ pos p.w -ℤ x *ℤ pos q.w ≡ pos 0
    one x y e = omega (arith, ints)

pub point-decided : (p q : SpacePoint) → SamePoint p q ⊎ (SamePoint p q → ⊥)
point-decided p q = ⊎_elim (λ z. inl (toward-point p q z)) (λ f. inr (λ s. f (point-toward p q s))) (zero-decided (toward p q))

-- ---- strictly between
between-mixed : (p r q : SpacePoint) → SameUpToFactor (of_direction (toward p r)) (of_direction (toward r q)) → IsMixed (of_point p) (of_point r) (of_point q)
between-mixed p r q s = record {
  k = s.k * p.w + s.l * q.w;
  i = r.w * s.k;
  j = r.w * s.l;
  some_k = let a = mul-pos s.some_k p.proper in omega arith;
  some_i = mul-pos r.proper s.some_k;
  some_j = mul-pos r.proper s.some_l;
  sum = record {
    is_x = one p.x q.x r.x s.is_x;
    is_y = one p.y q.y r.y s.is_y;
    is_z = one p.z q.z r.z s.is_z;
    is_w = ring (pos s.k ∷ pos s.l ∷ pos p.w ∷ pos q.w ∷ pos r.w ∷ []) ((at 0 ⊗ at 2 ⊕ at 1 ⊗ at 3) ⊗ at 4) (at 4 ⊗ at 0 ⊗ at 2 ⊕ at 4 ⊗ at 1 ⊗ at 3) tt;
  };
}
  where
    one : (x y u : ℤ) → pos s.k *ℤ (u *ℤ pos p.w -ℤ x *ℤ pos r.w) ≡ pos s.l *ℤ (y *ℤ pos r.w -ℤ u *ℤ pos q.w) → pos (s.k * p.w + s.l * q.w) *ℤ u ≡ pos (r.w * s.k) *ℤ x +ℤ pos (r.w * s.l) *ℤ y
    one x y u e = follows (x ∷ y ∷ u ∷ pos s.k ∷ pos s.l ∷ pos p.w ∷ pos q.w ∷ pos r.w ∷ [])
        ((at 3 ⊗ at 5 ⊕ at 4 ⊗ at 6) ⊗ at 2) (at 7 ⊗ at 3 ⊗ at 0 ⊕ at 7 ⊗ at 4 ⊗ at 1)
        (given (num (pos 1)) (at 3 ⊗ (at 2 ⊗ at 5 ⊖ at 0 ⊗ at 7)) (at 4 ⊗ (at 1 ⊗ at 7 ⊖ at 2 ⊗ at 6)) e none) tt

module _ (p r q : SpacePoint) (m : IsMixed (of_point p) (of_point r) (of_point q)) where
  -- k (r - p) = j (q - p) and k (q - r) = i (q - p)
  abbrev numbers : ℤ → ℤ → ℤ → List ℤ
  numbers x y u = x ∷ y ∷ u ∷ pos p.w ∷ pos q.w ∷ pos r.w ∷ pos m.k ∷ pos m.i ∷ pos m.j ∷ []

  pub from-start : (x y u : ℤ) → pos m.k *ℤ u ≡ pos m.i *ℤ x +ℤ pos m.j *ℤ y → pos m.k *ℤ (u *ℤ pos p.w -ℤ x *ℤ pos r.w) ≡ pos m.j *ℤ (y *ℤ pos p.w -ℤ x *ℤ pos q.w)
  from-start x y u e = follows (numbers x y u) (at 6 ⊗ (at 2 ⊗ at 3 ⊖ at 0 ⊗ at 5)) (at 8 ⊗ (at 1 ⊗ at 3 ⊖ at 0 ⊗ at 4))
      (given (at 3) (at 6 ⊗ at 2) (at 7 ⊗ at 0 ⊕ at 8 ⊗ at 1) e (given (num (pos 0) ⊖ at 0) (at 6 ⊗ at 5) (at 7 ⊗ at 3 ⊕ at 8 ⊗ at 4) m.sum.is_w none)) tt

  to-end : (x y u : ℤ) → pos m.k *ℤ u ≡ pos m.i *ℤ x +ℤ pos m.j *ℤ y → pos m.k *ℤ (y *ℤ pos r.w -ℤ u *ℤ pos q.w) ≡ pos m.i *ℤ (y *ℤ pos p.w -ℤ x *ℤ pos q.w)
  to-end x y u e = follows (numbers x y u) (at 6 ⊗ (at 1 ⊗ at 5 ⊖ at 2 ⊗ at 4)) (at 7 ⊗ (at 1 ⊗ at 3 ⊖ at 0 ⊗ at 4))
      (given (num (pos 0) ⊖ at 4) (at 6 ⊗ at 2) (at 7 ⊗ at 0 ⊕ at 8 ⊗ at 1) e (given (at 1) (at 6 ⊗ at 5) (at 7 ⊗ at 3 ⊕ at 8 ⊗ at 4) m.sum.is_w none)) tt

  both-ways : (x y u : ℤ) → pos m.k *ℤ u ≡ pos m.i *ℤ x +ℤ pos m.j *ℤ y → pos (m.i * m.k) *ℤ (u *ℤ pos p.w -ℤ x *ℤ pos r.w) ≡ pos (m.j * m.k) *ℤ (y *ℤ pos r.w -ℤ u *ℤ pos q.w)
  both-ways x y u e =
      let t = u *ℤ pos p.w -ℤ x *ℤ pos r.w in let v = y *ℤ pos r.w -ℤ u *ℤ pos q.w in let w = y *ℤ pos p.w -ℤ x *ℤ pos q.w in
      follows (t ∷ v ∷ w ∷ pos m.k ∷ pos m.i ∷ pos m.j ∷ []) (at 4 ⊗ at 3 ⊗ at 0) (at 5 ⊗ at 3 ⊗ at 1)
      (given (at 4) (at 3 ⊗ at 0) (at 5 ⊗ at 2) (from-start x y u e) (given (num (pos 0) ⊖ at 5) (at 3 ⊗ at 1) (at 4 ⊗ at 2) (to-end x y u e) none)) tt

  mixed-factor : SameUpToFactor (of_direction (toward p r)) (of_direction (toward r q))
  mixed-factor = record {
    k = m.i * m.k;
    l = m.j * m.k;
    some_k = mul-pos m.some_i m.some_k;
    some_l = mul-pos m.some_j m.some_k;
    is_x = both-ways p.x q.x r.x m.sum.is_x;
    is_y = both-ways p.y q.y r.y m.sum.is_y;
    is_z = both-ways p.z q.z r.z m.sum.is_z;
    is_w = ring (pos m.i ∷ pos m.j ∷ pos m.k ∷ []) (at 0 ⊗ at 2 ⊗ num (pos 0)) (at 1 ⊗ at 2 ⊗ num (pos 0)) tt;
  }

  -- if r is p, so is q
  start-zero : IsZero (toward p r) → IsZero (toward p q)
  start-zero z = (one p.x q.x r.x m.sum.is_x z.0, one p.y q.y r.y m.sum.is_y z.1, one p.z q.z r.z m.sum.is_z z.2)
    where
      one : (x y u : ℤ) → pos m.k *ℤ u ≡ pos m.i *ℤ x +ℤ pos m.j *ℤ y → u *ℤ pos p.w -ℤ x *ℤ pos r.w ≡ pos 0 → y *ℤ pos p.w -ℤ x *ℤ pos q.w ≡ pos 0
      one x y u e z =
          let t = u *ℤ pos p.w -ℤ x *ℤ pos r.w in let w = y *ℤ pos p.w -ℤ x *ℤ pos q.w in
          follows_times (t ∷ w ∷ pos m.k ∷ pos m.j ∷ []) (at 3) (at 1) (num (pos 0))
          (given (num (pos 0) ⊖ num (pos 1)) (at 2 ⊗ at 0) (at 3 ⊗ at 1) (from-start x y u e) (given (at 2) (at 0) (num (pos 0)) z none)) (counted-positive m.j m.some_j) tt

  -- and if q is p, so is r
  pub end-zero : IsZero (toward p q) → IsZero (toward p r)
  end-zero z = (one p.x q.x r.x m.sum.is_x z.0, one p.y q.y r.y m.sum.is_y z.1, one p.z q.z r.z m.sum.is_z z.2)
    where
      one : (x y u : ℤ) → pos m.k *ℤ u ≡ pos m.i *ℤ x +ℤ pos m.j *ℤ y → y *ℤ pos p.w -ℤ x *ℤ pos q.w ≡ pos 0 → u *ℤ pos p.w -ℤ x *ℤ pos r.w ≡ pos 0
      one x y u e z =
          let t = u *ℤ pos p.w -ℤ x *ℤ pos r.w in let w = y *ℤ pos p.w -ℤ x *ℤ pos q.w in
          follows_times (t ∷ w ∷ pos m.k ∷ pos m.j ∷ []) (at 2) (at 0) (num (pos 0))
          (given (num (pos 1)) (at 2 ⊗ at 0) (at 3 ⊗ at 1) (from-start x y u e) (given (at 3) (at 1) (num (pos 0)) z none)) (counted-positive m.k m.some_k) tt

-- STRICTLY BETWEEN TWO POINTS THAT AREN'T THE SAME ARE THE POINTS i p + j q
pub between-is : (p r q : SpacePoint) → IsBetween p r q ↔ IsMixed (of_point p) (of_point r) (of_point q) × (SamePoint p q → ⊥)
between-is p r q = (
  λ b.
      let m = between-mixed p r q (same-factor (toward p r) (toward r q) b) in
      (m, λ s. let e = zero-dot (toward p r) (toward r q) (end-zero p r q m (point-toward p q s)) in let f = b.forward in omega (arith, ints)),
  λ t. factor-same (toward p r) (toward r q) (mixed-factor p r q t.0) (λ z. t.1 (toward-point p q (start-zero p r q t.0 z))),
)

pub between-same : (p r q p' r' q' : SpacePoint) → SamePoint p p' → SamePoint r r' → SamePoint q q' → IsBetween p r q → IsBetween p' r' q'
between-same p r q p' r' q' a c b m =
    let t = (between-is p r q).0 m in
    let f = point-factor p p' a in
    let g = point-factor q q' b in
    (between-is p' r' q').1 (
      mixed-same (of_point p) (of_point r) (of_point q) (of_point p') (of_point r') (of_point q') f (point-factor r r' c) g t.0,
      λ s. t.1 (factor-point p q (same-trans (of_point p) (of_point p') (of_point q) f (same-trans (of_point p') (of_point q') (of_point q) (point-factor p' q' s) (same-sym (of_point q) (of_point q') g)))),
    )

-- ---- the closed segment between two points
pub points-on : (p r q : SpacePoint) → IsOnSegment p r q → OnSegment (of_point p) (of_point r) (of_point q)
points-on p r q (inl s) = on-same (of_point p) (of_point p) (of_point q) (of_point r) (point-factor r p s) (on-start (of_point p) (of_point q))
points-on p r q (inr (inl b)) = on-mixed (of_point p) (of_point r) (of_point q) ((between-is p r q).0 b).0
points-on p r q (inr (inr s)) = on-same (of_point p) (of_point q) (of_point q) (of_point r) (point-factor r q s) (on-end (of_point p) (of_point q))

pub on-points : (p r q : SpacePoint) → OnSegment (of_point p) (of_point r) (of_point q) → IsOnSegment p r q
on-points p r q m = ⊎_elim (λ s. inl (factor-point r p s)) (λ t. ⊎_elim (λ s. inr (inr (factor-point r q s))) (λ b. ⊎_elim
    (λ s. inl (factor-point r p (mixed-itself (of_point p) (of_point r) (mixed-same (of_point p) (of_point r) (of_point q) (of_point p) (of_point r) (of_point p) (same-refl (of_point p)) (same-refl (of_point r)) (same-sym (of_point p) (of_point q) (point-factor p q s)) b))))
    (λ f. inr (inl ((between-is p r q).1 (b, f)))) (point-decided p q)) t) (on-cases (of_point p) (of_point r) (of_point q) m)
