-- The order of points by their coordinates: it goes on, no point is below an equal one, and equal points stand in the same order.
use Rattle.law_geometry.proofs.near.Prelude.{◌≡◌, ℤ, pos, ◌*ℤ◌, ◌<ℤ◌, arith, ap, ◌∙◌, inl, inr, ◌∷◌, [], ints, cancel_lt, mul_lt_right, ring, at, ◌⊗◌, SpacePoint, SamePoint, IsPointBelow}
use Rattle.nef_space.proofs.Fractions.{fraction-trans, fraction-eq-trans}
use Rattle.nef_space.proofs.Elementary.{same-itself, weight-positive}

-- a/b < c/d = e/f gives a/b < e/f
less_equal : (a b c d e f : ℤ) → pos 0 <ℤ d → pos 0 <ℤ f → (a *ℤ d) <ℤ (c *ℤ b) → c *ℤ f ≡ e *ℤ d → (a *ℤ f) <ℤ (e *ℤ b)
less_equal a b c d e f hd hf h k =
    cancel_lt (a *ℤ f) (e *ℤ b) d hd (
    let p = mul_lt_right (a *ℤ d) (c *ℤ b) f hf h in
    let xs = a ∷ b ∷ c ∷ d ∷ e ∷ f ∷ [] in
    let i = ring xs (at 0 ⊗ at 3 ⊗ at 5) (at 0 ⊗ at 5 ⊗ at 3) tt in
    let j : c *ℤ b *ℤ f ≡ e *ℤ b *ℤ d = ring xs (at 2 ⊗ at 1 ⊗ at 5) (at 2 ⊗ at 5 ⊗ at 1) tt ∙ ap_right k ∙ ring xs (at 4 ⊗ at 3 ⊗ at 1) (at 4 ⊗ at 1 ⊗ at 3) tt in
    omega (arith, ints))
  where
    ap_right : c *ℤ f ≡ e *ℤ d → c *ℤ f *ℤ b ≡ e *ℤ d *ℤ b
    ap_right q = ap (λ r. r *ℤ b) q

-- a/b = c/d < e/f gives a/b < e/f
equal_less : (a b c d e f : ℤ) → pos 0 <ℤ b → pos 0 <ℤ d → a *ℤ d ≡ c *ℤ b → (c *ℤ f) <ℤ (e *ℤ d) → (a *ℤ f) <ℤ (e *ℤ b)
equal_less a b c d e f hb hd k h =
    cancel_lt (a *ℤ f) (e *ℤ b) d hd (
    let p = mul_lt_right (c *ℤ f) (e *ℤ d) b hb h in
    let xs = a ∷ b ∷ c ∷ d ∷ e ∷ f ∷ [] in
    let i : a *ℤ f *ℤ d ≡ c *ℤ f *ℤ b = ring xs (at 0 ⊗ at 5 ⊗ at 3) (at 0 ⊗ at 3 ⊗ at 5) tt ∙ ap (λ r. r *ℤ f) k ∙ ring xs (at 2 ⊗ at 1 ⊗ at 5) (at 2 ⊗ at 5 ⊗ at 1) tt in
    let j = ring xs (at 4 ⊗ at 3 ⊗ at 1) (at 4 ⊗ at 1 ⊗ at 3) tt in
    omega (arith, ints))

module _ (p q r : SpacePoint) where
  less : (a c e : ℤ) → (a *ℤ pos q.w) <ℤ (c *ℤ pos p.w) → (c *ℤ pos r.w) <ℤ (e *ℤ pos q.w) → (a *ℤ pos r.w) <ℤ (e *ℤ pos p.w)
  less a c e h k = fraction-trans a (pos p.w) c (pos q.w) e (pos r.w) (weight-positive p) (weight-positive q) (weight-positive r) h k

  less_same : (a c e : ℤ) → (a *ℤ pos q.w) <ℤ (c *ℤ pos p.w) → c *ℤ pos r.w ≡ e *ℤ pos q.w → (a *ℤ pos r.w) <ℤ (e *ℤ pos p.w)
  less_same a c e h k = less_equal a (pos p.w) c (pos q.w) e (pos r.w) (weight-positive q) (weight-positive r) h k

  same_less : (a c e : ℤ) → a *ℤ pos q.w ≡ c *ℤ pos p.w → (c *ℤ pos r.w) <ℤ (e *ℤ pos q.w) → (a *ℤ pos r.w) <ℤ (e *ℤ pos p.w)
  same_less a c e h k = equal_less a (pos p.w) c (pos q.w) e (pos r.w) (weight-positive p) (weight-positive q) h k

  same : (a c e : ℤ) → a *ℤ pos q.w ≡ c *ℤ pos p.w → c *ℤ pos r.w ≡ e *ℤ pos q.w → a *ℤ pos r.w ≡ e *ℤ pos p.w
  same a c e h k = fraction-eq-trans a (pos p.w) c (pos q.w) e (pos r.w) (weight-positive q) h k

  pub point_below-trans : IsPointBelow p q → IsPointBelow q r → IsPointBelow p r
  point_below-trans (inl h) (inl k) = inl (less p.x q.x r.x h k)
  point_below-trans (inl h) (inr k) = inl (less_same p.x q.x r.x h k.0)
  point_below-trans (inr h) (inl k) = inl (same_less p.x q.x r.x h.0 k)
  point_below-trans (inr (a, inl h)) (inr (b, inl k)) = inr (same p.x q.x r.x a b, inl (less p.y q.y r.y h k))
  point_below-trans (inr (a, inl h)) (inr (b, inr k)) = inr (same p.x q.x r.x a b, inl (less_same p.y q.y r.y h k.0))
  point_below-trans (inr (a, inr h)) (inr (b, inl k)) = inr (same p.x q.x r.x a b, inl (same_less p.y q.y r.y h.0 k))
  point_below-trans (inr (a, inr (c, inl h))) (inr (b, inr (d, inl k))) = inr (same p.x q.x r.x a b, inr (same p.y q.y r.y c d, inl (less p.z q.z r.z h k)))
  point_below-trans (inr (a, inr (c, inl h))) (inr (b, inr (d, inr k))) = absurd k.1
  point_below-trans (inr (a, inr (c, inr h))) _ = absurd h.1

  pub point_below-same : IsPointBelow p q → SamePoint q r → IsPointBelow p r
  point_below-same (inl h) s = inl (less_same p.x q.x r.x h s.along_x)
  point_below-same (inr (a, inl h)) s = inr (same p.x q.x r.x a s.along_x, inl (less_same p.y q.y r.y h s.along_y))
  point_below-same (inr (a, inr (c, inl h))) s = inr (same p.x q.x r.x a s.along_x, inr (same p.y q.y r.y c s.along_y, inl (less_same p.z q.z r.z h s.along_z)))
  point_below-same (inr (a, inr (c, inr h))) s = absurd h.1

  pub same-point_below : SamePoint p q → IsPointBelow q r → IsPointBelow p r
  same-point_below s (inl h) = inl (same_less p.x q.x r.x s.along_x h)
  same-point_below s (inr (a, inl h)) = inr (same p.x q.x r.x s.along_x a, inl (same_less p.y q.y r.y s.along_y h))
  same-point_below s (inr (a, inr (c, inl h))) = inr (same p.x q.x r.x s.along_x a, inr (same p.y q.y r.y s.along_y c, inl (same_less p.z q.z r.z s.along_z h)))
  same-point_below s (inr (a, inr (c, inr h))) = absurd h.1

pub point_below-apart : (p q : SpacePoint) → IsPointBelow p q → SamePoint p q → ⊥
point_below-apart p q (inl h) s = let e = s.along_x in omega (arith, ints)
point_below-apart p q (inr (a, inl h)) s = let e = s.along_y in omega (arith, ints)
point_below-apart p q (inr (a, inr (c, inl h))) s = let e = s.along_z in omega (arith, ints)
point_below-apart p q (inr (a, inr (c, inr h))) s = absurd h.1

pub point_below-one_way : (p q : SpacePoint) → IsPointBelow p q → IsPointBelow q p → ⊥
point_below-one_way p q h k = point_below-apart p p (point_below-trans p q p h k) (same-itself p)
