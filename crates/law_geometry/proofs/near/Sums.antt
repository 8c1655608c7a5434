-- Sums of homogeneous vectors, and vectors that are equal up to a positive factor.
use Rattle.law_geometry.proofs.near.Prelude.{◌≡◌, ℕ, zero, suc, ◌+◌, ◌-◌, ◌*◌, ◌<◌, ℤ, pos, ◌+ℤ◌, ◌*ℤ◌, arith, refl, ap, sym, ◌∙◌, ◌⊎◌, inl, inr, List, ◌∷◌, [], ints, cases_order, mul-pos, ring, at, num, ◌⊕◌, ◌⊖◌, ◌⊗◌, follows, given, none, sign, sign-scaled, Form}
pub use Rattle.law_geometry.specs.near.Homogeneous.{Homogeneous, homogeneous, form_on, mix, IsSum, SameUpToFactor, IsMixed, OnSegment, SameFormSigns}
use Rattle.nef_space.proofs.Ring.{one_times}
use Rattle.nef_space.proofs.Elementary.{counted-positive}
use Rattle.law_geometry.specs.near.Homogeneous.{direction_form}
use Rattle.nef_space.specs.Vectors.{Vector, vector, dot}

-- ---- a form at a sum
pub form-mix : (h : Form) (i : ℕ) (p : Homogeneous) (j : ℕ) (q : Homogeneous) → form_on h (mix i p j q) ≡ pos i *ℤ form_on h p +ℤ pos j *ℤ form_on h q
form-mix h i p j q = ring (h.a ∷ h.b ∷ h.c ∷ h.d ∷ p.x ∷ p.y ∷ p.z ∷ p.w ∷ q.x ∷ q.y ∷ q.z ∷ q.w ∷ pos i ∷ pos j ∷ [])
    (at 0 ⊗ (at 12 ⊗ at 4 ⊕ at 13 ⊗ at 8) ⊕ at 1 ⊗ (at 12 ⊗ at 5 ⊕ at 13 ⊗ at 9) ⊕ at 2 ⊗ (at 12 ⊗ at 6 ⊕ at 13 ⊗ at 10) ⊕ at 3 ⊗ (at 12 ⊗ at 7 ⊕ at 13 ⊗ at 11))
    (at 12 ⊗ (at 0 ⊗ at 4 ⊕ at 1 ⊗ at 5 ⊕ at 2 ⊗ at 6 ⊕ at 3 ⊗ at 7) ⊕ at 13 ⊗ (at 0 ⊗ at 8 ⊕ at 1 ⊗ at 9 ⊕ at 2 ⊗ at 10 ⊕ at 3 ⊗ at 11)) tt

pub form-sum : (h : Form) (k : ℕ) (r : Homogeneous) (i : ℕ) (p : Homogeneous) (j : ℕ) (q : Homogeneous) → IsSum k r i p j q → pos k *ℤ form_on h r ≡ pos i *ℤ form_on h p +ℤ pos j *ℤ form_on h q
form-sum h k r i p j q s =
    let a = at 0 in let b = at 1 in let c = at 2 in let d = at 3 in
    let k' = at 16 in let i' = at 17 in let j' = at 18 in
    follows (h.a ∷ h.b ∷ h.c ∷ h.d ∷ p.x ∷ p.y ∷ p.z ∷ p.w ∷ q.x ∷ q.y ∷ q.z ∷ q.w ∷ r.x ∷ r.y ∷ r.z ∷ r.w ∷ pos k ∷ pos i ∷ pos j ∷ [])
    (k' ⊗ (a ⊗ at 12 ⊕ b ⊗ at 13 ⊕ c ⊗ at 14 ⊕ d ⊗ at 15))
    (i' ⊗ (a ⊗ at 4 ⊕ b ⊗ at 5 ⊕ c ⊗ at 6 ⊕ d ⊗ at 7) ⊕ j' ⊗ (a ⊗ at 8 ⊕ b ⊗ at 9 ⊕ c ⊗ at 10 ⊕ d ⊗ at 11))
    (given a (k' ⊗ at 12) (i' ⊗ at 4 ⊕ j' ⊗ at 8) s.is_x
    (given b (k' ⊗ at 13) (i' ⊗ at 5 ⊕ j' ⊗ at 9) s.is_y
    (given c (k' ⊗ at 14) (i' ⊗ at 6 ⊕ j' ⊗ at 10) s.is_z
    (given d (k' ⊗ at 15) (i' ⊗ at 7 ⊕ j' ⊗ at 11) s.is_w none)))) tt

pub sum-mix : (i : ℕ) (p : Homogeneous) (j : ℕ) (q : Homogeneous) → IsSum 1 (mix i p j q) i p j q
sum-mix i p j q = record { is_x = one_times _; is_y = one_times _; is_z = one_times _; is_w = one_times _ }

-- ---- equal up to a positive factor
pub same-refl : (p : Homogeneous) → SameUpToFactor p p
same-refl p = record { k = 1; l = 1; some_k = omega arith; some_l = omega arith; is_x = refl; is_y = refl; is_z = refl; is_w = refl }

pub same-sym : (p q : Homogeneous) → SameUpToFactor p q → SameUpToFactor q p
same-sym p q s = record { k = s.l; l = s.k; some_k = s.some_l; some_l = s.some_k; is_x = sym s.is_x; is_y = sym s.is_y; is_z = sym s.is_z; is_w = sym s.is_w }

trans-one : (x y z : ℤ) (k l m n : ℕ) → pos k *ℤ x ≡ pos l *ℤ y → pos m *ℤ y ≡ pos n *ℤ z → pos (k * m) *ℤ x ≡ pos (l * n) *ℤ z
trans-one x y z k l m n e f = follows (x ∷ y ∷ z ∷ pos k ∷ pos l ∷ pos m ∷ pos n ∷ []) (at 3 ⊗ at 5 ⊗ at 0) (at 4 ⊗ at 6 ⊗ at 2)
    (given (at 5) (at 3 ⊗ at 0) (at 4 ⊗ at 1) e (given (at 4) (at 5 ⊗ at 1) (at 6 ⊗ at 2) f none)) tt

pub same-trans : (p q r : Homogeneous) → SameUpToFactor p q → SameUpToFactor q r → SameUpToFactor p r
same-trans p q r s t = record {
  k = s.k * t.k;
  l = s.l * t.l;
  some_k = mul-pos s.some_k t.some_k;
  some_l = mul-pos s.some_l t.some_l;
  is_x = trans-one p.x q.x r.x s.k s.l t.k t.l s.is_x t.is_x;
  is_y = trans-one p.y q.y r.y s.k s.l t.k t.l s.is_y t.is_y;
  is_z = trans-one p.z q.z r.z s.k s.l t.k t.l s.is_z t.is_z;
  is_w = trans-one p.w q.w r.w s.k s.l t.k t.l s.is_w t.is_w;
}

-- the sum i p + 0 q
pub same-sum : (k : ℕ) (r : Homogeneous) (i : ℕ) (p q : Homogeneous) → 0 < k → 0 < i → IsSum k r i p 0 q → SameUpToFactor r p
same-sum k r i p q a b s = record { k = k; l = i; some_k = a; some_l = b; is_x = drop p.x q.x r.x s.is_x; is_y = drop p.y q.y r.y s.is_y; is_z = drop p.z q.z r.z s.is_z; is_w = drop p.w q.w r.w s.is_w }
  where
    drop : (x y u : ℤ) → pos k *ℤ u ≡ pos i *ℤ x +ℤ pos 0 *ℤ y → pos k *ℤ u ≡ pos i *ℤ x
    drop x y u e = omega (arith, ints)

pub sum-turned : (k : ℕ) (r : Homogeneous) (i : ℕ) (p : Homogeneous) (j : ℕ) (q : Homogeneous) → IsSum k r i p j q → IsSum k r j q i p
sum-turned k r i p j q s = record { is_x = turn p.x q.x r.x s.is_x; is_y = turn p.y q.y r.y s.is_y; is_z = turn p.z q.z r.z s.is_z; is_w = turn p.w q.w r.w s.is_w }
  where
    turn : (x y u : ℤ) → pos k *ℤ u ≡ pos i *ℤ x +ℤ pos j *ℤ y → pos k *ℤ u ≡ pos j *ℤ y +ℤ pos i *ℤ x
    turn x y u e = omega (arith, ints)

form-same : (h : Form) (p q : Homogeneous) (s : SameUpToFactor p q) → pos s.k *ℤ form_on h p ≡ pos s.l *ℤ form_on h q
form-same h p q s =
    follows (h.a ∷ h.b ∷ h.c ∷ h.d ∷ p.x ∷ p.y ∷ p.z ∷ p.w ∷ q.x ∷ q.y ∷ q.z ∷ q.w ∷ pos s.k ∷ pos s.l ∷ [])
    (at 12 ⊗ (at 0 ⊗ at 4 ⊕ at 1 ⊗ at 5 ⊕ at 2 ⊗ at 6 ⊕ at 3 ⊗ at 7))
    (at 13 ⊗ (at 0 ⊗ at 8 ⊕ at 1 ⊗ at 9 ⊕ at 2 ⊗ at 10 ⊕ at 3 ⊗ at 11))
    (given (at 0) (at 12 ⊗ at 4) (at 13 ⊗ at 8) s.is_x
    (given (at 1) (at 12 ⊗ at 5) (at 13 ⊗ at 9) s.is_y
    (given (at 2) (at 12 ⊗ at 6) (at 13 ⊗ at 10) s.is_z
    (given (at 3) (at 12 ⊗ at 7) (at 13 ⊗ at 11) s.is_w none)))) tt

-- SIGNS OF FORMS DON'T SEE A POSITIVE FACTOR
pub sign-same : (h : Form) (p q : Homogeneous) → SameUpToFactor p q → sign (form_on h p) ≡ sign (form_on h q)
sign-same h p q s = sym (sign-scaled (pos s.k) (form_on h p) (counted-positive s.k s.some_k)) ∙ ap sign (form-same h p q s) ∙ sign-scaled (pos s.l) (form_on h q) (counted-positive s.l s.some_l)

pub signs-same : (hs : List Form) (p q : Homogeneous) → SameUpToFactor p q → SameFormSigns hs p q
signs-same hs p q s h l = sign-same h p q s

pub signs-sym : (hs : List Form) (p q : Homogeneous) → SameFormSigns hs p q → SameFormSigns hs q p
signs-sym hs p q s h l = sym (s h l)

-- ---- mixed vectors don't see it either
respect-one : (x y u x' y' u' : ℤ) (k i j a a' b b' c c' : ℕ) → pos k *ℤ u ≡ pos i *ℤ x +ℤ pos j *ℤ y
    → pos a *ℤ x ≡ pos a' *ℤ x' → pos b *ℤ y ≡ pos b' *ℤ y' → pos c *ℤ u ≡ pos c' *ℤ u'
    → pos (a * b * (k * c')) *ℤ u' ≡ pos (b * (c * (i * a'))) *ℤ x' +ℤ pos (a * (c * (j * b'))) *ℤ y'
respect-one x y u x' y' u' k i j a a' b b' c c' e f g h =
    follows (x ∷ y ∷ u ∷ x' ∷ y' ∷ u' ∷ pos k ∷ pos i ∷ pos j ∷ pos a ∷ pos a' ∷ pos b ∷ pos b' ∷ pos c ∷ pos c' ∷ [])
    (at 9 ⊗ at 11 ⊗ (at 6 ⊗ at 14) ⊗ at 5)
    (at 11 ⊗ (at 13 ⊗ (at 7 ⊗ at 10)) ⊗ at 3 ⊕ at 9 ⊗ (at 13 ⊗ (at 8 ⊗ at 12)) ⊗ at 4)
    (given (at 9 ⊗ at 11 ⊗ at 13) (at 6 ⊗ at 2) (at 7 ⊗ at 0 ⊕ at 8 ⊗ at 1) e
    (given (at 11 ⊗ at 13 ⊗ at 7) (at 9 ⊗ at 0) (at 10 ⊗ at 3) f
    (given (at 9 ⊗ at 13 ⊗ at 8) (at 11 ⊗ at 1) (at 12 ⊗ at 4) g
    (given (num (pos 0) ⊖ at 9 ⊗ at 11 ⊗ at 6) (at 13 ⊗ at 2) (at 14 ⊗ at 5) h none)))) tt

pub mixed-same : (p r q p' r' q' : Homogeneous) → SameUpToFactor p p' → SameUpToFactor r r' → SameUpToFactor q q' → IsMixed p r q → IsMixed p' r' q'
mixed-same p r q p' r' q' a c b m = record {
  k = a.k * b.k * (m.k * c.l);
  i = b.k * (c.k * (m.i * a.l));
  j = a.k * (c.k * (m.j * b.l));
  some_k = mul-pos (mul-pos a.some_k b.some_k) (mul-pos m.some_k c.some_l);
  some_i = mul-pos b.some_k (mul-pos c.some_k (mul-pos m.some_i a.some_l));
  some_j = mul-pos a.some_k (mul-pos c.some_k (mul-pos m.some_j b.some_l));
  sum = record {
    is_x = respect-one p.x q.x r.x p'.x q'.x r'.x m.k m.i m.j a.k a.l b.k b.l c.k c.l m.sum.is_x a.is_x b.is_x c.is_x;
    is_y = respect-one p.y q.y r.y p'.y q'.y r'.y m.k m.i m.j a.k a.l b.k b.l c.k c.l m.sum.is_y a.is_y b.is_y c.is_y;
    is_z = respect-one p.z q.z r.z p'.z q'.z r'.z m.k m.i m.j a.k a.l b.k b.l c.k c.l m.sum.is_z a.is_z b.is_z c.is_z;
    is_w = respect-one p.w q.w r.w p'.w q'.w r'.w m.k m.i m.j a.k a.l b.k b.l c.k c.l m.sum.is_w a.is_w b.is_w c.is_w;
  };
}

-- ---- mixed vectors and segments
pub mixed-mix : (i : ℕ) (p : Homogeneous) (j : ℕ) (q : Homogeneous) → 0 < i → 0 < j → IsMixed p (mix i p j q) q
mixed-mix i p j q a b = record { k = 1; i = i; j = j; some_k = omega arith; some_i = a; some_j = b; sum = sum-mix i p j q }

pub mixed-turned : (p r q : Homogeneous) → IsMixed p r q → IsMixed q r p
mixed-turned p r q m = record { k = m.k; i = m.j; j = m.i; some_k = m.some_k; some_i = m.some_j; some_j = m.some_i; sum = sum-turned m.k r m.i p m.j q m.sum }

pub on-turned : (p r q : Homogeneous) → OnSegment p r q → OnSegment q r p
on-turned p r q m = record { k = m.k; i = m.j; j = m.i; some_k = m.some_k; some = let s = m.some in omega arith; sum = sum-turned m.k r m.i p m.j q m.sum }

pub on-mixed : (p r q : Homogeneous) → IsMixed p r q → OnSegment p r q
on-mixed p r q m = record { k = m.k; i = m.i; j = m.j; some_k = m.some_k; some = let s = m.some_i in omega arith; sum = m.sum }

pub on-start : (p q : Homogeneous) → OnSegment p p q
on-start p q = record { k = 1; i = 1; j = 0; some_k = omega arith; some = omega arith; sum = record { is_x = omega (arith, ints); is_y = omega (arith, ints); is_z = omega (arith, ints); is_w = omega (arith, ints) } }

pub on-end : (p q : Homogeneous) → OnSegment p q q
on-end p q = on-turned q q p (on-start q p)

-- the start, the end or strictly between
pub on-cases : (p r q : Homogeneous) → OnSegment p r q → SameUpToFactor r p ⊎ SameUpToFactor r q ⊎ IsMixed p r q
on-cases p r q m = by m.k m.i m.j m.some_k m.some m.sum
  where
    by : (k i j : ℕ) → 0 < k → 0 < i + j → IsSum k r i p j q → SameUpToFactor r p ⊎ SameUpToFactor r q ⊎ IsMixed p r q
    by k zero zero a b s = absurd (omega arith)
    by k (suc i) zero a b s = inl (same-sum k r (suc i) p q a (omega arith) s)
    by k zero (suc j) a b s = inr (inl (same-sum k r (suc j) q p a (omega arith) (sum-turned k r 0 p (suc j) q s)))
    by k (suc i) (suc j) a b s = inr (inr (record { k = k; i = suc i; j = suc j; some_k = a; some_i = omega arith; some_j = omega arith; sum = s }))

-- between a vector and itself there is but this one
pub mixed-itself : (p r : Homogeneous) → IsMixed p r p → SameUpToFactor r p
mixed-itself p r m = record {
  k = m.k;
  l = m.i + m.j;
  some_k = m.some_k;
  some_l = let s = m.some_i in omega arith;
  is_x = one p.x r.x m.sum.is_x;
  is_y = one p.y r.y m.sum.is_y;
  is_z = one p.z r.z m.sum.is_z;
  is_w = one p.w r.w m.sum.is_w;
}
  where
    one : (x u : ℤ) → pos m.k *ℤ u ≡ pos m.i *ℤ x +ℤ pos m.j *ℤ x → pos m.k *ℤ u ≡ pos (m.i + m.j) *ℤ x
    one x u e = e ∙ ring (pos m.i ∷ pos m.j ∷ x ∷ []) (at 0 ⊗ at 2 ⊕ at 1 ⊗ at 2) ((at 0 ⊕ at 1) ⊗ at 2) tt

-- what is the same up to a factor as a vector of the segment is on it
pub on-same : (p r q s : Homogeneous) → SameUpToFactor s r → OnSegment p r q → OnSegment p s q
on-same p r q s e m = record {
  k = m.k * e.k;
  i = e.l * m.i;
  j = e.l * m.j;
  some_k = mul-pos m.some_k e.some_k;
  some = let t = mul-pos {m = e.l} {n = m.i + m.j} e.some_l m.some in omega arith;
  sum = record {
    is_x = one p.x q.x r.x s.x m.sum.is_x e.is_x;
    is_y = one p.y q.y r.y s.y m.sum.is_y e.is_y;
    is_z = one p.z q.z r.z s.z m.sum.is_z e.is_z;
    is_w = one p.w q.w r.w s.w m.sum.is_w e.is_w;
  };
}
  where
    one : (x y u v : ℤ) → pos m.k *ℤ u ≡ pos m.i *ℤ x +ℤ pos m.j *ℤ y → pos e.k *ℤ v ≡ pos e.l *ℤ u → pos (m.k * e.k) *ℤ v ≡ pos (e.l * m.i) *ℤ x +ℤ pos (e.l * m.j) *ℤ y
    one x y u v f g = follows (x ∷ y ∷ u ∷ v ∷ pos m.k ∷ pos m.i ∷ pos m.j ∷ pos e.k ∷ pos e.l ∷ [])
        (at 4 ⊗ at 7 ⊗ at 3) (at 8 ⊗ at 5 ⊗ at 0 ⊕ at 8 ⊗ at 6 ⊗ at 1)
        (given (at 8) (at 4 ⊗ at 2) (at 5 ⊗ at 0 ⊕ at 6 ⊗ at 1) f (given (at 4) (at 7 ⊗ at 3) (at 8 ⊗ at 2) g none)) tt

-- segments are convex: s on the segment from r to t, both on the segment from p to q
convex-one : (x y u v z : ℤ) (k i j l m n e f g : ℕ) → pos k *ℤ u ≡ pos i *ℤ x +ℤ pos j *ℤ y → pos l *ℤ v ≡ pos m *ℤ x +ℤ pos n *ℤ y → pos e *ℤ z ≡ pos f *ℤ u +ℤ pos g *ℤ v
    → pos (e * (k * l)) *ℤ z ≡ pos (f * l * i + g * k * m) *ℤ x +ℤ pos (f * l * j + g * k * n) *ℤ y
convex-one x y u v z k i j l m n e f g a b c =
    follows (x ∷ y ∷ u ∷ v ∷ z ∷ pos k ∷ pos i ∷ pos j ∷ pos l ∷ pos m ∷ pos n ∷ pos e ∷ pos f ∷ pos g ∷ [])
    (at 11 ⊗ (at 5 ⊗ at 8) ⊗ at 4)
    ((at 12 ⊗ at 8 ⊗ at 6 ⊕ at 13 ⊗ at 5 ⊗ at 9) ⊗ at 0 ⊕ (at 12 ⊗ at 8 ⊗ at 7 ⊕ at 13 ⊗ at 5 ⊗ at 10) ⊗ at 1)
    (given (at 12 ⊗ at 8) (at 5 ⊗ at 2) (at 6 ⊗ at 0 ⊕ at 7 ⊗ at 1) a
    (given (at 13 ⊗ at 5) (at 8 ⊗ at 3) (at 9 ⊗ at 0 ⊕ at 10 ⊗ at 1) b
    (given (at 5 ⊗ at 8) (at 11 ⊗ at 4) (at 12 ⊗ at 2 ⊕ at 13 ⊗ at 3) c none))) tt

some-convex : (k l i j m n f g : ℕ) → 0 < k → 0 < l → 0 < i + j → 0 < m + n → 0 < f + g → 0 < (f * l * i + g * k * m) + (f * l * j + g * k * n)
some-convex k l i j m n zero zero a b c d e = absurd (omega arith)
some-convex k l i j m n zero (suc g) a b c d e = let h = mul-pos {m = suc g * k} {n = m + n} (mul-pos {m = suc g} {n = k} (omega arith) a) d in omega arith
some-convex k l i j m n (suc f) g a b c d e = let h = mul-pos {m = suc f * l} {n = i + j} (mul-pos {m = suc f} {n = l} (omega arith) b) c in omega arith

pub on-convex : (p q r t s : Homogeneous) → OnSegment p r q → OnSegment p t q → OnSegment r s t → OnSegment p s q
on-convex p q r t s a b c = record {
  k = c.k * (a.k * b.k);
  i = c.i * b.k * a.i + c.j * a.k * b.i;
  j = c.i * b.k * a.j + c.j * a.k * b.j;
  some_k = mul-pos c.some_k (mul-pos a.some_k b.some_k);
  some = some-convex a.k b.k a.i a.j b.i b.j c.i c.j a.some_k b.some_k a.some b.some c.some;
  sum = record {
    is_x = convex-one p.x q.x r.x t.x s.x a.k a.i a.j b.k b.i b.j c.k c.i c.j a.sum.is_x b.sum.is_x c.sum.is_x;
    is_y = convex-one p.y q.y r.y t.y s.y a.k a.i a.j b.k b.i b.j c.k c.i c.j a.sum.is_y b.sum.is_y c.sum.is_y;
    is_z = convex-one p.z q.z r.z t.z s.z a.k a.i a.j b.k b.i b.j c.k c.i c.j a.sum.is_z b.sum.is_z c.sum.is_z;
    is_w = convex-one p.w q.w r.w t.w s.w a.k a.i a.j b.k b.i b.j c.k c.i c.j a.sum.is_w b.sum.is_w c.sum.is_w;
  };
}

-- r between p and q, and x on the segment from r to q: r is on the segment from p to x, and isn't p there
nearer-one : (x y u v : ℤ) (k i j l m n : ℕ) → pos k *ℤ u ≡ pos i *ℤ x +ℤ pos j *ℤ y → pos l *ℤ v ≡ pos m *ℤ u +ℤ pos n *ℤ y → pos (n * k + j * m) *ℤ u ≡ pos (n * i) *ℤ x +ℤ pos (j * l) *ℤ v
nearer-one x y u v k i j l m n e f =
    follows (x ∷ y ∷ u ∷ v ∷ pos k ∷ pos i ∷ pos j ∷ pos l ∷ pos m ∷ pos n ∷ []) ((at 9 ⊗ at 4 ⊕ at 6 ⊗ at 8) ⊗ at 2) (at 9 ⊗ at 5 ⊗ at 0 ⊕ at 6 ⊗ at 7 ⊗ at 3)
    (given (at 9) (at 4 ⊗ at 2) (at 5 ⊗ at 0 ⊕ at 6 ⊗ at 1) e
    (given (num (pos 0) ⊖ at 6) (at 7 ⊗ at 3) (at 8 ⊗ at 2 ⊕ at 9 ⊗ at 1) f none)) tt

-- r is on the segment from p to q, and isn't p
pub record IsPastStart (p r q : Homogeneous) : Type 0 where
  pub k : ℕ
  pub i : ℕ
  pub j : ℕ
  pub some_k : 0 < k
  pub some_j : 0 < j
  pub sum : IsSum k r i p j q

pub past-mixed : (p r q : Homogeneous) → IsMixed p r q → IsPastStart p r q
past-mixed p r q m = record { k = m.k; i = m.i; j = m.j; some_k = m.some_k; some_j = m.some_j; sum = m.sum }

pub past-on : (p r q : Homogeneous) → IsPastStart p r q → OnSegment p r q
past-on p r q m = record { k = m.k; i = m.i; j = m.j; some_k = m.some_k; some = let s = m.some_j in omega arith; sum = m.sum }

some-past : (k j m n : ℕ) → 0 < k → 0 < j → 0 < m + n → 0 < n * k + j * m
some-past k j zero n a b c = let e = mul-pos {m = n} {n = k} (omega arith) a in omega arith
some-past k j (suc m) n a b c = let e = mul-pos {m = j} {n = suc m} b (omega arith) in omega arith

pub past-nearer : (p r q x : Homogeneous) → IsMixed p r q → OnSegment r x q → IsPastStart p r x
past-nearer p r q x a b = record {
  k = b.j * a.k + a.j * b.i;
  i = b.j * a.i;
  j = a.j * b.k;
  some_k = some-past a.k a.j b.i b.j a.some_k a.some_j b.some;
  some_j = mul-pos a.some_j b.some_k;
  sum = record {
    is_x = nearer-one p.x q.x r.x x.x a.k a.i a.j b.k b.i b.j a.sum.is_x b.sum.is_x;
    is_y = nearer-one p.y q.y r.y x.y a.k a.i a.j b.k b.i b.j a.sum.is_y b.sum.is_y;
    is_z = nearer-one p.z q.z r.z x.z a.k a.i a.j b.k b.i b.j a.sum.is_z b.sum.is_z;
    is_w = nearer-one p.w q.w r.w x.w a.k a.i a.j b.k b.i b.j a.sum.is_w b.sum.is_w;
  };
}

-- what is on the segment and isn't its start is past the start
pub on-past : (p r q : Homogeneous) → OnSegment p r q → (SameUpToFactor r p → ⊥) → IsPastStart p r q
on-past p r q m f = by m.k m.i m.j m.some_k m.some m.sum
  where
    by : (k i j : ℕ) → 0 < k → 0 < i + j → IsSum k r i p j q → IsPastStart p r q
    by k zero zero a b s = absurd (omega arith)
    by k (suc i) zero a b s = absurd (f (same-sum k r (suc i) p q a (omega arith) s))
    by k i (suc j) a b s = record { k = k; i = i; j = suc j; some_k = a; some_j = omega arith; sum = s }

-- r past p on the way to q, and s between p and r: s is between p and q
inner-one : (x y u v : ℤ) (k i j l m n : ℕ) → pos k *ℤ u ≡ pos i *ℤ x +ℤ pos j *ℤ y → pos l *ℤ v ≡ pos m *ℤ x +ℤ pos n *ℤ u → pos (l * k) *ℤ v ≡ pos (m * k + n * i) *ℤ x +ℤ pos (n * j) *ℤ y
inner-one x y u v k i j l m n e f =
    follows (x ∷ y ∷ u ∷ v ∷ pos k ∷ pos i ∷ pos j ∷ pos l ∷ pos m ∷ pos n ∷ []) (at 7 ⊗ at 4 ⊗ at 3) ((at 8 ⊗ at 4 ⊕ at 9 ⊗ at 5) ⊗ at 0 ⊕ at 9 ⊗ at 6 ⊗ at 1)
    (given (at 9) (at 4 ⊗ at 2) (at 5 ⊗ at 0 ⊕ at 6 ⊗ at 1) e
    (given (at 4) (at 7 ⊗ at 3) (at 8 ⊗ at 0 ⊕ at 9 ⊗ at 2) f none)) tt

pub mixed-inner : (p r q s : Homogeneous) → IsPastStart p r q → IsMixed p s r → IsMixed p s q
mixed-inner p r q s a b = record {
  k = b.k * a.k;
  i = b.i * a.k + b.j * a.i;
  j = b.j * a.j;
  some_k = mul-pos b.some_k a.some_k;
  some_i = omega (arith, mul-pos b.some_i a.some_k);
  some_j = mul-pos b.some_j a.some_j;
  sum = record {
    is_x = inner-one p.x q.x r.x s.x a.k a.i a.j b.k b.i b.j a.sum.is_x b.sum.is_x;
    is_y = inner-one p.y q.y r.y s.y a.k a.i a.j b.k b.i b.j a.sum.is_y b.sum.is_y;
    is_z = inner-one p.z q.z r.z s.z a.k a.i a.j b.k b.i b.j a.sum.is_z b.sum.is_z;
    is_w = inner-one p.w q.w r.w s.w a.k a.i a.j b.k b.i b.j a.sum.is_w b.sum.is_w;
  };
}

-- r on the segment from p to z, and z on the one from p to q: z is on the segment from r to q
after-one : (x y u v : ℤ) (k i j l m n : ℕ) → pos k *ℤ u ≡ pos i *ℤ x +ℤ pos j *ℤ v → pos l *ℤ v ≡ pos m *ℤ x +ℤ pos n *ℤ y → pos (i * l + m * j) *ℤ v ≡ pos (m * k) *ℤ u +ℤ pos (n * i) *ℤ y
after-one x y u v k i j l m n e f =
    follows (x ∷ y ∷ u ∷ v ∷ pos k ∷ pos i ∷ pos j ∷ pos l ∷ pos m ∷ pos n ∷ []) ((at 5 ⊗ at 7 ⊕ at 8 ⊗ at 6) ⊗ at 3) (at 8 ⊗ at 4 ⊗ at 2 ⊕ at 9 ⊗ at 5 ⊗ at 1)
    (given (num (pos 0) ⊖ at 8) (at 4 ⊗ at 2) (at 5 ⊗ at 0 ⊕ at 6 ⊗ at 3) e
    (given (at 5) (at 7 ⊗ at 3) (at 8 ⊗ at 0 ⊕ at 9 ⊗ at 1) f none)) tt

some-after : (m n k i : ℕ) → 0 < m + n → 0 < k → 0 < i → 0 < m * k + n * i
some-after zero n k i a b c = let e = mul-pos {m = n} {n = i} (omega arith) c in omega arith
some-after (suc m) n k i a b c = let e = mul-pos {m = suc m} {n = k} (omega arith) b in omega arith

pub on-after : (p r z q : Homogeneous) → OnSegment p r z → OnSegment p z q → OnSegment r z q
on-after p r z q a b = by a.k a.i a.j a.some_k a.some a.sum
  where
    by : (k i j : ℕ) → 0 < k → 0 < i + j → IsSum k r i p j z → OnSegment r z q
    by k zero j c d s = on-same r r q z (same-sym r z (same-sum k r j z p c (omega arith) (sum-turned k r 0 p j z s))) (on-start r q)
    by k (suc i) j c d s = record {
      k = suc i * b.k + b.i * j;
      i = b.i * k;
      j = b.j * suc i;
      some_k = let e = mul-pos {m = suc i} {n = b.k} (omega arith) b.some_k in omega arith;
      some = some-after b.i b.j k (suc i) b.some c (omega arith);
      sum = record {
        is_x = after-one p.x q.x r.x z.x k (suc i) j b.k b.i b.j s.is_x b.sum.is_x;
        is_y = after-one p.y q.y r.y z.y k (suc i) j b.k b.i b.j s.is_y b.sum.is_y;
        is_z = after-one p.z q.z r.z z.z k (suc i) j b.k b.i b.j s.is_z b.sum.is_z;
        is_w = after-one p.w q.w r.w z.w k (suc i) j b.k b.i b.j s.is_w b.sum.is_w;
      };
    }

-- ---- where s lies, with r past p on the way to q
sub-one : (a b : ℕ) → a < b → (d : ℕ) × (0 < d) × (a + d ≡ b)
sub-one a b h = (b - a, omega arith, omega arith)

part-left : (x y u v : ℤ) (k i j k0 i0 j0 d : ℕ) → pos k *ℤ u ≡ pos i *ℤ x +ℤ pos j *ℤ y → pos k0 *ℤ v ≡ pos i0 *ℤ x +ℤ pos j0 *ℤ y → j * i0 + d ≡ j0 * i
    → pos (j0 * k) *ℤ u ≡ pos d *ℤ x +ℤ pos (j * k0) *ℤ v
part-left x y u v k i j k0 i0 j0 d e f g =
    let g' = ap pos g in
    follows (x ∷ y ∷ u ∷ v ∷ pos k ∷ pos i ∷ pos j ∷ pos k0 ∷ pos i0 ∷ pos j0 ∷ pos d ∷ []) (at 9 ⊗ at 4 ⊗ at 2) (at 10 ⊗ at 0 ⊕ at 6 ⊗ at 7 ⊗ at 3)
    (given (at 9) (at 4 ⊗ at 2) (at 5 ⊗ at 0 ⊕ at 6 ⊗ at 1) e
    (given (num (pos 0) ⊖ at 6) (at 7 ⊗ at 3) (at 8 ⊗ at 0 ⊕ at 9 ⊗ at 1) f
    (given (num (pos 0) ⊖ at 0) (at 6 ⊗ at 8 ⊕ at 10) (at 9 ⊗ at 5) g' none))) tt

part-right : (x y u v : ℤ) (k i j k0 i0 j0 d : ℕ) → pos k *ℤ u ≡ pos i *ℤ x +ℤ pos j *ℤ y → pos k0 *ℤ v ≡ pos i0 *ℤ x +ℤ pos j0 *ℤ y → j0 * i + d ≡ j * i0
    → pos (i0 * k) *ℤ u ≡ pos (i * k0) *ℤ v +ℤ pos d *ℤ y
part-right x y u v k i j k0 i0 j0 d e f g =
    let g' = ap pos g in
    follows (x ∷ y ∷ u ∷ v ∷ pos k ∷ pos i ∷ pos j ∷ pos k0 ∷ pos i0 ∷ pos j0 ∷ pos d ∷ []) (at 8 ⊗ at 4 ⊗ at 2) (at 5 ⊗ at 7 ⊗ at 3 ⊕ at 10 ⊗ at 1)
    (given (at 8) (at 4 ⊗ at 2) (at 5 ⊗ at 0 ⊕ at 6 ⊗ at 1) e
    (given (num (pos 0) ⊖ at 5) (at 7 ⊗ at 3) (at 8 ⊗ at 0 ⊕ at 9 ⊗ at 1) f
    (given (num (pos 0) ⊖ at 1) (at 9 ⊗ at 5 ⊕ at 10) (at 6 ⊗ at 8) g' none))) tt

part-same : (x y u v : ℤ) (k i j k0 i0 j0 : ℕ) → pos k *ℤ u ≡ pos i *ℤ x +ℤ pos j *ℤ y → pos k0 *ℤ v ≡ pos i0 *ℤ x +ℤ pos j0 *ℤ y → j * i0 ≡ j0 * i
    → pos (i0 * k) *ℤ u ≡ pos (i * k0) *ℤ v
part-same x y u v k i j k0 i0 j0 e f g =
    let g' = ap pos g in
    follows (x ∷ y ∷ u ∷ v ∷ pos k ∷ pos i ∷ pos j ∷ pos k0 ∷ pos i0 ∷ pos j0 ∷ []) (at 8 ⊗ at 4 ⊗ at 2) (at 5 ⊗ at 7 ⊗ at 3)
    (given (at 8) (at 4 ⊗ at 2) (at 5 ⊗ at 0 ⊕ at 6 ⊗ at 1) e
    (given (num (pos 0) ⊖ at 5) (at 7 ⊗ at 3) (at 8 ⊗ at 0 ⊕ at 9 ⊗ at 1) f
    (given (at 1) (at 6 ⊗ at 8) (at 9 ⊗ at 5) g' none))) tt

-- a product that another one makes positive
some-left : (j i0 j0 i : ℕ) → 0 < j0 → 0 < i → j * i0 ≡ j0 * i → 0 < i0
some-left j zero j0 i a b e = let f = mul-pos {m = j0} {n = i} a b in absurd (omega arith)
some-left j (suc i0) j0 i a b e = omega arith

some-right : (j i0 x : ℕ) → x < j * i0 → 0 < i0
some-right j zero x l = absurd (omega arith)
some-right j (suc i0) x l = omega arith

module _ (p q r s : Homogeneous) (a : IsPastStart p r q) (b : IsMixed p s q) where
  -- s is before r, at r or after r
  pub before-at-after : IsMixed p s r ⊎ SameUpToFactor s r ⊎ IsMixed r s q
  before-at-after = by (cases_order (b.j * a.i) (a.j * b.i))
    where
      by : (b.j * a.i ≡ a.j * b.i) ⊎ ((b.j * a.i < a.j * b.i) ⊎ (a.j * b.i < b.j * a.i)) → IsMixed p s r ⊎ SameUpToFactor s r ⊎ IsMixed r s q
      by (inl e) = inr (inl (record {
        k = a.i * b.k;
        l = b.i * a.k;
        some_k = mul-pos (some-left b.j a.i a.j b.i a.some_j b.some_i e) b.some_k;
        some_l = mul-pos b.some_i a.some_k;
        is_x = part-same p.x q.x s.x r.x b.k b.i b.j a.k a.i a.j b.sum.is_x a.sum.is_x e;
        is_y = part-same p.y q.y s.y r.y b.k b.i b.j a.k a.i a.j b.sum.is_y a.sum.is_y e;
        is_z = part-same p.z q.z s.z r.z b.k b.i b.j a.k a.i a.j b.sum.is_z a.sum.is_z e;
        is_w = part-same p.w q.w s.w r.w b.k b.i b.j a.k a.i a.j b.sum.is_w a.sum.is_w e;
      }))
      by (inr (inl l)) = let d = sub-one (b.j * a.i) (a.j * b.i) l in inl (record {
        k = a.j * b.k;
        i = d.0;
        j = b.j * a.k;
        some_k = mul-pos a.some_j b.some_k;
        some_i = d.1;
        some_j = mul-pos b.some_j a.some_k;
        sum = record {
          is_x = part-left p.x q.x s.x r.x b.k b.i b.j a.k a.i a.j d.0 b.sum.is_x a.sum.is_x d.2;
          is_y = part-left p.y q.y s.y r.y b.k b.i b.j a.k a.i a.j d.0 b.sum.is_y a.sum.is_y d.2;
          is_z = part-left p.z q.z s.z r.z b.k b.i b.j a.k a.i a.j d.0 b.sum.is_z a.sum.is_z d.2;
          is_w = part-left p.w q.w s.w r.w b.k b.i b.j a.k a.i a.j d.0 b.sum.is_w a.sum.is_w d.2;
        };
      })
      by (inr (inr l)) = let d = sub-one (a.j * b.i) (b.j * a.i) l in inr (inr (record {
        k = a.i * b.k;
        i = b.i * a.k;
        j = d.0;
        some_k = mul-pos (some-right b.j a.i (a.j * b.i) l) b.some_k;
        some_i = mul-pos b.some_i a.some_k;
        some_j = d.1;
        sum = record {
          is_x = part-right p.x q.x s.x r.x b.k b.i b.j a.k a.i a.j d.0 b.sum.is_x a.sum.is_x d.2;
          is_y = part-right p.y q.y s.y r.y b.k b.i b.j a.k a.i a.j d.0 b.sum.is_y a.sum.is_y d.2;
          is_z = part-right p.z q.z s.z r.z b.k b.i b.j a.k a.i a.j d.0 b.sum.is_z a.sum.is_z d.2;
          is_w = part-right p.w q.w s.w r.w b.k b.i b.j a.k a.i a.j d.0 b.sum.is_w a.sum.is_w d.2;
        };
      }))

-- ---- the form of a plane through the origin, on a direction or a point
pub form-direction : (n : Vector) (v : Homogeneous) → form_on (direction_form n) v ≡ dot n (vector v.x v.y v.z)
form-direction n v = ring (n.x ∷ n.y ∷ n.z ∷ v.x ∷ v.y ∷ v.z ∷ v.w ∷ []) (at 0 ⊗ at 3 ⊕ at 1 ⊗ at 4 ⊕ at 2 ⊗ at 5 ⊕ num (pos 0) ⊗ at 6) (at 0 ⊗ at 3 ⊕ at 1 ⊗ at 4 ⊕ at 2 ⊗ at 5) tt
