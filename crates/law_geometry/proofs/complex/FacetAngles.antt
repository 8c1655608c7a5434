-- Angles in a plane by the signs of triple products, as forms of points; where a form is nought on a segment.
use Rattle.law_geometry.proofs.complex.Prelude.{◌≡◌, ℕ, ◌+◌, ◌*◌, ◌<◌, ℤ, pos, ◌+ℤ◌, ◌-ℤ◌, ◌*ℤ◌, ◌<ℤ◌, ◌≤ℤ◌, nat_abs, arith, ap, sym, ◌∙◌, ◌∷◌, ⊎_elim, [], ints, mul-pos, ring, at, num, neg, ◌⊕◌, ◌⊖◌, ◌⊗◌, Poly, given, none, follows, follows_times, mul_pos, mul_nonneg, plus-of, nonneg-of, mul_neg, minus-of, SpacePoint, Form, form_at, slope, plane_through, toward, IsBetween, Vector, opposite, dot, cross, triple, IsZero, IsDirection, SameDirection, of_point, IsMixed, form-mix, form-sum, mixed-mix, mixed-of, between-of, dot-zero, self-pos, triple-dot, triple-turned, opposite-dot, cross-turned, zero-decided, in-span}
use Rattle.law_geometry.proofs.sphere.Turning.{turns}

-- ---- parallel vectors on one side of a plane go one way
module _ (m u v : Vector) (z : IsZero (cross u v)) where
  same-by-products : (dot m u *ℤ dot u v) ≡ (dot m v *ℤ dot u u)
  same-by-products =
      let mx = at 0 in let my = at 1 in let mz = at 2 in
      let ux = at 3 in let uy = at 4 in let uz = at 5 in
      let vx = at 6 in let vy = at 7 in let vz = at 8 in
      follows (m.x ∷ m.y ∷ m.z ∷ u.x ∷ u.y ∷ u.z ∷ v.x ∷ v.y ∷ v.z ∷ [])
      ((mx ⊗ ux ⊕ my ⊗ uy ⊕ mz ⊗ uz) ⊗ (ux ⊗ vx ⊕ uy ⊗ vy ⊕ uz ⊗ vz)) ((mx ⊗ vx ⊕ my ⊗ vy ⊕ mz ⊗ vz) ⊗ (ux ⊗ ux ⊕ uy ⊗ uy ⊕ uz ⊗ uz))
      (given (my ⊗ uz ⊖ mz ⊗ uy) (uy ⊗ vz ⊖ uz ⊗ vy) (num (pos 0)) z.0
      (given (mz ⊗ ux ⊖ mx ⊗ uz) (uz ⊗ vx ⊖ ux ⊗ vz) (num (pos 0)) z.1
      (given (mx ⊗ uy ⊖ my ⊗ ux) (ux ⊗ vy ⊖ uy ⊗ vx) (num (pos 0)) z.2 none))) tt

  pub same-by : pos 0 <ℤ dot m u → pos 0 <ℤ dot m v → SameDirection u v
  same-by a b = record { parallel = z; forward = plain (dot m u) (dot m v) (dot u v) (dot u u) a b (self-pos u some) same-by-products }
    where
      some : IsDirection u
      some o = let e = dot-zero m u o in omega (arith, ints)

      plain : (mu mv uv uu : ℤ) → pos 0 <ℤ mu → pos 0 <ℤ mv → pos 0 <ℤ uu → mu *ℤ uv ≡ mv *ℤ uu → pos 0 <ℤ uv
      plain mu mv uv uu a b c e =
          let p = mul_pos mv uu b c in
          plus-of mu uv a (omega (arith, ints))

  -- what is parallel to a vector off the plane, and lies in the plane, is nought
  pub zero-by : dot m u <ℤ pos 0 → dot m v ≡ pos 0 → IsZero v
  zero-by a e = ⊎_elim (λ o. o) (λ i. absurd (let w = in-span m v u i (cross-turned u v z) e in omega (arith, ints))) (zero-decided v)

pub same-by-minus : (m u v : Vector) → IsZero (cross u v) → dot m u <ℤ pos 0 → dot m v <ℤ pos 0 → SameDirection u v
same-by-minus m u v z a b = same-by (opposite m) u v z (let e = opposite-dot m u in omega (arith, ints)) (let e = opposite-dot m v in omega (arith, ints))

-- ---- points on one line
pub cross-back : (d : Vector) (p q : SpacePoint) → IsZero (cross d (toward p q)) → IsZero (cross d (toward q p))
cross-back d p q z = (each d.y d.z p.y q.y p.z q.z z.0, each d.z d.x p.z q.z p.x q.x z.1, each d.x d.y p.x q.x p.y q.y z.2)
  where
    each : (a b x y x' y' : ℤ) → a *ℤ (y' *ℤ pos p.w -ℤ x' *ℤ pos q.w) -ℤ b *ℤ (y *ℤ pos p.w -ℤ x *ℤ pos q.w) ≡ pos 0 → a *ℤ (x' *ℤ pos q.w -ℤ y' *ℤ pos p.w) -ℤ b *ℤ (x *ℤ pos q.w -ℤ y *ℤ pos p.w) ≡ pos 0
    each a b x y x' y' e = follows (a ∷ b ∷ x ∷ y ∷ x' ∷ y' ∷ pos p.w ∷ pos q.w ∷ [])
        (at 0 ⊗ (at 4 ⊗ at 7 ⊖ at 5 ⊗ at 6) ⊖ at 1 ⊗ (at 2 ⊗ at 7 ⊖ at 3 ⊗ at 6)) (num (pos 0))
        (given (neg (num (pos 1))) (at 0 ⊗ (at 5 ⊗ at 6 ⊖ at 4 ⊗ at 7) ⊖ at 1 ⊗ (at 3 ⊗ at 6 ⊖ at 2 ⊗ at 7)) (num (pos 0)) e none) tt

-- where y, z and r are on one line, so are the ways from y to z and from r to z
pub aligned : (y z r : SpacePoint) → IsZero (cross (toward y z) (toward y r)) → IsZero (cross (toward y z) (toward r z))
aligned y z r e = (each y.y z.y r.y y.z z.z r.z e.0, each y.z z.z r.z y.x z.x r.x e.1, each y.x z.x r.x y.y z.y r.y e.2)
  where
    each : (a b c a' b' c' : ℤ) → (b *ℤ pos y.w -ℤ a *ℤ pos z.w) *ℤ (c' *ℤ pos y.w -ℤ a' *ℤ pos r.w) -ℤ (b' *ℤ pos y.w -ℤ a' *ℤ pos z.w) *ℤ (c *ℤ pos y.w -ℤ a *ℤ pos r.w) ≡ pos 0
        → (b *ℤ pos y.w -ℤ a *ℤ pos z.w) *ℤ (b' *ℤ pos r.w -ℤ c' *ℤ pos z.w) -ℤ (b' *ℤ pos y.w -ℤ a' *ℤ pos z.w) *ℤ (b *ℤ pos r.w -ℤ c *ℤ pos z.w) ≡ pos 0
    each a b c a' b' c' e =
        let u = at 1 ⊗ at 6 ⊖ at 0 ⊗ at 7 in let u' = at 4 ⊗ at 6 ⊖ at 3 ⊗ at 7 in
        let v = at 2 ⊗ at 6 ⊖ at 0 ⊗ at 8 in let v' = at 5 ⊗ at 6 ⊖ at 3 ⊗ at 8 in
        follows_times (a ∷ b ∷ c ∷ a' ∷ b' ∷ c' ∷ pos y.w ∷ pos z.w ∷ pos r.w ∷ []) (at 6)
        (u ⊗ (at 4 ⊗ at 8 ⊖ at 5 ⊗ at 7) ⊖ u' ⊗ (at 1 ⊗ at 8 ⊖ at 2 ⊗ at 7)) (num (pos 0))
        (given (neg (at 7)) (u ⊗ v' ⊖ u' ⊗ v) (num (pos 0)) e none) (let h = y.proper in omega (arith, ints)) tt

-- ---- the plane through p with the normal m
pub through-at : (m : Vector) (p q : SpacePoint) → form_at (plane_through m p) q ≡ dot m (toward p q)
through-at m p q = ring (m.x ∷ m.y ∷ m.z ∷ p.x ∷ p.y ∷ p.z ∷ pos p.w ∷ q.x ∷ q.y ∷ q.z ∷ pos q.w ∷ [])
    (at 0 ⊗ at 6 ⊗ at 7 ⊕ at 1 ⊗ at 6 ⊗ at 8 ⊕ at 2 ⊗ at 6 ⊗ at 9 ⊕ neg (at 0 ⊗ at 3 ⊕ at 1 ⊗ at 4 ⊕ at 2 ⊗ at 5) ⊗ at 10)
    (at 0 ⊗ (at 7 ⊗ at 6 ⊖ at 3 ⊗ at 10) ⊕ at 1 ⊗ (at 8 ⊗ at 6 ⊖ at 4 ⊗ at 10) ⊕ at 2 ⊗ (at 9 ⊗ at 6 ⊖ at 5 ⊗ at 10)) tt

pub through-slope : (m : Vector) (p : SpacePoint) (d : Vector) → slope (plane_through m p) d ≡ pos p.w *ℤ dot m d
through-slope m p d = ring (m.x ∷ m.y ∷ m.z ∷ pos p.w ∷ d.x ∷ d.y ∷ d.z ∷ [])
    (at 0 ⊗ at 3 ⊗ at 4 ⊕ at 1 ⊗ at 3 ⊗ at 5 ⊕ at 2 ⊗ at 3 ⊗ at 6) (at 3 ⊗ (at 0 ⊗ at 4 ⊕ at 1 ⊗ at 5 ⊕ at 2 ⊗ at 6)) tt

-- ---- angles about y, seen from the normal n: positive where q lies to the left of p
abbrev pub angle : Vector → SpacePoint → SpacePoint → SpacePoint → ℤ
angle n y p q = triple n (toward y p) (toward y q)

-- the form of the line from y to p
abbrev pub turn_form : Vector → SpacePoint → SpacePoint → Form
turn_form n y p = plane_through (cross n (toward y p)) y

pub turn-at : (n : Vector) (y p q : SpacePoint) → form_at (turn_form n y p) q ≡ angle n y p q
turn-at n y p q = through-at (cross n (toward y p)) y q ∙ sym (triple-dot n (toward y p) (toward y q))

pub angle-turned : (n : Vector) (y p q : SpacePoint) → angle n y p q ≡ pos 0 -ℤ angle n y q p
angle-turned n y p q = triple-turned n (toward y p) (toward y q)

pub angle-self : (n : Vector) (y p : SpacePoint) → angle n y p p ≡ pos 0
angle-self n y p = let e = angle-turned n y p p in omega (arith, ints)

pub angle-start : (n : Vector) (y p : SpacePoint) → angle n y p y ≡ pos 0
angle-start n y p = dot-zero n (cross (toward y p) (toward y y)) (each p.y p.z y.y y.z, each p.z p.x y.z y.x, each p.x p.y y.x y.y)
  where
    each : (a b c d : ℤ) → (a *ℤ pos y.w -ℤ c *ℤ pos p.w) *ℤ (d *ℤ pos y.w -ℤ d *ℤ pos y.w) -ℤ (b *ℤ pos y.w -ℤ d *ℤ pos p.w) *ℤ (c *ℤ pos y.w -ℤ c *ℤ pos y.w) ≡ pos 0
    each a b c d = ring (a ∷ b ∷ c ∷ d ∷ pos y.w ∷ pos p.w ∷ []) ((at 0 ⊗ at 4 ⊖ at 2 ⊗ at 5) ⊗ (at 3 ⊗ at 4 ⊖ at 3 ⊗ at 4) ⊖ (at 1 ⊗ at 4 ⊖ at 3 ⊗ at 5) ⊗ (at 2 ⊗ at 4 ⊖ at 2 ⊗ at 4)) (num (pos 0)) tt

-- from z to w, y lies on the side on which, seen from y, w lies left of z
-- the way from p to q, and the turn from the way to p to the way to q, seen from y, where a list has their numbers from
-- these on, and those of the normal from 0
abbrev pub way_entry : ℕ → ℕ → ℕ → Poly
way_entry p q k = at (q + k) ⊗ at (p + 3) ⊖ at (p + k) ⊗ at (q + 3)

abbrev pub turn_entry : ℕ → ℕ → ℕ → Poly
turn_entry y p q = at 0 ⊗ (way_entry y p 1 ⊗ way_entry y q 2 ⊖ way_entry y p 2 ⊗ way_entry y q 1) ⊕ at 1 ⊗ (way_entry y p 2 ⊗ way_entry y q 0 ⊖ way_entry y p 0 ⊗ way_entry y q 2) ⊕ at 2 ⊗ (way_entry y p 0 ⊗ way_entry y q 1 ⊖ way_entry y p 1 ⊗ way_entry y q 0)

pub angle-cyclic : (n : Vector) (y z w : SpacePoint) → pos z.w *ℤ angle n y z w ≡ pos y.w *ℤ angle n z w y
angle-cyclic n y z w = ring (n.x ∷ n.y ∷ n.z ∷ y.x ∷ y.y ∷ y.z ∷ pos y.w ∷ z.x ∷ z.y ∷ z.z ∷ pos z.w ∷ w.x ∷ w.y ∷ w.z ∷ pos w.w ∷ [])
    (at 10 ⊗ turn_entry 3 7 11) (at 6 ⊗ turn_entry 7 11 3) tt

pub angle-inside : (n : Vector) (y z w : SpacePoint) → pos 0 <ℤ angle n y z w → pos 0 <ℤ angle n z w y
angle-inside n y z w h = plain (angle n y z w) (angle n z w y) (angle-cyclic n y z w) h
  where
    plain : (a b : ℤ) → pos z.w *ℤ a ≡ pos y.w *ℤ b → pos 0 <ℤ a → pos 0 <ℤ b
    plain a b e h =
        let p = mul_pos (pos z.w) a (let l = z.proper in omega (arith, ints)) h in
        plus-of (pos y.w) b (let l = y.proper in omega (arith, ints)) (omega (arith, ints))

-- ---- the order of angles within a half-turn from z
-- [za][cb] = [zc][ab] + [zb][ca]
order-by : (n z a b c : Vector) → triple n z a *ℤ triple n c b ≡ triple n z c *ℤ triple n a b +ℤ triple n z b *ℤ triple n c a
order-by n z a b c = plain (triple n z a *ℤ triple n c b) (triple n z c *ℤ triple n a b) (triple n z b) (triple n a c) (triple n c a) (turns n z a c b) (triple-turned n a c)
  where
    plain : (p q r s t : ℤ) → p ≡ q -ℤ r *ℤ s → s ≡ pos 0 -ℤ t → p ≡ q +ℤ r *ℤ t
    plain p q r s t e f = e ∙ ap (λ x. q -ℤ r *ℤ x) f ∙ ring (q ∷ r ∷ t ∷ []) (at 0 ⊖ at 1 ⊗ (num (pos 0) ⊖ at 2)) (at 0 ⊕ at 1 ⊗ at 2) tt

-- in plain numbers, so that no tactic sees what a triple is made of
at-least : (za cb zc ab zb ca : ℤ) → za *ℤ cb ≡ zc *ℤ ab +ℤ zb *ℤ ca → pos 0 <ℤ za → pos 0 ≤ℤ zc → pos 0 ≤ℤ ab → pos 0 ≤ℤ zb → pos 0 ≤ℤ ca → pos 0 ≤ℤ cb
at-least za cb zc ab zb ca e h i j k l =
    let p = mul_nonneg zc ab i j in
    let q = mul_nonneg zb ca k l in
    nonneg-of za cb h (omega (arith, ints))

more : (za cb zc ab zb ca : ℤ) → za *ℤ cb ≡ zc *ℤ ab +ℤ zb *ℤ ca → pos 0 <ℤ za → pos 0 ≤ℤ zc → pos 0 ≤ℤ ab → pos 0 <ℤ zb → pos 0 <ℤ ca → pos 0 <ℤ cb
more za cb zc ab zb ca e h i j k l =
    let p = mul_nonneg zc ab i j in
    let q = mul_pos zb ca k l in
    plus-of za cb h (omega (arith, ints))

pub angle-trans : (n : Vector) (y z a b c : SpacePoint) → pos 0 <ℤ angle n y z a → pos 0 ≤ℤ angle n y z b → pos 0 ≤ℤ angle n y z c → pos 0 ≤ℤ angle n y c a → pos 0 ≤ℤ angle n y a b → pos 0 ≤ℤ angle n y c b
angle-trans n y z a b c h i j k l =
    at-least (angle n y z a) (angle n y c b) (angle n y z c) (angle n y a b) (angle n y z b) (angle n y c a) (order-by n (toward y z) (toward y a) (toward y b) (toward y c)) h j l i k

pub angle-before : (n : Vector) (y z t w c : SpacePoint) → pos 0 <ℤ angle n y z t → pos 0 <ℤ angle n y z w → pos 0 ≤ℤ angle n y z c → pos 0 <ℤ angle n y c t → pos 0 ≤ℤ angle n y t w → pos 0 <ℤ angle n y c w
angle-before n y z t w c h i j k l =
    more (angle n y z t) (angle n y c w) (angle n y z c) (angle n y t w) (angle n y z w) (angle n y c t) (order-by n (toward y z) (toward y t) (toward y w) (toward y c)) h j l i k

-- ---- forms on a segment
module _ (h : Form) (p r q : SpacePoint) (b : IsBetween p r q) where
  sum-at : (m : IsMixed (of_point p) (of_point r) (of_point q)) → pos m.k *ℤ form_at h r ≡ pos m.i *ℤ form_at h p +ℤ pos m.j *ℤ form_at h q
  sum-at m = form-sum h m.k (of_point r) m.i (of_point p) m.j (of_point q) m.sum

  pub between-plus : pos 0 <ℤ form_at h p → pos 0 ≤ℤ form_at h q → pos 0 <ℤ form_at h r
  between-plus x y = let m = mixed-of p r q b in plain (form_at h p) (form_at h r) (form_at h q) m.k m.i m.j m.some_k m.some_i (sum-at m) x y
    where
      plain : (a c d : ℤ) (k i j : ℕ) → 0 < k → 0 < i → pos k *ℤ c ≡ pos i *ℤ a +ℤ pos j *ℤ d → pos 0 <ℤ a → pos 0 ≤ℤ d → pos 0 <ℤ c
      plain a c d k i j sk si e x y =
          let u = mul_pos (pos i) a (omega (arith, ints)) x in
          let v = mul_nonneg (pos j) d (omega (arith, ints)) y in
          plus-of (pos k) c (omega (arith, ints)) (omega (arith, ints))

  pub between-minus : form_at h p ≡ pos 0 → form_at h q <ℤ pos 0 → form_at h r <ℤ pos 0
  between-minus x y = let m = mixed-of p r q b in plain (form_at h p) (form_at h r) (form_at h q) m.k m.i m.j m.some_k m.some_j (sum-at m) x y
    where
      plain : (a c d : ℤ) (k i j : ℕ) → 0 < k → 0 < j → pos k *ℤ c ≡ pos i *ℤ a +ℤ pos j *ℤ d → a ≡ pos 0 → d <ℤ pos 0 → c <ℤ pos 0
      plain a c d k i j sk sj e x y =
          let u = mul_neg (pos j) d (omega (arith, ints)) (omega (arith, ints)) in
          let w = ap (λ r. pos i *ℤ r) x ∙ ring (pos i ∷ []) (at 0 ⊗ num (pos 0)) (num (pos 0)) tt in
          minus-of (pos k) c (omega (arith, ints)) (omega (arith, ints))

  -- a form that is nought between and negative at the start is positive at the end
  pub between-level : form_at h r ≡ pos 0 → form_at h p <ℤ pos 0 → pos 0 <ℤ form_at h q
  between-level x y = let m = mixed-of p r q b in plain (form_at h p) (form_at h r) (form_at h q) m.k m.i m.j m.some_i m.some_j (sum-at m) x y
    where
      plain : (a c d : ℤ) (k i j : ℕ) → 0 < i → 0 < j → pos k *ℤ c ≡ pos i *ℤ a +ℤ pos j *ℤ d → c ≡ pos 0 → a <ℤ pos 0 → pos 0 <ℤ d
      plain a c d k i j si sj e x y =
          let u = mul_neg (pos i) a (omega (arith, ints)) (omega (arith, ints)) in
          let w = ap (λ r. pos k *ℤ r) x ∙ ring (pos k ∷ []) (at 0 ⊗ num (pos 0)) (num (pos 0)) tt in
          plus-of (pos j) d (omega (arith, ints)) (omega (arith, ints))

  -- and one that is positive at the start is negative at the end
  pub between-level_minus : form_at h r ≡ pos 0 → pos 0 <ℤ form_at h p → form_at h q <ℤ pos 0
  between-level_minus x y = let m = mixed-of p r q b in plain (form_at h p) (form_at h r) (form_at h q) m.k m.i m.j m.some_i m.some_j (sum-at m) x y
    where
      plain : (a c d : ℤ) (k i j : ℕ) → 0 < i → 0 < j → pos k *ℤ c ≡ pos i *ℤ a +ℤ pos j *ℤ d → c ≡ pos 0 → pos 0 <ℤ a → d <ℤ pos 0
      plain a c d k i j si sj e x y =
          let u = mul_pos (pos i) a (omega (arith, ints)) y in
          let w = ap (λ r. pos k *ℤ r) x ∙ ring (pos k ∷ []) (at 0 ⊗ num (pos 0)) (num (pos 0)) tt in
          minus-of (pos j) d (omega (arith, ints)) (omega (arith, ints))

-- where a form changes its sign it is nought between
pub record Cut (h : Form) (p q : SpacePoint) : Type 0 where
  pub place : SpacePoint
  pub between : IsBetween p place q
  pub level : form_at h place ≡ pos 0

pub cut-at : (h : Form) (p q : SpacePoint) → IsDirection (toward p q) → pos 0 <ℤ form_at h p → form_at h q <ℤ pos 0 → Cut h p q
cut-at h p q d x y =
    let i = nat_abs (form_at h q) in
    let j = nat_abs (form_at h p) in
    let si : 0 < i = omega (arith, ints) in
    let sj : 0 < j = omega (arith, ints) in
    let r : SpacePoint = record {
      x = pos i *ℤ p.x +ℤ pos j *ℤ q.x;
      y = pos i *ℤ p.y +ℤ pos j *ℤ q.y;
      z = pos i *ℤ p.z +ℤ pos j *ℤ q.z;
      w = i * p.w + j * q.w;
      proper = (let m = mul-pos si p.proper in omega arith);
    } in
    record {
      place = r;
      between = between-of p r q d (mixed-mix i (of_point p) j (of_point q) si sj);
      level = form-mix h i (of_point p) j (of_point q) ∙ plain (form_at h p) (form_at h q) x y;
    }
  where
    plain : (a b : ℤ) → pos 0 <ℤ a → b <ℤ pos 0 → pos (nat_abs b) *ℤ a +ℤ pos (nat_abs a) *ℤ b ≡ pos 0
    plain a b x y =
        let e : pos (nat_abs b) ≡ pos 0 -ℤ b = omega (arith, ints) in
        let f : pos (nat_abs a) ≡ a = omega (arith, ints) in
        ap (λ r. r *ℤ a +ℤ pos (nat_abs a) *ℤ b) e ∙ ap (λ r. (pos 0 -ℤ b) *ℤ a +ℤ r *ℤ b) f ∙ ring (a ∷ b ∷ []) ((num (pos 0) ⊖ at 1) ⊗ at 0 ⊕ at 0 ⊗ at 1) (num (pos 0)) tt
