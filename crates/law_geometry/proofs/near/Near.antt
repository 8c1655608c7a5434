-- Close to a point the sign of a form that isn't nought there stays; short steps stay close; rays and differences of points.
use Rattle.law_geometry.proofs.near.Prelude.{◌≡◌, ℕ, ◌+◌, ◌*◌, ◌<◌, ◌≤◌, ℤ, pos, negsuc, ◌+ℤ◌, ◌-ℤ◌, ◌*ℤ◌, ◌<ℤ◌, nat_abs, arith, refl, ap, sym, ◌∙◌, inl, inr, ⊎_elim, List, ◌∷◌, subst, [], ints, unsigned_abs-mul, mul-le, cases_lt, mul-le-mul_left, mul-pos, mul-lt-mul_of_pos_right, lt_of_mul-lt-mul_right, ring, at, num, ◌⊕◌, ◌⊖◌, ◌⊗◌, follows, given, none, Sign, minus, nought, plus, sign, sign-plus, sign-minus, sign-scaled, plus-is, minus-is, nought-is, abs_plus, abs_times, mul_nonneg, mul_pos, mul_le_right, cancel_lt, Vector, SpacePoint, Form, form_at, slope, Ratio, step, NearNumber, Within, SamePoint, toward, IsShort}
use Rattle.nef_space.proofs.Order.{Lies}
pub use Rattle.law_geometry.specs.near.Near.{reach, reach_all, span, unit_ratio}
use Rattle.law_geometry.specs.near.Cells.{sign_at}
use Rattle.law_geometry.proofs.near.Far.{sign-large}

-- ---- identities
pub form-step : (h : Form) (p : SpacePoint) (t : Ratio) (d : Vector) → form_at h (step p t d) ≡ pos t.b *ℤ form_at h p +ℤ t.a *ℤ pos p.w *ℤ slope h d
form-step h p t d =
    let a = at 0 in let b = at 1 in let c = at 2 in let e = at 3 in
    let x = at 4 in let y = at 5 in let z = at 6 in let w = at 7 in
    let dx = at 8 in let dy = at 9 in let dz = at 10 in let n = at 11 in let m = at 12 in
    ring (h.a ∷ h.b ∷ h.c ∷ h.d ∷ p.x ∷ p.y ∷ p.z ∷ pos p.w ∷ d.x ∷ d.y ∷ d.z ∷ t.a ∷ pos t.b ∷ [])
    (a ⊗ (x ⊗ m ⊕ n ⊗ w ⊗ dx) ⊕ b ⊗ (y ⊗ m ⊕ n ⊗ w ⊗ dy) ⊕ c ⊗ (z ⊗ m ⊕ n ⊗ w ⊗ dz) ⊕ e ⊗ (w ⊗ m))
    (m ⊗ (a ⊗ x ⊕ b ⊗ y ⊕ c ⊗ z ⊕ e ⊗ w) ⊕ n ⊗ w ⊗ (a ⊗ dx ⊕ b ⊗ dy ⊕ c ⊗ dz)) tt

-- how far q lies from p in one coordinate, times both denominators
abbrev pub gap : ℤ → ℕ → ℤ → ℕ → ℤ
gap s v t w = s *ℤ pos w -ℤ t *ℤ pos v

pub slope-toward : (h : Form) (p q : SpacePoint) → slope h (toward p q) ≡ pos p.w *ℤ form_at h q -ℤ pos q.w *ℤ form_at h p
slope-toward h p q =
    let a = at 0 in let b = at 1 in let c = at 2 in let d = at 3 in
    let x = at 4 in let y = at 5 in let z = at 6 in let w = at 7 in
    let x' = at 8 in let y' = at 9 in let z' = at 10 in let w' = at 11 in
    ring (h.a ∷ h.b ∷ h.c ∷ h.d ∷ p.x ∷ p.y ∷ p.z ∷ pos p.w ∷ q.x ∷ q.y ∷ q.z ∷ pos q.w ∷ [])
    (a ⊗ (x' ⊗ w ⊖ x ⊗ w') ⊕ b ⊗ (y' ⊗ w ⊖ y ⊗ w') ⊕ c ⊗ (z' ⊗ w ⊖ z ⊗ w'))
    (w ⊗ (a ⊗ x' ⊕ b ⊗ y' ⊕ c ⊗ z' ⊕ d ⊗ w') ⊖ w' ⊗ (a ⊗ x ⊕ b ⊗ y ⊕ c ⊗ z ⊕ d ⊗ w)) tt

-- ---- close points
pub weaken : (m n : ℕ) (p q : SpacePoint) → m ≤ n → Within n p q → Within m p q
weaken m n p q l c = record { along_x = less (nat_abs (gap q.x q.w p.x p.w)) c.along_x; along_y = less (nat_abs (gap q.y q.w p.y p.w)) c.along_y; along_z = less (nat_abs (gap q.z q.w p.z p.w)) c.along_z }
  where
    less : (k : ℕ) → n * k < q.w * p.w → m * k < q.w * p.w
    less k h = omega (arith, mul-le m k n k l (omega arith))

-- the same in plain numbers
small-sum : (a b c x y z v w : ℕ) → 0 < v → ((a + b + c) * w + 1) * x < v * w → ((a + b + c) * w + 1) * y < v * w → ((a + b + c) * w + 1) * z < v * w → a * x + b * y + c * z < v
small-sum a b c x y z v w p f g h = ⊎_elim (λ l. l) (λ l.
    let n = (a + b + c) * w + 1 in
    let i = mul-le-mul_left {m = n * x} {n = v * w} a (omega arith) in
    let j = mul-le-mul_left {m = n * y} {n = v * w} b (omega arith) in
    let k = mul-le-mul_left {m = n * z} {n = v * w} c (omega arith) in
    let o = mul-le-mul_left n l in
    absurd (omega arith)) (cases_lt (a * x + b * y + c * z) v)

small-slope : (h : Form) (p q : SpacePoint) → Within (reach h p) p q → nat_abs (slope h (toward p q)) < q.w
small-slope h p q c =
    let dx = gap q.x q.w p.x p.w in
    let dy = gap q.y q.w p.y p.w in
    let dz = gap q.z q.w p.z p.w in
    let s = small-sum (nat_abs h.a) (nat_abs h.b) (nat_abs h.c) (nat_abs dx) (nat_abs dy) (nat_abs dz) q.w p.w q.proper c.along_x c.along_y c.along_z in
    let l = abs_plus (h.a *ℤ dx) (h.b *ℤ dy) (nat_abs h.a * nat_abs dx) (nat_abs h.b * nat_abs dy) (abs_times h.a dx (nat_abs h.a) (nat_abs dx) (omega arith) (omega arith)) (abs_times h.b dy (nat_abs h.b) (nat_abs dy) (omega arith) (omega arith)) in
    let m = abs_plus (h.a *ℤ dx +ℤ h.b *ℤ dy) (h.c *ℤ dz) (nat_abs h.a * nat_abs dx + nat_abs h.b * nat_abs dy) (nat_abs h.c * nat_abs dz) l (abs_times h.c dz (nat_abs h.c) (nat_abs dz) (omega arith) (omega arith)) in
    omega (arith, m, s)

-- F, G the form at p and q, S its slope from p toward q
keeps-plus : (f g s : ℤ) (v w : ℕ) → 0 < w → s ≡ pos w *ℤ g -ℤ pos v *ℤ f → nat_abs s < v → pos 0 <ℤ f → pos 0 <ℤ g
keeps-plus f g s v w p e l h =
    let k = mul_le_right (pos 1) f (pos v) (omega (arith, ints)) (omega (arith, ints)) in
    let i = ring (pos v ∷ f ∷ []) (at 0 ⊗ at 1) (at 1 ⊗ at 0) tt in
    let j = ring (pos w ∷ g ∷ []) (at 0 ⊗ at 1) (at 1 ⊗ at 0) tt in
    let m : (pos 0 *ℤ pos w) <ℤ (g *ℤ pos w) = omega (arith, ints) in
    cancel_lt (pos 0) g (pos w) (omega (arith, ints)) m

keeps-minus : (f g s : ℤ) (v w : ℕ) → 0 < w → s ≡ pos w *ℤ g -ℤ pos v *ℤ f → nat_abs s < v → f <ℤ pos 0 → g <ℤ pos 0
keeps-minus f g s v w p e l h =
    let k = mul_le_right f (negsuc 0) (pos v) (omega (arith, ints)) (omega (arith, ints)) in
    let i = ring (pos v ∷ f ∷ []) (at 0 ⊗ at 1) (at 1 ⊗ at 0) tt in
    let j = ring (pos w ∷ g ∷ []) (at 0 ⊗ at 1) (at 1 ⊗ at 0) tt in
    let m : (g *ℤ pos w) <ℤ (pos 0 *ℤ pos w) = omega (arith, ints) in
    cancel_lt g (pos 0) (pos w) (omega (arith, ints)) m

-- a form that isn't nought at p keeps its sign near p
pub keeps : (h : Form) (p q : SpacePoint) → Within (reach h p) p q → (sign_at h p ≡ nought → ⊥) → sign_at h q ≡ sign_at h p
keeps h p q c n = by (sign_at h p) refl
  where
    by : (s : Sign) → sign_at h p ≡ s → sign_at h q ≡ sign_at h p
    by minus e = sign-minus (form_at h q) (keeps-minus (form_at h p) (form_at h q) (slope h (toward p q)) q.w p.w p.proper (slope-toward h p q) (small-slope h p q c) (minus-is (form_at h p) e)) ∙ sym e
    by nought e = absurd (n e)
    by plus e = sign-plus (form_at h q) (keeps-plus (form_at h p) (form_at h q) (slope h (toward p q)) q.w p.w p.proper (slope-toward h p q) (small-slope h p q c) (plus-is (form_at h p) e)) ∙ sym e

-- ---- short steps
abbrev pub length_of : Vector → ℕ
length_of d = nat_abs d.x + nat_abs d.y + nat_abs d.z

abbrev pub stride : ℕ → Vector → ℕ
stride n d = n * length_of d + 1

-- one coordinate: |u| = a w w |d|, with n |d| < m and m a < b
short-one : (n a b w d l : ℕ) → 0 < w → 0 < a → d ≤ l → (n * l + 1) * a < b → n * (a * w * w * d) < w * b * w
short-one n a b w d l p o k h =
    let i = mul-le-mul_left (n * a) k in
    let j : n * a * d < b = omega arith in
    let e = mul-lt-mul_of_pos_right {k = w * w} j (mul-pos p p) in
    omega arith

short-ratio : (m : ℕ) (t : Ratio) → IsShort m t → m * nat_abs t.a < t.b
short-ratio m t h =
    let e = unsigned_abs-mul (pos m) t.a in
    let f : pos 0 <ℤ t.a = h.0 in
    let g : (pos m *ℤ t.a) <ℤ pos t.b = h.1 in
    let k = mul_nonneg (pos m) t.a (omega (arith, ints)) (omega (arith, ints)) in
    omega (arith, ints)

step-gap : (x : ℤ) (t : Ratio) (w : ℕ) (d : ℤ) → gap (x *ℤ pos t.b +ℤ t.a *ℤ pos w *ℤ d) (w * t.b) x w ≡ t.a *ℤ pos w *ℤ pos w *ℤ d
step-gap x t w d = let x' = at 0 in let b = at 1 in let a = at 2 in let v = at 3 in let e = at 4 in
    ring (x ∷ pos t.b ∷ t.a ∷ pos w ∷ d ∷ []) ((x' ⊗ b ⊕ a ⊗ v ⊗ e) ⊗ v ⊖ x' ⊗ (v ⊗ b)) (a ⊗ v ⊗ v ⊗ e) tt

pub step-within : (n : ℕ) (p : SpacePoint) (d : Vector) (t : Ratio) → IsShort (stride n d) t → Within n p (step p t d)
step-within n p d t h = record { along_x = one p.x d.x (omega arith); along_y = one p.y d.y (omega arith); along_z = one p.z d.z (omega arith) }
  where
    one : (x e : ℤ) → nat_abs e ≤ length_of d → n * nat_abs (gap (x *ℤ pos t.b +ℤ t.a *ℤ pos p.w *ℤ e) (p.w * t.b) x p.w) < p.w * t.b * p.w
    one x e l =
        let s = short-ratio (stride n d) t h in
        let f : pos 0 <ℤ t.a = h.0 in
        let g : 0 < nat_abs t.a = omega (arith, ints) in
        let k = short-one n (nat_abs t.a) t.b p.w (nat_abs e) (length_of d) p.proper g l s in
        let i = ap nat_abs (step-gap x t p.w e) ∙ unsigned_abs-mul (t.a *ℤ pos p.w *ℤ pos p.w) e ∙ ap (λ r. r * nat_abs e) (unsigned_abs-mul (t.a *ℤ pos p.w) (pos p.w) ∙ ap (λ r. r * p.w) (unsigned_abs-mul t.a (pos p.w))) in
        let m = ap (λ r. n * r) i in
        omega arith

-- ---- lists of forms
pub keeps-all : (hs : List Form) (p q : SpacePoint) → Within (reach_all hs p) p q → (h : Form) → Lies hs h → (form_at h p ≡ pos 0 → ⊥) → sign_at h q ≡ sign_at h p
keeps-all [] p q c h l n = absurd l
keeps-all (k ∷ ks) p q c h (inl e) n = subst (λ (g : Form). sign_at g q ≡ sign_at g p) e
    (keeps k p q (weaken (reach k p) (reach k p + reach_all ks p) p q (omega arith) c) (λ z. n (subst (λ (g : Form). form_at g p ≡ pos 0) e (nought-is (form_at k p) z))))
keeps-all (k ∷ ks) p q c h (inr l) n = keeps-all ks p q (weaken (reach_all ks p) (reach k p + reach_all ks p) p q (omega arith) c) h l n

-- ---- along a ray
pub ray-level : (h : Form) (p : SpacePoint) (t : Ratio) (d : Vector) → pos 0 <ℤ t.a → form_at h p ≡ pos 0 → sign_at h (step p t d) ≡ sign (slope h d)
ray-level h p t d s z =
    let e = form-step h p t d ∙ ap (λ r. pos t.b *ℤ r +ℤ t.a *ℤ pos p.w *ℤ slope h d) z ∙ ring (pos t.b ∷ t.a ∷ pos p.w ∷ slope h d ∷ []) (at 0 ⊗ num (pos 0) ⊕ at 1 ⊗ at 2 ⊗ at 3) (at 1 ⊗ at 2 ⊗ at 3) tt in
    let w = p.proper in
    ap sign e ∙ sign-scaled (t.a *ℤ pos p.w) (slope h d) (mul_pos t.a (pos p.w) s (omega (arith, ints)))

pub ray-keeps : (h : Form) (p : SpacePoint) (t : Ratio) (d : Vector) → IsShort (span h p d) t → (form_at h p ≡ pos 0 → ⊥) → sign_at h (step p t d) ≡ sign_at h p
ray-keeps h p t d s f =
    let m = short-ratio (span h p d) t s in
    let c = t.a *ℤ pos p.w *ℤ slope h d in
    let i = unsigned_abs-mul (t.a *ℤ pos p.w) (slope h d) ∙ ap (λ r. r * nat_abs (slope h d)) (unsigned_abs-mul t.a (pos p.w)) in
    let l : nat_abs c < t.b = omega arith in
    let e : form_at h (step p t d) ≡ pos t.b *ℤ form_at h p +ℤ pos 1 *ℤ c = form-step h p t d ∙ ap (λ r. pos t.b *ℤ form_at h p +ℤ r) (ring (c ∷ []) (at 0) (num (pos 1) ⊗ at 0) tt) in
    ap sign e ∙ sign-large t.b (form_at h p) c l f

-- ---- the difference of two points
pub difference : (p q : SpacePoint) → SamePoint q (step p (unit_ratio p q) (toward p q))
difference p q = record { along_x = one p.x q.x; along_y = one p.y q.y; along_z = one p.z q.z }
  where
    one : (x y : ℤ) → y *ℤ pos (p.w * (p.w * q.w)) ≡ (x *ℤ pos (p.w * q.w) +ℤ pos 1 *ℤ pos p.w *ℤ (y *ℤ pos p.w -ℤ x *ℤ pos q.w)) *ℤ pos q.w
    one x y = ring (x ∷ y ∷ pos p.w ∷ pos q.w ∷ []) (at 1 ⊗ (at 2 ⊗ (at 2 ⊗ at 3))) ((at 0 ⊗ (at 2 ⊗ at 3) ⊕ num (pos 1) ⊗ at 2 ⊗ (at 1 ⊗ at 2 ⊖ at 0 ⊗ at 3)) ⊗ at 3) tt

-- ---- within doesn't see a factor
within-one : (n : ℕ) (x x' y y' : ℤ) (v v' w w' : ℕ) → 0 < v → 0 < w → 0 < v' → 0 < w' → x *ℤ pos v' ≡ x' *ℤ pos v → y *ℤ pos w' ≡ y' *ℤ pos w → NearNumber n x v y w → NearNumber n x' v' y' w'
within-one n x x' y y' v v' w w' a b a' b' e f h =
    let i = follows (x ∷ x' ∷ y ∷ y' ∷ pos v ∷ pos v' ∷ pos w ∷ pos w' ∷ [])
    (at 4 ⊗ at 6 ⊗ (at 1 ⊗ at 7 ⊖ at 3 ⊗ at 5)) (at 5 ⊗ at 7 ⊗ (at 0 ⊗ at 6 ⊖ at 2 ⊗ at 4))
    (given (num (pos 0) ⊖ at 6 ⊗ at 7) (at 0 ⊗ at 5) (at 1 ⊗ at 4) e
    (given (at 4 ⊗ at 5) (at 2 ⊗ at 7) (at 3 ⊗ at 6) f none)) tt in
    let j = sym (unsigned_abs-mul (pos (v * w)) (x' *ℤ pos w' -ℤ y' *ℤ pos v')) ∙ ap nat_abs i ∙ unsigned_abs-mul (pos (v' * w')) (x *ℤ pos w -ℤ y *ℤ pos v) in
    let k = ap (λ (r : ℕ). n * r) j in
    let l = mul-lt-mul_of_pos_right {k = v' * w'} h (mul-pos a' b') in
    lt_of_mul-lt-mul_right (v * w) {m = n * nat_abs (x' *ℤ pos w' -ℤ y' *ℤ pos v')} {n = v' * w'} (omega arith)

pub within-same : (n : ℕ) (p p' q q' : SpacePoint) → SamePoint p p' → SamePoint q q' → Within n p q → Within n p' q'
within-same n p p' q q' s t c = record {
  along_x = within-one n q.x q'.x p.x p'.x q.w q'.w p.w p'.w q.proper p.proper q'.proper p'.proper t.along_x s.along_x c.along_x;
  along_y = within-one n q.y q'.y p.y p'.y q.w q'.w p.w p'.w q.proper p.proper q'.proper p'.proper t.along_y s.along_y c.along_y;
  along_z = within-one n q.z q'.z p.z p'.z q.w q'.w p.w p'.w q.proper p.proper q'.proper p'.proper t.along_z s.along_z c.along_z;
}
