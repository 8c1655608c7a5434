-- Near a point a set is a cone, and its flat directions are a space.
use Rattle.law_geometry.proofs.near.Prelude.{◌≡◌, ℕ, ◌+◌, ◌*◌, ◌<◌, ℤ, pos, ◌+ℤ◌, ◌-ℤ◌, ◌*ℤ◌, ◌<ℤ◌, nat_abs, arith, ap, sym, ◌∙◌, ◌∷◌, subst, [], ints, unsigned_abs-mul, mul-pos, mul-lt-mul_of_pos_left, ring, at, num, ◌⊕◌, ◌⊖◌, ◌⊗◌, nought, sign, sign-plus, nought-is, sign_of_product, mul_pos, Lies, slide, FlatCone, sign_at, carriers, SpacePoint, Form, form_at, slope, Ratio, step, Within, toward, Vector, Set, IsShort, HasLabel, Germ, Flat, Label, vector-same}
use Rattle.nef_space.proofs.Order.{sign_times}
use Rattle.law_geometry.proofs.near.Near.{form-step, slope-toward, weaken, stride, step-within, reach_all}
use Rattle.law_geometry.proofs.near.Cells.{reach-some}
use Rattle.law_geometry.proofs.near.Germs.{locality, sign-along, short_enough}

-- a form through p has at q the sign of its slope toward q
pub sign-toward : (h : Form) (p q : SpacePoint) → sign_at h p ≡ nought → sign_at h q ≡ sign (slope h (toward p q))
sign-toward h p q e =
    let i = ring (pos p.w ∷ pos q.w ∷ form_at h q ∷ []) (at 0 ⊗ at 2 ⊖ at 1 ⊗ num (pos 0)) (at 0 ⊗ at 2) tt in
    let j = slope-toward h p q ∙ ap (λ z. pos p.w *ℤ form_at h q -ℤ pos q.w *ℤ z) (nought-is (form_at h p) e) ∙ i in
    sym (ap sign j ∙ sign_of_product (pos p.w) (form_at h q) ∙ ap (λ z. sign_times z (sign (form_at h q))) (sign-plus (pos p.w) (let k = p.proper in omega (arith, ints))))

-- the label at a close point is the germ toward it
pub germ-toward : (s : Set) (m : Label) (p q : SpacePoint) → Within (reach_all (carriers s) p) p q → HasLabel s q m → Germ s p (toward p q) m
germ-toward s m p q c h = (
  short_enough s p (toward p q),
  omega arith,
  λ t k.
      locality s m p q (step p t (toward p q)) c (step-within (reach_all (carriers s) p) p (toward p q) t k)
      (λ f l e. sign-toward f p q e ∙ sym (sign-along f p t (toward p q) e k.0)) h,
)

pub label-toward : (s : Set) (m : Label) (p q : SpacePoint) → Within (reach_all (carriers s) p) p q → Germ s p (toward p q) m → HasLabel s q m
label-toward s m p q c (n, some, f) =
    let k = short_enough s p (toward p q) in
    let t : Ratio = record { a = pos 1; b = n + k + 1; proper = omega arith } in
    let short : IsShort k t = (omega (arith, ints), omega (arith, ints)) in
    locality s m p (step p t (toward p q)) q (step-within (reach_all (carriers s) p) p (toward p q) t short) c
    (λ f l e. sign-along f p t (toward p q) e short.0 ∙ sym (sign-toward f p q e)) (f t (omega (arith, ints), omega (arith, ints)))

toward-one : (x : ℤ) (v : ℕ) (u : ℤ) (w : ℕ) (t : Ratio) (d : ℤ) → (x *ℤ pos t.b +ℤ t.a *ℤ pos v *ℤ d) *ℤ pos w -ℤ u *ℤ pos (v * t.b) ≡ pos t.b *ℤ (x *ℤ pos w -ℤ u *ℤ pos v) +ℤ t.a *ℤ pos v *ℤ pos w *ℤ d
toward-one x v u w t d = ring (x ∷ pos v ∷ u ∷ pos w ∷ t.a ∷ pos t.b ∷ d ∷ [])
    ((at 0 ⊗ at 5 ⊕ at 4 ⊗ at 1 ⊗ at 6) ⊗ at 3 ⊖ at 2 ⊗ (at 1 ⊗ at 5)) (at 5 ⊗ (at 0 ⊗ at 3 ⊖ at 2 ⊗ at 1) ⊕ at 4 ⊗ at 1 ⊗ at 3 ⊗ at 6) tt

toward-step : (p q : SpacePoint) (t : Ratio) (d : Vector) → toward p (step q t d) ≡ slide t.b (toward p q) (t.a *ℤ pos q.w *ℤ pos p.w) d
toward-step p q t d = vector-same (toward p (step q t d)) (slide t.b (toward p q) (t.a *ℤ pos q.w *ℤ pos p.w) d)
    (toward-one q.x q.w p.x p.w t d.x) (toward-one q.y q.w p.y p.w t d.y) (toward-one q.z q.w p.z p.w t d.z)

pub Flat-from_cone : (s : Set) (p : SpacePoint) (d : Vector) → FlatCone s p d → Flat s p d
Flat-from_cone s p d f = (
  reach_all (carriers s) p,
  reach-some (carriers s) p,
  λ q t c k m.
      let e = toward-step p q t d in
      let g = f (toward p q) t.b (t.a *ℤ pos q.w *ℤ pos p.w) t.proper m in (
        λ h. label-toward s m p (step q t d) k (subst (λ (v : Vector). Germ s p v m) (sym e) (g.0 (germ-toward s m p q c h))),
        λ h. label-toward s m p q c (g.1 (subst (λ (v : Vector). Germ s p v m) e (germ-toward s m p (step q t d) k h))),
      ),
)

-- the flat directions are a space
pub FlatCone-add : (s : Set) (p : SpacePoint) (d e : Vector) → FlatCone s p d → FlatCone s p e → FlatCone s p (slide 1 d (pos 1) e)
FlatCone-add s p d e f g v b a some m =
    let i = f v b a some m in
    let j = g (slide b v a d) 1 a (omega arith) m in
    let r = vector-same (slide 1 (slide b v a d) a e) (slide b v a (slide 1 d (pos 1) e)) (one v.x d.x e.x) (one v.y d.y e.y) (one v.z d.z e.z) in
    (λ h. subst (λ (u : Vector). Germ s p u m) r (j.0 (i.0 h)), λ h. i.1 (j.1 (subst (λ (u : Vector). Germ s p u m) (sym r) h)))
  where
    one : (x y z : ℤ) → pos 1 *ℤ (pos b *ℤ x +ℤ a *ℤ y) +ℤ a *ℤ z ≡ pos b *ℤ x +ℤ a *ℤ (pos 1 *ℤ y +ℤ pos 1 *ℤ z)
    one x y z = ring (pos b ∷ a ∷ x ∷ y ∷ z ∷ []) (num (pos 1) ⊗ (at 0 ⊗ at 2 ⊕ at 1 ⊗ at 3) ⊕ at 1 ⊗ at 4) (at 0 ⊗ at 2 ⊕ at 1 ⊗ (num (pos 1) ⊗ at 3 ⊕ num (pos 1) ⊗ at 4)) tt

abbrev pub scaled : ℤ → Vector → Vector
scaled k d = record { x = k *ℤ d.x; y = k *ℤ d.y; z = k *ℤ d.z }

pub FlatCone-scale : (s : Set) (p : SpacePoint) (k : ℤ) (d : Vector) → FlatCone s p d → FlatCone s p (scaled k d)
FlatCone-scale s p k d f v b a some m =
    let r = vector-same (slide b v (a *ℤ k) d) (slide b v a (scaled k d)) (one v.x d.x) (one v.y d.y) (one v.z d.z) in
    let i = f v b (a *ℤ k) some m in
    (λ h. subst (λ (u : Vector). Germ s p u m) r (i.0 h), λ h. i.1 (subst (λ (u : Vector). Germ s p u m) (sym r) h))
  where
    one : (x y : ℤ) → pos b *ℤ x +ℤ a *ℤ k *ℤ y ≡ pos b *ℤ x +ℤ a *ℤ (k *ℤ y)
    one x y = ring (pos b ∷ a ∷ k ∷ x ∷ y ∷ []) (at 0 ⊗ at 3 ⊕ at 1 ⊗ at 2 ⊗ at 4) (at 0 ⊗ at 3 ⊕ at 1 ⊗ (at 2 ⊗ at 4)) tt

-- ---- signs decide a germ
pub Germ-by_signs : (s : Set) (p : SpacePoint) (d e : Vector) → ((h : Form) → Lies (carriers s) h → sign_at h p ≡ nought → sign (slope h d) ≡ sign (slope h e)) → (m : Label) → Germ s p d m → Germ s p e m
Germ-by_signs s p d e same m (n, some, f) =
    let k = short_enough s p d in
    let t : Ratio = record { a = pos 1; b = n + k + 1; proper = omega arith } in
    let short : IsShort k t = (omega (arith, ints), omega (arith, ints)) in (
      short_enough s p e,
      omega arith,
      λ u l.
          locality s m p (step p t d) (step p u e) (step-within (reach_all (carriers s) p) p d t short) (step-within (reach_all (carriers s) p) p e u l)
          (λ h i o. sign-along h p t d o short.0 ∙ same h i o ∙ sym (sign-along h p u e o l.0)) (f t (omega (arith, ints), omega (arith, ints))),
    )

pub slope-slide : (h : Form) (b : ℕ) (e : Vector) (a : ℤ) (d : Vector) → slope h (slide b e a d) ≡ pos b *ℤ slope h e +ℤ a *ℤ slope h d
slope-slide h b e a d = ring (h.a ∷ h.b ∷ h.c ∷ pos b ∷ a ∷ e.x ∷ e.y ∷ e.z ∷ d.x ∷ d.y ∷ d.z ∷ [])
    (at 0 ⊗ (at 3 ⊗ at 5 ⊕ at 4 ⊗ at 8) ⊕ at 1 ⊗ (at 3 ⊗ at 6 ⊕ at 4 ⊗ at 9) ⊕ at 2 ⊗ (at 3 ⊗ at 7 ⊕ at 4 ⊗ at 10))
    (at 3 ⊗ (at 0 ⊗ at 5 ⊕ at 1 ⊗ at 6 ⊕ at 2 ⊗ at 7) ⊕ at 4 ⊗ (at 0 ⊗ at 8 ⊕ at 1 ⊗ at 9 ⊕ at 2 ⊗ at 10)) tt

-- a direction in all carriers through p is flat
pub FlatCone-from_carriers : (s : Set) (p : SpacePoint) (d : Vector) → ((h : Form) → Lies (carriers s) h → sign_at h p ≡ nought → slope h d ≡ pos 0) → FlatCone s p d
FlatCone-from_carriers s p d flat e b a some m =
    (Germ-by_signs s p e (slide b e a d) (λ h l o. sym (same h l o)) m, Germ-by_signs s p (slide b e a d) e same m)
  where
    same : (h : Form) → Lies (carriers s) h → sign_at h p ≡ nought → sign (slope h (slide b e a d)) ≡ sign (slope h e)
    same h l o =
        let i = slope-slide h b e a d ∙ ap (λ z. pos b *ℤ slope h e +ℤ a *ℤ z) (flat h l o) ∙ ring (pos b ∷ slope h e ∷ a ∷ []) (at 0 ⊗ at 1 ⊕ at 2 ⊗ num (pos 0)) (at 0 ⊗ at 1) tt in
        ap sign i ∙ sign_of_product (pos b) (slope h e) ∙ ap (λ z. sign_times z (sign (slope h e))) (sign-plus (pos b) (omega (arith, ints)))

-- ---- two short steps
-- r = p + (b/N) e + (a/N) d
abbrev part_of : ℤ → ℕ → Ratio
part_of a k = record { a = a; b = k + 1; proper = omega arith }

abbrev first : SpacePoint → ℕ → ℕ → Vector → SpacePoint
first p b k e = step p (part_of (pos b) k) e

abbrev second : SpacePoint → ℕ → ℕ → Vector → ℤ → Vector → SpacePoint
second p b k e a d = step (first p b k e) (part_of (a) k) d

second-gap : (x : ℤ) (w b n : ℕ) (e a d : ℤ) → ((x *ℤ pos n +ℤ pos b *ℤ pos w *ℤ e) *ℤ pos n +ℤ a *ℤ pos (w * n) *ℤ d) *ℤ pos w -ℤ x *ℤ pos (w * n * n) ≡ pos n *ℤ pos w *ℤ pos w *ℤ (pos b *ℤ e +ℤ a *ℤ d)
second-gap x w b n e a d = ring (x ∷ pos w ∷ pos b ∷ pos n ∷ e ∷ a ∷ d ∷ [])
    (((at 0 ⊗ at 3 ⊕ at 2 ⊗ at 1 ⊗ at 4) ⊗ at 3 ⊕ at 5 ⊗ (at 1 ⊗ at 3) ⊗ at 6) ⊗ at 1 ⊖ at 0 ⊗ (at 1 ⊗ at 3 ⊗ at 3))
    (at 3 ⊗ at 1 ⊗ at 1 ⊗ (at 2 ⊗ at 4 ⊕ at 5 ⊗ at 6)) tt

second-one : (n k w v : ℕ) → 0 < w → n * v < k → n * (k * w * w * v) < w * k * k * w
second-one n k w v p h =
    let e = mul-lt-mul_of_pos_left {k = k * w * w} h (mul-pos {m = k * w} {n = w} (mul-pos {m = k} {n = w} (omega arith) p) p) in
    omega arith

second-within : (n : ℕ) (p : SpacePoint) (b k : ℕ) (e : Vector) (a : ℤ) (d : Vector) → n * (nat_abs (slide b e a d).x + nat_abs (slide b e a d).y + nat_abs (slide b e a d).z) < k + 1 → Within n p (second p b k e a d)
second-within n p b k e a d h = record { along_x = one p.x e.x d.x (omega arith); along_y = one p.y e.y d.y (omega arith); along_z = one p.z e.z d.z (omega arith) }
  where
    one : (x y z : ℤ) → n * nat_abs (pos b *ℤ y +ℤ a *ℤ z) < k + 1 → n * nat_abs (((x *ℤ pos (k + 1) +ℤ pos b *ℤ pos p.w *ℤ y) *ℤ pos (k + 1) +ℤ a *ℤ pos (p.w * (k + 1)) *ℤ z) *ℤ pos p.w -ℤ x *ℤ pos (p.w * (k + 1) * (k + 1))) < p.w * (k + 1) * (k + 1) * p.w
    one x y z l =
        let v = pos b *ℤ y +ℤ a *ℤ z in
        let c = second-one n (k + 1) p.w (nat_abs v) p.proper l in
        let i = ap nat_abs (second-gap x p.w b (k + 1) y a z) ∙ unsigned_abs-mul (pos (k + 1) *ℤ pos p.w *ℤ pos p.w) v in
        let j = ap (λ r. n * r) i in
        omega arith

-- at a form through p
second-sign : (h : Form) (p : SpacePoint) (b k : ℕ) (e : Vector) (a : ℤ) (d : Vector) → sign_at h p ≡ nought → sign_at h (second p b k e a d) ≡ sign (slope h (slide b e a d))
second-sign h p b k e a d o =
    let t : Ratio = part_of (pos b) k in
    let u : Ratio = part_of (a) k in
    let i = form-step h (first p b k e) u d in
    let j = form-step h p t e ∙ ap (λ z. pos (k + 1) *ℤ z +ℤ pos b *ℤ pos p.w *ℤ slope h e) (nought-is (form_at h p) o) in
    let g = ring (pos (k + 1) ∷ pos b ∷ pos p.w ∷ slope h e ∷ a ∷ slope h d ∷ [])
    (at 0 ⊗ (at 0 ⊗ num (pos 0) ⊕ at 1 ⊗ at 2 ⊗ at 3) ⊕ at 4 ⊗ (at 2 ⊗ at 0) ⊗ at 5) (at 0 ⊗ at 2 ⊗ (at 1 ⊗ at 3 ⊕ at 4 ⊗ at 5)) tt in
    let m : form_at h (second p b k e a d) ≡ pos (k + 1) *ℤ pos p.w *ℤ slope h (slide b e a d) = i ∙ ap (λ z. pos (k + 1) *ℤ z +ℤ a *ℤ pos (p.w * (k + 1)) *ℤ slope h d) j ∙ g ∙ ap (λ z. pos (k + 1) *ℤ pos p.w *ℤ z) (sym (slope-slide h b e a d)) in
    let q : pos 0 <ℤ (pos (k + 1) *ℤ pos p.w) = mul_pos (pos (k + 1)) (pos p.w) (omega (arith, ints)) (let l = p.proper in omega (arith, ints)) in
    ap sign m ∙ sign_of_product (pos (k + 1) *ℤ pos p.w) (slope h (slide b e a d)) ∙ ap (λ z. sign_times z (sign (slope h (slide b e a d)))) (sign-plus (pos (k + 1) *ℤ pos p.w) q)

pub FlatCone-from_flat : (s : Set) (p : SpacePoint) (d : Vector) → Flat s p d → FlatCone s p d
FlatCone-from_flat s p d (n, some, f) e b a pb m = (onward, back)
  where
    onward : Germ s p e m → Germ s p (slide b e a d) m
    onward (l, pl, g) =
        let v = slide b e a d in
        let reach = reach_all (carriers s) p in
        let k = (stride (n + reach) e) * b + stride (n + reach) v + l * b + 1 in
        let t : Ratio = part_of (pos b) k in
        let u : Ratio = part_of (a) k in
        let q = first p b k e in
        let r = second p b k e a d in
        let cq = step-within (n + reach) p e t (omega (arith, ints), omega (arith, ints)) in
        let cr = second-within (n + reach) p b k e a d (omega arith) in
        let hq = g t (omega (arith, ints), omega (arith, ints)) in
        let hr = (f q u (weaken n (n + reach) p q (omega arith) cq) (weaken n (n + reach) p r (omega arith) cr) m).0 hq in (
          short_enough s p v,
          omega arith,
          λ w o.
              locality s m p r (step p w v) (weaken reach (n + reach) p r (omega arith) cr) (step-within reach p v w o)
              (λ h i z. second-sign h p b k e a d z ∙ sym (sign-along h p w v z o.0)) hr,
        )

    back : Germ s p (slide b e a d) m → Germ s p e m
    back (l, pl, g) =
        let v = slide b e a d in
        let reach = reach_all (carriers s) p in
        let k = (stride (n + reach) e) * b + stride (n + reach) v + l * b + l + short_enough s p v + 1 in
        let t : Ratio = part_of (pos b) k in
        let u : Ratio = part_of (a) k in
        let w : Ratio = part_of (pos 1) k in
        let q = first p b k e in
        let r = second p b k e a d in
        let cq = step-within (n + reach) p e t (omega (arith, ints), omega (arith, ints)) in
        let cr = second-within (n + reach) p b k e a d (omega arith) in
        let o : IsShort (short_enough s p v) w = (omega (arith, ints), omega (arith, ints)) in
        let hv = g w (omega (arith, ints), omega (arith, ints)) in
        let hr = locality s m p (step p w v) r (step-within reach p v w o) (weaken reach (n + reach) p r (omega arith) cr)
        (λ h i z. sign-along h p w v z o.0 ∙ sym (second-sign h p b k e a d z)) hv in
        let hq = (f q u (weaken n (n + reach) p q (omega arith) cq) (weaken n (n + reach) p r (omega arith) cr) m).1 hr in (
          short_enough s p e,
          omega arith,
          λ x y.
              locality s m p q (step p x e) (weaken reach (n + reach) p q (omega arith) cq) (step-within reach p e x y)
              (λ h i z. sign-along h p t e z (omega (arith, ints)) ∙ sym (sign-along h p x e z y.0)) hq,
        )
