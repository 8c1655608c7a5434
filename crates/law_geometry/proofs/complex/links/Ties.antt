-- Points that lie close to a point toward a direction, and what joins such points: one cell, an even segment, and even segments with what lies beside them.
use Rattle.law_geometry.proofs.complex.links.Prelude.{◌≡◌, ℕ, ◌+◌, ◌*◌, ◌<◌, ◌≤◌, ℤ, pos, ◌+ℤ◌, ◌-ℤ◌, ◌*ℤ◌, arith, refl, ap, sym, ◌∙◌, ◌⊎◌, inl, inr, ⊎_elim, ◌∷◌, subst, false, [], ints, mul-pos, le-mul_of_pos_right, Sign, minus, nought, plus, sign, Lies, ring, at, num, ◌⊕◌, ◌⊖◌, ◌⊗◌, nought-is, sign-scaled, Germ, Flat, FlatDim, IsEven, Joined, SpacePoint, Form, form_at, slope, Within, toward, IsBetween, Set, Vector, blend, IsDirection, SameDirection, Label, sign_at, carriers, SameSigns, SameSlopes, slide, NearGerm, FlatCone, IsSettled, SameGerms, same-sym, reach-some, keeps-all, is_nought, Cells, Germ-unique, FlatCone-from_flat, slope-slide, signs-same, slope-same, same-point_sym, steep, steep-one, sign-large, ahead, near-ahead, germ_of, germs-by_cell, FlatDim-by_germs, flat_dim-of, mixed-of, ray-cell, start-close, flat-way, joined-turned, joined-both, joined-itself, of_point, form-sum, form-step, step-within, reach_all, sign-level, toward-point, factor-same, between-outer, near_point, near-between, way-near, even-by, IsEvenAfter, zero-decided, vector-same, SameDirection-turned, direction-left}
use Rattle.law_geometry.proofs.near.Germs.{sample, sample-short, sign-along}
use Rattle.law_geometry.proofs.near.Flats.{sign-toward}
use Rattle.law_geometry.proofs.near.FirstChange.{settled-along}
use Rattle.law_geometry.proofs.near.Crossings.{opposite_signs, joint, sign-mixed}
use Rattle.law_geometry.proofs.near.Same.{dim-same}
use Rattle.nef_space.proofs.Elementary.{same-itself}

-- ---- points beside a point
-- q lies on the sides of the carriers on which the points just off p toward d lie
abbrev pub IsBeside : Set → SpacePoint → Vector → SpacePoint → Type 0
IsBeside s p d q = (h : Form) → Lies (carriers s) h → ((sign_at h p ≡ nought → ⊥) → sign_at h q ≡ sign_at h p) × (sign_at h p ≡ nought → sign_at h q ≡ sign (slope h d))

pub beside-toward : (s : Set) (p q : SpacePoint) → Within (reach_all (carriers s) p) p q → IsBeside s p (toward p q) q
beside-toward s p q c h l = (λ n. keeps-all (carriers s) p q c h l n, λ o. sign-toward h p q o)

pub beside-close : (s : Set) (p : SpacePoint) (d : Vector) (q : SpacePoint) → Within (reach_all (carriers s) p) p q → SameDirection (toward p q) d → IsBeside s p d q
beside-close s p d q c w h l = (λ n. keeps-all (carriers s) p q c h l n, λ o. sign-toward h p q o ∙ slope-same h (toward p q) d w)

pub ahead-close : (s : Set) (p : SpacePoint) (d : Vector) → Within (reach_all (carriers s) p) p (ahead s p d)
ahead-close s p d = step-within (reach_all (carriers s) p) p d (sample s p d) (sample-short s p d)

-- it lies in that direction
pub ahead-toward : (s : Set) (p : SpacePoint) (d : Vector) → IsDirection d → SameDirection (toward p (ahead s p d)) d
ahead-toward s p d i = SameDirection-turned d (toward p (ahead s p d)) (factor-same d (toward p (ahead s p d)) (record {
  k = p.w * p.w;
  l = 1;
  some_k = mul-pos p.proper p.proper;
  some_l = omega arith;
  is_x = each p.x d.x;
  is_y = each p.y d.y;
  is_z = each p.z d.z;
  is_w = ring (pos p.w ∷ []) (at 0 ⊗ at 0 ⊗ num (pos 0)) (num (pos 1) ⊗ num (pos 0)) tt;
}) i)
  where
    each : (x e : ℤ) → pos (p.w * p.w) *ℤ e ≡ pos 1 *ℤ ((x *ℤ pos (sample s p d).b +ℤ pos 1 *ℤ pos p.w *ℤ e) *ℤ pos p.w -ℤ x *ℤ pos (p.w * (sample s p d).b))
    each x e = ring (pos p.w ∷ x ∷ e ∷ pos (sample s p d).b ∷ []) (at 0 ⊗ at 0 ⊗ at 2) (num (pos 1) ⊗ ((at 1 ⊗ at 3 ⊕ num (pos 1) ⊗ at 0 ⊗ at 2) ⊗ at 0 ⊖ at 1 ⊗ (at 0 ⊗ at 3))) tt

pub beside-ahead : (s : Set) (p : SpacePoint) (d : Vector) → IsBeside s p d (ahead s p d)
beside-ahead s p d h l = (λ n. keeps-all (carriers s) p (ahead s p d) (ahead-close s p d) h l n, λ o. sign-along h p (sample s p d) d o (omega (arith, ints)))

pub beside-cell : (s : Set) (p : SpacePoint) (d : Vector) (q r : SpacePoint) → IsBeside s p d q → IsBeside s p d r → SameSigns (carriers s) q r
beside-cell s p d q r f g h l = ⊎_elim (λ o. (f h l).1 o ∙ sym ((g h l).1 o)) (λ n. (f h l).0 n ∙ sym ((g h l).0 n)) (is_nought (sign_at h p))

pub beside-way : (s : Set) (p : SpacePoint) (d e : Vector) (q : SpacePoint) → SameSlopes (carriers s) d e → IsBeside s p d q → IsBeside s p e q
beside-way s p d e q same f h l = ((f h l).0, λ o. (f h l).1 o ∙ same h l)

pub beside-start : (s : Set) (p r : SpacePoint) (d : Vector) (q : SpacePoint) → SameSigns (carriers s) p r → IsBeside s p d q → IsBeside s r d q
beside-start s p r d q same f h l = (λ n. (f h l).0 (λ o. n (sym (same h l) ∙ o)) ∙ same h l, λ o. (f h l).1 (same h l ∙ o))

-- off p toward d, and from there toward f
pub beside-beside : (s : Set) (p : SpacePoint) (d : Vector) (q : SpacePoint) (f : Vector) (r : SpacePoint) (k : ℕ) → steep (carriers s) f ≤ k → IsBeside s p d q → IsBeside s q f r → IsBeside s p (blend k d 1 f) r
beside-beside s p d q f r k large a b h l = (λ n. (b h l).0 (λ o. n (sym ((a h l).0 n) ∙ o)) ∙ (a h l).0 n, λ o. at-zero o (is_nought (sign (slope h d))))
  where
    at-zero : sign_at h p ≡ nought → (sign (slope h d) ≡ nought) ⊎ (sign (slope h d) ≡ nought → ⊥) → sign_at h r ≡ sign (slope h (blend k d 1 f))
    at-zero o (inl z) = (b h l).1 ((a h l).1 o ∙ z) ∙ sym (ap sign (slope-slide h k d (pos 1) f) ∙ sign-level k (slope h d) (slope h f) (nought-is (slope h d) z))
    at-zero o (inr m) = (b h l).0 (λ y. m (sym ((a h l).1 o) ∙ y)) ∙ (a h l).1 o
        ∙ sym (ap sign (slope-slide h k d (pos 1) f) ∙ sign-large (slope h d) (slope h f) k (let g = steep-one (carriers s) h f l in omega arith) m)

-- cells go over to what lies beside
pub ahead-cells : (s : Set) (p q : SpacePoint) (f : Vector) → SameSigns (carriers s) p q → SameSigns (carriers s) (ahead s p f) (ahead s q f)
ahead-cells s p q f same = beside-cell s q f (ahead s p f) (ahead s q f) (beside-start s p q f (ahead s p f) same (beside-ahead s p f)) (beside-ahead s q f)

pub ahead-ahead : (s : Set) (p : SpacePoint) (d f : Vector) (k : ℕ) → steep (carriers s) f ≤ k → SameSigns (carriers s) (ahead s (ahead s p d) f) (ahead s p (blend k d 1 f))
ahead-ahead s p d f k large = beside-cell s p (blend k d 1 f) (ahead s (ahead s p d) f) (ahead s p (blend k d 1 f))
    (beside-beside s p d (ahead s p d) f (ahead s (ahead s p d) f) k large (beside-ahead s p d) (beside-ahead s (ahead s p d) f)) (beside-ahead s p (blend k d 1 f))

pub ahead-way : (s : Set) (p : SpacePoint) (d e : Vector) → SameDirection d e → SameSigns (carriers s) (ahead s p d) (ahead s p e)
ahead-way s p d e w = beside-cell s p e (ahead s p d) (ahead s p e) (beside-way s p d e (ahead s p d) (λ h l. slope-same h d e w) (beside-ahead s p d)) (beside-ahead s p e)

-- ---- even segments
pub joint-itself : (s : Sign) → (opposite_signs s s ≡ false) × (joint s s ≡ s)
joint-itself minus = (refl, refl)
joint-itself nought = (refl, refl)
joint-itself plus = (refl, refl)

pub same-between : (h : Form) (p q r : SpacePoint) → IsBetween p r q → sign_at h q ≡ sign_at h p → sign_at h r ≡ sign_at h q
same-between h p q r b e =
    let o = subst (λ (t : Sign). (opposite_signs (sign_at h p) t ≡ false) × (joint (sign_at h p) t ≡ t)) (sym e) (joint-itself (sign_at h p)) in
    sign-mixed h (of_point p) (of_point r) (of_point q) (mixed-of p r q b) o.0 ∙ o.1

pub dim-cell : (s : Set) (p q : SpacePoint) (k : ℕ) → SameSigns (carriers s) p q → FlatDim s p k → FlatDim s q k
dim-cell s p q k same = FlatDim-by_germs s s p q (germs-by_cell s p q same) k

pub even-cell : (s : Set) (k : ℕ) (p q : SpacePoint) → SameSigns (carriers s) p q → FlatDim s p k → IsEven s k p q
even-cell s k p q same f = even-by s k p q f (λ r b. dim-cell s p r k (λ h l. same h l ∙ sym (same-between h p q r b (sym (same h l)))) f) (dim-cell s p q k same f)

-- a point between the points off p toward d and toward e lies off p toward a blend of both
module _ (s : Set) (p : SpacePoint) (d e : Vector) where
  abbrev q : SpacePoint
  q = ahead s p d

  abbrev r : SpacePoint
  r = ahead s p e

  value-ahead : (h : Form) (v : Vector) → form_at h p ≡ pos 0 → form_at h (ahead s p v) ≡ pos p.w *ℤ slope h v
  value-ahead h v z =
      let t = sample s p v in
      form-step h p t v ∙ ap (λ x. pos t.b *ℤ x +ℤ pos 1 *ℤ pos p.w *ℤ slope h v) z ∙ ring (pos t.b ∷ pos p.w ∷ slope h v ∷ []) (at 0 ⊗ num (pos 0) ⊕ num (pos 1) ⊗ at 1 ⊗ at 2) (at 1 ⊗ at 2) tt

  blend-beside : (u : SpacePoint) (b : IsBetween q u r) → (let m = mixed-of q u r b in IsBeside s p (blend m.i d m.j e) u)
  blend-beside u b h l = (
    λ n.
        let x = (beside-ahead s p d h l).0 n in
        let y = (beside-ahead s p e h l).0 n in
        same-between h q r u b (y ∙ sym x) ∙ y,
    λ o.
        let m = mixed-of q u r b in
        let z = nought-is (form_at h p) o in
        let sum = form-sum h m.k (of_point u) m.i (of_point q) m.j (of_point r) m.sum in
        let g : pos m.k *ℤ form_at h u ≡ pos p.w *ℤ slope h (blend m.i d m.j e) =
        sum ∙ ap (λ x. pos m.i *ℤ x +ℤ pos m.j *ℤ form_at h r) (value-ahead h d z) ∙ ap (λ x. pos m.i *ℤ (pos p.w *ℤ slope h d) +ℤ pos m.j *ℤ x) (value-ahead h e z)
        ∙ ring (pos m.i ∷ pos m.j ∷ pos p.w ∷ slope h d ∷ slope h e ∷ []) (at 0 ⊗ (at 2 ⊗ at 3) ⊕ at 1 ⊗ (at 2 ⊗ at 4)) (at 2 ⊗ (at 0 ⊗ at 3 ⊕ at 1 ⊗ at 4)) tt
        ∙ ap (λ x. pos p.w *ℤ x) (sym (slope-slide h m.i d (pos m.j) e)) in
        sym (sign-scaled (pos m.k) (form_at h u) (let y = m.some_k in omega (arith, ints))) ∙ ap sign g ∙ sign-scaled (pos p.w) (slope h (blend m.i d m.j e)) (let y = p.proper in omega (arith, ints)),
  )

  -- so the segment is even where all blends are
  pub even-fan : (k : ℕ) → FlatDim s q k → FlatDim s r k → ((i j : ℕ) → 0 < i → 0 < j → FlatDim s (ahead s p (blend i d j e)) k) → IsEven s k q r
  even-fan k f g all = even-by s k q r f (λ u b.
      let m = mixed-of q u r b in
      let c = blend m.i d m.j e in
      dim-cell s (ahead s p c) u k (beside-cell s p c (ahead s p c) u (beside-ahead s p c) (blend-beside u b)) (all m.i m.j m.some_i m.some_j)) g

-- ---- joined points
pub joined-even : (s : Set) (k : ℕ) (p q : SpacePoint) → IsEven s k p q → Joined s p q
joined-even s k p q even = (k, [], even p (inl (same-itself p)), even)

pub joined-cell : (s : Set) (p q : SpacePoint) → SameSigns (carriers s) p q → Joined s p q
joined-cell s p q same = let k = flat_dim-of s p in joined-even s k.0 p q (even-cell s k.0 p q same k.1)

-- ---- beside an even segment
-- where g is flat at r, the germs near f are those near f and any multiple of g
module _ (s : Set) (r : SpacePoint) (f g : Vector) (flat : FlatCone s r g) (b : ℕ) (a : ℤ) (some : 0 < b) where
  abbrev moved : Vector
  moved = slide b f a g

  near-moved : (v : Vector) (l : Label) → NearGerm s r f v l → NearGerm s r moved v l
  near-moved v l (n, near) = (n, λ k h. subst (λ (u : Vector). Germ s r u l) (same k) ((flat (blend (k * b) f 1 v) 1 (pos k *ℤ a) (omega arith) l).0 (near (k * b) (let m = le-mul_of_pos_right k some in omega arith))))
    where
      one : (k : ℕ) (x y z : ℤ) → pos 1 *ℤ (pos (k * b) *ℤ x +ℤ pos 1 *ℤ y) +ℤ pos k *ℤ a *ℤ z ≡ pos k *ℤ (pos b *ℤ x +ℤ a *ℤ z) +ℤ pos 1 *ℤ y
      one k x y z = ring (pos k ∷ pos b ∷ a ∷ x ∷ y ∷ z ∷ []) (num (pos 1) ⊗ (at 0 ⊗ at 1 ⊗ at 3 ⊕ num (pos 1) ⊗ at 4) ⊕ at 0 ⊗ at 2 ⊗ at 5) (at 0 ⊗ (at 1 ⊗ at 3 ⊕ at 2 ⊗ at 5) ⊕ num (pos 1) ⊗ at 4) tt

      same : (k : ℕ) → slide 1 (blend (k * b) f 1 v) (pos k *ℤ a) g ≡ blend k moved 1 v
      same k = vector-same (slide 1 (blend (k * b) f 1 v) (pos k *ℤ a) g) (blend k moved 1 v) (one k f.x v.x g.x) (one k f.y v.y g.y) (one k f.z v.z g.z)

  moved-germs : SameGerms s (ahead s r f) (ahead s r moved)
  moved-germs v l = (there l, λ h. let m = germ_of s (ahead s r f) v in subst (Germ s (ahead s r f) v) (Germ-unique s (ahead s r moved) v m.0 l (there m.0 m.1) h) m.1)
    where
      there : (l : Label) → Germ s (ahead s r f) v l → Germ s (ahead s r moved) v l
      there l h = (near-ahead s r moved v l).1 (near-moved v l ((near-ahead s r f v l).0 h))

  pub moved-dim : (k : ℕ) → FlatDim s (ahead s r f) k → FlatDim s (ahead s r moved) k
  moved-dim k = FlatDim-by_germs s s (ahead s r f) (ahead s r moved) moved-germs k

-- the points beside r and beside a close point to which a flat way leads
joined-step : (s : Set) (r t : SpacePoint) (f : Vector) → Within (reach_all (carriers s) r) r t → Flat s r (toward r t) → Joined s (ahead s r f) (ahead s t f)
joined-step s r t f c flat =
    let g = toward r t in
    let k = steep (carriers s) f in
    let e = blend k g 1 f in
    let j = flat_dim-of s (ahead s r f) in
    let cone = FlatCone-from_flat s r g flat in
    let cell = beside-cell s r e (ahead s r e) (ahead s t f) (beside-ahead s r e) (beside-beside s r g t f (ahead s t f) k (omega arith) (beside-toward s r t c) (beside-ahead s t f)) in
    joined-both s (ahead s r f) (ahead s r e) (ahead s t f)
    (joined-even s j.0 (ahead s r f) (ahead s r e) (even-fan s r f e j.0 j.1
    (subst (λ (v : Vector). FlatDim s (ahead s r v) j.0) (turned g k) (moved-dim s r f g cone 1 (pos k) (omega arith) j.0 j.1))
    (λ i l si sl. subst (λ (v : Vector). FlatDim s (ahead s r v) j.0) (both g k i l) (moved-dim s r f g cone (i + l) (pos (l * k)) (omega arith) j.0 j.1))))
    (joined-cell s (ahead s r e) (ahead s t f) cell)
  where
    turned : (g : Vector) (k : ℕ) → slide 1 f (pos k) g ≡ blend k g 1 f
    turned g k = vector-same (slide 1 f (pos k) g) (blend k g 1 f) (omega (arith, ints)) (omega (arith, ints)) (omega (arith, ints))

    one : (k i l : ℕ) (x y : ℤ) → pos (i + l) *ℤ x +ℤ pos (l * k) *ℤ y ≡ pos i *ℤ x +ℤ pos l *ℤ (pos k *ℤ y +ℤ pos 1 *ℤ x)
    one k i l x y = ring (pos k ∷ pos i ∷ pos l ∷ x ∷ y ∷ []) ((at 1 ⊕ at 2) ⊗ at 3 ⊕ at 2 ⊗ at 0 ⊗ at 4) (at 1 ⊗ at 3 ⊕ at 2 ⊗ (at 0 ⊗ at 4 ⊕ num (pos 1) ⊗ at 3)) tt

    both : (g : Vector) (k i l : ℕ) → slide (i + l) f (pos (l * k)) g ≡ blend i f l (blend k g 1 f)
    both g k i l = vector-same (slide (i + l) f (pos (l * k)) g) (blend i f l (blend k g 1 f)) (one k i l f.x g.x) (one k i l f.y g.y) (one k i l f.z g.z)

pub joined-along : (s : Set) (k : ℕ) (p q : SpacePoint) (f : Vector) → IsEven s k p q → Joined s (ahead s p f) (ahead s q f)
joined-along s k p q f even = settled-along (carriers s) Reached cells p q settled (joined-itself s (ahead s p f))
  where
    Reached : SpacePoint → Type 0
    Reached r = Joined s (ahead s p f) (ahead s r f)

    onward : (a b : SpacePoint) → Joined s (ahead s a f) (ahead s b f) → Joined s (ahead s p f) (ahead s a f) → Joined s (ahead s p f) (ahead s b f)
    onward a b w x = joined-both s (ahead s p f) (ahead s a f) (ahead s b f) x w

    cells : Cells (carriers s) (λ r. Joined s (ahead s p f) (ahead s r f))
    cells a b same x = onward a b (joined-cell s (ahead s a f) (ahead s b f) (ahead-cells s a b f same)) x

    near : (r t : SpacePoint) → FlatDim s r k → FlatDim s t k → Within (reach_all (carriers s) r) r t → Joined s (ahead s r f) (ahead s t f)
    near r t g h c = ⊎_elim
        (λ z. joined-cell s (ahead s r f) (ahead s t f) (ahead-cells s r t f (signs-same (carriers s) r t (toward-point r t z))))
        (λ i. joined-step s r t f c (flat-way s k r t g h c i)) (zero-decided (toward r t))

    settled : IsSettled (λ r. Joined s (ahead s p f) (ahead s r f)) p q
    settled r on = (
      reach_all (carriers s) r,
      reach-some (carriers s) r,
      λ t there c. let w = near r t (even r on) (even t there) c in (onward r t w, onward t r (joined-turned s (ahead s r f) (ahead s t f) w)),
    )

-- ---- ties: p and q are joined, and so are the points beside them in each direction
abbrev pub IsTied : Set → SpacePoint → SpacePoint → Type 0
IsTied s p q = Joined s p q × ((f : Vector) → Joined s (ahead s p f) (ahead s q f))

pub tied-even : (s : Set) (k : ℕ) (p q : SpacePoint) → IsEven s k p q → IsTied s p q
tied-even s k p q even = (joined-even s k p q even, λ f. joined-along s k p q f even)

pub tied-cell : (s : Set) (p q : SpacePoint) → SameSigns (carriers s) p q → IsTied s p q
tied-cell s p q same = (joined-cell s p q same, λ f. joined-cell s (ahead s p f) (ahead s q f) (ahead-cells s p q f same))

pub tied-turned : (s : Set) (p q : SpacePoint) → IsTied s p q → IsTied s q p
tied-turned s p q t = (joined-turned s p q t.0, λ f. joined-turned s (ahead s p f) (ahead s q f) (t.1 f))

pub tied-both : (s : Set) (p q r : SpacePoint) → IsTied s p q → IsTied s q r → IsTied s p r
tied-both s p q r t u = (joined-both s p q r t.0 u.0, λ f. joined-both s (ahead s p f) (ahead s q f) (ahead s r f) (t.1 f) (u.1 f))

pub tied-itself : (s : Set) (p : SpacePoint) → IsTied s p p
tied-itself s p = (joined-itself s p, λ f. joined-itself s (ahead s p f))

-- what lies beside tied points is tied
pub tied-ahead : (s : Set) (p q : SpacePoint) (f : Vector) → IsTied s p q → IsTied s (ahead s p f) (ahead s q f)
tied-ahead s p q f t = (
  t.1 f,
  λ g.
      let k = steep (carriers s) g in
      let e = blend k f 1 g in
      joined-both s (ahead s (ahead s p f) g) (ahead s p e) (ahead s (ahead s q f) g)
      (joined-cell s (ahead s (ahead s p f) g) (ahead s p e) (ahead-ahead s p f g k (omega arith)))
      (joined-both s (ahead s p e) (ahead s q e) (ahead s (ahead s q f) g) (t.1 e)
      (joined-cell s (ahead s q e) (ahead s (ahead s q f) g) (same-sym (carriers s) (ahead s (ahead s q f) g) (ahead s q e) (ahead-ahead s q f g k (omega arith))))),
)

-- a point that is reached from p by an even way, and the points close to p on the way
pub tied-ray : (s : Set) (k : ℕ) (p q : SpacePoint) (d : Vector) → SameDirection (toward p q) d → IsEvenAfter s k p q → IsTied s q (ahead s p d)
tied-ray s k p q d w even =
    let n = near_point s p q in
    let b = near-between s p q (direction-left (toward p q) d w) in
    let here = even n (inl b) in
    let on : IsEven s k n q = even-by s k n q here (λ r c. even r (inl (between-outer p n r q b c))) (even q (inr (same-itself q))) in
    tied-both s q n (ahead s p d) (tied-turned s n q (tied-even s k n q on))
    (tied-cell s n (ahead s p d) (beside-cell s p d n (ahead s p d) (beside-close s p d n (start-close (reach_all (carriers s) p) p q) (way-near s p d q w)) (beside-ahead s p d)))

-- up to the point off p toward d the number of flat directions is even
pub even-after : (s : Set) (k : ℕ) (p : SpacePoint) (d : Vector) → FlatDim s (ahead s p d) k → IsEvenAfter s k p (ahead s p d)
even-after s k p d f r (inl b) = dim-cell s (ahead s p d) r k (ray-cell (carriers s) p (ahead s p d) r (ahead-close s p d) b) f
even-after s k p d f r (inr e) = dim-same s (ahead s p d) r k (same-point_sym r (ahead s p d) e) f
