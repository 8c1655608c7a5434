-- Where a least map stays the same along d, each svertex is parallel to d and each sloop holds d.
use Rattle.law_geometry.proofs.sphere.Prelude.{◌≡◌, ℕ, ◌+◌, ◌*◌, ◌<◌, ◌≤◌, ℤ, pos, ◌+ℤ◌, ◌-ℤ◌, ◌*ℤ◌, ◌≤ℤ◌, nat_abs, arith, ap, sym, ◌∙◌, inl, inr, ⊎_elim, List, ◌∷◌, subst, neg_ℤ, [], ints, unsigned_abs-mul, mul-le, ring, at, num, ◌⊕◌, ◌⊖◌, ◌⊗◌, neg, sign, sign-plus, sign-minus, by_order, mul_le_right, sign-scaled, nought-or, Vector, IsDirection, cross, dot, IsZero, blend, opposite, Label, combination, IsAt, MapVertex, Map, MapLabel, NearLabel, Valid, SameSigns, forms, by_side, NearStraight, Least, Full, FlatMap, dot-comm, zero-decided, self-pos, vector-same, apart, direction-opposite, dot-opposite}
use Rattle.law_geometry.proofs.sphere.Vectors.{dot-comb}
use Rattle.law_geometry.proofs.sphere.Generic.{amount, amount-above, far-keeps, far-level}
use Rattle.law_geometry.proofs.sphere.Forms.{direction-by_signs}
use Rattle.law_geometry.proofs.sphere.Direct.{cross-self}
use Rattle.law_geometry.proofs.sphere.Labels.{label-exists, label-unique, label-by_signs, near-from_far, far-from_near, near-exists, near-unique}
use Rattle.law_geometry.proofs.sphere.Walk.{cross-direction_left, between-direction}

-- ---- labels and flatness
pub full-label : (M : Map) (e : Vector) (m : Label) → IsDirection e → Full M e m → MapLabel M e m
full-label M e m f (inl z) = absurd (f z.0)
full-label M e m f (inr a) = a

pub flat-onward : (M : Map) (d : Vector) → FlatMap M d → (e : Vector) (b : ℕ) (a : ℤ) → 0 < b → (m : Label) → IsDirection (combination (pos b) e a d) → MapLabel M e m → MapLabel M (combination (pos b) e a d) m
flat-onward M d F e b a sb m h l = full-label M (combination (pos b) e a d) m h ((F e b a sb m).0 (inr l))

pub flat-back : (M : Map) (d : Vector) → FlatMap M d → (e : Vector) (b : ℕ) (a : ℤ) → 0 < b → (m : Label) → IsDirection e → MapLabel M (combination (pos b) e a d) m → MapLabel M e m
flat-back M d F e b a sb m h l = full-label M e m h ((F e b a sb m).1 (inr l))

-- a positive multiple
pub scaled-signs : (gs : List Vector) (e : Vector) (k : ℕ) → 0 < k → SameSigns gs e (combination (pos k) e (pos 0) e)
scaled-signs gs e k h g l = ap sign (dot-comb g (pos k) e (pos 0) e ∙ ring (pos k ∷ dot g e ∷ []) (at 0 ⊗ at 1 ⊕ num (pos 0) ⊗ at 1) (at 0 ⊗ at 1) tt) ∙ sign-scaled (pos k) (dot g e) (omega (arith, ints))

-- a v + c f for large a has the signs of v, and where those are nought of f
module _ (gs : List Vector) (v f : Vector) (a c : ℕ) (sc : 0 < c) (large : c * amount gs f ≤ a) where
  far-scaled : SameSigns gs (blend (amount gs f) v 1 f) (blend a v c f)
  far-scaled g l = ⊎_elim
      (λ z. ap sign (dot-comb g (pos a) v (pos c) f ∙ ap (λ r. pos a *ℤ r +ℤ pos c *ℤ dot g f) z ∙ ring (pos a ∷ pos c ∷ dot g f ∷ []) (at 0 ⊗ num (pos 0) ⊕ at 1 ⊗ at 2) (at 1 ⊗ at 2) tt)
      ∙ sign-scaled (pos c) (dot g f) (omega (arith, ints)) ∙ sym (far-level gs v f (amount gs f) (omega arith) g z))
      (λ n. ap sign (dot-comb g (pos a) v (pos c) f) ∙ big n ∙ sym (far-keeps gs v f (amount gs f) (omega arith) g l n)) (nought-or (dot g v))
    where
      big : (dot g v ≡ pos 0 → ⊥) → sign (pos a *ℤ dot g v +ℤ pos c *ℤ dot g f) ≡ sign (dot g v)
      big n =
          let s = amount-above gs f g l in
          let k = nat_abs (dot g f) in
          let p = mul-le c (k + 1) c (amount gs f) (omega arith) (omega arith) in
          let e : c * (k + 1) ≡ c * k + c = omega arith in
          let q : c * k < a = omega arith in
          let r = unsigned_abs-mul (pos c) (dot g f) in
          let y = pos c *ℤ dot g f in
          by_order (dot g v) (pos 0)
          (λ m. let t = mul_le_right (pos 1) (pos 0 -ℤ dot g v) (pos a) (omega (arith, ints)) (omega (arith, ints)) in
          let w = ring (pos a ∷ dot g v ∷ []) ((num (pos 0) ⊖ at 1) ⊗ at 0) (num (pos 0) ⊖ at 0 ⊗ at 1) tt in
          sign-minus (pos a *ℤ dot g v +ℤ y) (omega (arith, ints)) ∙ sym (sign-minus (dot g v) m))
          (λ z. absurd (n z))
          (λ m. let t = mul_le_right (pos 1) (dot g v) (pos a) (omega (arith, ints)) (omega (arith, ints)) in
          let w = ring (pos a ∷ dot g v ∷ []) (at 1 ⊗ at 0) (at 0 ⊗ at 1) tt in
          sign-plus (pos a *ℤ dot g v +ℤ y) (omega (arith, ints)) ∙ sym (sign-plus (dot g v) m))

module _ (M : Map) (V : Valid M) (d : Vector) (F : FlatMap M d) (v : Vector) (off : IsDirection (cross v d)) where
  abbrev n : Vector
  n = cross v d

  abbrev size : ℕ
  size = nat_abs (dot n n)

  size-is : (pos size ≡ dot n n) × (0 < size)
  size-is = let h = self-pos n off in (omega (arith, ints), omega (arith, ints))

  hv : IsDirection v
  hv = cross-direction_left v d off

  -- (n.n) e = x v + y n + z d
  abbrev x_of : Vector → ℤ
  x_of e = dot e v *ℤ dot d d -ℤ dot e d *ℤ dot v d

  abbrev z_of : Vector → ℤ
  z_of e = dot e d *ℤ dot v v -ℤ dot e v *ℤ dot v d

  record Components (e : Vector) : Type 0 where
    in_x : dot n n *ℤ e.x ≡ x_of e *ℤ v.x +ℤ dot n e *ℤ n.x +ℤ z_of e *ℤ d.x
    in_y : dot n n *ℤ e.y ≡ x_of e *ℤ v.y +ℤ dot n e *ℤ n.y +ℤ z_of e *ℤ d.y
    in_z : dot n n *ℤ e.z ≡ x_of e *ℤ v.z +ℤ dot n e *ℤ n.z +ℤ z_of e *ℤ d.z

  parts : (e : Vector) → Components e
  parts e =
      let ex = at 0 in let ey = at 1 in let ez = at 2 in
      let vx = at 3 in let vy = at 4 in let vz = at 5 in
      let dx = at 6 in let dy = at 7 in let dz = at 8 in
      let nx = vy ⊗ dz ⊖ vz ⊗ dy in let ny = vz ⊗ dx ⊖ vx ⊗ dz in let nz = vx ⊗ dy ⊖ vy ⊗ dx in
      let xs = e.x ∷ e.y ∷ e.z ∷ v.x ∷ v.y ∷ v.z ∷ d.x ∷ d.y ∷ d.z ∷ [] in
      let nn = nx ⊗ nx ⊕ ny ⊗ ny ⊕ nz ⊗ nz in
      let ne = nx ⊗ ex ⊕ ny ⊗ ey ⊕ nz ⊗ ez in
      let ev = ex ⊗ vx ⊕ ey ⊗ vy ⊕ ez ⊗ vz in
      let ed = ex ⊗ dx ⊕ ey ⊗ dy ⊕ ez ⊗ dz in
      let vd = vx ⊗ dx ⊕ vy ⊗ dy ⊕ vz ⊗ dz in
      let dd = dx ⊗ dx ⊕ dy ⊗ dy ⊕ dz ⊗ dz in
      let vv = vx ⊗ vx ⊕ vy ⊗ vy ⊕ vz ⊗ vz in
      let a = ev ⊗ dd ⊖ ed ⊗ vd in
      let c = ed ⊗ vv ⊖ ev ⊗ vd in
      record {
        in_x = ring xs (nn ⊗ ex) (a ⊗ vx ⊕ ne ⊗ nx ⊕ c ⊗ dx) tt;
        in_y = ring xs (nn ⊗ ey) (a ⊗ vy ⊕ ne ⊗ ny ⊕ c ⊗ dy) tt;
        in_z = ring xs (nn ⊗ ez) (a ⊗ vz ⊕ ne ⊗ nz ⊕ c ⊗ dz) tt;
      }

  -- close to v the label toward e is that toward c f, where e and c f differ by multiples of v and d
  module _ (e f : Vector) (c : ℕ) (split : (dot n e *ℤ n.x ≡ pos c *ℤ f.x) × (dot n e *ℤ n.y ≡ pos c *ℤ f.y) × (dot n e *ℤ n.z ≡ pos c *ℤ f.z)) where
    abbrev far : ℕ
    far = amount (forms M) e + c * amount (forms M) f + nat_abs (x_of e) + 1

    abbrev total : ℕ
    total = nat_abs (pos size *ℤ pos far +ℤ x_of e)

    total-is : (pos total ≡ pos size *ℤ pos far +ℤ x_of e) × (c * amount (forms M) f < total)
    total-is =
        let s = size-is.1 in
        let p = mul-le 1 far size far (omega arith) (omega arith) in
        let q : pos far ≤ℤ (pos size *ℤ pos far +ℤ pos 0) = omega (arith, ints) in
        (omega (arith, ints), omega (arith, ints))

    -- (n.n) (far v + e) = (total v + c f) + z d
    moved : combination (pos size) (blend far v 1 e) (pos 0) (blend far v 1 e) ≡ combination (pos 1) (blend total v c f) (z_of e) d
    moved = vector-same (combination (pos size) (blend far v 1 e) (pos 0) (blend far v 1 e)) (combination (pos 1) (blend total v c f) (z_of e) d)
        (one v.x e.x f.x d.x (dot n e *ℤ n.x) (p_x) split.0) (one v.y e.y f.y d.y (dot n e *ℤ n.y) (p_y) split.1) (one v.z e.z f.z d.z (dot n e *ℤ n.z) (p_z) split.2)
      where
        p_x : pos size *ℤ e.x ≡ x_of e *ℤ v.x +ℤ dot n e *ℤ n.x +ℤ z_of e *ℤ d.x
        p_x = let p = parts e in ap (λ r. r *ℤ e.x) size-is.0 ∙ p.in_x

        p_y : pos size *ℤ e.y ≡ x_of e *ℤ v.y +ℤ dot n e *ℤ n.y +ℤ z_of e *ℤ d.y
        p_y = let p = parts e in ap (λ r. r *ℤ e.y) size-is.0 ∙ p.in_y

        p_z : pos size *ℤ e.z ≡ x_of e *ℤ v.z +ℤ dot n e *ℤ n.z +ℤ z_of e *ℤ d.z
        p_z = let p = parts e in ap (λ r. r *ℤ e.z) size-is.0 ∙ p.in_z

        one : (vx ex fx dx w : ℤ) → pos size *ℤ ex ≡ x_of e *ℤ vx +ℤ w +ℤ z_of e *ℤ dx → w ≡ pos c *ℤ fx
            → pos size *ℤ (pos far *ℤ vx +ℤ pos 1 *ℤ ex) +ℤ pos 0 *ℤ (pos far *ℤ vx +ℤ pos 1 *ℤ ex) ≡ pos 1 *ℤ (pos total *ℤ vx +ℤ pos c *ℤ fx) +ℤ z_of e *ℤ dx
        one vx ex fx dx w p q =
            ring (pos size ∷ pos far ∷ vx ∷ ex ∷ []) (at 0 ⊗ (at 1 ⊗ at 2 ⊕ num (pos 1) ⊗ at 3) ⊕ num (pos 0) ⊗ (at 1 ⊗ at 2 ⊕ num (pos 1) ⊗ at 3)) (at 0 ⊗ at 1 ⊗ at 2 ⊕ at 0 ⊗ at 3) tt
            ∙ ap (λ r. pos size *ℤ pos far *ℤ vx +ℤ r) p
            ∙ ring (pos size ∷ pos far ∷ vx ∷ x_of e ∷ w ∷ z_of e ∷ dx ∷ []) (at 0 ⊗ at 1 ⊗ at 2 ⊕ (at 3 ⊗ at 2 ⊕ at 4 ⊕ at 5 ⊗ at 6)) ((at 0 ⊗ at 1 ⊕ at 3) ⊗ at 2 ⊕ at 4 ⊕ at 5 ⊗ at 6) tt
            ∙ ap (λ r. r *ℤ vx +ℤ w +ℤ z_of e *ℤ dx) (sym total-is.0) ∙ ap (λ r. pos total *ℤ vx +ℤ r +ℤ z_of e *ℤ dx) q
            ∙ ring (pos total ∷ vx ∷ pos c ∷ fx ∷ z_of e ∷ dx ∷ []) (at 0 ⊗ at 1 ⊕ at 2 ⊗ at 3 ⊕ at 4 ⊗ at 5) (num (pos 1) ⊗ (at 0 ⊗ at 1 ⊕ at 2 ⊗ at 3) ⊕ at 4 ⊗ at 5) tt

    shifted : (m : Label) → IsDirection (blend total v c f) → NearLabel M v e m → MapLabel M (blend total v c f) m
    shifted m h a =
        let u = far-from_near M V v e far (omega arith) m a in
        let w = label-by_signs M V (blend far v 1 e) (combination (pos size) (blend far v 1 e) (pos 0) (blend far v 1 e)) (scaled-signs (forms M) (blend far v 1 e) size size-is.1) m u in
        flat-back M d F (blend total v c f) 1 (z_of e) (omega arith) m h (subst (λ (r : Vector). MapLabel M r m) moved w)

    near-shifted : 0 < c → IsDirection (cross v f) → (m : Label) → NearLabel M v e m → NearLabel M v f m
    near-shifted sc g m a =
        let k = amount (forms M) f in
        let s = total-is.1 in
        let w = shifted m (between-direction v f total c sc g) a in
        near-from_far M V v f k (omega arith) m (label-by_signs M V (blend total v c f) (blend k v 1 f) (λ h l. sym (far-scaled (forms M) v f total c sc (omega arith) h l)) m w)

  -- a direction in the plane of v and d
  near-level : (e : Vector) → dot n e ≡ pos 0 → (m : Label) → NearLabel M v e m → MapLabel M v m
  near-level e z m a =
      let s = (total-is e e 0 split).1 in
      let t = total e e 0 split in
      let same : SameSigns (forms M) v (blend t v 0 e) = λ g l. ap sign (dot-comb g (pos t) v (pos 0) e ∙ ring (pos t ∷ dot g v ∷ dot g e ∷ []) (at 0 ⊗ at 1 ⊕ num (pos 0) ⊗ at 2) (at 0 ⊗ at 1) tt) ∙ sign-scaled (pos t) (dot g v) (omega (arith, ints)) in
      let w = shifted e e 0 split m (direction-by_signs M v (blend t v 0 e) same hv) a in
      label-by_signs M V (blend t v 0 e) v (λ g l. sym (same g l)) m w
    where
      zero-split : (x y : ℤ) → dot n e *ℤ x ≡ pos 0 *ℤ y
      zero-split x y = ap (λ r. r *ℤ x) z ∙ ring (x ∷ y ∷ []) (num (pos 0) ⊗ at 0) (num (pos 0) ⊗ at 1) tt

      split : (dot n e *ℤ n.x ≡ pos 0 *ℤ e.x) × (dot n e *ℤ n.y ≡ pos 0 *ℤ e.y) × (dot n e *ℤ n.z ≡ pos 0 *ℤ e.z)
      split = (zero-split n.x e.x, zero-split n.y e.y, zero-split n.z e.z)

  abbrev down : Vector
  down = opposite n

  off-n : IsDirection (cross v n)
  off-n = apart v v n (λ z. let h = self-pos v hv in omega (arith, ints)) (dot-comm v n ∙ cross-self v d) off

  off-down : IsDirection (cross v down)
  off-down = apart v v down (λ z. let h = self-pos v hv in omega (arith, ints)) (let e = dot-opposite v n in let f = dot-comm v n ∙ cross-self v d in omega (arith, ints)) (direction-opposite n off)

  -- a direction off d is straight along the plane of d
  pub flat-straight : NearStraight M v
  flat-straight = by (label-exists M V v hv) (near-exists M V v n hv) (near-exists M V v down hv)
    where
      by : (m : Label) × MapLabel M v m → (a : Label) × NearLabel M v n a → (b : Label) × NearLabel M v down b → NearStraight M v
      by (m, l) (a, p) (b, q) = record { normal = n; direction = off; level = cross-self v d; pos = a; label = m; neg = b; at_d = l; near = near }
        where
          near : (e : Vector) → IsDirection (cross v e) → NearLabel M v e (by_side a m b (sign (dot n e)))
          near e f = at_e (near-exists M V v e hv)
            where
              at_e : (k : Label) × NearLabel M v e k → NearLabel M v e (by_side a m b (sign (dot n e)))
              at_e (k, r) = subst (NearLabel M v e) (by_order (dot n e) (pos 0)
                  (λ l. let c = nat_abs (dot n e) in
                  let one = λ (x : ℤ). (let w : pos c ≡ pos 0 -ℤ dot n e = omega (arith, ints) in ring (dot n e ∷ x ∷ []) (at 0 ⊗ at 1) ((num (pos 0) ⊖ at 0) ⊗ neg (at 1)) tt ∙ ap (λ y. y *ℤ neg_ℤ x) (sym w)) in
                  near-unique M V v down k b (near-shifted e down c (one n.x, one n.y, one n.z) (omega (arith, ints)) off-down k r) q ∙ ap (by_side a m b) (sym (sign-minus (dot n e) l)))
                  (λ z. label-unique M V v k m (near-level e z k r) l ∙ ap (by_side a m b) (sym (ap sign z)))
                  (λ l. let c = nat_abs (dot n e) in
                  let one = λ (x : ℤ). (let w : dot n e ≡ pos c = omega (arith, ints) in ap (λ y. y *ℤ x) w) in
                  near-unique M V v n k a (near-shifted e n c (one n.x, one n.y, one n.z) (omega (arith, ints)) off-n k r) p ∙ ap (by_side a m b) (sym (sign-plus (dot n e) l)))) r

-- ---- least maps
module _ (M : Map) (V : Valid M) (L : Least M) (d : Vector) (F : FlatMap M d) where
  pub flat-svertex : (k : ℕ) (v : MapVertex) → IsAt M.svertices k v → IsZero (cross v.dir d)
  flat-svertex k v a = ⊎_elim (λ z. z) (λ f. absurd (L.no_straight k v a (flat-straight M V d F v.dir f))) (zero-decided (cross v.dir d))
