-- Vectors in general position: with the signs of a given vector, and with no form of a list nought.
use Rattle.law_geometry.proofs.near.Prelude.{◌≡◌, ℕ, ◌+◌, ◌*◌, ◌<◌, ◌≤◌, ℤ, pos, ◌+ℤ◌, ◌-ℤ◌, ◌*ℤ◌, ◌<ℤ◌, nat_abs, arith, refl, ap, sym, ◌∙◌, ◌⊎◌, inl, inr, ⊎_elim, List, ◌∷◌, subst, [], ints, le-mul_of_pos_right, mul-le-mul_left, ring, at, num, ◌⊕◌, ◌⊖◌, ◌⊗◌, follows, given, none, sign, sign-plus, plus-is, square_nonneg, nought-or, square_pos, abs-pos, Vector, vector, dot, blend, IsDirection, SpacePoint, Form, form, form_at, NearNumber, Within, of_point, of_direction, direction_form, IsZeroForm, Avoids, homogeneous}
use Rattle.nef_space.proofs.Order.{Lies}
use Rattle.nef_space.proofs.Samples.{each, lies-each}
use Rattle.law_geometry.proofs.near.Sums.{Homogeneous, form_on, mix, form-direction}
use Rattle.law_geometry.proofs.near.Far.{form_amount, KeepsFormSigns, far-keeps, far-level, same-off}

-- the form's own numbers as a vector
abbrev pub numbers_of : Form → Homogeneous
numbers_of h = homogeneous h.a h.b h.c h.d

zero-form : (h : Form) → IsZeroForm h ⊎ (IsZeroForm h → ⊥)
zero-form h = by (nought-or h.a) (nought-or h.b) (nought-or h.c) (nought-or h.d)
  where
    by : (h.a ≡ pos 0) ⊎ (h.a ≡ pos 0 → ⊥) → (h.b ≡ pos 0) ⊎ (h.b ≡ pos 0 → ⊥) → (h.c ≡ pos 0) ⊎ (h.c ≡ pos 0 → ⊥) → (h.d ≡ pos 0) ⊎ (h.d ≡ pos 0 → ⊥) → IsZeroForm h ⊎ (IsZeroForm h → ⊥)
    by (inr n) b c d = inr (λ z. n z.0)
    by (inl a) (inr n) c d = inr (λ z. n z.1)
    by (inl a) (inl b) (inr n) d = inr (λ z. n z.2)
    by (inl a) (inl b) (inl c) (inr n) = inr (λ z. n z.3)
    by (inl a) (inl b) (inl c) (inl d) = inl (a, b, c, d)

form-self : (h : Form) → (IsZeroForm h → ⊥) → pos 0 <ℤ form_on h (numbers_of h)
form-self h f =
    let a = square_nonneg h.a in let b = square_nonneg h.b in let c = square_nonneg h.c in let d = square_nonneg h.d in
    ⊎_elim (λ x. ⊎_elim (λ y. ⊎_elim (λ z. ⊎_elim (λ w. absurd (f (x, y, z, w)))
    (λ w. let p = square_pos h.d w in omega (arith, ints)) (nought-or h.d))
    (λ z. let p = square_pos h.c z in omega (arith, ints)) (nought-or h.c))
    (λ y. let p = square_pos h.b y in omega (arith, ints)) (nought-or h.b))
    (λ x. let p = square_pos h.a x in omega (arith, ints)) (nought-or h.a)

-- a vector at which no form of the list is nought
pub generic : (hs : List Form) → (e : Homogeneous) × Avoids hs e
generic [] = (homogeneous (pos 0) (pos 0) (pos 0) (pos 0), λ h l n z. l)
generic (h ∷ hs) = by (generic hs)
  where
    by : (e : Homogeneous) × Avoids hs e → (e : Homogeneous) × Avoids (h ∷ hs) e
    by (e, f) = ⊎_elim
        (λ z. (e, λ g l n. ⊎_elim (λ (q : h ≡ g). λ x. n (subst IsZeroForm q z)) (λ m. f g m n) l))
        (λ n. ⊎_elim
        (λ z.
        let u = numbers_of h in
        let k = form_amount hs u in
        let s = form-self h n in (
          mix k e 1 u,
          λ g l i. ⊎_elim
              (λ (q : h ≡ g). λ y. same-off (form_on h u) (form_on h (mix k e 1 u)) (far-level hs e u k (omega arith) h z) (λ x. omega (arith, ints)) (subst (λ (r : Form). form_on r (mix k e 1 u) ≡ pos 0) (sym q) y))
              (λ m. same-off (form_on g e) (form_on g (mix k e 1 u)) (far-keeps hs e u k (omega arith) g m (f g m i)) (f g m i)) l,
        ))
        (λ z. (e, λ g l i. ⊎_elim (λ (q : h ≡ g). subst (λ (r : Form). form_on r e ≡ pos 0 → ⊥) q z) (λ m. f g m i) l))
        (nought-or (form_on h e)))
        (zero-form h)

-- and so it is at all k v + e with large k, where the forms keep the signs that they have at v
pub generic-near : (hs : List Form) (e v : Homogeneous) (k : ℕ) → Avoids hs e → form_amount hs e ≤ k → KeepsFormSigns hs v (mix k v 1 e) × Avoids hs (mix k v 1 e)
generic-near hs e v k f l = (
  far-keeps hs v e k l,
  λ h m n. ⊎_elim
      (λ z. same-off (form_on h e) (form_on h (mix k v 1 e)) (far-level hs v e k l h z) (f h m n))
      (λ z. same-off (form_on h v) (form_on h (mix k v 1 e)) (far-keeps hs v e k l h m z) z) (nought-or (form_on h v)),
)

-- ---- directions
abbrev pub direction_forms : List Vector → List Form
direction_forms ns = each direction_form ns

pub generic_direction : List Vector → Vector
generic_direction ns = let e = (generic (direction_forms ns)).0 in vector e.x e.y e.z

module _ (ns : List Vector) where
  abbrev chosen : Homogeneous
  chosen = (generic (direction_forms ns)).0

  nonzero : (n : Vector) → IsDirection n → IsZeroForm (direction_form n) → ⊥
  nonzero n f z = f (z.0, z.1, z.2)

  pub direction-avoids : (n : Vector) → Lies ns n → IsDirection n → dot n (generic_direction ns) ≡ pos 0 → ⊥
  unfolding generic_direction
  direction-avoids n l f z = (generic (direction_forms ns)).1 (direction_form n) (lies-each direction_form ns n l) (nonzero n f) (form-direction n chosen ∙ z)

  pub direction_bound : ℕ
  direction_bound = form_amount (direction_forms ns) chosen

  pub direction-near : (d : Vector) (k : ℕ) → direction_bound ≤ k → (n : Vector) → Lies ns n
      → ((dot n d ≡ pos 0 → ⊥) → sign (dot n (blend k d 1 (generic_direction ns))) ≡ sign (dot n d)) × (IsDirection n → dot n (blend k d 1 (generic_direction ns)) ≡ pos 0 → ⊥)
  unfolding generic_direction direction_bound
  direction-near d k b n l =
      let g = generic-near (direction_forms ns) chosen (of_direction d) k (generic (direction_forms ns)).1 b in
      let m = lies-each direction_form ns n l in
      let v = mix k (of_direction d) 1 chosen in
      let e = form-direction n v in
      let i = form-direction n (of_direction d) in (
        λ f. ap sign (sym e) ∙ g.0 (direction_form n) m (λ z. f (sym i ∙ z)) ∙ ap sign i,
        λ f z. g.1 (direction_form n) m (nonzero n f) (e ∙ z),
      )

-- ---- points
abbrev pub weight_form : Form
weight_form = form (pos 0) (pos 0) (pos 0) (pos 1)

weight-form : (v : Homogeneous) → form_on weight_form v ≡ v.w
weight-form v = ring (v.x ∷ v.y ∷ v.z ∷ v.w ∷ []) (num (pos 0) ⊗ at 0 ⊕ num (pos 0) ⊗ at 1 ⊕ num (pos 0) ⊗ at 2 ⊕ num (pos 1) ⊗ at 3) (at 3) tt

-- the point of a vector with abs-pos weight
abbrev pub point_of_vector : (v : Homogeneous) → pos 0 <ℤ v.w → SpacePoint
point_of_vector v h = record { x = v.x; y = v.y; z = v.z; w = nat_abs v.w; proper = abs-pos v.w h }

pub place-of-form : (h : Form) (v : Homogeneous) (s : pos 0 <ℤ v.w) → form_at h (point_of_vector v s) ≡ form_on h v
place-of-form h v s = ap (λ r. h.a *ℤ v.x +ℤ h.b *ℤ v.y +ℤ h.c *ℤ v.z +ℤ h.d *ℤ r) (let e : pos (nat_abs v.w) ≡ v.w = omega (arith, ints) in e)

-- k p + e is near to p for large k: one coordinate
close-one : (n k v : ℕ) (x y w u : ℤ) (s : pos 0 <ℤ u) → u ≡ pos k *ℤ pos v +ℤ pos 1 *ℤ w → 0 < v → n * nat_abs (y *ℤ pos v -ℤ x *ℤ w) + nat_abs w < k
    → NearNumber n (pos k *ℤ x +ℤ pos 1 *ℤ y) (nat_abs u) x v
close-one n k v x y w u s e p h =
    let a : pos (nat_abs u) ≡ u = omega (arith, ints) in
    let i = follows (pos k ∷ pos v ∷ x ∷ y ∷ w ∷ u ∷ pos (nat_abs u) ∷ []) ((at 0 ⊗ at 2 ⊕ num (pos 1) ⊗ at 3) ⊗ at 1 ⊖ at 2 ⊗ at 6) (at 3 ⊗ at 1 ⊖ at 2 ⊗ at 4)
    (given (num (pos 0) ⊖ at 2) (at 6) (at 5) a (given (num (pos 0) ⊖ at 2) (at 5) (at 0 ⊗ at 1 ⊕ num (pos 1) ⊗ at 4) e none)) tt in
    let j = ap (λ (r : ℤ). n * nat_abs r) i in
    let f = le-mul_of_pos_right {m = v} k p in
    let g = le-mul_of_pos_right {m = v} (nat_abs u) p in
    let b : k * v ≤ nat_abs u + nat_abs w = size (k * v) (nat_abs u) w (a ∙ e) in
    omega arith
  where
    size : (m l : ℕ) (w : ℤ) → pos l ≡ pos m +ℤ pos 1 *ℤ w → m ≤ l + nat_abs w
    size m l w e = omega (arith, ints)

-- a point in general position near p
pub record GenericSpacePoint (hs : List Form) (p : SpacePoint) (m : ℕ) : Type 0 where
  pub place : SpacePoint
  pub near : Within m p place
  pub keeps : (h : Form) → Lies hs h → (form_at h p ≡ pos 0 → ⊥) → sign (form_at h place) ≡ sign (form_at h p)
  pub avoids : (h : Form) → Lies hs h → ¬ IsZeroForm h → form_at h place ≡ pos 0 → ⊥

pub generic_point : (hs : List Form) (p : SpacePoint) (m : ℕ) → GenericSpacePoint hs p m
generic_point hs p m =
    let g = generic hs in
    let e = g.0 in
    let gap : ℤ → ℤ → ℕ = λ x y. nat_abs (y *ℤ pos p.w -ℤ x *ℤ e.w) in
    let k = m * (gap p.x e.x + gap p.y e.y + gap p.z e.z) + nat_abs e.w + 1 + form_amount (weight_form ∷ hs) e in
    let v = mix k (of_point p) 1 e in
    let f = far-keeps (weight_form ∷ hs) (of_point p) e k (omega arith) weight_form (inl refl) (λ z. let w = p.proper in let i = weight-form (of_point p) in omega (arith, ints)) in
    let s : pos 0 <ℤ v.w = plus-is v.w (ap sign (sym (weight-form v)) ∙ f ∙ ap sign (weight-form (of_point p)) ∙ sign-plus (pos p.w) (let w = p.proper in omega (arith, ints))) in
    let n = generic-near hs e (of_point p) k g.1 (omega arith) in
    let near : (x y : ℤ) → gap x y ≤ gap p.x e.x + gap p.y e.y + gap p.z e.z → NearNumber m (pos k *ℤ x +ℤ pos 1 *ℤ y) (nat_abs v.w) x p.w = λ x y l.
    close-one m k p.w x y e.w v.w s refl p.proper (let c = mul-le-mul_left {m = gap x y} {n = gap p.x e.x + gap p.y e.y + gap p.z e.z} m l in omega arith) in
    record {
      place = point_of_vector v s;
      near = record { along_x = near p.x e.x (omega arith); along_y = near p.y e.y (omega arith); along_z = near p.z e.z (omega arith) };
      keeps = λ h l z. ap sign (place-of-form h v s) ∙ n.0 h l z;
      avoids = λ h l z y. n.1 h l z (sym (place-of-form h v s) ∙ y);
    }
