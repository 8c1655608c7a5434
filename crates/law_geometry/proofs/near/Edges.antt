-- Along a flat direction the number of flat directions stays until it drops; so each edge ends at two vertices.
use Rattle.law_geometry.proofs.near.Prelude.{◌≡◌, ℕ, ◌+◌, ◌*◌, ◌<◌, ◌≤◌, ℤ, pos, negsuc, ◌+ℤ◌, ◌-ℤ◌, ◌*ℤ◌, neg_ℤ, nat_abs, arith, refl, ap, sym, ◌∙◌, ◌⊎◌, inl, inr, ⊎_elim, ◌∷◌, subst, [], ints, unsigned_abs-mul, mul-le, mul-pos, le-mul_of_pos_right, ring, at, num, neg, ◌⊕◌, ◌⊖◌, ◌⊗◌, given, none, follows, follows_times, half_side, SpacePoint, step, Within, SamePoint, InClosedFrame, toward, IsBetween, Vector, opposite, IsDirection, SameDirection, Set, Flat, FlatDim, IsVertex, carriers, combination, FirstChange, IsFlatBelow, Drop, WayEnd, EdgeAround, SameUpToFactor, of_point, of_direction, nought-or, zero-decided, vector-same, direction-left, direction-right}
use Rattle.law_geometry.proofs.near.Near.{reach_all}
use Rattle.law_geometry.proofs.near.Flats.{Flat-from_cone, FlatCone-from_flat}
use Rattle.law_geometry.proofs.near.Rays.{signs-same, slope-same, same-point_sym}
use Rattle.law_geometry.proofs.near.Directions.{same-factor, factor-same}
use Rattle.law_geometry.proofs.near.Alike.{germs-by_cell, Flat-by_germs, FlatDim-by_germs, FlatDim-one}
use Rattle.law_geometry.proofs.near.Frames.{flat_dim-outside}
use Rattle.law_geometry.proofs.near.FlatOperations.{flat-combination}
use Rattle.law_geometry.proofs.near.FlatDecided.{near-of_flat, flat-by_signs, flat_dim-of, flat_dim-decided}
use Rattle.law_geometry.proofs.near.Sums.{same-sym, same-trans, past-mixed, before-at-after}
use Rattle.law_geometry.proofs.near.Mixed.{factor-point, from-start, point-toward, toward-point}
use Rattle.law_geometry.proofs.near.Points.{mix_point, mix-close, far}
use Rattle.law_geometry.proofs.near.Between.{mixed-of, between-of, between-mix, between-turned}
use Rattle.law_geometry.proofs.near.FirstChange.{first-change}
use Rattle.law_geometry.proofs.near.Even.{germ-nearby, flat-way, flat-divided}
use Rattle.law_geometry.proofs.near.Skeleton.{flat_dim-nearby}
use Rattle.nef_space.proofs.Vectors.{neg-zero}
use Rattle.nef_space.proofs.Elementary.{less-unless, size-positive, once-opposite}

-- ---- a point on the way from x to y that is close to x
abbrev pub start : ℕ → SpacePoint → SpacePoint → SpacePoint
start n x y = mix_point (n * far x y + 1) x y

pub start-close : (n : ℕ) (x y : SpacePoint) → Within n x (start n x y)
start-close n x y = mix-close n (n * far x y + 1) x y (omega arith)

pub start-between : (n : ℕ) (x y : SpacePoint) → IsDirection (toward x y) → IsBetween x (start n x y) y
start-between n x y d = between-mix (n * far x y + 1) x y (omega arith) d

-- it lies in the direction of y
pub start-toward : (n : ℕ) (x y : SpacePoint) → toward x (start n x y) ≡ toward x y
start-toward n x y = vector-same (toward x (start n x y)) (toward x y) (one (n * far x y + 1) x.x y.x) (one (n * far x y + 1) x.y y.y) (one (n * far x y + 1) x.z y.z)
  where
    one : (m : ℕ) (a b : ℤ) → (pos m *ℤ a +ℤ pos 1 *ℤ b) *ℤ pos x.w -ℤ a *ℤ pos (m * x.w + 1 * y.w) ≡ b *ℤ pos x.w -ℤ a *ℤ pos y.w
    one m a b = ring (pos m ∷ a ∷ b ∷ pos x.w ∷ pos y.w ∷ []) ((at 0 ⊗ at 1 ⊕ num (pos 1) ⊗ at 2) ⊗ at 3 ⊖ at 1 ⊗ (at 0 ⊗ at 3 ⊕ num (pos 1) ⊗ at 4)) (at 2 ⊗ at 3 ⊖ at 1 ⊗ at 4) tt

-- ---- flat directions along a line
flat-same : (s : Set) (p : SpacePoint) (d e : Vector) → SameDirection d e → Flat s p d → Flat s p e
flat-same s p d e same f = Flat-from_cone s p e (flat-by_signs s p d e (λ h i o. slope-same h d e same) (FlatCone-from_flat s p d f))

-- the way on from x, where the way back is flat
flat-onward : (s : Set) (p x q : SpacePoint) → IsBetween p x q → Flat s x (toward x p) → Flat s x (toward x q)
flat-onward s p x q b f =
    let g = flat-combination s x (toward x p) (toward x p) (negsuc 0) (pos 0) f f in
    flat-same s x (toward p x) (toward x q) b (subst (Flat s x) (vector-same (combination (negsuc 0) (toward x p) (pos 0) (toward x p)) (toward p x) (one p.x x.x) (one p.y x.y) (one p.z x.z)) g)
  where
    one : (a b : ℤ) → negsuc 0 *ℤ (a *ℤ pos x.w -ℤ b *ℤ pos p.w) +ℤ pos 0 *ℤ (a *ℤ pos x.w -ℤ b *ℤ pos p.w) ≡ b *ℤ pos p.w -ℤ a *ℤ pos x.w
    one a b = ring (a ∷ b ∷ pos x.w ∷ pos p.w ∷ []) (num (negsuc 0) ⊗ (at 0 ⊗ at 2 ⊖ at 1 ⊗ at 3) ⊕ num (pos 0) ⊗ (at 0 ⊗ at 2 ⊖ at 1 ⊗ at 3)) (at 1 ⊗ at 3 ⊖ at 0 ⊗ at 2) tt

-- the way to a point between
flat-part : (s : Set) (x y q : SpacePoint) → IsBetween x y q → Flat s x (toward x q) → Flat s x (toward x y)
flat-part s x y q b f =
    let c = mixed-of x y q b in
    flat-divided s x (pos c.k) (combination (pos c.j) (toward x q) (pos 0) (toward x q)) (toward x y) (let h = c.some_k in omega (arith, ints))
    (from-start x y q c x.x q.x y.x c.sum.is_x ∙ one (pos c.j) (toward x q).x)
    (from-start x y q c x.y q.y y.y c.sum.is_y ∙ one (pos c.j) (toward x q).y)
    (from-start x y q c x.z q.z y.z c.sum.is_z ∙ one (pos c.j) (toward x q).z)
    (flat-combination s x (toward x q) (toward x q) (pos c.j) (pos 0) f f)
  where
    one : (j z : ℤ) → j *ℤ z ≡ j *ℤ z +ℤ pos 0 *ℤ z
    one j z = ring (j ∷ z ∷ []) (at 0 ⊗ at 1) (at 0 ⊗ at 1 ⊕ num (pos 0) ⊗ at 1) tt

-- the way from an equal point
flat-from_same : (s : Set) (p x q : SpacePoint) → SamePoint x p → Flat s p (toward p q) → Flat s x (toward x q)
flat-from_same s p x q same f =
    let g = Flat-by_germs s s p x (germs-by_cell s p x (signs-same (carriers s) p x (same-point_sym x p same))) (toward p q) f in
    flat-divided s x (pos p.w) (combination (pos x.w) (toward p q) (pos 0) (toward p q)) (toward x q) (let h = p.proper in omega (arith, ints))
    (one x.x p.x q.x same.along_x) (one x.y p.y q.y same.along_y) (one x.z p.z q.z same.along_z) (flat-combination s x (toward p q) (toward p q) (pos x.w) (pos 0) g g)
  where
    one : (a b c : ℤ) → a *ℤ pos p.w ≡ b *ℤ pos x.w → pos p.w *ℤ (c *ℤ pos x.w -ℤ a *ℤ pos q.w) ≡ pos x.w *ℤ (c *ℤ pos p.w -ℤ b *ℤ pos q.w) +ℤ pos 0 *ℤ (c *ℤ pos p.w -ℤ b *ℤ pos q.w)
    one a b c e = follows (a ∷ b ∷ c ∷ pos p.w ∷ pos q.w ∷ pos x.w ∷ [])
        (at 3 ⊗ (at 2 ⊗ at 5 ⊖ at 0 ⊗ at 4)) (at 5 ⊗ (at 2 ⊗ at 3 ⊖ at 1 ⊗ at 4) ⊕ num (pos 0) ⊗ (at 2 ⊗ at 3 ⊖ at 1 ⊗ at 4))
        (given (num (pos 0) ⊖ at 4) (at 0 ⊗ at 3) (at 1 ⊗ at 5) e none) tt

-- close to x, a flat way leads to points with the cone of x
dim-onward : (s : Set) (k : ℕ) (x y : SpacePoint) → FlatDim s x k → Flat s x (toward x y) → Within (reach_all (carriers s) x) x y → FlatDim s y k
dim-onward s k x y f g c = FlatDim-by_germs s s x y (λ v l.
    let a = near-of_flat s x (toward x y) (FlatCone-from_flat s x (toward x y) g) v l in
    let b = germ-nearby s x y c v l in
    (λ h. b.1 (a.0 h), λ h. a.1 (b.0 h))) k f

-- ---- along a flat way the number stays until it drops
pub even-until : (s : Set) (k : ℕ) (p q : SpacePoint) → FlatDim s p k → Flat s p (toward p q) → ((r : SpacePoint) → IsBetween p r q → FlatDim s r k) ⊎ Drop s k p q
even-until s k p q f way = ⊎_elim (λ all. inl all) (λ c. by c c.on_segment c.change)
    (first-change (carriers s) (λ r. FlatDim s r k) (λ r t same. FlatDim-by_germs s s r t (germs-by_cell s r t same) k) (λ r. flat_dim-decided s r k) p q f)
  where
    -- the point close to x on the way back to p
    back : (x : SpacePoint) → IsBetween p x q → SpacePoint
    back x b = start (reach_all (carriers s) x) x p

    back-between : (x : SpacePoint) (b : IsBetween p x q) → IsBetween p (back x b) x
    back-between x b = between-turned x p (back x b) (start-between (reach_all (carriers s) x) x p (λ z. direction-left (toward p x) (toward x q) b (point-toward p x (same-point_sym x p (toward-point x p z)))))

    -- at x, where the number is k, the way on is flat
    onward : (c : FirstChange (λ r. FlatDim s r k) p q) → SamePoint c.at_place p ⊎ IsBetween p c.at_place q → FlatDim s c.at_place k → Flat s c.at_place (toward c.at_place q)
    onward c (inl same) g = flat-from_same s p c.at_place q same way
    onward c (inr b) g =
        let x = c.at_place in
        let r = back x b in
        let h = flat-way s k x r g (c.stands_before r (back-between x b)) (start-close (reach_all (carriers s) x) x p) in
        flat-onward s p x q b (⊎_elim
        (λ z. absurd (direction-left (toward x r) (toward r p) (between-turned p x r (back-between x b)) z))
        (λ i. subst (Flat s x) (start-toward (reach_all (carriers s) x) x p) (h i))
        (zero-decided (toward x r)))

    by : (c : FirstChange (λ r. FlatDim s r k) p q) → SamePoint c.at_place p ⊎ IsBetween p c.at_place q
        → ((FlatDim s c.at_place k → ⊥) × IsBetween p c.at_place q) ⊎ (FlatDim s c.at_place k × ((next : SpacePoint) × IsBetween c.at_place next q × ((r : SpacePoint) → IsBetween c.at_place r next → FlatDim s r k → ⊥)))
        → ((r : SpacePoint) → IsBetween p r q → FlatDim s r k) ⊎ Drop s k p q
    by c on (inl (n, b)) =
        let x = c.at_place in
        let j = flat_dim-of s x in
        let r = back x b in
        let l = flat_dim-nearby s x r (start-close (reach_all (carriers s) x) x p) k j.0 j.1 (c.stands_before r (back-between x b)) in
        inr (record { at_place = x; between = b; even_before = c.stands_before; drops = (j.0, less-unless j.0 k l (λ e. n (subst (FlatDim s x) e j.1)), j.1) })
    by c on (inr (g, (y, b, fails))) =
        let x = c.at_place in
        let n = reach_all (carriers s) x in
        let r = start n x y in
        let a = subst (Flat s x) (sym (start-toward n x y)) (flat-part s x y q b (onward c on g)) in
        absurd (fails r (start-between n x y (direction-left (toward x y) (toward y q) b)) (dim-onward s k x r g a (start-close n x y)))

-- ---- a point outside the frame
-- 2x + 2awe is larger than 2 half_side w
too-far : (x e : ℤ) (w a : ℕ) → 0 < w → (e ≡ pos 0 → ⊥) → nat_abs x + half_side < a → nat_abs (pos 1 *ℤ x +ℤ pos 1 *ℤ (x *ℤ pos 1 +ℤ pos (2 * a) *ℤ pos w *ℤ e)) ≤ half_side * (1 * w + 1 * (w * 1)) → ⊥
too-far x e w a some n big h =
    let m = pos a *ℤ pos w *ℤ e in
    let i = ring (x ∷ pos a ∷ pos w ∷ e ∷ []) (num (pos 1) ⊗ at 0 ⊕ num (pos 1) ⊗ (at 0 ⊗ num (pos 1) ⊕ num (pos 2) ⊗ at 1 ⊗ at 2 ⊗ at 3)) (num (pos 2) ⊗ at 0 ⊕ num (pos 2) ⊗ (at 1 ⊗ at 2 ⊗ at 3)) tt in
    let j : nat_abs m ≡ a * w * nat_abs e = unsigned_abs-mul (pos a *ℤ pos w) e ∙ ap (λ r. r * nat_abs e) (unsigned_abs-mul (pos a) (pos w)) in
    let k : a * w ≤ a * w * nat_abs e = le-mul_of_pos_right (a * w) (size-positive e n) in
    let l = mul-le (nat_abs x + half_side + 1) w a w (omega arith) (omega arith) in
    let o : nat_abs x ≤ nat_abs x * w = le-mul_of_pos_right (nat_abs x) some in
    too-large x m (nat_abs m) (half_side * w) (subst (λ (z : ℤ). nat_abs z ≤ half_side * (1 * w + 1 * (w * 1))) i h) (omega arith) refl (omega arith)
  where
    too-large : (x m : ℤ) (c b : ℕ) → nat_abs (pos 2 *ℤ x +ℤ pos 2 *ℤ m) ≤ half_side * (1 * w + 1 * (w * 1)) → half_side * (1 * w + 1 * (w * 1)) ≡ 2 * b → nat_abs m ≡ c → nat_abs x + b < c → ⊥
    too-large x m c b h e g l = omega (arith, ints)

abbrev pub beyond : SpacePoint → Vector → SpacePoint
beyond p d = step p (record { a = pos (2 * (nat_abs p.x + nat_abs p.y + nat_abs p.z + half_side + 1)); b = 1; proper = omega arith }) d

-- halfway there it is outside too
abbrev pub halfway : SpacePoint → Vector → SpacePoint
halfway p d = mix_point 1 p (beyond p d)

pub halfway-between : (p : SpacePoint) (d : Vector) → IsDirection (toward p (beyond p d)) → IsBetween p (halfway p d) (beyond p d)
halfway-between p d some = between-mix 1 p (beyond p d) (omega arith) some

pub halfway-outside : (p : SpacePoint) (d : Vector) → IsDirection d → InClosedFrame (halfway p d) → ⊥
halfway-outside p d some c = by (nought-or d.x) (nought-or d.y) (nought-or d.z)
  where
    by : (d.x ≡ pos 0) ⊎ (d.x ≡ pos 0 → ⊥) → (d.y ≡ pos 0) ⊎ (d.y ≡ pos 0 → ⊥) → (d.z ≡ pos 0) ⊎ (d.z ≡ pos 0 → ⊥) → ⊥
    by (inr n) y z = too-far p.x d.x p.w (nat_abs p.x + nat_abs p.y + nat_abs p.z + half_side + 1) p.proper n (omega arith) c.along_x
    by (inl x) (inr n) z = too-far p.y d.y p.w (nat_abs p.x + nat_abs p.y + nat_abs p.z + half_side + 1) p.proper n (omega arith) c.along_y
    by (inl x) (inl y) (inr n) = too-far p.z d.z p.w (nat_abs p.x + nat_abs p.y + nat_abs p.z + half_side + 1) p.proper n (omega arith) c.along_z
    by (inl x) (inl y) (inl z) = some (x, y, z)

-- how many times d the way to that point is
abbrev pub way_factor : SpacePoint → ℕ
way_factor p = 2 * (nat_abs p.x + nat_abs p.y + nat_abs p.z + half_side + 1) * p.w * p.w

pub way_factor-some : (p : SpacePoint) → 0 < way_factor p
way_factor-some p = mul-pos (mul-pos {m = 2 * (nat_abs p.x + nat_abs p.y + nat_abs p.z + half_side + 1)} {n = p.w} (omega arith) p.proper) p.proper

pub leads : (p : SpacePoint) (d : Vector) → toward p (beyond p d) ≡ combination (pos (way_factor p)) d (pos 0) d
leads p d = vector-same (toward p (beyond p d)) (combination (pos (way_factor p)) d (pos 0) d) (each p.x d.x) (each p.y d.y) (each p.z d.z)
  where
    each : (x e : ℤ) → (x *ℤ pos 1 +ℤ pos (2 * (nat_abs p.x + nat_abs p.y + nat_abs p.z + half_side + 1)) *ℤ pos p.w *ℤ e) *ℤ pos p.w -ℤ x *ℤ pos (p.w * 1) ≡ pos (way_factor p) *ℤ e +ℤ pos 0 *ℤ e
    each x e = ring (x ∷ pos (2 * (nat_abs p.x + nat_abs p.y + nat_abs p.z + half_side + 1)) ∷ pos p.w ∷ e ∷ [])
        ((at 0 ⊗ num (pos 1) ⊕ at 1 ⊗ at 2 ⊗ at 3) ⊗ at 2 ⊖ at 0 ⊗ (at 2 ⊗ num (pos 1))) (at 1 ⊗ at 2 ⊗ at 2 ⊗ at 3 ⊕ num (pos 0) ⊗ at 3) tt

pub leads-somewhere : (p : SpacePoint) (d : Vector) → IsDirection d → IsDirection (toward p (beyond p d))
leads-somewhere p d some z = some (each d.x (sym (ap (λ (v : Vector). v.x) (leads p d)) ∙ z.0), each d.y (sym (ap (λ (v : Vector). v.y) (leads p d)) ∙ z.1), each d.z (sym (ap (λ (v : Vector). v.z) (leads p d)) ∙ z.2))
  where
    each : (e : ℤ) → pos (way_factor p) *ℤ e +ℤ pos 0 *ℤ e ≡ pos 0 → e ≡ pos 0
    each e h = follows_times (e ∷ pos (way_factor p) ∷ []) (at 1) (at 0) (num (pos 0)) (given (num (pos 1)) (at 1 ⊗ at 0 ⊕ num (pos 0) ⊗ at 0) (num (pos 0)) h none) (let l = way_factor-some p in omega (arith, ints)) tt

-- ---- the end of a flat way
-- a point ahead of p, before which there are k flat directions, and fewer there
record End (s : Set) (k : ℕ) (p : SpacePoint) (d : Vector) : Type 0 where
  pub at_place : SpacePoint
  pub drops : IsFlatBelow s k at_place
  pub ahead : SameDirection (toward p at_place) d
  pub even : (r : SpacePoint) → IsBetween p r at_place → FlatDim s r k

module _ (s : Set) (k : ℕ) (few : k < 3) (p : SpacePoint) (d : Vector) (dim : FlatDim s p k) (some : IsDirection d) (flat : Flat s p d) where
  abbrev q : SpacePoint
  q = beyond p d

  abbrev m : ℕ
  m = way_factor p

  way-end : End s k p d
  way-end = by (even-until s k p q dim (subst (Flat s p) (sym (leads p d)) (flat-combination s p d d (pos m) (pos 0) flat flat)))
    where
      by : ((r : SpacePoint) → IsBetween p r q → FlatDim s r k) ⊎ Drop s k p q → End s k p d
      by (inl all) =
          let r = halfway p d in
          let e = FlatDim-one s r k 3 (all r (halfway-between p d (leads-somewhere p d some))) (flat_dim-outside s r (halfway-outside p d some)) in
          absurd (omega arith)
      by (inr c) =
          let x = c.at_place in
          let b = mixed-of p x q c.between in
          record {
            at_place = x;
            drops = c.drops;
            ahead = factor-same (toward p x) d (record {
              k = b.k;
              l = b.j * m;
              some_k = b.some_k;
              some_l = mul-pos b.some_j (way_factor-some p);
              is_x = from-start p x q b p.x q.x x.x b.sum.is_x ∙ ap (λ (v : Vector). pos b.j *ℤ v.x) (leads p d) ∙ each b.j d.x;
              is_y = from-start p x q b p.y q.y x.y b.sum.is_y ∙ ap (λ (v : Vector). pos b.j *ℤ v.y) (leads p d) ∙ each b.j d.y;
              is_z = from-start p x q b p.z q.z x.z b.sum.is_z ∙ ap (λ (v : Vector). pos b.j *ℤ v.z) (leads p d) ∙ each b.j d.z;
              is_w = ring (pos b.k ∷ pos (b.j * m) ∷ []) (at 0 ⊗ num (pos 0)) (at 1 ⊗ num (pos 0)) tt;
            }) (direction-left (toward p x) (toward x q) c.between);
            even = c.even_before;
          }
        where
          each : (j : ℕ) (e : ℤ) → pos j *ℤ (pos m *ℤ e +ℤ pos 0 *ℤ e) ≡ pos (j * m) *ℤ e
          each j e = ring (pos j ∷ pos m ∷ e ∷ []) (at 0 ⊗ (at 1 ⊗ at 2 ⊕ num (pos 0) ⊗ at 2)) (at 0 ⊗ at 1 ⊗ at 2) tt

pub flat_way-end : (s : Set) (k : ℕ) (p : SpacePoint) (d : Vector) → k < 3 → FlatDim s p k → IsDirection d → Flat s p d → WayEnd s k p d
flat_way-end s k p d few dim some flat =
    let e = way-end s k few p d dim some flat in
    record {
      at_place = e.at_place;
      is_ahead = e.ahead;
      even_before = e.even;
      drops = e.drops;
    }

-- ---- both ends
pub edge-around : (s : Set) (p : SpacePoint) → FlatDim s p 1 → EdgeAround s p
edge-around s p one = by one.0
  where
    by : (d : Vector) × IsDirection d × Flat s p d → EdgeAround s p
    by (d, some, flat) = ends (way-end s 1 (omega arith) p d one some flat) (way-end s 1 (omega arith) p (opposite d) one (λ z. some (neg-zero d.x z.0, neg-zero d.y z.1, neg-zero d.z z.2)) (flat-back flat))
      where
        flat-back : Flat s p d → Flat s p (opposite d)
        flat-back f = subst (Flat s p) (vector-same (combination (negsuc 0) d (pos 0) d) (opposite d) (once-opposite d.x) (once-opposite d.y) (once-opposite d.z)) (flat-combination s p d d (negsuc 0) (pos 0) f f)

        ends : End s 1 p d → End s 1 p (opposite d) → EdgeAround s p
        ends a b = record { source = b.at_place; target = a.at_place; source_is_vertex = vertex b; target_is_vertex = vertex a; between = middle; even = even }
          where
            vertex : {e : Vector} → (x : End s 1 p e) → IsVertex s x.at_place
            vertex x = let z : x.drops.0 ≡ 0 = (let l = x.drops.1 in omega arith) in subst (FlatDim s x.at_place) z x.drops.2

            -- (x_p w_b - x_b w_p) is (j/k) d
            turned : (x y u v k j e : ℤ) → k *ℤ (y *ℤ u -ℤ x *ℤ v) ≡ j *ℤ neg_ℤ e → k *ℤ (x *ℤ v -ℤ y *ℤ u) ≡ j *ℤ e
            turned x y u v k j e h = follows (x ∷ y ∷ u ∷ v ∷ k ∷ j ∷ e ∷ []) (at 4 ⊗ (at 0 ⊗ at 3 ⊖ at 1 ⊗ at 2)) (at 5 ⊗ at 6) (given (num (negsuc 0)) (at 4 ⊗ (at 1 ⊗ at 2 ⊖ at 0 ⊗ at 3)) (at 5 ⊗ neg (at 6)) h none) tt

            back : SameUpToFactor (of_direction (toward b.at_place p)) (of_direction d)
            back =
                let f = same-factor (toward p b.at_place) (opposite d) b.ahead in
                record {
                  k = f.k;
                  l = f.l;
                  some_k = f.some_k;
                  some_l = f.some_l;
                  is_x = turned p.x b.at_place.x (pos p.w) (pos b.at_place.w) (pos f.k) (pos f.l) d.x f.is_x;
                  is_y = turned p.y b.at_place.y (pos p.w) (pos b.at_place.w) (pos f.k) (pos f.l) d.y f.is_y;
                  is_z = turned p.z b.at_place.z (pos p.w) (pos b.at_place.w) (pos f.k) (pos f.l) d.z f.is_z;
                  is_w = f.is_w;
                }

            middle : IsBetween b.at_place p a.at_place
            middle = factor-same (toward b.at_place p) (toward p a.at_place)
                (same-trans (of_direction (toward b.at_place p)) (of_direction d) (of_direction (toward p a.at_place)) back (same-sym (of_direction (toward p a.at_place)) (of_direction d) (same-factor (toward p a.at_place) d a.ahead)))
                (λ z. direction-left (toward p b.at_place) (opposite d) b.ahead (point-toward p b.at_place (same-point_sym b.at_place p (toward-point b.at_place p z))))

            even : (r : SpacePoint) → IsBetween b.at_place r a.at_place → FlatDim s r 1
            even r c =
                let t = past-mixed (of_point b.at_place) (of_point p) (of_point a.at_place) (mixed-of b.at_place p a.at_place middle) in
                let u = mixed-of b.at_place r a.at_place c in
                ⊎_elim
                (λ l. b.even r (between-turned b.at_place p r (between-of b.at_place r p (direction-left (toward b.at_place p) (toward p a.at_place) middle) l)))
                (λ l. ⊎_elim
                (λ e. FlatDim-by_germs s s p r (germs-by_cell s p r (signs-same (carriers s) p r (factor-point p r (same-sym (of_point r) (of_point p) e)))) 1 one)
                (λ l. a.even r (between-of p r a.at_place (direction-right (toward b.at_place p) (toward p a.at_place) middle) l)) l)
                (before-at-after (of_point b.at_place) (of_point a.at_place) (of_point p) (of_point r) t u)
