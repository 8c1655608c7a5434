-- Close to a ray a star gives the ray's mark in the plane of the ray, and the labels of the sectors after and before it beside it.
use Rattle.law_geometry.proofs.sphere.building.Prelude.{◌≡◌, ℕ, ◌≤◌, ℤ, pos, ◌*ℤ◌, ◌<ℤ◌, arith, refl, ap, sym, ◌∙◌, inl, inr, List, ◌∷◌, subst, [], ints, ring, at, num, ◌⊕◌, ◌⊖◌, ◌⊗◌, neg, sign, sign-plus, sign-minus, sign-scaled, by_order, nought-is, Vector, IsDirection, cross, triple, dot, SameDirection, blend, opposite, Label, IsStrictlyOn, IsAt, by_side, Ray, Star, ray_dir, across, NextRay, StarLabel, on_ray, in_sector, Follows, same-plus, amount, far-keeps, far-level, reversed, across-side, last-of, before, next-ray, IsWellFormed, dot-comm, self-pos, vector-same, triple-dot, triple-middle, parallel-in_plane, cross_of, direction-opposite, level_cross_second, numbers, opposite-dot, opposite-twice, vec, Polys}
use Rattle.law_geometry.proofs.sphere.Direct.{cross-self}
use Rattle.law_geometry.proofs.sphere.ArcWays.{on-ahead}
use Rattle.law_geometry.proofs.sphere.Simplified.{made-level}

pub across-level : (d y : Vector) → dot d (across d y) ≡ pos 0
across-level d y =
    let dx = at 0 in let dy = at 1 in let dz = at 2 in let yx = at 3 in let yy = at 4 in let yz = at 5 in
    let cx = dy ⊗ yz ⊖ dz ⊗ yy in let cy = dz ⊗ yx ⊖ dx ⊗ yz in let cz = dx ⊗ yy ⊖ dy ⊗ yx in
    ring (d.x ∷ d.y ∷ d.z ∷ y.x ∷ y.y ∷ y.z ∷ []) (dx ⊗ (cy ⊗ dz ⊖ cz ⊗ dy) ⊕ dy ⊗ (cz ⊗ dx ⊖ cx ⊗ dz) ⊕ dz ⊗ (cx ⊗ dy ⊖ cy ⊗ dx)) (num (pos 0)) tt

pub cross-last : (v d : Vector) → dot (cross v d) d ≡ pos 0
cross-last v d = dot-comm (cross v d) d ∙ level_cross_second v d

across-away : (d y : Vector) → across (opposite d) y ≡ across d y
across-away d y =
    let xs = numbers d y y y in let m : Polys = (neg (at 0), neg (at 1), neg (at 2)) in let p = cross_of (cross_of m (vec 3)) m in let q = cross_of (cross_of (vec 0) (vec 3)) (vec 0) in
    vector-same _ _ (ring xs p.0 q.0 tt) (ring xs p.1 q.1 tt) (ring xs p.2 q.2 tt)

-- ---- directions close to w, seen across the axis d
module _ (d w v e : Vector) (hd : IsDirection d) (hw : IsDirection w) (hv : IsDirection v) (lw : dot d w ≡ pos 0) (lv : dot d v ≡ pos 0) (k : ℕ) where
  abbrev y : Vector
  y = blend k w 1 e

  abbrev x : Vector
  x = across d y

  -- the turn from w on the other side of the part across
  turn-is : triple d w x ≡ dot d d *ℤ dot (cross d w) y
  turn-is = triple-dot d w x ∙ across-side (cross d w) d y (cross-self d w)

  -- past w toward v
  pub close-after : pos 0 <ℤ triple d w e → amount (cross v d ∷ []) e ≤ k → IsStrictlyOn d w v x
  close-after h l = on-ahead d w v hd hw hv lw lv x (across-level d y) ahead (λ p. behind p)
    where
      ahead : pos 0 <ℤ triple d w x
      ahead =
          let s = far-level (cross v d ∷ []) w e k l (cross d w) (cross-last d w) in
          let q = ap sign turn-is ∙ sign-scaled (dot d d) (dot (cross d w) y) (self-pos d hd) ∙ s ∙ ap sign (sym (triple-dot d w e)) in
          same-plus (triple d w e) (triple d w x) q h

      behind : pos 0 <ℤ triple d w v → pos 0 <ℤ triple d x v
      behind p =
          let c = cross v d in
          let g = subst (λ (r : ℤ). pos 0 <ℤ r) (triple-middle d w v) p in
          let s = far-keeps (c ∷ []) w e k l c (inl refl) (λ z. omega (arith, ints)) in
          let q = ap sign (triple-middle d x v ∙ across-side c d y (cross-last v d)) ∙ sign-scaled (dot d d) (dot c y) (self-pos d hd) ∙ s in
          same-plus (dot c w) (triple d x v) q g

  -- in the plane of w
  pub close-on : triple d w e ≡ pos 0 → amount (w ∷ []) e ≤ k → SameDirection w x
  close-on z l = record {
    parallel = parallel-in_plane d w x hd lw (across-level d y) (turn-is ∙ ap (λ r. dot d d *ℤ r) level ∙ ring (dot d d ∷ []) (at 0 ⊗ num (pos 0)) (num (pos 0)) tt);
    forward = same-plus (dot w w) (dot w x) ahead (self-pos w hw);
  }
    where
      level : dot (cross d w) y ≡ pos 0
      level = nought-is (dot (cross d w) y) (far-level (w ∷ []) w e k l (cross d w) (cross-last d w) ∙ ap sign (sym (triple-dot d w e) ∙ z))

      ahead : sign (dot w x) ≡ sign (dot w w)
      ahead = ap sign (across-side w d y (dot-comm w d ∙ lw)) ∙ sign-scaled (dot d d) (dot w y) (self-pos d hd) ∙ far-keeps (w ∷ []) w e k l w (inl refl) (λ z. let p = self-pos w hw in omega (arith, ints))

-- before w, coming from v
close-before : (d w v e : Vector) → IsDirection d → IsDirection w → IsDirection v → dot d w ≡ pos 0 → dot d v ≡ pos 0
    → triple d w e <ℤ pos 0 → (k : ℕ) → amount (cross v (opposite d) ∷ []) e ≤ k → IsStrictlyOn d v w (across d (blend k w 1 e))
close-before d w v e hd hw hv lw lv h k l =
    let m = opposite d in
    let y = blend k w 1 e in
    let o = close-after m w v e (direction-opposite d hd) hw hv (level w lw) (level v lv) k (let e = opposite-dot d (cross w e) in omega (arith, ints)) l in
    let p = reversed m w v (across m y) hw o in
    subst (λ (r : Vector). IsStrictlyOn r v w (across d y)) (opposite-twice d) (subst (IsStrictlyOn (opposite m) v w) (across-away d y) p)
  where
    level : (x : Vector) → dot d x ≡ pos 0 → dot (opposite d) x ≡ pos 0
    level x z = let e = opposite-dot d x in omega (arith, ints)

-- ---- a ray of a star
-- the ray before
pub follows-at : (rs : List Ray) (j k : ℕ) (r : Ray) → Follows rs j k → IsAt rs k r → (q : Ray) × IsAt rs j q × NextRay rs j r
follows-at rs j k r (inl e) a = let b = subst (λ (i : ℕ). IsAt rs i r) (sym e) a in let x = before rs j r b in (x.0, x.1, inl b)
follows-at rs j k r (inr e) a =
    let b = subst (λ (i : ℕ). IsAt rs i r) e.1 a in
    let x = last-of rs r b in
    let q : x.0 ≡ j = (let f = x.3 in let g = e.0 in omega arith) in
    (x.1, subst (λ (i : ℕ). IsAt rs i x.1) q x.2, inr (e.0, b))

-- from some number on, the star t gives the label m close to w toward e
abbrev pub Close : Star → Vector → Vector → Label → Type 0
Close t w e m = (low : ℕ) × ((i : ℕ) → low ≤ i → StarLabel t (blend i w 1 e) m)

module _ (t : Star) (W : IsWellFormed t) (j k : ℕ) (r : Ray) (h : IsAt t.rays k r) (f : Follows t.rays j k) (a b : Label) (above : IsAt t.sectors k a) (below : IsAt t.sectors j b) where
  abbrev d : Vector
  d = t.axis

  abbrev w : Vector
  w = ray_dir t r

  close-minus : (e : Vector) → triple d w e <ℤ pos 0 → Close t w e b
  close-minus e l =
      let p = follows-at t.rays j k r f h in
      let x = made-level t W k r h in
      let y = made-level t W j p.0 p.1 in
      (amount (cross (ray_dir t p.0) (opposite d) ∷ []) e, λ i g. in_sector j p.0 r p.1 p.2 (close-before d w (ray_dir t p.0) e W.axis x.1 y.1 x.0 y.0 l i g) below)

  close-nought : (e : Vector) → triple d w e ≡ pos 0 → Close t w e r.mark
  close-nought e z = let x = made-level t W k r h in (amount (w ∷ []) e, λ i g. on_ray k r h (close-on d w w e W.axis x.1 x.1 x.0 x.0 i z g) refl)

  close-plus : (e : Vector) → pos 0 <ℤ triple d w e → Close t w e a
  close-plus e l =
      let p = next-ray t.rays k r h in
      let x = made-level t W k r h in
      let y = made-level t W p.1 p.0 p.2 in
      (amount (cross (ray_dir t p.0) d ∷ []) e, λ i g. in_sector k r p.0 h p.3 (close-after d w (ray_dir t p.0) e W.axis x.1 y.1 x.0 y.0 i l g) above)

  pub ray-close : (e : Vector) → Close t w e (by_side a r.mark b (sign (triple d w e)))
  ray-close e = by_order (triple d w e) (pos 0)
      (λ l. subst (Close t w e) (sym (ap (by_side a r.mark b) (sign-minus (triple d w e) l))) (close-minus e l))
      (λ z. subst (Close t w e) (sym (ap (by_side a r.mark b) (ap sign z))) (close-nought e z))
      (λ l. subst (Close t w e) (sym (ap (by_side a r.mark b) (sign-plus (triple d w e) l))) (close-plus e l))
