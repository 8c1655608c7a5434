-- A simplified star at a plain direction has no ray; at a straight direction all its rays lie in the plane.
use Rattle.law_geometry.proofs.sphere.Prelude.{◌≡◌, ℕ, zero, suc, ◌+◌, ℤ, pos, ◌*ℤ◌, ◌<ℤ◌, arith, refl, ap, sym, ◌∙◌, ◌⊎◌, inl, inr, ⊎_elim, List, ◌∷◌, subst, length, Bool, true, false, cond, [], ints, ring, at, num, ◌⊕◌, ◌⊖◌, ◌⊗◌, follows, given, none, sign, mul_pos, nought-or, Vector, IsDirection, cross, dot, IsZero, SameDirection, opposite, Label, IsAt, Map, NearLabel, Valid, IsStrictlyOn, by_side, NearPlain, NearStraight, Ray, Star, ray_dir, across, NextRay, on_ray, in_sector, LeavesAxis, StarShows, Follows, IsSimplified, dot-comm, self-pos, nought-if, dir-self, apart, direction-opposite, opposite-dot, opposite-twice, is-at_none}
use Rattle.law_geometry.specs.sphere.Raw.{IsWellFormed}
use Rattle.nef_space.proofs.Vectors.{normal-direction}
use Rattle.law_geometry.proofs.sphere.Generic.{amount, far-keeps}
use Rattle.law_geometry.proofs.sphere.Parallel.{past_source, arc-point}
use Rattle.law_geometry.proofs.sphere.Labels.{near-unique}
use Rattle.law_geometry.proofs.sphere.Turn.{IsStrictlyOn-same}
use Rattle.law_geometry.proofs.sphere.Flips.{reversed}

-- what is at right angles to the axis goes the way of its part across
pub across-same : (d e : Vector) → IsDirection d → IsDirection e → dot d e ≡ pos 0 → SameDirection e (across d e)
across-same d e hd he z = record { parallel = par; forward = subst (λ (r : ℤ). pos 0 <ℤ r) (sym fwd) (mul_pos (dot d d) (dot e e) (self-pos d hd) (self-pos e he)) }
  where
    par : IsZero (cross e (across d e))
    par =
        let dx = at 0 in let dy = at 1 in let dz = at 2 in let ex = at 3 in let ey = at 4 in let ez = at 5 in
        let cx = dy ⊗ ez ⊖ dz ⊗ ey in let cy = dz ⊗ ex ⊖ dx ⊗ ez in let cz = dx ⊗ ey ⊖ dy ⊗ ex in
        let ax = cy ⊗ dz ⊖ cz ⊗ dy in let ay = cz ⊗ dx ⊖ cx ⊗ dz in let az = cx ⊗ dy ⊖ cy ⊗ dx in
        let xs = d.x ∷ d.y ∷ d.z ∷ e.x ∷ e.y ∷ e.z ∷ [] in
        let de = dx ⊗ ex ⊕ dy ⊗ ey ⊕ dz ⊗ ez in let o = num (pos 0) in (
          follows xs (ey ⊗ az ⊖ ez ⊗ ay) o (given (ez ⊗ dy ⊖ ey ⊗ dz) de o z none) tt,
          follows xs (ez ⊗ ax ⊖ ex ⊗ az) o (given (ex ⊗ dz ⊖ ez ⊗ dx) de o z none) tt,
          follows xs (ex ⊗ ay ⊖ ey ⊗ ax) o (given (ey ⊗ dx ⊖ ex ⊗ dy) de o z none) tt,
        )

    fwd : dot e (across d e) ≡ dot d d *ℤ dot e e
    fwd =
        let dx = at 0 in let dy = at 1 in let dz = at 2 in let ex = at 3 in let ey = at 4 in let ez = at 5 in
        let cx = dy ⊗ ez ⊖ dz ⊗ ey in let cy = dz ⊗ ex ⊖ dx ⊗ ez in let cz = dx ⊗ ey ⊖ dy ⊗ ex in
        let de = dx ⊗ ex ⊕ dy ⊗ ey ⊕ dz ⊗ ez in
        follows (d.x ∷ d.y ∷ d.z ∷ e.x ∷ e.y ∷ e.z ∷ []) (ex ⊗ (cy ⊗ dz ⊖ cz ⊗ dy) ⊕ ey ⊗ (cz ⊗ dx ⊖ cx ⊗ dz) ⊕ ez ⊗ (cx ⊗ dy ⊖ cy ⊗ dx))
        ((dx ⊗ dx ⊕ dy ⊗ dy ⊕ dz ⊗ dz) ⊗ (ex ⊗ ex ⊕ ey ⊗ ey ⊕ ez ⊗ ez)) (given (num (pos 0) ⊖ de) de (num (pos 0)) z none) tt

-- ---- the neighbours of a ray
pub last-of : (rs : List Ray) (r : Ray) → IsAt rs zero r → (j : ℕ) × (q : Ray) × IsAt rs j q × (suc j ≡ length rs)
last-of [] r a = absurd (is-at_none a)
last-of (p ∷ []) r a = (zero, p, refl, refl)
last-of (p ∷ q ∷ rs) r a = let x = last-of (q ∷ rs) q refl in (suc x.0, x.1, x.2, ap suc x.3)

first-of_ray : (rs : List Ray) (k : ℕ) (r : Ray) → IsAt rs k r → (p : Ray) × IsAt rs zero p
first-of_ray [] k r a = absurd (is-at_none a)
first-of_ray (p ∷ rs) k r a = (p, refl)

pub before : (rs : List Ray) (k : ℕ) (r : Ray) → IsAt rs (suc k) r → (q : Ray) × IsAt rs k q
before [] k r a = absurd (is-at_none a)
before (p ∷ rs) zero r a = (p, refl)
before (p ∷ rs) (suc k) r a = before rs k r a

after-or : (rs : List Ray) (k : ℕ) (r : Ray) → IsAt rs k r → ((q : Ray) × IsAt rs (suc k) q) ⊎ (suc k ≡ length rs)
after-or [] k r a = absurd (is-at_none a)
after-or (p ∷ []) zero r a = inr refl
after-or (p ∷ q ∷ rs) zero r a = inl (q, refl)
after-or (p ∷ rs) (suc k) r a = ⊎_elim (λ x. inl x) (λ e. inr (ap suc e)) (after-or rs k r a)

pub next-ray : (rs : List Ray) (k : ℕ) (r : Ray) → IsAt rs k r → (q : Ray) × (j : ℕ) × IsAt rs j q × NextRay rs k q
next-ray rs k r a = ⊎_elim (λ x. (x.0, suc k, x.1, inl x.1)) (λ e. let f = first-of_ray rs k r a in (f.0, zero, f.1, inr (e, f.1))) (after-or rs k r a)

pub previous : (rs : List Ray) (k : ℕ) (r : Ray) → IsAt rs k r → (j : ℕ) × (q : Ray) × IsAt rs j q × Follows rs j k × NextRay rs j r
previous rs zero r a = let x = last-of rs r a in (x.0, x.1, x.2, inr (x.3, refl), inr (x.3, a))
previous rs (suc k) r a = let x = before rs k r a in (k, x.0, x.1, inl refl, inl a)

-- a ray leaves at right angles to the axis
pub ray-level : (t : Star) → IsDirection t.axis → (r : Ray) → LeavesAxis t r → (dot t.axis (ray_dir t r) ≡ pos 0) × IsDirection (ray_dir t r)
ray-level t axis r = by r.ahead
  where
    by : (b : Bool) → LeavesAxis t r → (dot t.axis (cond b (cross r.normal t.axis) (cross t.axis r.normal)) ≡ pos 0) × IsDirection (cond b (cross r.normal t.axis) (cross t.axis r.normal))
    by true q = (
      ring (t.axis.x ∷ t.axis.y ∷ t.axis.z ∷ r.normal.x ∷ r.normal.y ∷ r.normal.z ∷ []) (at 0 ⊗ (at 4 ⊗ at 2 ⊖ at 5 ⊗ at 1) ⊕ at 1 ⊗ (at 5 ⊗ at 0 ⊖ at 3 ⊗ at 2) ⊕ at 2 ⊗ (at 3 ⊗ at 1 ⊖ at 4 ⊗ at 0)) (num (pos 0)) tt,
      λ z. axis (nought-if r.normal t.axis (normal-direction r.normal q.normal) z q.level),
    )
    by false q = (
      ring (t.axis.x ∷ t.axis.y ∷ t.axis.z ∷ r.normal.x ∷ r.normal.y ∷ r.normal.z ∷ []) (at 0 ⊗ (at 1 ⊗ at 5 ⊖ at 2 ⊗ at 4) ⊕ at 1 ⊗ (at 2 ⊗ at 3 ⊖ at 0 ⊗ at 5) ⊕ at 2 ⊗ (at 0 ⊗ at 4 ⊖ at 1 ⊗ at 3)) (num (pos 0)) tt,
      λ z. normal-direction r.normal q.normal (nought-if t.axis r.normal axis z (dot-comm t.axis r.normal ∙ q.level)),
    )

-- what is at right angles to a direction doesn't lie along it
pub off-axis : (d e : Vector) → IsDirection d → IsDirection e → dot d e ≡ pos 0 → IsDirection (cross d e)
off-axis d e hd he z = apart d d e (λ y. let p = self-pos d hd in omega (arith, ints)) z he

-- all rays of a star leave at right angles to the axis: of one that is well formed, and of one that shows a map
pub made-level : (t : Star) → IsWellFormed t → (k : ℕ) (r : Ray) → IsAt t.rays k r → (dot t.axis (ray_dir t r) ≡ pos 0) × IsDirection (ray_dir t r)
made-level t W k r a = ray-level t W.axis r (W.rays k r a)

pub shown-level : (t : Star) (M : Map) → StarShows t M → (k : ℕ) (r : Ray) → IsAt t.rays k r → (dot t.axis (ray_dir t r) ≡ pos 0) × IsDirection (ray_dir t r)
shown-level t M S k r a = ray-level t S.axis r (S.rays k r a)

-- the label on a ray
pub ray-label : (t : Star) (M : Map) → StarShows t M → (k : ℕ) (r : Ray) → IsAt t.rays k r → NearLabel M t.axis (ray_dir t r) r.mark
ray-label t M S k r a = let w = shown-level t M S k r a in
    S.labels (ray_dir t r) r.mark (off-axis t.axis (ray_dir t r) S.axis w.1 w.0) (on_ray k r a (across-same t.axis (ray_dir t r) S.axis w.1 w.0) refl)

module _ (t : Star) (M : Map) (V : Valid M) (S : StarShows t M) (simple : IsSimplified t) where
  abbrev d : Vector
  d = t.axis

  way-level : (k : ℕ) (r : Ray) → IsAt t.rays k r → (dot d (ray_dir t r) ≡ pos 0) × IsDirection (ray_dir t r)
  way-level = shown-level t M S

  -- the label in a sector
  pub sector-label : (k : ℕ) (q r : Ray) (l : Label) → IsAt t.rays k q → NextRay t.rays k r → IsAt t.sectors k l → (e : Vector) → IsStrictlyOn d (ray_dir t q) (ray_dir t r) e → NearLabel M d e l
  sector-label k q r l a n s e o =
      let h = o.on_circle.direction in
      let z = o.on_circle.level in
      S.labels e l (off-axis d e S.axis h z) (in_sector k q r a n (IsStrictlyOn-same d d (ray_dir t q) (ray_dir t q) (ray_dir t r) (ray_dir t r) e (across d e)
      (dir-self d S.axis) (dir-self (ray_dir t q) (let w = way-level k q a in w.1)) (dir-self (ray_dir t r) (next-direction n)) (across-same d e S.axis h z) o) s)
    where
      next-direction : NextRay t.rays k r → IsDirection (ray_dir t r)
      next-direction (inl b) = let w = way-level (suc k) r b in w.1
      next-direction (inr b) = let w = way-level zero r b.1 in w.1

  -- close to a ray on both sides, the signs of u that aren't nought on the ray
  module _ (u : Vector) (k : ℕ) (r : Ray) (a : IsAt t.rays k r) (f : dot u (ray_dir t r) ≡ pos 0 → ⊥) where
    abbrev w : Vector
    w = ray_dir t r

    -- counterclockwise after the ray
    after-ray : (q : Ray) (j : ℕ) → IsAt t.rays j q → (e : Vector) × IsStrictlyOn d w (ray_dir t q) e × (sign (dot u e) ≡ sign (dot u w))
    after-ray q j b =
        let x = way-level k r a in
        let y = way-level j q b in
        let c = cross d w in
        let K = amount (cross (ray_dir t q) d ∷ []) c + amount (u ∷ []) c in
        (past_source d w K, arc-point d w (ray_dir t q) S.axis x.1 y.1 x.0 y.0 K (omega arith), far-keeps (u ∷ []) w c K (omega arith) u (inl refl) f)

    -- and before it
    before-ray : (q : Ray) (j : ℕ) → IsAt t.rays j q → (e : Vector) × IsStrictlyOn d (ray_dir t q) w e × (sign (dot u e) ≡ sign (dot u w))
    before-ray q j b =
        let x = way-level k r a in
        let y = way-level j q b in
        let m = opposite d in
        let hm = direction-opposite d S.axis in
        let c = cross m w in
        let K = amount (cross (ray_dir t q) m ∷ []) c + amount (u ∷ []) c in
        let lx : dot m w ≡ pos 0 = (let e = opposite-dot d w in let z = x.0 in omega (arith, ints)) in
        let ly : dot m (ray_dir t q) ≡ pos 0 = (let e = opposite-dot d (ray_dir t q) in let z = y.0 in omega (arith, ints)) in
        let e = past_source m w K in
        let o = arc-point m w (ray_dir t q) hm x.1 y.1 lx ly K (omega arith) in
        let p = reversed m w (ray_dir t q) e x.1 o in
        (e, IsStrictlyOn-same (opposite m) d (ray_dir t q) (ray_dir t q) w w e e (twice d S.axis) (dir-self (ray_dir t q) y.1) (dir-self w x.1) (dir-self e o.on_circle.direction) p, far-keeps (u ∷ []) w c K (omega arith) u (inl refl) f)
      where
        twice : (d : Vector) → IsDirection d → SameDirection (opposite (opposite d)) d
        twice d h = subst (λ (v : Vector). SameDirection v d) (sym (opposite-twice d)) (dir-self d h)

  -- one label on a ray and close to it on both sides: not in a simplified star
  pub not-even : (k : ℕ) (r : Ray) (a : IsAt t.rays k r) (u : Vector) → (dot u (ray_dir t r) ≡ pos 0 → ⊥) → (m : Label) → NearLabel M d (ray_dir t r) m
      → ((e : Vector) → IsDirection (cross d e) → sign (dot u e) ≡ sign (dot u (ray_dir t r)) → NearLabel M d e m) → ⊥
  not-even k r a u f m n all =
      let x = next-ray t.rays k r a in
      let y = previous t.rays k r a in
      let s = S.sectors k r a in
      let p = S.sectors y.0 y.1 y.2 in
      let e = after-ray u k r a f x.0 x.1 x.2 in
      let g = before-ray u k r a f y.1 y.0 y.2 in
      let o = e.1 in
      let q = g.1 in
      let mark = near-unique M V d (ray_dir t r) r.mark m (ray-label t M S k r a) n in
      let one = near-unique M V d e.0 s.0 m (sector-label k r x.0 s.0 a x.3 s.1 e.0 o) (all e.0 (off-axis d e.0 S.axis o.on_circle.direction o.on_circle.level) e.2) in
      let two = near-unique M V d g.0 p.0 m (sector-label y.0 y.1 r p.0 y.2 y.4 p.1 g.0 q) (all g.0 (off-axis d g.0 S.axis q.on_circle.direction q.on_circle.level) g.2) in
      simple y.0 k y.1 r p.0 s.0 y.2 a y.3 p.1 s.1 (mark ∙ sym two) (mark ∙ sym one)

  -- at a plain direction there is no ray
  pub plain-no_ray : NearPlain M d → (k : ℕ) (r : Ray) → IsAt t.rays k r → ⊥
  plain-no_ray P k r a =
      let w = way-level k r a in
      not-even k r a (ray_dir t r) (λ z. let p = self-pos (ray_dir t r) w.1 in omega (arith, ints)) P.label (P.near (ray_dir t r) (off-axis d (ray_dir t r) S.axis w.1 w.0)) (λ e f g. P.near e f)

  -- at a straight direction each ray lies in the plane
  pub straight-level : (P : NearStraight M d) → (k : ℕ) (r : Ray) → IsAt t.rays k r → dot P.normal (ray_dir t r) ≡ pos 0
  straight-level P k r a = ⊎_elim (λ z. z) (λ f. absurd (
      let w = way-level k r a in
      let side = by_side P.pos P.label P.neg in
      not-even k r a P.normal f (side (sign (dot P.normal (ray_dir t r)))) (P.near (ray_dir t r) (off-axis d (ray_dir t r) S.axis w.1 w.0))
      (λ e g s. subst (NearLabel M d e) (ap side s) (P.near e g)))) (nought-or (dot P.normal (ray_dir t r)))
