-- The vertices of a set and the cones there determine the set.
use Rattle.law_geometry.proofs.near.Prelude.{◌≡◌, ℕ, zero, suc, ◌+◌, ◌-◌, ◌<◌, ◌≤◌, ℤ, pos, ◌-ℤ◌, ◌*ℤ◌, arith, refl, ◌⊎◌, inl, inr, ⊎_elim, ◌↔◌, subst, ints, cases_lt, SpacePoint, Within, InFrame, toward, IsBetween, Vector, vector, zero_vector, IsDirection, Set, SameSet, Germ, Flat, HasFlat, FlatDim, IsVertex, IsEven, Label, Out, carriers, SameCone, IsOnSegment, IsFlatBelow, Drop, SameGerms, direction-left, direction-right}
use Rattle.law_geometry.proofs.near.Near.{weaken, reach_all}
use Rattle.law_geometry.proofs.near.Germs.{Germ-unique}
use Rattle.law_geometry.proofs.near.Decided.{InFrame-decided}
use Rattle.law_geometry.proofs.near.Rays.{Germ-zero, signs-same, same-point_sym}
use Rattle.law_geometry.proofs.near.Alike.{germs-by_cell, FlatDim-by_germs, FlatDim-by_cone, FlatDim-one, HasFlat-fewer, Flat-by_cone, NearGerm-by_cone, flat-germ}
use Rattle.law_geometry.proofs.near.Between.{between-turned, between-inner}
use Rattle.law_geometry.proofs.near.FlatDecided.{flat_dim-of}
use Rattle.law_geometry.proofs.near.Even.{germ-nearby, flat-way, even-germs, labels-by_germs, span-3}
use Rattle.law_geometry.proofs.near.Skeleton.{flat_dim-nearby}
use Rattle.law_geometry.proofs.near.Edges.{start, start-close, start-between, start-toward, flat_way-end, even-until, beyond, halfway, halfway-between, halfway-outside, leads-somewhere}
use Rattle.nef_space.proofs.Elementary.{frame-closed}

-- ---- cones that agree
cone-of_germs : (s t : Set) (p : SpacePoint) → ((v : Vector) (l : Label) → Germ s p v l ↔ Germ t p v l) → SameCone s t p
cone-of_germs s t p same = record {
  label = λ l.
      let a = Germ-zero s p zero_vector l (refl, refl, refl) in
      let b = Germ-zero t p zero_vector l (refl, refl, refl) in
      let c = same zero_vector l in
      (λ h. b.0 (c.0 (a.1 h)), λ h. a.0 (c.1 (b.1 h)));
  germs = same;
}

pub cone-turned : (s t : Set) (p : SpacePoint) → SameCone s t p → SameCone t s p
cone-turned s t p c = record { label = λ l. let e = c.label l in (e.1, e.0); germs = λ v l. let e = c.germs v l in (e.1, e.0) }

-- close to a point where the cones agree they agree
cone-nearby : (s t : Set) (x r : SpacePoint) → SameCone s t x → Within (reach_all (carriers s) x) x r → Within (reach_all (carriers t) x) x r → SameCone s t r
cone-nearby s t x r c ws wt = cone-of_germs s t r (λ v l.
    let a = germ-nearby s x r ws v l in
    let b = NearGerm-by_cone s t x (toward x r) v l c in
    let d = germ-nearby t x r wt v l in
    (λ h. d.1 (b.0 (a.0 h)), λ h. a.1 (b.1 (d.0 h))))

-- ---- from a point down to one with fewer flat directions
record Descent (s : Set) (k : ℕ) (p : SpacePoint) : Type 0 where
  pub at_place : SpacePoint
  pub leads : IsDirection (toward p at_place)
  pub even_before : (r : SpacePoint) → IsBetween p r at_place → FlatDim s r k
  pub drops : IsFlatBelow s k at_place

descent : (s : Set) (k : ℕ) (p : SpacePoint) → 0 < k → k < 3 → FlatDim s p k → Descent s k p
descent s k p some few f = by (let e : k ≡ (k - 1) + 1 = omega arith in HasFlat-fewer s p (k - 1) 1 (subst (HasFlat s p) e f.0))
  where
    by : (d : Vector) × IsDirection d × Flat s p d → Descent s k p
    by (d, i, flat) =
        let e = flat_way-end s k p d few f i flat in
        record { at_place = e.at_place; leads = direction-left (toward p e.at_place) d e.is_ahead; even_before = e.even_before; drops = e.drops }

abbrev x_way : Vector
x_way = vector (pos 1) (pos 0) (pos 0)

-- within the frame, where all directions are flat, the way along x leads to a point where they aren't
descent-3 : (s : Set) (p : SpacePoint) → InFrame p → FlatDim s p 3 → Descent s 3 p
descent-3 s p i f = by (even-until s 3 p (beyond p x_way) f (let h = f.0 in span-3 s p h.0 h.1 h.2 (toward p (beyond p x_way)) h.3 h.4 h.5 h.6))
  where
    is-one : IsDirection x_way
    is-one z = let e = z.0 in omega (arith, ints)

    leads-on : IsDirection (toward p (beyond p x_way))
    leads-on = leads-somewhere p x_way is-one

    by : ((r : SpacePoint) → IsBetween p r (beyond p x_way) → FlatDim s r 3) ⊎ Drop s 3 p (beyond p x_way) → Descent s 3 p
    by (inl all) =
        let q = beyond p x_way in
        let r = halfway p x_way in
        let b = halfway-between p x_way leads-on in
        let even : IsEven s 3 p r = λ u on. at-point r b u on in
        absurd (halfway-outside p x_way is-one (frame-closed r (in-there r (even-germs s 3 p r even))))
      where
        at-point : (r : SpacePoint) → IsBetween p r (beyond p x_way) → (u : SpacePoint) → IsOnSegment p u r → FlatDim s u 3
        at-point r b u (inl e) = FlatDim-by_germs s s p u (germs-by_cell s p u (signs-same (carriers s) p u (same-point_sym u p e))) 3 f
        at-point r b u (inr (inl c)) = all u (between-inner p r (beyond p x_way) u b c)
        at-point r b u (inr (inr e)) = FlatDim-by_germs s s r u (germs-by_cell s r u (signs-same (carriers s) r u (same-point_sym u r e))) 3 (all r b)

        -- a point with the germs of p is in the frame
        in-there : (r : SpacePoint) → SameGerms s p r → InFrame r
        in-there r same = ⊎_elim (λ j. j) (λ o. absurd ((labels-by_germs s p r same Out).1 o i)) (InFrame-decided r)
    by (inr c) = record { at_place = c.at_place; leads = direction-left (toward p c.at_place) (toward c.at_place (beyond p x_way)) c.between; even_before = c.even_before; drops = c.drops }

-- ---- where the cones agree at points with fewer flat directions, they agree
module _ (s t : Set) (k : ℕ) (below_s : (x : SpacePoint) → IsFlatBelow s k x → SameCone s t x) (below_t : (x : SpacePoint) → IsFlatBelow t k x → SameCone t s x) where
  -- t has as many flat directions as s, or more
  no-fewer : (y : SpacePoint) → FlatDim s y k → (m : ℕ) → FlatDim t y m → k ≤ m
  no-fewer y f m g = ⊎_elim
      (λ l. let e = FlatDim-one s y k m f ((FlatDim-by_cone t s y m (below_t y (m, l, g))).0 g) in absurd (omega arith))
      (λ l. l) (cases_lt m k)

  agree-from : (p : SpacePoint) → FlatDim s p k → Descent s k p → SameCone s t p
  agree-from p f c = cone-of_germs s t p (λ v l.
      let a = even-germs s k r p even_s v l in
      let b = cone_r.germs v l in
      let d = even-germs t k r p even_t v l in
      (λ h. d.0 (b.0 (a.1 h)), λ h. a.0 (b.1 (d.1 h))))
    where
      x : SpacePoint
      x = c.at_place

      n : ℕ
      n = reach_all (carriers s) c.at_place + reach_all (carriers t) c.at_place

      back : IsDirection (toward c.at_place p)
      back z = c.leads (one c.at_place.x p.x c.at_place.w p.w z.0, one c.at_place.y p.y c.at_place.w p.w z.1, one c.at_place.z p.z c.at_place.w p.w z.2)
        where
          one : (a b : ℤ) (u v : ℕ) → b *ℤ pos u -ℤ a *ℤ pos v ≡ pos 0 → a *ℤ pos v -ℤ b *ℤ pos u ≡ pos 0
          one a b u v e = omega (arith, ints)

      -- a point close to x on the way back to p
      r : SpacePoint
      r = start (reach_all (carriers s) c.at_place + reach_all (carriers t) c.at_place) c.at_place p

      r-close : Within (reach_all (carriers s) c.at_place + reach_all (carriers t) c.at_place) c.at_place r
      r-close = start-close (reach_all (carriers s) c.at_place + reach_all (carriers t) c.at_place) c.at_place p

      r-between : IsBetween p r c.at_place
      r-between = between-turned c.at_place p r (start-between (reach_all (carriers s) c.at_place + reach_all (carriers t) c.at_place) c.at_place p back)

      cone_r : SameCone s t r
      cone_r = cone-nearby s t c.at_place r (below_s c.at_place c.drops)
          (weaken (reach_all (carriers s) c.at_place) (reach_all (carriers s) c.at_place + reach_all (carriers t) c.at_place) c.at_place r (omega arith) r-close)
          (weaken (reach_all (carriers t) c.at_place) (reach_all (carriers s) c.at_place + reach_all (carriers t) c.at_place) c.at_place r (omega arith) r-close)

      dim_r : FlatDim s r k
      dim_r = c.even_before r r-between

      -- from r to p
      onward : IsDirection (toward r p)
      onward = direction-right (toward c.at_place r) (toward r p) (between-turned p c.at_place r r-between)

      even_s : IsEven s k r p
      even_s u (inl e) = FlatDim-by_germs s s r u (germs-by_cell s r u (signs-same (carriers s) r u (same-point_sym u r e))) k dim_r
      even_s u (inr (inl b)) = c.even_before u (between-inner p r c.at_place u r-between (between-turned r p u b))
      even_s u (inr (inr e)) = FlatDim-by_germs s s p u (germs-by_cell s p u (signs-same (carriers s) p u (same-point_sym u p e))) k f

      flat_r : Flat t r (toward r p)
      flat_r =
          let m = reach_all (carriers s) r in
          let u = start m r p in
          let b = start-between m r p onward in
          let w = flat-way s k r u dim_r (even_s u (inr (inl b))) (start-close m r p) (direction-left (toward r u) (toward u p) b) in
          (Flat-by_cone s t r (toward r p) cone_r).0 (subst (Flat s r) (start-toward m r p) w)

      between_t : (u : SpacePoint) → IsBetween r u p → FlatDim t u k
      between_t u b = ⊎_elim
          (λ all. all u b)
          (λ d. let e = no-fewer d.at_place (even_s d.at_place (inr (inl d.between))) d.drops.0 d.drops.2 in let l = d.drops.1 in absurd (omega arith))
          (even-until t k r p ((FlatDim-by_cone s t r k cone_r).0 dim_r) flat_r)

      -- the same at p
      end_t : FlatDim t p k
      end_t =
          let g = flat_dim-of t p in
          let m = reach_all (carriers t) p in
          let u = start m p r in
          let b = between-turned p r u (start-between m p r (direction-left (toward p r) (toward r c.at_place) r-between)) in
          let low = no-fewer p f g.0 g.1 in
          let high = flat_dim-nearby t p u (start-close m p r) k g.0 g.1 (between_t u b) in
          let e : g.0 ≡ k = omega arith in
          subst (FlatDim t p) e g.1

      even_t : IsEven t k r p
      even_t u (inl e) = FlatDim-by_germs t t r u (germs-by_cell t r u (signs-same (carriers t) r u (same-point_sym u r e))) k ((FlatDim-by_cone s t r k cone_r).0 dim_r)
      even_t u (inr (inl b)) = between_t u b
      even_t u (inr (inr e)) = FlatDim-by_germs t t p u (germs-by_cell t p u (signs-same (carriers t) p u (same-point_sym u p e))) k end_t

-- ---- outside the frame, where all directions are flat, all is Out
agree-out : (s t : Set) (p : SpacePoint) → (InFrame p → ⊥) → FlatDim s p 3 → SameCone s t p
agree-out s t p n f = cone-of_germs s t p (λ v l. let g = out v in (
  λ h. subst (Germ t p v) (Germ-unique s p v Out l g h) g,
  λ h. subst (Germ s p v) (Germ-unique t p v Out l g h) g,
))
  where
    out : (v : Vector) → Germ s p v Out
    out v = flat-germ s p v Out (let h = f.0 in span-3 s p h.0 h.1 h.2 v h.3 h.4 h.5 h.6) n

-- ---- by the number of flat directions
abbrev AgreeAtVertices : Set → Set → Type 0
AgreeAtVertices s t = (p : SpacePoint) → IsVertex s p → SameCone s t p

agree : (n : ℕ) (s t : Set) → AgreeAtVertices s t → AgreeAtVertices t s → (p : SpacePoint) (k : ℕ) → k < n → FlatDim s p k → SameCone s t p
agree zero s t a b p k l f = absurd (omega arith)
agree (suc n) s t a b p k l f = by (agree n s t a b) (agree n t s b a) k l f
  where
    by : ((x : SpacePoint) (j : ℕ) → j < n → FlatDim s x j → SameCone s t x) → ((x : SpacePoint) (j : ℕ) → j < n → FlatDim t x j → SameCone t s x) → (k : ℕ) → k < suc n → FlatDim s p k → SameCone s t p
    by g h zero l f = a p f
    by g h (suc k) l f = ⊎_elim
        (λ few. agree-from s t (suc k) few_s few_t p f (descent s (suc k) p (omega arith) few f))
        (λ many. three (suc k) many f few_s few_t)
        (cases_lt (suc k) 3)
      where
        few_s : (x : SpacePoint) → IsFlatBelow s (suc k) x → SameCone s t x
        few_s x (j, m, i) = g x j (omega arith) i

        few_t : (x : SpacePoint) → IsFlatBelow t (suc k) x → SameCone t s x
        few_t x (j, m, i) = h x j (omega arith) i

        three : (k : ℕ) → 3 ≤ k → FlatDim s p k → ((x : SpacePoint) → IsFlatBelow s k x → SameCone s t x) → ((x : SpacePoint) → IsFlatBelow t k x → SameCone t s x) → SameCone s t p
        three zero m f u v = absurd (omega arith)
        three (suc zero) m f u v = absurd (omega arith)
        three (suc (suc zero)) m f u v = absurd (omega arith)
        three (suc (suc (suc zero))) m f u v = ⊎_elim (λ i. agree-from s t 3 u v p f (descent-3 s p i f)) (λ o. agree-out s t p o f) (InFrame-decided p)
        three (suc (suc (suc (suc k)))) m f u v = absurd f.0

pub same-set_of : (s t : Set) → AgreeAtVertices s t → ((p : SpacePoint) → IsVertex t p → SameCone s t p) → SameSet s t
same-set_of s t a b p = (agree 4 s t a (λ q v. cone-turned s t q (b q v)) p (flat_dim-of s p).0 (at-most_3 (flat_dim-of s p).0 (flat_dim-of s p).1.0) (flat_dim-of s p).1).label
  where
    at-most_3 : (k : ℕ) → HasFlat s p k → k < 4
    at-most_3 zero h = omega arith
    at-most_3 (suc zero) h = omega arith
    at-most_3 (suc (suc zero)) h = omega arith
    at-most_3 (suc (suc (suc zero))) h = omega arith
    at-most_3 (suc (suc (suc (suc k)))) h = absurd h
