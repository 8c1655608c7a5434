-- The points past one side of a span of the skeleton, within the open frame, are convex; so between two of them there is nothing of the skeleton, and the set looks the same at both.
use Rattle.nef_ops.proofs.Prelude.{FitsSigned, w64, to_z, of_z, to_z-of_z, IsSkeletonPoint, complex_of, ◌≡◌, ℕ, zero, suc, ◌+◌, ◌<◌, List, [], ◌∷◌, ℤ, pos, ◌+ℤ◌, ◌*ℤ◌, ◌<ℤ◌, ◌≤ℤ◌, length, arith, sym, subst, ⊎_elim, ints, mul_le_right, by_order, IsAt, HasLabel, FlatDim, SpacePoint, IsBetween, Set, Label, form_of, point_of, Plane, IsMixed, of_point, SameGerms, mixed-of, even-germs, labels-by_germs, coordinate_of, even-by, is-at_one, is-at_none, is-at_first, is-at_within, ShowsSet, IsSpanOn, IsInSpan, IsNarrower, Complex, Span, spanned, span-wider, volume-flat, Axis, X, Y, Z, Below, Above, SpanSide, MeetsFrame, HoldsSkeleton, axis_coordinate, IsPastEnd, IsWithinEnd, IsFar, IsUniform}
use Rattle.nef_locate.proofs.CarrierPoints.{skeleton-carrier}
use Rattle.nef_ops.specs.declared.regions.SpanEnd.{SpanEnd}
use Rattle.nef_ops.proofs.Convex.{below-mixed, above-mixed, frame-between}
use Rattle.nef_space.proofs.Elementary.{less-or-last}

-- ---- the skeleton
-- the span holds the vertices on the first n carriers that meet the open frame
abbrev pub HoldsCarriers : Complex → ℕ → Span → Type 0
HoldsCarriers c n core = (k : ℕ) (h : Plane) → k < n → IsAt c.carriers k h → MeetsFrame (form_of h) → IsSpanOn c.vertices (form_of h) core

-- those of one more
pub carriers-more : (c : Complex) (n : ℕ) (h : Plane) (core span wide : Span) → IsAt c.carriers n h → IsSpanOn c.vertices (form_of h) span → IsNarrower core wide → IsNarrower span wide → HoldsCarriers c n core → HoldsCarriers c (n + 1) wide
carriers-more c n h core span wide here on old new held k g l at meets =
    ⊎_elim (λ o i v a p. span-wider core wide (point_of v.point) old (held k g o at meets i v a p))
    (λ e i v a p.
    let same : h ≡ g = is-at_one c.carriers n h g here (subst (λ (j : ℕ). IsAt c.carriers j g) e at) in
    span-wider span wide (point_of v.point) new (subst (λ (f : Plane). IsSpanOn c.vertices (form_of f) span) same on i v a p))
    (less-or-last k n l)

-- or no more, where it misses the frame
pub carriers-same : (c : Complex) (n : ℕ) (h : Plane) (core : Span) → IsAt c.carriers n h → (MeetsFrame (form_of h) → ⊥) → HoldsCarriers c n core → HoldsCarriers c (n + 1) core
carriers-same c n h core here misses held k g l at meets =
    ⊎_elim (λ o. held k g o at meets)
    (λ e. absurd (misses (subst (λ (f : Plane). MeetsFrame (form_of f)) (sym (is-at_one c.carriers n h g here (subst (λ (j : ℕ). IsAt c.carriers j g) e at))) meets)))
    (less-or-last k n l)

-- those on all carriers hold the skeleton within the open frame
pub skeleton-held : (c : Complex) (core : Span) → HoldsCarriers c (length c.carriers) core → HoldsSkeleton c core
skeleton-held c core held s y S i o =
    let k = skeleton-carrier s c S y o in
    let at = k.listed in
    spanned s c S (form_of k.plane) core (held k.number k.plane (is-at_within c.carriers k.number k.plane at) at (y, i, k.on)) y k.on k.found

-- n/w isn't both past the end and within the end
past-not : (way : SpanEnd) (e n w : ℤ) → IsPastEnd way e n w → IsWithinEnd way e n w → ⊥
past-not Below e n w l m = omega (arith, ints)
past-not Above e n w l m = omega (arith, ints)

-- no skeleton point lies in the open frame past the side
abbrev pub IsClear : Complex → SpanSide → Type 0
IsClear c side = (s : Set) (y : SpacePoint) → ShowsSet s c → IsFar side y → IsSkeletonPoint (complex_of c) y → ⊥

-- so past an end of the span there is nothing of the skeleton
pub clear-past : (c : Complex) (core : Span) → HoldsSkeleton c core → (axis : Axis) (way : SpanEnd) (e : ℤ) → FitsSigned w64 e → ((p : SpacePoint) → IsInSpan core p → IsWithinEnd way e (coordinate_of (axis_coordinate axis) p) (pos p.w)) → IsClear c (record { axis = axis; way = way; end = to_z w64 (of_z w64 e) })
clear-past c core H axis way e fits part =
    subst (λ (k : ℤ). IsClear c (record { axis = axis; way = way; end = k })) (sym (to_z-of_z w64 e fits)) (λ s y S f o. past-not way e (coordinate_of (axis_coordinate axis) y) (pos y.w) f.1 (part y (H s y S f.0 o)))

below-none : (end other n w : ℤ) → pos 0 ≤ℤ w → end ≤ℤ other → (other *ℤ w) ≤ℤ n → n <ℤ (end *ℤ w) → ⊥
below-none end other n w s l i f = let m = mul_le_right end other w s l in omega (arith, ints, m, i, f)

above-none : (end other n w : ℤ) → pos 0 ≤ℤ w → other ≤ℤ end → n ≤ℤ (other *ℤ w) → (end *ℤ w) <ℤ n → ⊥
above-none end other n w s l i f = let m = mul_le_right other end w s l in omega (arith, ints, m, i, f)

-- where the other end isn't past the end, nothing that lies within the other lies past this one
pub none-past : (way : SpanEnd) (end other n : ℤ) (w : ℕ) → (IsPastEnd way end other (pos 1) → ⊥) → IsWithinEnd way other n (pos w) → IsPastEnd way end n (pos w) → ⊥
none-past Below end other n w off i f =
    by_order other end (λ l. off (omega (arith, ints, l))) (λ e. below-none end other n (pos w) (omega (arith, ints)) (omega (arith, ints, e)) i f) (λ l. below-none end other n (pos w) (omega (arith, ints)) (omega (arith, ints, l)) i f)
none-past Above end other n w off i f =
    by_order end other (λ l. off (omega (arith, ints, l))) (λ e. above-none end other n (pos w) (omega (arith, ints)) (omega (arith, ints, e)) i f) (λ l. above-none end other n (pos w) (omega (arith, ints)) (omega (arith, ints, l)) i f)

-- ---- between two points
end-between : (way : SpanEnd) (e : ℤ) (k i j : ℕ) (c a b w u v : ℤ) → 0 < k → 0 < i → 0 < j → pos k *ℤ c ≡ pos i *ℤ a +ℤ pos j *ℤ b → pos k *ℤ w ≡ pos i *ℤ u +ℤ pos j *ℤ v
    → IsPastEnd way e a u → IsPastEnd way e b v → IsPastEnd way e c w
end-between Below e k i j c a b w u v sk si sj f g l m = below-mixed k i j c a b w u v e sk si sj f g l m
end-between Above e k i j c a b w u v sk si sj f g l m = above-mixed k i j c a b w u v e sk si sj f g l m

axis-sum : (axis : Axis) (p r q : SpacePoint) (m : IsMixed (of_point p) (of_point r) (of_point q))
    → pos m.k *ℤ coordinate_of (axis_coordinate axis) r ≡ pos m.i *ℤ coordinate_of (axis_coordinate axis) p +ℤ pos m.j *ℤ coordinate_of (axis_coordinate axis) q
axis-sum X p r q m = let s = m.sum in s.is_x
axis-sum Y p r q m = let s = m.sum in s.is_y
axis-sum Z p r q m = let s = m.sum in s.is_z

far-between : (side : SpanSide) (p r q : SpacePoint) → IsBetween p r q → IsFar side p → IsFar side q → IsFar side r
far-between side p r q b f g =
    let m = mixed-of p r q b in
    let s = m.sum in
    let at = coordinate_of (axis_coordinate side.axis) in (
      frame-between p r q b f.0 g.0,
      end-between side.way side.end m.k m.i m.j (at r) (at p) (at q) (pos r.w) (pos p.w) (pos q.w) m.some_k m.some_i m.some_j (axis-sum side.axis p r q m) s.is_w f.1 g.1,
    )

-- ---- past a side
module _ (s : Set) (c : Complex) (S : ShowsSet s c) (side : SpanSide) (clear : IsClear c side) where
  far-flat : (p : SpacePoint) → IsFar side p → FlatDim s p 3
  far-flat p f = volume-flat s c S p (clear s p S f)

  far-alike : (p q : SpacePoint) → IsFar side p → IsFar side q → SameGerms s p q
  far-alike p q f g = even-germs s 3 p q (even-by s 3 p q (far-flat p f) (λ r b. far-flat r (far-between side p r q b f g)) (far-flat q g))

  pub far-uniform : (p q : SpacePoint) (l : Label) → IsFar side p → HasLabel s p l → IsFar side q → IsUniform s q l
  far-uniform p q l f h g = ((labels-by_germs s p q (far-alike p q f g) l).0 h, far-flat q g)

-- ---- listed regions
pub each-none : {X : Type 0} (P : X → Type 0) (k : ℕ) (y : X) → IsAt [] k y → P y
each-none P k y a = absurd (is-at_none a)

pub each-more : {X : Type 0} (P : X → Type 0) (x : X) (xs : List X) → P x → ((k : ℕ) (y : X) → IsAt xs k y → P y) → (k : ℕ) (y : X) → IsAt (x ∷ xs) k y → P y
each-more P x xs here rest zero y a = subst P (is-at_first a) here
each-more P x xs here rest (suc k) y a = rest k y a
