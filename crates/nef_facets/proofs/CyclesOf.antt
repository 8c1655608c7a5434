-- Orbits of the next corners are cycles, and those of one facet are its cycles.
use Rattle.nef_facets.proofs.Prelude.{◌≡◌, ℕ, zero, suc, ◌<◌, List, [], ◌∷◌, length, map, arith, refl, ap, sym, subst, Option, Some, Result, Ok, Err, IfOk, All, IsAt, Chained, Set, chain-here, chain-trans, is-at_one, is-at_within, is-at_some, is-at_is, map-is_at, is-at_map, Complex as PlainComplex, Shows, Corner, corner_of, FacetLink, Cycle, NextCorner, IsCornerBelow, StepsTo, IsCycle, IsCycleBelow, Cycles, IsFacetOf, FacetNumbers, cycle_corners, CornersAreInOrder, AreCorners, corner_from, AreNext, IsStep, StepsOver, IsOrbit, AreOrbits, AreCornersOf, AreNumberedOrbits, IsCycleOf, AreCycleRows, is-at_none, is-at_first}
use Rattle.law_geometry.specs.complex.Complexes.{Corner as PlainCorner}
use Rattle.nef_facets.proofs.FirstCorners.{facet-one, facet-item, item-facet}
use Rattle.nef_facets.proofs.NextCorners.{next-injective, next-linked}
use Rattle.nef_facets.proofs.Order.{one-place}
use Rattle.nef_space.proofs.Lists.{all-of}

-- ---- the next corners are a step
pub next-step : (s : Set) (C : PlainComplex) (ks : List Corner) (ns : List ℕ) → Shows s C → AreCorners C ks → AreNext C ks ns → IsStep ns
next-step s C ks ns S K N = record {
  within = λ i n a. let r = at-number i n a in let h = is-at_within ks n r.2 r.5 in let e = N.as_many in omega arith;
  injective = λ i j n a b.
      let p = at-number i n a in
      let q = at-number j n b in
      let e = is-at_one ks n p.2 q.2 p.5 q.5 in
      let f = next-injective s C S (corner_of p.1) (corner_of q.1) (corner_of q.2) (subst (λ (y : Corner). NextCorner C (corner_of p.1) (corner_of y)) e p.6) q.6 in
      one-place ks i j q.1 K.ordered (subst (λ (x : Corner). IsAt ks i x) (same p.1 q.1 f) p.3) q.3;
}
  where
    same : (x y : Corner) → corner_of x ≡ corner_of y → x ≡ y
    same x y e = ap corner_from e

    -- what follows corner i
    at-number : (i n : ℕ) → IsAt ns i n → (j : ℕ) × (x : Corner) × (y : Corner) × IsAt ks i x × IsAt ns i j × IsAt ks n y × NextCorner C (corner_of x) (corner_of y)
    at-number i n a =
        let h = is-at_within ns i n a in
        let r = N.each i (let e = N.as_many in omega arith) in
        (r.0, r.1, r.2, r.3, r.4, subst (λ (m : ℕ). IsAt ks m r.2) (is-at_one ns i r.0 n r.4 a) r.5, r.6)

module _ (C : PlainComplex) (ks : List Corner) (ns : List ℕ) (O : CornersAreInOrder ks) (N : AreNext C ks ns) where
  next-of : (i j : ℕ) (x y : Corner) → IsAt ks i x → IsAt ns i j → IsAt ks j y → NextCorner C (corner_of x) (corner_of y)
  next-of i j x y a b d =
      let r = N.each i (is-at_within ks i x a) in
      let e = is-at_one ks i r.1 x r.3 a in
      let f = is-at_one ns i r.0 j r.4 b in
      let g = is-at_one ks j r.2 y (subst (λ (m : ℕ). IsAt ks m r.2) f r.5) d in
      subst (λ (w : Corner). NextCorner C (corner_of x) (corner_of w)) g (subst (λ (w : Corner). NextCorner C (corner_of w) (corner_of r.2)) e r.6)

  rest : (i : ℕ) (is : List ℕ) (x : Corner) (xs : List Corner) → AreCornersOf ks (i ∷ is) (x ∷ xs) → AreCornersOf ks is xs
  rest i is x xs A = record { as_many = let e = A.as_many in omega arith; each = λ k m y a b. A.each (suc k) m y a b }

  steps-to : (i : ℕ) (is : List ℕ) (z : ℕ) (x : Corner) (xs : List Corner) (w : Corner) → StepsOver ns i is z → AreCornersOf ks is xs → IsAt ks i x → IsAt ks z w → StepsTo C (corner_of x) (map corner_of xs) (corner_of w)
  steps-to i [] z x [] w s A a b = next-of i z x w a s b
  steps-to i [] z x (y ∷ xs) w s A a b = let e = A.as_many in absurd (omega arith)
  steps-to i (j ∷ is) z x [] w s A a b = let e = A.as_many in absurd (omega arith)
  steps-to i (j ∷ is) z x (y ∷ xs) w (s, t) A a b = let d = A.each 0 j y refl refl in (next-of i j x y a s d, steps-to j is z y xs w t (rest j is y xs A) d b)

  above : (i : ℕ) (is : List ℕ) (x : Corner) (xs : List Corner) → All (λ k. i < k) is → AreCornersOf ks is xs → IsAt ks i x → All (IsCornerBelow (corner_of x)) (map corner_of xs)
  above i is x xs l A a = all-of (IsCornerBelow (corner_of x)) (map corner_of xs) (λ k y b.
      let u = is-at_map corner_of xs k y b in
      let v = u.1 in
      let j = is-at_some is k (let h = is-at_within xs k u.0 v in let e = A.as_many in omega arith) in
      let less : i < j.0 = subst (λ (n : ℕ). i < n) (is-at_is is k j.0 0 j.1) (l k 0 (is-at_within is k j.0 j.1)) in
      subst (λ (w : PlainCorner). IsCornerBelow (corner_of x) w) u.2 (O i j.0 x u.0 less a (A.each k j.0 u.0 j.1 v)))

  pub orbit-cycle : (is : List ℕ) (xs : List Corner) → IsOrbit ns is → AreCornersOf ks is xs → IsCycle C (map corner_of xs)
  orbit-cycle [] xs B A = absurd B
  orbit-cycle (i ∷ is) [] B A = let e = A.as_many in absurd (omega arith)
  orbit-cycle (i ∷ is) (x ∷ xs) B A = let a = A.each 0 i x refl refl in (steps-to i is i x xs x B.0 (rest i is x xs A) a a, above i is x xs B.1 (rest i is x xs A) a)

-- ---- the corners of a cycle are of one facet
steps-chained : (C : PlainComplex) (j : PlainCorner) (ks : List PlainCorner) (z : PlainCorner) → StepsTo C j ks z → (k : ℕ) (x : PlainCorner) → IsAt (j ∷ ks) k x → Chained (FacetLink C) j x
steps-chained C j [] z s zero x a = subst (λ (y : PlainCorner). Chained (FacetLink C) j y) (is-at_first a) (chain-here (FacetLink C) j)
steps-chained C j [] z s (suc k) x a = absurd (is-at_none a)
steps-chained C j (y ∷ ks) z (s, t) zero x a = subst (λ (w : PlainCorner). Chained (FacetLink C) j w) (is-at_first a) (chain-here (FacetLink C) j)
steps-chained C j (y ∷ ks) z (s, t) (suc k) x a = chain-trans (FacetLink C) j y x (next-linked C j y s) (steps-chained C y ks z t k x a)

cycle-chained : (C : PlainComplex) (ys : List PlainCorner) → IsCycle C ys → (j x : PlainCorner) (k : ℕ) → IsAt ys 0 j → IsAt ys k x → Chained (FacetLink C) j x
cycle-chained C [] B j x k a b = absurd B
cycle-chained C (y ∷ ys) B j x k a b = subst (λ (w : PlainCorner). Chained (FacetLink C) w x) (is-at_first a) (steps-chained C y ys y B.0 k x b)

-- ---- the cycles of a facet
module _ (C : PlainComplex) (rows : List (List ℕ)) (F : FacetNumbers C rows) (ks : List Corner) (K : AreCorners C ks) (ns : List ℕ) (N : AreNext C ks ns) (orbits : List (List ℕ)) (B : AreOrbits ns orbits) where
  abbrev Is : ℕ → ℕ → Cycle → Type 0
  Is n m y = IsCycleOf rows ks orbits n m y

  module _ (n m : ℕ) (y : Cycle) (Y : Is n m y) where
    is-cycle : IsCycle C (map corner_of y.corners)
    is-cycle = orbit-cycle C ks ns K.ordered N Y.orbit y.corners (B.each m Y.orbit Y.listed) Y.corners

    -- its first corner
    first-corner : (x : Corner) × IsAt y.corners 0 x × IsAt ks Y.first x
    first-corner =
        let h = is-at_within Y.orbit 0 Y.first Y.is_first in
        let e = (Y.corners).as_many in
        let r = is-at_some y.corners 0 (omega arith) in
        (r.0, r.1, (Y.corners).each 0 Y.first r.0 Y.is_first r.1)

    first-number : IsFacetOf rows (corner_of first-corner.0) n
    first-number = subst (λ (x : Corner). IsFacetOf rows (corner_of x) n) (is-at_one ks Y.first Y.corner first-corner.0 Y.is_corner first-corner.2) Y.number

    one-number : (k : ℕ) (x : PlainCorner) → IsAt (map corner_of y.corners) k x → IsFacetOf rows x n
    one-number k x a =
        let p = is-at_map corner_of y.corners k x a in
        let w = is-at_some Y.orbit k (let h = is-at_within y.corners k p.0 p.1 in let e = (Y.corners).as_many in omega arith) in
        let i = (Y.corners).each k w.0 p.0 w.1 p.1 in
        let l = subst (λ (z : PlainCorner). (m : ℕ) × IsFacetOf rows z m) p.2 (item-facet C rows F (corner_of p.0) (K.each w.0 p.0 i)) in
        let f = first-corner in
        let c = cycle-chained C (map corner_of y.corners) is-cycle (corner_of f.0) x k (map-is_at corner_of y.corners 0 f.0 f.1) a in
        let e = (F.numbered.by_class (corner_of f.0) x n l.0 first-number l.1).1 c in
        subst (λ (q : ℕ). IsFacetOf rows x q) (sym e) l.1

  module _ (ys : List (List Cycle)) (G : AreCycleRows rows ks orbits (length orbits) ys) (n : ℕ) (row : List Cycle) (at : IsAt ys n row) where
    abbrev row_cycle : Cycle → List PlainCorner
    row_cycle y = map corner_of y.corners

    listed : (j : PlainCorner) → IsFacetOf rows j n → (i : ℕ) × (k : ℕ) × (x : List PlainCorner) × IsAt (cycle_corners row) i x × IsAt x k j
    listed j h =
        let p = K.all j (facet-item C rows F j n h) in
        let o = B.all p.0 (let l = is-at_within ks p.0 (corner_from j) p.1 in let e = N.as_many in omega arith) in
        let m : ℕ = o.0 in let k : ℕ = o.1 in let orbit : List ℕ = o.2 in
        let g = G.all m (is-at_within orbits m orbit o.3) in
        let y : Cycle = g.3 in
        let Y = g.6 in
        let same = is-at_one orbits m orbit Y.orbit o.3 Y.listed in
        let b : IsAt Y.orbit k p.0 = subst (λ (w : List ℕ). IsAt w k p.0) same o.4 in
        let x = is-at_some y.corners k (let l = is-at_within Y.orbit k p.0 b in let e = (Y.corners).as_many in omega arith) in
        let e = is-at_one ks p.0 x.0 (corner_from j) ((Y.corners).each k p.0 x.0 b x.1) p.1 in
        let a : IsAt (row_cycle y) k j = subst (λ (w : PlainCorner). IsAt (row_cycle y) k w) (ap corner_of e) (map-is_at corner_of y.corners k x.0 x.1) in
        let f = facet-one rows j g.0 n (one-number g.0 m y Y k j a) h in
        let r = is-at_one ys n g.2 row (subst (λ (q : ℕ). IsAt ys q g.2) f g.4) at in
        (g.1, k, row_cycle y, map-is_at row_cycle row g.1 y (subst (λ (w : List Cycle). IsAt w g.1 y) r g.5), a)

    below : (q r : ℕ) (x z : List PlainCorner) → q < r → IsAt (cycle_corners row) q x → IsAt (cycle_corners row) r z → IsCycleBelow x z
    below q r x z h a b =
        let u = is-at_map row_cycle row q x a in
        let v = is-at_map row_cycle row r z b in
        let g = G.ordered n q r row u.0 v.0 h at u.1 v.1 in
        let f = first-corner n g.0 u.0 g.3 in
        let e = first-corner n g.1 v.0 g.4 in
        let l = B.ordered g.0 g.1 g.3.first g.4.first g.3.orbit g.4.orbit g.2 g.3.listed g.4.listed g.3.is_first g.4.is_first in (
          corner_of f.0,
          corner_of e.0,
          subst (λ (w : List PlainCorner). IsAt w 0 (corner_of f.0)) u.2 (map-is_at corner_of (u.0).corners 0 f.0 f.1),
          subst (λ (w : List PlainCorner). IsAt w 0 (corner_of e.0)) v.2 (map-is_at corner_of (v.0).corners 0 e.0 e.1),
          K.ordered g.3.first g.4.first f.0 e.0 l f.2 e.2,
        )

    pub facet-cycles : Cycles C (λ k. IsFacetOf rows k n) (cycle_corners row)
    facet-cycles = record {
      cycles = λ i x a.
          let u = is-at_map row_cycle row i x a in
          let g = G.each n i row u.0 at u.1 in
          subst (λ (w : List PlainCorner). IsCycle C w) u.2 (is-cycle n g.0 u.0 g.2);
      within = λ i k x j a b.
          let u = is-at_map row_cycle row i x a in
          let g = G.each n i row u.0 at u.1 in
          one-number n g.0 u.0 g.2 k j (subst (λ (w : List PlainCorner). IsAt w k j) (sym u.2) b);
      complete = listed;
      ordered = below;
    }

pub cycles-ok : {E : Type 0} (C : PlainComplex) (rows : List (List ℕ)) (F : FacetNumbers C rows) (ks : List Corner) (K : AreCorners C ks) (ns : List ℕ) (N : AreNext C ks ns) (orbits : List (List ℕ)) (B : AreOrbits ns orbits)
    (r : Result (List (List Cycle)) E) → IfOk r (λ ys. AreCycleRows rows ks orbits (length orbits) ys) → IfOk r (λ ys. (n : ℕ) (row : List Cycle) → IsAt ys n row → Cycles C (λ k. IsFacetOf rows k n) (cycle_corners row))
cycles-ok C rows F ks K ns N orbits B (Ok ys) G = λ n row a. facet-cycles C rows F ks K ns N orbits B ys G n row a
cycles-ok C rows F ks K ns N orbits B (Err e) G = G

-- what the grouping asks
pub are-numbered : (C : PlainComplex) (rows : List (List ℕ)) (ks : List Corner) (ns : List ℕ) (orbits : List (List ℕ)) (count : ℕ) → FacetNumbers C rows → AreCorners C ks → AreNext C ks ns → AreOrbits ns orbits
    → ((i : ℕ) (k : Corner) (n : ℕ) → IsAt ks i k → IsFacetOf rows (corner_of k) n → n < count) → AreNumberedOrbits rows ks orbits count
are-numbered C rows ks ns orbits count F K N B below = record {
  some = λ m x a. some x (B.each m x a);
  within = λ m k i x a b. let h = within x (B.each m x a) k i b in let e = N.as_many in omega arith;
  number = λ i k a. item-facet C rows F (corner_of k) (K.each i k a);
  below = below;
}
  where
    some : (x : List ℕ) → IsOrbit ns x → 0 < length x
    some [] b = absurd b
    some (j ∷ ks) b = omega arith

    over : (j : ℕ) (ks : List ℕ) (z k i : ℕ) → StepsOver ns j ks z → IsAt (j ∷ ks) k i → i < length ns
    over j [] z zero i s a = let e : ◌≡◌ {A = Option ℕ} (Some j) (Some i) = a in let f : j ≡ i = cc in let h = is-at_within ns j z s in omega arith
    over j [] z (suc k) i s a = cc
    over j (l ∷ ks) z zero i (s, t) a = let e : ◌≡◌ {A = Option ℕ} (Some j) (Some i) = a in let f : j ≡ i = cc in let h = is-at_within ns j l s in omega arith
    over j (l ∷ ks) z (suc k) i (s, t) a = over l ks z k i t a

    within : (x : List ℕ) → IsOrbit ns x → (k i : ℕ) → IsAt x k i → i < length ns
    within [] b k i a = absurd b
    within (j ∷ ks) b k i a = over j ks j k i b.0 a
