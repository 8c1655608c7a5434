-- Searching sorted vertices.
use Rattle.nef_complex.proofs.Prelude.{◌≡◌, ℕ, zero, suc, ◌<◌, ◌≤◌, arith, refl, sym, subst, ⊎_elim, List, [], ◌∷◌, length, map, Ok, Err, Result, IfErr, HoldsAt, cases_lt, searchable_from_sorted, get_or_from_slice_get, slice_get_within, ordering_index, IsBinarySearchResult, IsNonDecreasingBy, IsSearchInRange, Ordering, Less, Equal, Greater, IsAt, SamePoint, IsPointBelow, point_of, Point, same-point_sym, point_below-apart, sorted-from_order, Vertex, vertex_of, AreSorted, AreBelow, AreAbove, is-at_none, is-at_first}
use Rattle.std.proofs.Common.{IfOk}
use Rattle.law_geometry.specs.complex.Complexes.{Vertex as PlainVertex}
use Rattle.nef_complex.proofs.Order.{one-order, space_order, as-ordered, point_order, point-ordered, point_total}

-- how a vertex stands to the point
abbrev pub order_to : Point → Vertex → Ordering
order_to p v = space_order (point_of v.point) (point_of p)

-- it rises along sorted vertices
rising : (vs : List Vertex) (p : Point) → AreSorted vs → IsNonDecreasingBy (λ v. ordering_index (order_to p v)) vs
rising vs p sorted = searchable_from_sorted point_total (λ (v : Vertex). v.point) vs p
    (sorted-from_order (λ u v. point_order u.point v.point) (λ u v. IsPointBelow (point_of u.point) (point_of v.point))
    (λ u v b. one-order (point_of v.point) (point_of u.point) (point_order v.point u.point) Greater (point-ordered v.point u.point) b) vs sorted)

at-point : (vs : List Vertex) (k : ℕ) (p : Point) → k < length vs → HoldsAt (λ v. order_to p v ≡ Equal) vs k → (x : PlainVertex) × IsAt (map vertex_of vs) k x × SamePoint x.point (point_of p)
at-point [] k p l h = absurd (omega arith)
at-point (v ∷ vs) zero p l h = (vertex_of v, refl, as-ordered (point_of v.point) (point_of p) Equal (h v))
at-point (v ∷ vs) (suc k) p l h = at-point vs k p (omega arith) h

-- what a search by that order answers
module _ (vs : List Vertex) (p : Point) where
  pub found-at : (r : Result ℕ ℕ) → IsSearchInRange r (length vs) → IsBinarySearchResult (order_to p) vs r → IfOk r (λ k. (x : PlainVertex) × IsAt (map vertex_of vs) k x × SamePoint x.point (point_of p))
  found-at (Ok k) l h = at-point vs k p l h
  found-at (Err n) l h = tt

  module _ (sorted : AreSorted vs) where
    pub found-before : (r : Result ℕ ℕ) → IsBinarySearchResult (order_to p) vs r → IfErr r (λ n. AreBelow vs n p)
    found-before (Ok k) h = tt
    found-before (Err n) h = λ i v l a. as-ordered (point_of v.point) (point_of p) Less (subst (λ (u : Vertex). order_to p u ≡ Less) (get_or_from_slice_get vs i v v a) ((h (rising vs p sorted)).0 i v (omega arith) l))

    pub found-after : (r : Result ℕ ℕ) → IsBinarySearchResult (order_to p) vs r → IfErr r (λ n. AreAbove vs n p)
    found-after (Ok k) h = tt
    found-after (Err n) h = λ i v l a. as-ordered (point_of v.point) (point_of p) Greater (subst (λ (u : Vertex). order_to p u ≡ Greater) (get_or_from_slice_get vs i v v a) ((h (rising vs p sorted)).1 i v l (slice_get_within vs i v a)))

-- a vertex at the point would be neither below nor above it
pub none-there : (vs : List Vertex) (k l : ℕ) (p : Point) → l ≤ k → AreBelow vs k p → AreAbove vs l p → (i : ℕ) → (x : PlainVertex) × IsAt (map vertex_of vs) i x × SamePoint x.point (point_of p) → ⊥
none-there vs k l p le below above i (x, a, s) =
    let v = listed vs i x a in
    let e : SamePoint (point_of v.0.point) (point_of p) = subst (λ (r : PlainVertex). SamePoint r.point (point_of p)) (sym v.2) s in
    ⊎_elim
    (λ m. point_below-apart (point_of v.0.point) (point_of p) (below i v.0 m v.1) e)
    (λ m. point_below-apart (point_of p) (point_of v.0.point) (above i v.0 (omega arith) v.1) (same-point_sym (point_of v.0.point) (point_of p) e))
    (cases_lt i k)
  where
    listed : (vs : List Vertex) (i : ℕ) (x : PlainVertex) → IsAt (map vertex_of vs) i x → (v : Vertex) × IsAt vs i v × (vertex_of v ≡ x)
    listed [] i x a = absurd (is-at_none a)
    listed (v ∷ vs) zero x a = (v, refl, is-at_first a)
    listed (v ∷ vs) (suc i) x a = listed vs i x a
