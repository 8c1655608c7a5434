-- The first corners of facets, and the numbers of items.
use Rattle.nef_facets.proofs.Prelude.{◌≡◌, ◌≢◌, ℕ, ◌<◌, ◌≤◌, ◌+◌, List, [], ◌∷◌, ◌++◌, length, arith, sym, ◌∙◌, ⊎_elim, subst, length-append, cases_order, IsAt, items, Either, earlier, last, is-at_pushed, is-at_one, is-at_within, is-at_some, Complex, Corner, corner_of, IsFacetOf, FacetNumbers, corner_from, HasItem, AreCorners, AreFirsts}
use Rattle.law_geometry.specs.complex.Complexes.{Corner as PlainCorner}
use Rattle.nef_facets.proofs.Order.{number-below}
use Rattle.nef_space.proofs.Elementary.{less-or-last}

-- an item has one number
pub facet-one : (rows : List (List ℕ)) (k : PlainCorner) (m n : ℕ) → IsFacetOf rows k m → IsFacetOf rows k n → m ≡ n
facet-one rows k m n (r, a, b) (t, d, e) = is-at_one t k.item m n (subst (λ (u : List ℕ). IsAt u k.item m) (is-at_one rows k.vertex r t a d) b) e

module _ (C : Complex) (rows : List (List ℕ)) (N : FacetNumbers C rows) where
  -- what has a number is an item
  pub facet-item : (k : PlainCorner) (n : ℕ) → IsFacetOf rows k n → HasItem C k
  facet-item k n (row, a, b) =
      let S = N.shape in
      let e = S.as_many in
      let h = is-at_within rows k.vertex row a in
      let v = is-at_some C.vertices k.vertex (omega arith) in
      let l = v.1 in
      let f = S.row k.vertex v.0 row l a in
      let i = is-at_within row k.item n b in
      let x = is-at_some (items v.0.map) k.item (omega arith) in
      (v.0, x.0, record { vertex = l; item = x.1 })

  -- each item has a number
  pub item-facet : (k : PlainCorner) → HasItem C k → (n : ℕ) × IsFacetOf rows k n
  item-facet k (v, x, c) =
      let S = N.shape in
      let e = S.as_many in
      let h = is-at_within C.vertices k.vertex v c.vertex in
      let r = is-at_some rows k.vertex (omega arith) in
      let f = S.row k.vertex v r.0 c.vertex r.1 in
      let i = is-at_within (items v.map) k.item x c.item in
      let n = is-at_some r.0 k.item (omega arith) in
      (n.0, (r.0, r.1, n.1))

-- what the first corners of the first so many corners are
pub record AreFirstsTo (rows : List (List ℕ)) (ks : List Corner) (i : ℕ) (js : List Corner) : Type 0 where
  pub each : (n : ℕ) (k : Corner) → IsAt js n k → IsFacetOf rows (corner_of k) n × ((j : ℕ) × IsAt ks j k)
  pub all : (j n : ℕ) (k : Corner) → j < i → IsAt ks j k → IsFacetOf rows (corner_of k) n → n < length js

pub firsts-none : (rows : List (List ℕ)) (ks : List Corner) → AreFirstsTo rows ks 0 []
firsts-none rows ks = record { each = λ n k a. cc; all = λ j n k h. absurd (omega arith) }

module _ (C : Complex) (rows : List (List ℕ)) (N : FacetNumbers C rows) (ks : List Corner) (A : AreCorners C ks) (i : ℕ) (js : List Corner) (F : AreFirstsTo rows ks i js) (k : Corner) (at : IsAt ks i k) (m : ℕ) (number : IsFacetOf rows (corner_of k) m) where
  -- no number is left out
  no-more : length js < m → ⊥
  no-more l =
      let r = N.numbered.by_appearance (corner_of k) (length js) m number (omega arith) l in
      let p = A.all r.0 (facet-item C rows N r.0 (length js) r.2) in
      let h = F.all p.0 (length js) (corner_from r.0) (number-below ks p.0 i (corner_from r.0) k A.ordered p.1 at r.1) p.1 r.2 in
      omega arith

  here : (j n : ℕ) (x : Corner) → j ≡ i → IsAt ks j x → IsFacetOf rows (corner_of x) n → n ≡ m
  here j n x e a f = facet-one rows (corner_of k) n m (subst (λ (y : Corner). IsFacetOf rows (corner_of y) n) (is-at_one ks i x k (subst (λ (r : ℕ). IsAt ks r x) e a) at) f) number

  pub firsts-same : m ≢ length js → AreFirstsTo rows ks (i + 1) js
  firsts-same d = record {
    each = F.each;
    all = λ j n x h a f. ⊎_elim (λ l. F.all j n x l a f)
        (λ e. let g = here j n x e a f in ⊎_elim (λ q. absurd (d q)) (λ o. ⊎_elim (λ q. omega arith) (λ q. absurd (no-more q)) o) (cases_order m (length js))) (less-or-last j i h);
  }

  pub firsts-new : m ≡ length js → AreFirstsTo rows ks (i + 1) (js ++ k ∷ [])
  firsts-new d = record {
    each = λ n x a. by n x (is-at_pushed js n x k a);
    all = λ j n x h a f. let e = length-append js (k ∷ []) in
        ⊎_elim (λ l. let g = F.all j n x l a f in omega arith) (λ q. let g = here j n x q a f in omega arith) (less-or-last j i h);
  }
    where
      by : (n : ℕ) (x : Corner) → Either js n x k → IsFacetOf rows (corner_of x) n × ((j : ℕ) × IsAt ks j x)
      by n x (earlier a) = F.each n x a
      by n x (last e f) = subst (λ (y : Corner). IsFacetOf rows (corner_of y) n × ((j : ℕ) × IsAt ks j y)) (sym f) (subst (λ (r : ℕ). IsFacetOf rows (corner_of k) r) (d ∙ sym e) number, (i, at))

pub firsts-all : (rows : List (List ℕ)) (ks : List Corner) (i : ℕ) (js : List Corner) → AreFirstsTo rows ks i js → length ks ≤ i → AreFirsts rows ks js
firsts-all rows ks i js F h = record { each = F.each; all = λ j n k a f. F.all j n k (let l = is-at_within ks j k a in omega arith) a f }
