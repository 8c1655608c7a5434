-- The items of a complex that shows a set have facet numbers: items whose points are joined have one.
use Rattle.nef_statement.proofs.text.existence.Prelude.{◌≡◌, ℕ, ◌<◌, ◌≤◌, refl, inr, ◌↔◌, List, subst, IsAt, Chained, FlatDim, SpacePoint, Set, Item, items, Vertex, Complex, Corner, IsCorner, Shows, FacetLink, IsAtItem, joined-items_linked, is-at_within, is-at_some, count_items, IsFacetOf, FacetNumbers}
use Rattle.law_geometry.proofs.complex.links.ItemLinks.{items-joined}
use Rattle.law_geometry.proofs.complex.links.ItemPoints.{items-have_points}
use Rattle.nef_statement.proofs.text.existence.Connected.{class-number, class-same}
use Rattle.nef_statement.proofs.text.existence.Elements.{Elements, elements}
use Rattle.nef_statement.proofs.text.existence.Numbering.{Numbered, number-all, NumberTable, Placed, PairBelow, table, placed, has-place}
use Rattle.law_geometry.proofs.complex.Equal.{corners-equal}
use Rattle.nef_space.proofs.Elementary.{same-itself}

pub record ItemAt (C : Complex) : Type 0 where
  pub corner : Corner
  pub vertex : Vertex
  pub item : Item
  pub is : IsCorner C corner vertex item

abbrev row-of : (C : Complex) → ItemAt C → ℕ
row-of C x = x.corner.vertex

abbrev col-of : (C : Complex) → ItemAt C → ℕ
col-of C x = x.corner.item

module _ (C : Complex) where
  item-make : (i k : ℕ) (v : Vertex) → IsAt C.vertices i v → k < count_items v → (x : ItemAt C) × (row-of C x ≡ i) × (col-of C x ≡ k)
  item-make i k v a l = let x = is-at_some (items v.map) k l in (record { corner = record { vertex = i; item = k }; vertex = v; item = x.0; is = record { vertex = a; item = x.1 } }, refl, refl)

  item-sound : (xs : List (ItemAt C)) (p : ℕ) (x : ItemAt C) → IsAt xs p x → (v : Vertex) × IsAt C.vertices (row-of C x) v × (col-of C x < count_items v)
  item-sound xs p x a = (x.vertex, x.is.vertex, is-at_within (items x.vertex.map) x.corner.item x.item x.is.item)

  all-items : Elements (row-of C) (col-of C) C.vertices count_items item-make
  all-items = elements (row-of C) (col-of C) C.vertices count_items item-make

module _ (s : Set) (C : Complex) (S : Shows s C) where
  item-point : (x : ItemAt C) → (q : SpacePoint) × IsAtItem s C x.corner q
  item-point x = items-have_points s C x.corner x.vertex x.item S x.is

  item-flat : (x : ItemAt C) → FlatDim s (item-point x).0 2
  item-flat x = let q = item-point x in q.1.even q.0 (inr (same-itself q.0))

  id : ItemAt C → ℕ
  id x = class-number s 2 (item-point x).0

  id-linked : (x y : ItemAt C) → (id x ≡ id y) ↔ Chained (FacetLink C) x.corner y.corner
  unfolding id
  id-linked x y =
      let p = item-point x in let q = item-point y in
      let j = class-same s 2 p.0 q.0 (item-flat x) in (
        λ e. joined-items_linked s C S x.corner y.corner p.0 q.0 p.1 q.1 (j.0 e),
        λ c. j.1 (items-joined s C x.corner y.corner p.0 q.0 S c p.1 q.1),
      )

  pub facet-numbers : (rows : List (List ℕ)) × FacetNumbers C rows
  facet-numbers = by (all-items C)
    where
      by : Elements (row-of C) (col-of C) C.vertices count_items (item-make C) → (rows : List (List ℕ)) × FacetNumbers C rows
      by E = then (number-all E.list id)
        where
          then : Numbered E.list id → (rows : List (List ℕ)) × FacetNumbers C rows
          then N = (
            T.rows,
            record {
              shape = record { as_many = T.as_many; row = λ i v ns a b. T.long i v ns a b };
              numbered = record { by_class = by-class; by_appearance = by-appearance };
            },
          )
            where
              Put : ℕ → ℕ → ℕ → Type 0
              Put = Placed (row-of C) (col-of C) E.list E.ordered C.vertices count_items E.complete (item-sound C E.list) N.list N.as_many

              T : NumberTable C.vertices count_items (Placed (row-of C) (col-of C) E.list E.ordered C.vertices count_items E.complete (item-sound C E.list) N.list N.as_many)
              T = table (row-of C) (col-of C) E.list E.ordered C.vertices count_items E.complete (item-sound C E.list) N.list N.as_many

              put : (k : Corner) (n : ℕ) → IsFacetOf T.rows k n → (p : ℕ) × (x : ItemAt C) × IsAt E.list p x × (x.corner ≡ k) × IsAt N.list p n
              put k n h =
                  let (p, x, a, e, f, c) = placed (row-of C) (col-of C) E.list E.ordered C.vertices count_items E.complete (item-sound C E.list) N.list N.as_many k.vertex k.item n h in
                  (p, x, a, corners-equal x.corner k e f, c)

              by-class : (j k : Corner) (m n : ℕ) → IsFacetOf T.rows j m → IsFacetOf T.rows k n → (m ≡ n) ↔ Chained (FacetLink C) j k
              by-class j k m n g h =
                  let (p, x, a, e, c) = put j m g in
                  let (q, y, b, f, d) = put k n h in
                  let one = N.same p q x y m n a b c d in
                  let two = id-linked x y in
                  subst (λ z. (m ≡ n) ↔ Chained (FacetLink C) z k) e (subst (λ z. (m ≡ n) ↔ Chained (FacetLink C) x.corner z) f (λ g. two.0 (one.0 g), λ l. one.1 (two.1 l)))

              by-appearance : (k : Corner) (m n : ℕ) → IsFacetOf T.rows k n → 0 ≤ m → m < n → (j : Corner) × PairBelow j.vertex j.item k.vertex k.item × IsFacetOf T.rows j m
              by-appearance k m n h low l =
                  let (p, x, a, e, c) = put k n h in
                  let (q, y, o, b, d) = N.by_appearance p x m n a c l in
                  (y.corner, subst (λ z. PairBelow y.corner.vertex y.corner.item z.vertex z.item) e (E.ordered q p y x o b a), has-place (row-of C) (col-of C) E.list E.ordered C.vertices count_items E.complete (item-sound C E.list) N.list N.as_many q y m b d)
