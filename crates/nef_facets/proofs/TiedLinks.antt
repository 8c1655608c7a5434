-- A list that has exactly the ties of links.
use Rattle.nef_facets.proofs.Prelude.{◌≡◌, ℕ, List, [], map, refl, ap, sym, ◌∙◌, subst, ◌⊎◌, inl, inr, ◌↔◌, arith, Contains, Form, Vector, opposite, plane_dir, IsAt, Item, arc_item, items, item_normal, at-arc, Vertex, Complex, IsCorner, item_plane, PlaneMeet, meets_vertex, meets_edge, IsCornerAt, at-contains, contains-at, Cell, Tie, IsCellIn, AreTied, AreTiedWithin, LinkAlong, LinkAcross, count_items, cell_of, corner_at, edge_tie, IsTieAlong, IsTieAcross, Any, Adds}
use Rattle.law_geometry.specs.complex.Complexes.{Corner}
use Rattle.nef_space.proofs.Lists.{is-at_within, map-is_at}

pub tie-same : (t u : Tie) → t.first ≡ u.first → t.second ≡ u.second → t ≡ u
tie-same t u e f = ap (λ x. make x t.second) e ∙ ap (λ x. make u.first x) f
  where
    make : Cell → Cell → Tie
    make a b = record { first = a; second = b }

abbrev pub corner_tie : Corner → Corner → Tie
corner_tie j k = record { first = cell_of j; second = cell_of k }

module _ (Link : Corner → Corner → Type 0) (Q : ℕ → Tie → Type 0) (to : (t : Tie) → Any Q t → Link (corner_at t.first) (corner_at t.second)) (from : (j k : Corner) → Link j k → Any Q (corner_tie j k))
    (ts : List Tie) (A : Adds (Any Q) [] ts) where
  linked : (t : Tie) → Contains ts t → Link (corner_at t.first) (corner_at t.second)
  linked t h = by (A.added t h)
    where
      by : Contains [] t ⊎ Any Q t → Link (corner_at t.first) (corner_at t.second)
      by (inl e) = absurd (let l = e.1 in omega (arith, l))
      by (inr q) = to t q

  pub tied : (j k : Corner) → AreTied ts (cell_of j) (cell_of k) ↔ Link j k
  tied j k = (
    λ (n, t, a, e, f). subst (λ (x : Cell). Link (corner_at x) k) e (subst (λ (x : Cell). Link (corner_at t.first) (corner_at x)) f (linked t (at-contains ts n t a))),
    λ L. let p = contains-at ts (corner_tie j k) (A.all (corner_tie j k) (from j k L)) in (p.0, corner_tie j k, p.1, refl, refl),
  )

  pub tied-within : (counts : List ℕ) → ((j k : Corner) → Link j k → IsCellIn counts (cell_of j) × IsCellIn counts (cell_of k)) → AreTiedWithin counts ts
  tied-within counts f n t a = f (corner_at t.first) (corner_at t.second) (linked t (at-contains ts n t a))

module _ (C : Complex) where
  -- ---- corners are elements of the table
  cell-in : (k : Corner) (v : Vertex) (x : Item) → IsCorner C k v x → IsCellIn (map count_items C.vertices) (cell_of k)
  cell-in k v x c = record {
    count = count_items v;
    is_row = (map-is_at count_items C.vertices k.vertex v c.vertex);
    within = is-at_within (items v.map) k.item x c.item;
  }

  met-in : (h : Form) (f : Vector) (m : PlaneMeet) (k : Corner) → IsCornerAt C h f m k → IsCellIn (map count_items C.vertices) (cell_of k)
  met-in h f (meets_vertex i) k (v, x, e, c, r, o) = cell-in k v x c
  met-in h f (meets_edge i) k (e, v, a, l, p, b, t, r, o) =
      cell-in k v (arc_item a) (record { vertex = subst (λ (j : ℕ). IsAt C.vertices j v) (sym p) b; item = at-arc v.map.arcs v.map.sloop k.item a t })

  pub across-in : (j k : Corner) → LinkAcross C j k → IsCellIn (map count_items C.vertices) (cell_of j) × IsCellIn (map count_items C.vertices) (cell_of k)
  across-in j k L =
      let d = opposite (plane_dir (item_normal L.item)) in
      (cell-in j L.vertex L.item L.corner, met-in (item_plane L.vertex L.item) (opposite d) L.named.0 k L.named.2)

  pub along-in : (j k : Corner) → LinkAlong C j k → IsCellIn (map count_items C.vertices) (cell_of j) × IsCellIn (map count_items C.vertices) (cell_of k)
  along-in j k L =
      let A = L.along in
      let v = A.low_vertex in
      let w = A.high_vertex in (
        cell-in j v (arc_item A.low_arc) (record { vertex = subst (λ (i : ℕ). IsAt C.vertices i v) (sym L.from_low) A.ends.low; item = at-arc v.map.arcs v.map.sloop j.item A.low_arc A.is_low }),
        cell-in k w (arc_item A.high_arc) (record { vertex = subst (λ (i : ℕ). IsAt C.vertices i w) (sym L.to_high) A.ends.high; item = at-arc w.map.arcs w.map.sloop k.item A.high_arc A.is_high }),
      )

  -- ---- the ties of links along edges
  pub along-to : (t : Tie) → Any (IsTieAlong C) t → LinkAlong C (corner_at t.first) (corner_at t.second)
  along-to t (n, (e, v, w, a, H, (i, (x, l, (j, (y, m, s, q)))))) = subst (λ (u : Tie). LinkAlong C (corner_at u.first) (corner_at u.second)) (sym q) (record {
    number = n;
    edge = e;
    is_edge = a;
    from_low = refl;
    to_high = refl;
    along = record { low_vertex = v; high_vertex = w; ends = H; low_arc = x; high_arc = y; is_low = l; is_high = m; one_normal = s.0; one_way = s.1 };
  })

  pub along-from : (j k : Corner) → LinkAlong C j k → Any (IsTieAlong C) (corner_tie j k)
  along-from j k L =
      let A = L.along in
      let e = L.edge in
      let same = tie-same (corner_tie j k) (edge_tie e j.item k.item) (ap (λ n. cell n j.item) L.from_low) (ap (λ n. cell n k.item) L.to_high) in
      (L.number, (e, A.low_vertex, A.high_vertex, L.is_edge, A.ends, (j.item, (A.low_arc, A.is_low, (k.item, (A.high_arc, A.is_high, (A.one_normal, A.one_way), same))))))
    where
      cell : ℕ → ℕ → Cell
      cell a b = record { row = a; column = b }

  -- ---- the ties of links across facets
  pub across-to : (t : Tie) → Any (λ i. Any (IsTieAcross C i)) t → LinkAcross C (corner_at t.first) (corner_at t.second)
  across-to t (i, (j, (e, L))) = L

  pub across-from : (j k : Corner) → LinkAcross C j k → Any (λ i. Any (IsTieAcross C i)) (corner_tie j k)
  across-from j k L = (j.vertex, (j.item, (refl, L)))
