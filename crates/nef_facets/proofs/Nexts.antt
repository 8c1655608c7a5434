-- The next corners of all corners, edge by edge.
use Rattle.nef_facets.proofs.Prelude.{◌≡◌, ◌≢◌, ℕ, ◌+◌, ◌<◌, ◌≤◌, List, length, arith, refl, ap, sym, ◌∙◌, ◌⊎◌, inl, inr, ⊎_elim, subst, set, cases_order, IsAt, Set, vector_of, Arc, Item, arc_item, sloop_item, MapSloop, is-at_one, arc-at, at-arc, ends-of, SArc, map_of, arc_of, is-at_within, is-at_some, map-is_at, is-at_map, Vertex as PlainVertex, Edge as PlainEdge, Complex as PlainComplex, IsCorner, Shows, svertex-edge, Corner, vertex_of, complex_of, corner_of, Leads, NextCorner, CornersAreInOrder, AreCorners, HasItem, IsArcInto, LeavesFrom, HasNext, AreNext, set-same, set-other}
use Rattle.nef_complex.specs.declared.complex.Vertex.{Vertex}
use Rattle.nef_complex.specs.declared.complex.Complex.{Complex}
use Rattle.nef_facets.proofs.CornerLists.{corner}
use Rattle.nef_facets.proofs.EdgeViews.{EdgeFrom, edge-from}
use Rattle.nef_facets.proofs.NextCorners.{next-arc}
use Rattle.nef_facets.proofs.Order.{one-place}
use Rattle.nef_space.proofs.Elementary.{less-or-last}

-- ---- one next corner noted
module _ (C : PlainComplex) (ks : List Corner) (old new : List ℕ) (i n : ℕ) (j k : Corner) (a : IsAt ks i j) (b : IsAt ks n k) (e : new ≡ set old i n) (as-many : length old ≡ length ks) (N : NextCorner C (corner_of j) (corner_of k)) where
  there : IsAt new i n
  there = subst (λ (ns : List ℕ). IsAt ns i n) (sym e) (set-same old i n (let h = is-at_within ks i j a in omega arith))

  pub set-here : HasNext C ks new i
  set-here = (n, j, k, a, there, b, N)

  pub set-kept : (m : ℕ) → HasNext C ks old m → HasNext C ks new m
  set-kept m (q, x, y, f, g, h, P) = ⊎_elim
      (λ d. subst (λ (r : ℕ). HasNext C ks new r) (sym d) set-here)
      (λ o. (q, x, y, f, subst (λ (ns : List ℕ). IsAt ns m q) (sym e) (set-other old i m n q (⊎_elim (λ l d. absurd (omega arith)) (λ l d. absurd (omega arith)) o) g), h, P)) (cases_order m i)

-- ---- the arcs that leave along an edge
module _ (s : Set) (c : Complex) (S : Shows s (complex_of c)) (n : ℕ) (e : PlainEdge) (listed : IsAt (complex_of c).edges n e) (i a j b : ℕ) (leads : Leads e i a j b) where
  abbrev C : PlainComplex
  C = complex_of c

  V : EdgeFrom s C i a j b
  V = edge-from s C S n e listed i a j b leads

  pub from-within : i < length c.vertices
  from-within = let r = is-at_map vertex_of c.vertices i V.from V.is_from in is-at_within c.vertices i r.0 r.1

  pub to-within : j < length c.vertices
  to-within = let r = is-at_map vertex_of c.vertices j V.to V.is_to in is-at_within c.vertices j r.0 r.1

  module _ (u w : Vertex) (p : IsAt c.vertices i u) (q : IsAt c.vertices j w) (k : ℕ) (r : SArc) (l : IsAt u.map.arcs k r) (leaves : r.source ≡ a) where
    is-here : IsAt C.vertices i (vertex_of u)
    is-here = map-is_at vertex_of c.vertices i u p

    is-there : IsAt C.vertices j (vertex_of w)
    is-there = map-is_at vertex_of c.vertices j w q

    is-this : IsAt (map_of u.map).arcs k (arc_of r)
    is-this = map-is_at arc_of u.map.arcs k r l

    pub into : (m : ℕ) × IsArcInto (map_of w.map) b (vector_of r.normal) m
    into =
        let f = is-at_one C.vertices i (vertex_of u) V.from is-here V.is_from in
        let g = is-at_one C.vertices j V.to (vertex_of w) V.is_to is-there in
        let A = next-arc s C S i a j b V k (arc_of r) (subst (λ (v : PlainVertex). IsAt v.map.arcs k (arc_of r)) f is-this) leaves in
        (A.number, (A.arc, subst (λ (v : PlainVertex). IsAt v.map.arcs A.number A.arc) g A.listed, A.target, A.one_normal))

    pub here-item : HasItem C (corner_of (corner i k))
    here-item = (vertex_of u, arc_item (arc_of r), record { vertex = is-here; item = at-arc (map_of u.map).arcs (map_of u.map).sloop k (arc_of r) is-this })

    module _ (m : ℕ) (I : IsArcInto (map_of w.map) b (vector_of r.normal) m) where
      pub there-item : HasItem C (corner_of (corner j m))
      there-item = (vertex_of w, arc_item I.0, record { vertex = is-there; item = at-arc (map_of w.map).arcs (map_of w.map).sloop m I.0 I.1 })

      pub follows : NextCorner C (corner_of (corner i k)) (corner_of (corner j m))
      follows = inl (record {
        here = vertex_of u;
        there = vertex_of w;
        this_arc = arc_of r;
        that_arc = I.0;
        is_here = is-here;
        is_there = is-there;
        is_this = is-this;
        is_that = I.1;
        number = n;
        edge = e;
        is_edge = listed;
        leads = subst (λ (x : ℕ). Leads e i x j I.0.target) (sym leaves) (subst (λ (x : ℕ). Leads e i a j x) (sym I.2) leads);
        one_normal = I.3;
      })

-- ---- arc by arc
-- the arcs before number n that begin at svertex a of vertex i have their next corners
pub record HaveNextCorners (C : PlainComplex) (ks : List Corner) (i a n : ℕ) (old new : List ℕ) : Type 0 where
  pub as_many : length new ≡ length ks
  pub kept : (m : ℕ) → HasNext C ks old m → HasNext C ks new m
  pub added : (m : ℕ) (k : Corner) → k.item < n → IsAt ks m k → LeavesFrom C (corner_of k) i a → HasNext C ks new m

pub added-none : (C : PlainComplex) (ks : List Corner) (i a : ℕ) (old : List ℕ) → length old ≡ length ks → HaveNextCorners C ks i a 0 old old
added-none C ks i a old e = record { as_many = e; kept = λ m h. h; added = λ m k l. absurd (omega arith) }

module _ (C : PlainComplex) (ks : List Corner) (i a n : ℕ) (start old : List ℕ) (A : HaveNextCorners C ks i a n start old) (u : PlainVertex) (r : Arc) (p : IsAt C.vertices i u) (q : IsAt u.map.arcs n r) where
  -- the arc of a corner that leaves from there
  same-arc : (k : Corner) → k.item ≡ n → LeavesFrom C (corner_of k) i a → (r.source ≡ a) × (k ≡ corner i n)
  same-arc k e (v, t, b, d, f, g) =
      let x = is-at_one C.vertices i v u (subst (λ (m : ℕ). IsAt C.vertices m v) f b) p in
      let y = is-at_one u.map.arcs n t r (subst (λ (m : ℕ). IsAt u.map.arcs m t) e (subst (λ (w : PlainVertex). IsAt w.map.arcs k.item t) x d)) q in
      (sym (ap (λ (z : Arc). z.source) y) ∙ g, ap (λ (m : ℕ). corner m k.item) f ∙ ap (λ (m : ℕ). corner i m) e)

  pub added-pass : r.source ≢ a → HaveNextCorners C ks i a (n + 1) start old
  added-pass other = record {
    as_many = A.as_many;
    kept = A.kept;
    added = λ m k l b h. ⊎_elim (λ g. A.added m k g b h) (λ e. absurd (other ((same-arc k e h).0))) (less-or-last k.item n l);
  }

  pub added-next : (O : CornersAreInOrder ks) (new : List ℕ) (d f : ℕ) (k : Corner) → IsAt ks d (corner i n) → IsAt ks f k → new ≡ set old d f → length new ≡ length ks → NextCorner C (corner_of (corner i n)) (corner_of k) → HaveNextCorners C ks i a (n + 1) start new
  added-next O new d f k at-d at-f e len N = record {
    as_many = len;
    kept = λ m h. set-kept C ks old new d f (corner i n) k at-d at-f e A.as_many N m (A.kept m h);
    added = λ m x l b h. ⊎_elim
        (λ g. set-kept C ks old new d f (corner i n) k at-d at-f e A.as_many N m (A.added m x g b h))
        (λ g. let same = (same-arc x g h).1 in
        subst (λ (y : ℕ). HasNext C ks new y) (one-place ks d m (corner i n) O at-d (subst (λ (y : Corner). IsAt ks m y) same b)) (set-here C ks old new d f (corner i n) k at-d at-f e A.as_many N))
        (less-or-last x.item n l);
  }

pub added-all : (C : PlainComplex) (ks : List Corner) (i a n : ℕ) (old new : List ℕ) → HaveNextCorners C ks i a n old new → (u : PlainVertex) → IsAt C.vertices i u → length u.map.arcs ≤ n
    → (m : ℕ) (k : Corner) → IsAt ks m k → LeavesFrom C (corner_of k) i a → HasNext C ks new m
added-all C ks i a n old new A u p h m k b (v, t, d, f, g, e) =
    let x = is-at_one C.vertices i v u (subst (λ (r : ℕ). IsAt C.vertices r v) g d) p in
    let l = is-at_within u.map.arcs k.item t (subst (λ (w : PlainVertex). IsAt w.map.arcs k.item t) x f) in
    A.added m k (omega arith) b (v, t, d, f, g, e)

-- ---- edge by edge
pub record AreNextTo (C : PlainComplex) (ks : List Corner) (n : ℕ) (ns : List ℕ) : Type 0 where
  pub as_many : length ns ≡ length ks
  pub sloops : (i : ℕ) (k : Corner) (v : PlainVertex) (l : MapSloop) → IsAt ks i k → IsCorner C (corner_of k) v (sloop_item l) → HasNext C ks ns i
  pub arcs : (m i : ℕ) (e : PlainEdge) (k : Corner) → m < n → IsAt C.edges m e → IsAt ks i k → LeavesFrom C (corner_of k) e.low e.low_svertex ⊎ LeavesFrom C (corner_of k) e.high e.high_svertex → HasNext C ks ns i

pub next-none : (C : PlainComplex) (ks : List Corner) (ns : List ℕ) → length ns ≡ length ks → ((i n : ℕ) → IsAt ns i n → n ≡ i) → AreNextTo C ks 0 ns
next-none C ks ns e own = record {
  as_many = e;
  sloops = λ i k v l a c. let h = is-at_within ks i k a in let r = is-at_some ns i (omega arith) in (i, k, k, a, subst (λ (m : ℕ). IsAt ns i m) (own i r.0 r.1) r.1, a, inr (refl, v, l, c));
  arcs = λ m i f k h. absurd (omega arith);
}

pub next-more : (C : PlainComplex) (ks : List Corner) (n : ℕ) (ns ms new : List ℕ) (e : PlainEdge) → AreNextTo C ks n ns → IsAt C.edges n e → length new ≡ length ks
    → ((i : ℕ) → HasNext C ks ns i → HasNext C ks ms i) → ((i : ℕ) (k : Corner) → IsAt ks i k → LeavesFrom C (corner_of k) e.low e.low_svertex → HasNext C ks ms i)
    → ((i : ℕ) → HasNext C ks ms i → HasNext C ks new i) → ((i : ℕ) (k : Corner) → IsAt ks i k → LeavesFrom C (corner_of k) e.high e.high_svertex → HasNext C ks new i)
    → AreNextTo C ks (n + 1) new
next-more C ks n ns ms new e A at-n len kept low also high = record {
  as_many = len;
  sloops = λ i k v l a c. also i (kept i (A.sloops i k v l a c));
  arcs = λ m i f k h b a o. ⊎_elim
      (λ g. also i (kept i (A.arcs m i f k g b a o)))
      (λ g. let same = is-at_one C.edges n f e (subst (λ (r : ℕ). IsAt C.edges r f) g b) at-n in
      ⊎_elim (λ x. also i (low i k a (subst (λ (d : PlainEdge). LeavesFrom C (corner_of k) d.low d.low_svertex) same x)))
      (λ x. high i k a (subst (λ (d : PlainEdge). LeavesFrom C (corner_of k) d.high d.high_svertex) same x)) o)
      (less-or-last m n h);
}

module _ (s : Set) (C : PlainComplex) (S : Shows s C) (ks : List Corner) (K : AreCorners C ks) (n : ℕ) (ns : List ℕ) (A : AreNextTo C ks n ns) (all : (m : ℕ) (e : PlainEdge) → IsAt C.edges m e → m < n) where
  at-corner : (i : ℕ) (k : Corner) → IsAt ks i k → (v : PlainVertex) (x : Item) → IsCorner C (corner_of k) v x → HasNext C ks ns i
  at-corner i k a v (sloop_item l) c = A.sloops i k v l a c
  at-corner i k a v (arc_item r) c =
      let M = (S.cones k.vertex v c.vertex).valid.shaped in
      let b = arc-at v.map.arcs v.map.sloop k.item r c.item in
      let X = ends-of v.map M k.item r b in
      let E = svertex-edge s C S k.vertex r.source v X.source c.vertex X.has_source in
      A.arcs E.0 i E.1 k (all E.0 E.1 E.2) E.2 a
      (⊎_elim (λ o. inl (v, r, c.vertex, b, sym o.0, sym o.1)) (λ o. inr (v, r, c.vertex, b, sym o.0, sym o.1)) E.3)

  pub next-all : AreNext C ks ns
  next-all = record { as_many = A.as_many; each = λ i h. let k = is-at_some ks i h in let x = K.each i k.0 k.1 in at-corner i k.0 k.1 x.0 x.1 x.2 }
