-- Whether two sides are linked in a shell is decided.
use Rattle.nef_statement.proofs.text.existence.Prelude.{◌≡◌, ℕ, arith, refl, sym, ap, ◌∙◌, ◌⊎◌, inl, inr, ⊎_elim, List, subst, Set, SameDirection, opposite, plane_dir, Label, Decided, decided-both, decided-or, IsAt, Arc, Item, item_normal, OnItem, Side as MapSide, around_svertex, pos_item, neg_item, whole, HasSide, InOneSface, OnItem-decided, search_list, is-at_one, SameDirection-decided, at-or, Vertex, Edge, Complex as PlainComplex, Corner, IsCorner, Shows, VertexSide, HasSideLabel, LinkAcross, LinkInSface, AreAlong, AreSidesAlong, pos_arcs, neg_arcs, around_ends, LinkAlongEdge, LinkAcrossFacet, sides_of, AreSfaces, side_number, side-number, is-at_some, is-at_within, ShellLink, eq-decided}
use Rattle.nef_conn.proofs.Named.{found, from-vertex}
use Rattle.nef_facets.proofs.AcrossLinks.{link-is, link-one}
use Rattle.nef_volumes.proofs.SfaceTies.{sface-from_numbers, numbers-from_sface}

-- ---- across a facet
module _ (s : Set) (C : PlainComplex) (S : Shows s C) where
  across-decided : (j : Corner) (v : Vertex) (x : Item) → IsCorner C j v x → (k : Corner) → Decided (LinkAcross C j k)
  across-decided j v x K k = by (OnItem-decided v.map x (opposite (plane_dir (item_normal x))))
    where
      by : Decided (OnItem v.map x (opposite (plane_dir (item_normal x)))) → Decided (LinkAcross C j k)
      by (inr f) = inr (λ L. f (link-is C j v x K k L).0)
      by (inl o) =
          let m = found s C S j v x K o in
          let L : LinkAcross C j m.2.0 = record { vertex = v; item = x; corner = K; inward = o; named = (m.0, from-vertex s C S j v x K o m.0 m.1, m.2.1) } in
          then m.2.0 L (eq-decided m.2.0.vertex k.vertex) (eq-decided m.2.0.item k.item)
        where
          made : ℕ → ℕ → Corner
          made i n = record { vertex = i; item = n }

          then : (l : Corner) → LinkAcross C j l → Decided (l.vertex ≡ k.vertex) → Decided (l.item ≡ k.item) → Decided (LinkAcross C j k)
          then l L (inl e) (inl f) = inl (subst (LinkAcross C j) (ap (λ i. made i l.item) e ∙ ap (λ n. made k.vertex n) f) L)
          then l L (inr n) o = inr (λ M. n (ap (λ (c : Corner). c.vertex) (link-one s C S j l k L M)))
          then l L (inl e) (inr n) = inr (λ M. n (ap (λ (c : Corner). c.item) (link-one s C S j l k L M)))

  -- the item of a side
  item-of_pos : (x : VertexSide) (l : Label) (i : ℕ) → HasSideLabel C x l → x.side ≡ pos_item i → (v : Vertex) × (y : Item) × IsCorner C (record { vertex = x.vertex; item = i }) v y
  item-of_pos x l i (v, a, h) e = let g = subst (λ o. HasSide v.map o l) e h in (v, g.0, record { vertex = a; item = g.1 })

  item-of_neg : (x : VertexSide) (l : Label) (i : ℕ) → HasSideLabel C x l → x.side ≡ neg_item i → (v : Vertex) × (y : Item) × IsCorner C (record { vertex = x.vertex; item = i }) v y
  item-of_neg x l i (v, a, h) e = let g = subst (λ o. HasSide v.map o l) e h in (v, g.0, record { vertex = a; item = g.1 })

  module _ (x y : VertexSide) (l m : Label) (hx : HasSideLabel C x l) (hy : HasSideLabel C y m) where
    corner : VertexSide → ℕ → Corner
    corner z i = record { vertex = z.vertex; item = i }

    pos-index : MapSide → ℕ
    pos-index (pos_item i) = i
    pos-index (neg_item i) = i
    pos-index (around_svertex i) = i
    pos-index whole = 0

    same-corner : (k : Corner) (z : VertexSide) (i : ℕ) → z.vertex ≡ k.vertex → k.item ≡ i → k ≡ corner z i
    unfolding corner
    same-corner k z i e f = ap (λ n. made n k.item) (sym e) ∙ ap (λ n. made z.vertex n) f
      where
        made : ℕ → ℕ → Corner
        made i n = record { vertex = i; item = n }

    one-pos : (o : MapSide) (i j : ℕ) → o ≡ pos_item i → o ≡ pos_item j → j ≡ i
    unfolding pos-index
    one-pos o i j e f = ap pos-index (sym f ∙ e)

    one-neg : (o : MapSide) (i j : ℕ) → o ≡ neg_item i → o ≡ neg_item j → j ≡ i
    unfolding pos-index
    one-neg o i j e f = ap pos-index (sym f ∙ e)

    pub facet-link_decided : Decided (LinkAcrossFacet C x y)
    unfolding corner
    facet-link_decided = by x.side refl y.side refl
      where
        both-pos : (i j : ℕ) → x.side ≡ pos_item i → y.side ≡ pos_item j → Decided (LinkAcrossFacet C x y)
        both-pos i j e f =
            let c = item-of_pos x l i hx e in
            ⊎_elim
            (λ L. inl (record { here = corner x i; there = corner y j; across = L; sides = inl ((l, refl, e, hx), (m, refl, f, hy)) }))
            (λ n. inr (λ L. ⊎_elim
            (λ h. n (subst (λ k. LinkAcross C k (corner y j)) (same-corner L.here x i h.0.1 (one-pos x.side i L.here.item e h.0.2)) (subst (LinkAcross C L.here) (same-corner L.there y j h.1.1 (one-pos y.side j L.there.item f h.1.2)) L.across)))
            (λ h. let g : pos_item i ≡ neg_item L.here.item = sym e ∙ h.0.2 in cc) L.sides))
            (across-decided (corner x i) c.0 c.1 c.2 (corner y j))

        both-neg : (i j : ℕ) → x.side ≡ neg_item i → y.side ≡ neg_item j → Decided (LinkAcrossFacet C x y)
        both-neg i j e f =
            let c = item-of_neg x l i hx e in
            ⊎_elim
            (λ L. inl (record { here = corner x i; there = corner y j; across = L; sides = inr ((l, refl, e, hx), (m, refl, f, hy)) }))
            (λ n. inr (λ L. ⊎_elim
            (λ h. let g : neg_item i ≡ pos_item L.here.item = sym e ∙ h.0.2 in cc)
            (λ h. n (subst (λ k. LinkAcross C k (corner y j)) (same-corner L.here x i h.0.1 (one-neg x.side i L.here.item e h.0.2)) (subst (LinkAcross C L.here) (same-corner L.there y j h.1.1 (one-neg y.side j L.there.item f h.1.2)) L.across))) L.sides))
            (across-decided (corner x i) c.0 c.1 c.2 (corner y j))

        -- neither both upper nor both lower sides
        none : ((i j : ℕ) → x.side ≡ pos_item i → y.side ≡ pos_item j → ⊥) → ((i j : ℕ) → x.side ≡ neg_item i → y.side ≡ neg_item j → ⊥) → Decided (LinkAcrossFacet C x y)
        none f g = inr (λ L. ⊎_elim (λ h. f L.here.item L.there.item h.0.2 h.1.2) (λ h. g L.here.item L.there.item h.0.2 h.1.2) L.sides)

        by : (o : MapSide) → x.side ≡ o → (p : MapSide) → y.side ≡ p → Decided (LinkAcrossFacet C x y)
        by (pos_item i) e (pos_item j) f = both-pos i j e f
        by (neg_item i) e (neg_item j) f = both-neg i j e f
        by (pos_item i) e (neg_item j) f = none (λ a b q r. let g : neg_item j ≡ pos_item b = sym f ∙ r in cc) (λ a b q r. let g : pos_item i ≡ neg_item a = sym e ∙ q in cc)
        by (neg_item i) e (pos_item j) f = none (λ a b q r. let g : neg_item i ≡ pos_item a = sym e ∙ q in cc) (λ a b q r. let g : pos_item j ≡ neg_item b = sym f ∙ r in cc)
        by (around_svertex i) e p f = none (λ a b q r. let g : around_svertex i ≡ pos_item a = sym e ∙ q in cc) (λ a b q r. let g : around_svertex i ≡ neg_item a = sym e ∙ q in cc)
        by whole e p f = none (λ a b q r. let g : whole ≡ pos_item a = sym e ∙ q in cc) (λ a b q r. let g : whole ≡ neg_item a = sym e ∙ q in cc)
        by o e (around_svertex j) f = none (λ a b q r. let g : around_svertex j ≡ pos_item b = sym f ∙ r in cc) (λ a b q r. let g : around_svertex j ≡ neg_item b = sym f ∙ r in cc)
        by o e whole f = none (λ a b q r. let g : whole ≡ pos_item b = sym f ∙ r in cc) (λ a b q r. let g : whole ≡ neg_item b = sym f ∙ r in cc)

-- ---- along an edge
module _ (C : PlainComplex) where
  along-decided : (e : Edge) (i j : ℕ) → Decided (AreAlong C e i j)
  along-decided e i j = vertices (at-or C.vertices e.low) (at-or C.vertices e.high)
    where
      arcs : (v w : Vertex) → IsAt C.vertices e.low v → IsAt C.vertices e.high w → ((a : Arc) × IsAt v.map.arcs i a) ⊎ ((a : Arc) → IsAt v.map.arcs i a → ⊥) → ((b : Arc) × IsAt w.map.arcs j b) ⊎ ((b : Arc) → IsAt w.map.arcs j b → ⊥) → Decided (AreAlong C e i j)
      arcs v w p q (inr n) o = inr (λ A. n A.low_arc (subst (λ (u : Vertex). IsAt u.map.arcs i A.low_arc) (is-at_one C.vertices e.low A.low_vertex v A.ends.low p) A.is_low))
      arcs v w p q (inl a) (inr n) = inr (λ A. n A.high_arc (subst (λ (u : Vertex). IsAt u.map.arcs j A.high_arc) (is-at_one C.vertices e.high A.high_vertex w A.ends.high q) A.is_high))
      arcs v w p q (inl (a, r)) (inl (b, t)) = ⊎_elim
          (λ h. inl (record { low_vertex = v; high_vertex = w; ends = record { low = p; high = q }; low_arc = a; high_arc = b; is_low = r; is_high = t; one_normal = h.0; one_way = h.1 }))
          (λ n. inr (λ A.
          let f = is-at_one v.map.arcs i A.low_arc a (subst (λ (u : Vertex). IsAt u.map.arcs i A.low_arc) (is-at_one C.vertices e.low A.low_vertex v A.ends.low p) A.is_low) r in
          let g = is-at_one w.map.arcs j A.high_arc b (subst (λ (u : Vertex). IsAt u.map.arcs j A.high_arc) (is-at_one C.vertices e.high A.high_vertex w A.ends.high q) A.is_high) t in
          n (subst (λ (z : Arc). Fits z b) f (subst (λ (z : Arc). Fits A.low_arc z) g (A.one_normal, A.one_way)))))
          (decided-both (SameDirection-decided a.normal b.normal) (decided-or (decided-both (eq-decided a.source e.low_svertex) (eq-decided b.target e.high_svertex)) (decided-both (eq-decided a.target e.low_svertex) (eq-decided b.source e.high_svertex))))
        where
          Fits : Arc → Arc → Type 0
          Fits a b = SameDirection a.normal b.normal × (((a.source ≡ e.low_svertex) × (b.target ≡ e.high_svertex)) ⊎ ((a.target ≡ e.low_svertex) × (b.source ≡ e.high_svertex)))

      vertices : ((v : Vertex) × IsAt C.vertices e.low v) ⊎ ((v : Vertex) → IsAt C.vertices e.low v → ⊥) → ((w : Vertex) × IsAt C.vertices e.high w) ⊎ ((w : Vertex) → IsAt C.vertices e.high w → ⊥) → Decided (AreAlong C e i j)
      vertices (inl (v, p)) (inl (w, q)) = arcs v w p q (at-or v.map.arcs i) (at-or w.map.arcs j)
      vertices (inr n) o = inr (λ A. n A.low_vertex A.ends.low)
      vertices (inl v) (inr n) = inr (λ A. n A.high_vertex A.ends.high)

  index : MapSide → ℕ
  index (pos_item i) = i
  index (neg_item i) = i
  index (around_svertex i) = i
  index whole = 0

  refuse : (e : Edge) (o p : MapSide) → ((i j : ℕ) → o ≡ pos_item i → p ≡ pos_item j → AreAlong C e i j → ⊥) → ((i j : ℕ) → o ≡ neg_item i → p ≡ neg_item j → AreAlong C e i j → ⊥)
      → (o ≡ around_svertex e.low_svertex → p ≡ around_svertex e.high_svertex → ⊥) → AreSidesAlong C e o p → ⊥
  refuse e o p f g h (pos_arcs i j A a b) = f i j a b A
  refuse e o p f g h (neg_arcs i j A a b) = g i j a b A
  refuse e o p f g h (around_ends a b) = h a b

  -- the sides are one along the edge
  sides-along_decided : (e : Edge) (o p : MapSide) → Decided (AreSidesAlong C e o p)
  unfolding index
  sides-along_decided e o p = by o refl p refl
    where
      moved : (i j k l : ℕ) → i ≡ k → j ≡ l → AreAlong C e i j → AreAlong C e k l
      moved i j k l a b A = subst (λ n. AreAlong C e n l) a (subst (AreAlong C e i) b A)

      both-pos : (i j : ℕ) → o ≡ pos_item i → p ≡ pos_item j → Decided (AreSidesAlong C e o p)
      both-pos i j a b = ⊎_elim (λ A. inl (pos_arcs i j A a b))
          (λ n. inr (refuse e o p (λ k l c d A. n (moved k l i j (ap index (sym c ∙ a)) (ap index (sym d ∙ b)) A)) (λ k l c d A. let z : pos_item i ≡ neg_item k = sym a ∙ c in cc) (λ c d. let z : pos_item i ≡ around_svertex e.low_svertex = sym a ∙ c in cc)))
          (along-decided e i j)

      both-neg : (i j : ℕ) → o ≡ neg_item i → p ≡ neg_item j → Decided (AreSidesAlong C e o p)
      both-neg i j a b = ⊎_elim (λ A. inl (neg_arcs i j A a b))
          (λ n. inr (refuse e o p (λ k l c d A. let z : neg_item i ≡ pos_item k = sym a ∙ c in cc) (λ k l c d A. n (moved k l i j (ap index (sym c ∙ a)) (ap index (sym d ∙ b)) A)) (λ c d. let z : neg_item i ≡ around_svertex e.low_svertex = sym a ∙ c in cc)))
          (along-decided e i j)

      both-around : (i j : ℕ) → o ≡ around_svertex i → p ≡ around_svertex j → Decided (AreSidesAlong C e o p)
      both-around i j a b = ⊎_elim (λ h. inl (around_ends (a ∙ ap around_svertex h.0) (b ∙ ap around_svertex h.1)))
          (λ n. inr (refuse e o p (λ k l c d A. let z : around_svertex i ≡ pos_item k = sym a ∙ c in cc) (λ k l c d A. let z : around_svertex i ≡ neg_item k = sym a ∙ c in cc) (λ c d. n (ap index (sym a ∙ c), ap index (sym b ∙ d)))))
          (decided-both (eq-decided i e.low_svertex) (eq-decided j e.high_svertex))

      -- o or p is of a kind that doesn't go with the other
      none : ((i j : ℕ) → o ≡ pos_item i → p ≡ pos_item j → ⊥) → ((i j : ℕ) → o ≡ neg_item i → p ≡ neg_item j → ⊥) → ((i j : ℕ) → o ≡ around_svertex i → p ≡ around_svertex j → ⊥) → Decided (AreSidesAlong C e o p)
      none f g h = inr (refuse e o p (λ i j a b A. f i j a b) (λ i j a b A. g i j a b) (λ a b. h e.low_svertex e.high_svertex a b))

      by : (q : MapSide) → o ≡ q → (r : MapSide) → p ≡ r → Decided (AreSidesAlong C e o p)
      by (pos_item i) a (pos_item j) b = both-pos i j a b
      by (neg_item i) a (neg_item j) b = both-neg i j a b
      by (around_svertex i) a (around_svertex j) b = both-around i j a b
      by (pos_item i) a (neg_item j) b = none (λ k l c d. let z : neg_item j ≡ pos_item l = sym b ∙ d in cc) (λ k l c d. let z : pos_item i ≡ neg_item k = sym a ∙ c in cc) (λ k l c d. let z : pos_item i ≡ around_svertex k = sym a ∙ c in cc)
      by (pos_item i) a (around_svertex j) b = none (λ k l c d. let z : around_svertex j ≡ pos_item l = sym b ∙ d in cc) (λ k l c d. let z : pos_item i ≡ neg_item k = sym a ∙ c in cc) (λ k l c d. let z : pos_item i ≡ around_svertex k = sym a ∙ c in cc)
      by (neg_item i) a (pos_item j) b = none (λ k l c d. let z : neg_item i ≡ pos_item k = sym a ∙ c in cc) (λ k l c d. let z : pos_item j ≡ neg_item l = sym b ∙ d in cc) (λ k l c d. let z : neg_item i ≡ around_svertex k = sym a ∙ c in cc)
      by (neg_item i) a (around_svertex j) b = none (λ k l c d. let z : neg_item i ≡ pos_item k = sym a ∙ c in cc) (λ k l c d. let z : around_svertex j ≡ neg_item l = sym b ∙ d in cc) (λ k l c d. let z : neg_item i ≡ around_svertex k = sym a ∙ c in cc)
      by (around_svertex i) a (pos_item j) b = none (λ k l c d. let z : around_svertex i ≡ pos_item k = sym a ∙ c in cc) (λ k l c d. let z : around_svertex i ≡ neg_item k = sym a ∙ c in cc) (λ k l c d. let z : pos_item j ≡ around_svertex l = sym b ∙ d in cc)
      by (around_svertex i) a (neg_item j) b = none (λ k l c d. let z : around_svertex i ≡ pos_item k = sym a ∙ c in cc) (λ k l c d. let z : around_svertex i ≡ neg_item k = sym a ∙ c in cc) (λ k l c d. let z : neg_item j ≡ around_svertex l = sym b ∙ d in cc)
      by whole a r b = none (λ k l c d. let z : whole ≡ pos_item k = sym a ∙ c in cc) (λ k l c d. let z : whole ≡ neg_item k = sym a ∙ c in cc) (λ k l c d. let z : whole ≡ around_svertex k = sym a ∙ c in cc)
      by q a whole b = none (λ k l c d. let z : whole ≡ pos_item l = sym b ∙ d in cc) (λ k l c d. let z : whole ≡ neg_item l = sym b ∙ d in cc) (λ k l c d. let z : whole ≡ around_svertex l = sym b ∙ d in cc)

  pub edge-link_decided : (x y : VertexSide) (l m : Label) → HasSideLabel C x l → HasSideLabel C y m → Decided (LinkAlongEdge C x y)
  edge-link_decided x y l m hx hy = ⊎_elim
      (λ f. let h = f.holds in inl (record { number = f.number; edge = f.element; is_edge = f.listed; low_side = x.side; high_side = y.side; is_low = (l, h.0, refl, hx); is_high = (m, h.1.0, refl, hy); along = h.1.1 }))
      (λ none. inr (λ L. none L.number L.edge L.is_edge (L.is_low.1, (L.is_high.1, subst (λ o. AreSidesAlong C L.edge o y.side) (sym L.is_low.2) (subst (AreSidesAlong C L.edge L.low_side) (sym L.is_high.2) L.along)))))
      (search_list C.edges (λ n e. (x.vertex ≡ e.low) × ((y.vertex ≡ e.high) × AreSidesAlong C e x.side y.side)) (λ n e. decided-both (eq-decided x.vertex e.low) (decided-both (eq-decided y.vertex e.high) (sides-along_decided e x.side y.side))))

  -- ---- in an sface
  pub sface-link_decided : (x y : VertexSide) (l m : Label) → HasSideLabel C x l → HasSideLabel C y m → ((v : Vertex) → IsAt C.vertices x.vertex v → (ns : List ℕ) × AreSfaces v.map ns) → Decided (LinkInSface C x y)
  sface-link_decided x y l m (v, a, h) (w, b, k) faces = by (eq-decided y.vertex x.vertex)
    where
      by : Decided (y.vertex ≡ x.vertex) → Decided (LinkInSface C x y)
      by (inr n) = inr (λ L. n L.one_vertex)
      by (inl e) = then (faces v a)
        where
          same : w ≡ v
          same = is-at_one C.vertices x.vertex w v (subst (λ n. IsAt C.vertices n w) e b) a

          other : HasSide v.map y.side m
          other = subst (λ (u : Vertex). HasSide u.map y.side m) same k

          then : ((ns : List ℕ) × AreSfaces v.map ns) → Decided (LinkInSface C x y)
          then (ns, F) =
              let i = side-number v.map x.side l h in
              let j = side-number v.map y.side m other in
              let wi = is-at_within (sides_of v.map) (side_number v.map x.side) (x.side, l) i in
              let wj = is-at_within (sides_of v.map) (side_number v.map y.side) (y.side, m) j in
              let many = F.as_many in
              let p = is-at_some ns (side_number v.map x.side) (omega (arith, wi, many)) in
              let q = is-at_some ns (side_number v.map y.side) (omega (arith, wj, many)) in
              let r = F.numbered.by_class (side_number v.map x.side) (side_number v.map y.side) p.0 q.0 p.1 q.1 in
              ⊎_elim
              (λ e2. let c = r.0 e2 in inl (record { vertex = v; is_vertex = a; one_vertex = e; one = l; other = m; has = h; has_other = other; one_sface = sface-from_numbers v.map c.0 (side_number v.map x.side) (side_number v.map y.side) x.side y.side l m i j c.1 }))
              (λ n. inr (λ L. n (r.1 (numbers-from_sface v.map x.side y.side l m h other (subst (λ (u : Vertex). InOneSface u.map x.side y.side) (is-at_one C.vertices x.vertex L.vertex v L.is_vertex a) L.one_sface)))))
              (eq-decided p.0 q.0)

pub shell-link_decided : (s : Set) (C : PlainComplex) → Shows s C → ((i : ℕ) (v : Vertex) → IsAt C.vertices i v → (ns : List ℕ) × AreSfaces v.map ns) → (x y : VertexSide) (l m : Label) → HasSideLabel C x l → HasSideLabel C y m → Decided (ShellLink C x y)
shell-link_decided s C S faces x y l m hx hy =
    ⊎_elim (λ a. inl (inl a))
    (λ n. ⊎_elim (λ a. inl (inr (inl a)))
    (λ o. ⊎_elim (λ a. inl (inr (inr a))) (λ p. inr (λ z. ⊎_elim n (λ u. ⊎_elim o p u) z)) (facet-link_decided s C S x y l m hx hy))
    (edge-link_decided C x y l m hx hy))
    (sface-link_decided C x y l m hx hy (faces x.vertex))
