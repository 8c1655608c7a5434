-- Sides of items that links join are joined on both sides.
use Rattle.nef_volumes.proofs.Prelude.{◌≡◌, ℕ, inl, inr, refl, sym, subst, Chained, IsAt, Item, arc_item, Side, item_pos, item_neg, pos_item, neg_item, at-arc, chain-link, chain-map, SpacePoint, Form, Vector, Vertex, Complex, Corner, IsCorner, meets_vertex, meets_edge, RayNames, VertexSide, LinkAlong, FacetLink, IsSideOf, pos_arcs, neg_arcs, VolumeLink, pos_of, neg_of, HasItem}

module _ (C : Complex) where
  -- ---- there are items at linked corners
  named-item : (h : Form) (p : SpacePoint) (d : Vector) (k : Corner) → RayNames C h p d k → HasItem C k
  named-item h p d k (meets_vertex i, I, (v, x, e, K, r, o)) = (v, x, K)
  named-item h p d k (meets_edge i, I, (e, v, a, l, f, b, t, r, o)) = (v, arc_item a, record { vertex = subst (λ (n : ℕ). IsAt C.vertices n v) (sym f) b; item = at-arc v.map.arcs v.map.sloop k.item a t })

  side-pos : (k : Corner) (v : Vertex) (x : Item) → IsCorner C k v x → IsSideOf C (pos_of k) k.vertex (pos_item k.item)
  side-pos k v x K = (item_pos x, refl, refl, (v, K.vertex, (x, K.item, refl)))

  side-below : (k : Corner) (v : Vertex) (x : Item) → IsCorner C k v x → IsSideOf C (neg_of k) k.vertex (neg_item k.item)
  side-below k v x K = (item_neg x, refl, refl, (v, K.vertex, (x, K.item, refl)))

  pub moved : (x : VertexSide) (i j : ℕ) (o : Side) → i ≡ j → IsSideOf C x i o → IsSideOf C x j o
  moved x i j o e h = subst (λ (n : ℕ). IsSideOf C x n o) e h

  low-corner : (j k : Corner) (A : LinkAlong C j k) → HasItem C j
  low-corner j k A =
      let B = A.along in let E = B.ends in
      (B.low_vertex, arc_item B.low_arc, record { vertex = subst (λ (n : ℕ). IsAt C.vertices n B.low_vertex) (sym A.from_low) E.low; item = at-arc B.low_vertex.map.arcs B.low_vertex.map.sloop j.item B.low_arc B.is_low })

  high-corner : (j k : Corner) (A : LinkAlong C j k) → HasItem C k
  high-corner j k A =
      let B = A.along in let E = B.ends in
      (B.high_vertex, arc_item B.high_arc, record { vertex = subst (λ (n : ℕ). IsAt C.vertices n B.high_vertex) (sym A.to_high) E.high; item = at-arc B.high_vertex.map.arcs B.high_vertex.map.sloop k.item B.high_arc B.is_high })

  link-pos : (j k : Corner) → FacetLink C j k → VolumeLink C (pos_of j) (pos_of k)
  link-pos j k (inl A) =
      let (v, x, J) = low-corner j k A in
      let (w, y, K) = high-corner j k A in
      inr (inl (record {
        number = A.number;
        edge = A.edge;
        is_edge = A.is_edge;
        low_side = pos_item j.item;
        high_side = pos_item k.item;
        is_low = moved (pos_of j) j.vertex A.edge.low (pos_item j.item) A.from_low (side-pos j v x J);
        is_high = moved (pos_of k) k.vertex A.edge.high (pos_item k.item) A.to_high (side-pos k w y K);
        along = pos_arcs j.item k.item A.along refl refl;
      }))
  link-pos j k (inr A) =
      let (w, y, K) = named-item _ _ _ k A.named in
      inr (inr (inl (record { here = j; there = k; across = A; sides = inl (side-pos j A.vertex A.item A.corner, side-pos k w y K) })))

  link-neg : (j k : Corner) → FacetLink C j k → VolumeLink C (neg_of j) (neg_of k)
  link-neg j k (inl A) =
      let (v, x, J) = low-corner j k A in
      let (w, y, K) = high-corner j k A in
      inr (inl (record {
        number = A.number;
        edge = A.edge;
        is_edge = A.is_edge;
        low_side = neg_item j.item;
        high_side = neg_item k.item;
        is_low = moved (neg_of j) j.vertex A.edge.low (neg_item j.item) A.from_low (side-below j v x J);
        is_high = moved (neg_of k) k.vertex A.edge.high (neg_item k.item) A.to_high (side-below k w y K);
        along = neg_arcs j.item k.item A.along refl refl;
      }))
  link-neg j k (inr A) =
      let (w, y, K) = named-item _ _ _ k A.named in
      inr (inr (inl (record { here = j; there = k; across = A; sides = inr (side-below j A.vertex A.item A.corner, side-below k w y K) })))

  -- THE SIDES OF THE ITEMS OF A FACET ARE OF ONE VOLUME ON EACH SIDE
  pub chain-pos : (j k : Corner) → Chained (FacetLink C) j k → Chained (VolumeLink C) (pos_of j) (pos_of k)
  chain-pos j k c = chain-map (FacetLink C) (VolumeLink C) (λ (i : Corner). pos_of i) (λ x y l. chain-link (VolumeLink C) (pos_of x) (pos_of y) (link-pos x y l)) j k c

  pub chain-neg : (j k : Corner) → Chained (FacetLink C) j k → Chained (VolumeLink C) (neg_of j) (neg_of k)
  chain-neg j k c = chain-map (FacetLink C) (VolumeLink C) (λ (i : Corner). neg_of i) (λ x y l. chain-link (VolumeLink C) (neg_of x) (neg_of y) (link-neg x y l)) j k c
