-- What lies above a skeleton point: a side that touches a vertex or an edge upward, or the upper side of an item of the facet. What lies above equal points, or points of one edge or facet, is linked; for facets that is the converse for items.
use Rattle.nef_conn.proofs.Prelude.{◌≡◌, ℕ, ◌+◌, pos, arith, refl, sym, ◌∙◌, ◌⊎◌, inl, inr, ⊎_elim, List, ◌∷◌, subst, [], IsChain, Chained, Joined, SpacePoint, form_at, SamePoint, toward, IsBetween, Set, Vector, blend, up, plane_axis, Label, ahead, joined-turned, joined-both, IsAt, Item, item_normal, item_pos, pos_item, OnItem, Side, HasSide, Sees, on-level, is-at_one, bounds-sees, dir-at, normal-is, Vertex, Edge, Complex, Corner, HasEnds, IsCorner, Shows, item_plane, Spot, at_vertex, on_edge, in_facet, IsSpot, VertexSide, HasSideLabel, IsAbove, RayDown, IsFlatIn, through-at, through-level, axis-in, facet-point, FacetLink, VolumeLink, pos_arcs, across, edge-ways, AreTiedItems, at-item, IsTied, AreLinkedWhereJoined}
use Rattle.nef_space.proofs.Chains.{chain-trans, chain-link, chain-turned, chain-here}
use Rattle.nef_conn.proofs.Touch.{bound, Touch, vertex-frame, edge-frame, no-way}
use Rattle.law_geometry.proofs.complex.links.ItemLinks.{facet-link}

-- ---- the upper sides of linked items are linked
abbrev pub above : Corner → VertexSide
above k = record { vertex = k.vertex; side = pos_item k.item }

-- a side by its vertex and what it is a side of
pub side-is : (x : VertexSide) (i : ℕ) (o : Side) → x.vertex ≡ i → x.side ≡ o → (P : VertexSide → Type 0) → P (record { vertex = i; side = o }) → P x
side-is x i o e f P p =
    subst (λ (n : ℕ). P (record { vertex = n; side = x.side })) (sym e) (subst (λ (r : Side). P (record { vertex = i; side = r })) (sym f) p)

module _ (s : Set) (C : Complex) (S : Shows s C) where
  above-label : (k : Corner) (v : Vertex) (x : Item) → IsCorner C k v x → HasSideLabel C (above k) (item_pos x)
  above-label k v x c = (v, c.vertex, (x, c.item, refl))

  facet-volume : (j k : Corner) → FacetLink C j k → VolumeLink C (above j) (above k)
  facet-volume j k l = by (facet-link s C S j k l) l
    where
      by : AreTiedItems s C j k → FacetLink C j k → VolumeLink C (above j) (above k)
      by T (inl L) = inr (inl (record {
        number = L.number;
        edge = L.edge;
        is_edge = L.is_edge;
        low_side = pos_item j.item;
        high_side = pos_item k.item;
        is_low = (item_pos T.item, L.from_low, refl, above-label j T.vertex T.item T.corner);
        is_high = (item_pos T.other_item, L.to_high, refl, above-label k T.other_vertex T.other_item T.other_corner);
        along = pos_arcs j.item k.item L.along refl refl;
      }))
      by T (inr L) = inr (inr (inl (record {
        here = j;
        there = k;
        across = L;
        sides = inl (
          (item_pos T.item, refl, refl, above-label j T.vertex T.item T.corner),
          (item_pos T.other_item, refl, refl, above-label k T.other_vertex T.other_item T.other_corner),
        );
      })))

  pub facets-volumes : (j k : Corner) → Chained (FacetLink C) j k → Chained (VolumeLink C) (above j) (above k)
  facets-volumes j k (ks, c) = by ks j c
    where
      by : (ks : List Corner) (j : Corner) → IsChain (FacetLink C) j ks k → Chained (VolumeLink C) (above j) (above k)
      by [] j e = subst (λ (i : Corner). Chained (VolumeLink C) (above j) (above i)) e (chain-here (VolumeLink C) (above j))
      by (i ∷ ks) j (a, c) = chain-trans (VolumeLink C) (above j) (above i) (above k)
          (⊎_elim (λ l. chain-link (VolumeLink C) (above j) (above i) (facet-volume j i l)) (λ l. chain-turned (VolumeLink C) (above i) (above j) (chain-link (VolumeLink C) (above i) (above j) (facet-volume i j l))) a)
          (by ks i c)

  -- ---- what lies above
  -- the side touches the vertex upward
  abbrev pub OverVertex : SpacePoint → VertexSide → Type 0
  OverVertex z x = (i : ℕ) × (v : Vertex) × (a : IsAt C.vertices i v) × (e : SamePoint v.point z) × Touch s C z (vertex-frame s C i v z a e) x up

  -- it touches the edge, close to the lower end
  abbrev pub OverEdge : SpacePoint → VertexSide → Type 0
  OverEdge z x = (k : ℕ) × (e : Edge) × (v : Vertex) × (w : Vertex) × (a : IsAt C.edges k e) × (H : HasEnds C e v w) × (b : IsBetween v.point z w.point) × Touch s C z (edge-frame s C S k e v w z a H b) x up

  -- it is the upper side of an item to a point of which z is tied
  abbrev pub OverFacet : SpacePoint → VertexSide → Type 0
  OverFacet z x = (k : Corner) × (v : Vertex) × (y : Item) × IsCorner C k v y × ((d : Vector) × OnItem v.map y d × IsTied s z (ahead s v.point d)) × (x.vertex ≡ k.vertex) × (x.side ≡ pos_item k.item)

  abbrev pub Over : SpacePoint → VertexSide → Type 0
  Over z x = OverVertex z x ⊎ OverEdge z x ⊎ OverFacet z x

  seer-at : (x : VertexSide) (l : Label) (v : Vertex) (i : ℕ) → HasSideLabel C x l → IsAt C.vertices i v → x.vertex ≡ i → HasSide v.map x.side l
  seer-at x l v i (u, b, h) a e =
      let f = is-at_one C.vertices i u v (subst (λ (n : ℕ). IsAt C.vertices n u) e b) a in
      subst (λ (r : Vertex). HasSide r.map x.side l) f h

  pub over-of : (o : Spot) (z : SpacePoint) (x : VertexSide) (l : Label) → IsSpot C o z → IsAbove C z o x → HasSideLabel C x l → Over z x
  over-of (at_vertex k) z x l (u, b, e) (v, a, f, sight) has =
      let g = is-at_one C.vertices k u v b a in
      let n = bound s v up in
      inl (
        k,
        v,
        a,
        subst (λ (r : Vertex). SamePoint r.point z) g e,
        record {
          steps = n;
          large = omega arith;
          seer = record { here = f; label = l; has = seer-at x l v k has a f; sees = subst (λ (r : Vector). Sees v.map x.side r) (sym (no-way n up)) sight };
        },
      )
  over-of (on_edge k) z x l (g, u, w, b, G, t) (e, v, a, c, f, bounds) has =
      let same = is-at_one C.edges k g e b a in
      let G' = subst (λ (j : Edge). HasEnds C j u w) same G in
      let one = is-at_one C.vertices e.low u v G'.low c in
      let H = subst (λ (j : Vertex). HasEnds C e j w) one G' in
      let W = edge-ways s C S k e v w a H in
      let sight = bounds-sees v.map (S.cones e.low v c).valid.shaped e.low_svertex up x.side bounds in
      let n = sight.0 + bound s v up in
      inr (inl (
        k,
        e,
        v,
        w,
        a,
        H,
        subst (λ (j : Vertex). IsBetween j.point z w.point) one t,
        record {
          steps = n;
          large = omega arith;
          seer = record {
            here = f;
            label = l;
            has = seer-at x l v e.low has c f;
            sees = subst (λ (r : Vector). Sees v.map x.side (blend n r 1 up)) (dir-at v.map.svertices e.low_svertex W.low W.is_low) (sight.1 n (omega arith));
          };
        },
      ))
  over-of (in_facet j) z x l i (k, H, f, e) has =
      let n = item_normal H.item in
      let p = H.vertex.point in
      let G = facet-point s C S H.beside H.vertex H.item z H.is_beside H.facet_point in
      let some = normal-is (S.cones H.beside.vertex H.vertex H.is_beside.vertex).valid.shaped H.beside.item H.item H.is_beside.item in
      let flat : IsFlatIn s (item_plane H.vertex H.item) z = (G.dim, λ d. let a = through-level n d p in let b = G.flat d in (λ g. a.0 (b.0 g), λ o. b.1 (a.1 o))) in
      let on : form_at (item_plane H.vertex H.item) z ≡ pos 0 = through-at n p z ∙ on-level H.vertex.map H.item (toward p z) H.facet_point.on_item in
      let A = across s C S (item_plane H.vertex H.item) z on flat (plane_axis n) ((through-level n (plane_axis n) p).0 (axis-in n some).1) k H.named in
      inr (inr (k, A.vertex, A.item, A.corner, (A.dir, A.on, A.tied), f, e))

  pub ray-over : (p : SpacePoint) (x : VertexSide) (R : RayDown C p x) → Over R.place x
  ray-over p x R = over-of R.spot R.place x R.label R.is_spot R.above R.has

  -- ---- facets
  -- a point at an item that is joined to z
  abbrev pub ItemAt : SpacePoint → Corner → Type 0
  ItemAt z k = (v : Vertex) × (y : Item) × IsCorner C k v y × ((d : Vector) × OnItem v.map y d × Joined s z (ahead s v.point d))

  module _ (linked : AreLinkedWhereJoined s C) where
    pub items-above : (z : SpacePoint) (j k : Corner) → ItemAt z j → ItemAt z k → Chained (VolumeLink C) (above j) (above k)
    items-above z j k (v, y, c, (d, o, t)) (w, u, b, (e, r, q)) =
        facets-volumes j k (linked j k (ahead s v.point d) (ahead s w.point e) (at-item s C S j v y c d o) (at-item s C S k w u b e r) (joined-both s (ahead s v.point d) z (ahead s w.point e) (joined-turned s z (ahead s v.point d) t) q))

    pub over-item : (z : SpacePoint) (x : VertexSide) (j : Corner) → OverFacet z x → ItemAt z j → Chained (VolumeLink C) x (above j)
    over-item z x j (k, v, y, c, (d, o, t), f, e) J =
        side-is x k.vertex (pos_item k.item) f e (λ (r : VertexSide). Chained (VolumeLink C) r (above j)) (items-above z k j (v, y, c, (d, o, t.0)) J)
