-- The edge that leads from a svertex, seen from there.
use Rattle.nef_conn.proofs.Prelude.{◌≡◌, ℕ, pos, refl, sym, ◌∙◌, ◌⊎◌, inl, inr, ⊎_elim, subst, Flat, FlatDim, SpacePoint, Form, form_at, toward, IsBetween, Set, Vector, opposite, SameDirection, between-turned, IsAt, MapVertex, Arc, arc_item, dir_of, is-at_one, arc-at, Vertex, Edge, Complex, Corner, HasEnds, IsCorner, Shows, IsEdgePoint, LiesIn, edge-points, edge-way, svertex-edge, cross-back, ahead-back, FacetLink, edge-ways, SameDirection-turned, SameDirection-trans, opposite-same, opposite-way, opposite-twice}

-- an edge leads from svertex a of vertex i, which is v, whose svertex u is, to the svertex there_end of the vertex there, which is other
pub record LeadsFrom (s : Set) (C : Complex) (i a : ℕ) (v : Vertex) (u : MapVertex) : Type 0 where
  pub number : ℕ
  pub edge : Edge
  pub listed : IsAt C.edges number edge
  pub there : ℕ
  pub there_end : ℕ
  pub other : Vertex
  pub end : MapVertex
  pub is_there : IsAt C.vertices there other
  pub is_end : IsAt other.map.svertices there_end end
  pub onward : SameDirection (toward v.point other.point) u.dir
  pub back : SameDirection (opposite u.dir) end.dir
  pub along : (r : SpacePoint) → IsBetween v.point r other.point → FlatDim s r 1 × Flat s r (toward v.point other.point)
  pub which : ((edge.low ≡ i) × (edge.low_svertex ≡ a) × (edge.high ≡ there) × (edge.high_svertex ≡ there_end) × HasEnds C edge v other)
      ⊎ ((edge.high ≡ i) × (edge.high_svertex ≡ a) × (edge.low ≡ there) × (edge.low_svertex ≡ there_end) × HasEnds C edge other v)

module _ (s : Set) (C : Complex) (S : Shows s C) (i a : ℕ) (v : Vertex) (u : MapVertex) (at-i : IsAt C.vertices i v) (at-a : IsAt v.map.svertices a u) where
  from-low : (n : ℕ) (e : Edge) → IsAt C.edges n e → e.low ≡ i → e.low_svertex ≡ a → LeadsFrom s C i a v u
  from-low n e at-n low sv =
      let E = S.edges.edges n e at-n in
      let w = E.high_vertex in
      let H : HasEnds C e v w = record { low = subst (λ (j : ℕ). IsAt C.vertices j v) (sym low) at-i; high = E.is_high } in
      let W = edge-ways s C S n e v w at-n H in
      let one = is-at_one v.map.svertices a W.low u (subst (λ (j : ℕ). IsAt v.map.svertices j W.low) sv W.is_low) at-a in
      record {
        number = n;
        edge = e;
        listed = at-n;
        there = e.high;
        there_end = e.high_svertex;
        other = w;
        end = W.high;
        is_there = E.is_high;
        is_end = W.is_high;
        onward = subst (λ (t : MapVertex). SameDirection (toward v.point w.point) t.dir) one W.onward;
        back = subst (λ (t : MapVertex). SameDirection (opposite t.dir) W.high.dir) one (opposite-way W.low.dir W.high.dir W.back);
        along = λ r b. let P = edge-points s C n e v w r S at-n H b in (P.0, (P.1 (toward v.point w.point)).1 (edge-way s C n e v w S at-n H));
        which = inl (low, sv, refl, refl, H);
      }

  from-high : (n : ℕ) (e : Edge) → IsAt C.edges n e → e.high ≡ i → e.high_svertex ≡ a → LeadsFrom s C i a v u
  from-high n e at-n high sv =
      let E = S.edges.edges n e at-n in
      let w = E.low_vertex in
      let H : HasEnds C e w v = record { low = E.is_low; high = subst (λ (j : ℕ). IsAt C.vertices j v) (sym high) at-i } in
      let W = edge-ways s C S n e w v at-n H in
      let one = is-at_one v.map.svertices a W.high u (subst (λ (j : ℕ). IsAt v.map.svertices j W.high) sv W.is_high) at-a in
      let away = opposite-way W.low.dir W.high.dir W.back in
      record {
        number = n;
        edge = e;
        listed = at-n;
        there = e.low;
        there_end = e.low_svertex;
        other = w;
        end = W.low;
        is_there = E.is_low;
        is_end = W.is_low;
        onward = subst (λ (t : MapVertex). SameDirection (toward v.point w.point) t.dir) one (SameDirection-trans (toward v.point w.point) (opposite W.low.dir) W.high.dir (ahead-back w.point v.point W.low.dir W.onward) away);
        back = subst (λ (t : MapVertex). SameDirection (opposite t.dir) W.low.dir) one
            (subst (λ (d : Vector). SameDirection (opposite W.high.dir) d) (opposite-twice W.low.dir) (opposite-same W.high.dir (opposite W.low.dir) (SameDirection-turned (opposite W.low.dir) W.high.dir away)));
        along = λ r b. let P = edge-points s C n e w v r S at-n H (between-turned v.point w.point r b) in (P.0, (P.1 (toward v.point w.point)).1 (cross-back (dir_of w.map.svertices e.low_svertex) w.point v.point (edge-way s C n e w v S at-n H)));
        which = inr (high, sv, refl, refl, H);
      }

  pub leads : LeadsFrom s C i a v u
  leads = by (svertex-edge s C S i a v u at-i at-a)
    where
      by : ((n : ℕ) × (e : Edge) × IsAt C.edges n e × (((e.low ≡ i) × (e.low_svertex ≡ a)) ⊎ ((e.high ≡ i) × (e.high_svertex ≡ a)))) → LeadsFrom s C i a v u
      by (n, e, at-n, inl x) = from-low n e at-n x.0 x.1
      by (n, e, at-n, inr x) = from-high n e at-n x.0 x.1

-- what lies between its ends lies on the edge
module _ (s : Set) (C : Complex) (i a : ℕ) (v : Vertex) (u : MapVertex) (L : LeadsFrom s C i a v u) where
  pub edge-point : (x : SpacePoint) → IsBetween v.point x L.other.point → IsEdgePoint C L.number x
  edge-point x b = by L.which
    where
      by : ((L.edge.low ≡ i) × (L.edge.low_svertex ≡ a) × (L.edge.high ≡ L.there) × (L.edge.high_svertex ≡ L.there_end) × HasEnds C L.edge v L.other)
          ⊎ ((L.edge.high ≡ i) × (L.edge.high_svertex ≡ a) × (L.edge.low ≡ L.there) × (L.edge.low_svertex ≡ L.there_end) × HasEnds C L.edge L.other v) → IsEdgePoint C L.number x
      by (inl (p, q, r, t, H)) = (L.edge, v, L.other, L.listed, H, b)
      by (inr (p, q, r, t, H)) = (L.edge, L.other, v, L.listed, H, between-turned v.point L.other.point x b)

  pub edge-lies_in : (h : Form) → form_at h v.point ≡ pos 0 → form_at h L.other.point ≡ pos 0 → LiesIn C h L.number
  edge-lies_in h on there = by L.which
    where
      by : ((L.edge.low ≡ i) × (L.edge.low_svertex ≡ a) × (L.edge.high ≡ L.there) × (L.edge.high_svertex ≡ L.there_end) × HasEnds C L.edge v L.other)
          ⊎ ((L.edge.high ≡ i) × (L.edge.high_svertex ≡ a) × (L.edge.low ≡ L.there) × (L.edge.low_svertex ≡ L.there_end) × HasEnds C L.edge L.other v) → LiesIn C h L.number
      by (inl (p, q, r, t, H)) = (L.edge, v, L.other, L.listed, H, on, there)
      by (inr (p, q, r, t, H)) = (L.edge, L.other, v, L.listed, H, there, on)

  -- an arc that ends at the svertex is linked along the edge with one that begins at the other, about one normal
  pub link-of : (n : Vector) (k l : Corner) (c b : Arc) → k.vertex ≡ i → l.vertex ≡ L.there → IsCorner C k v (arc_item c) → IsCorner C l L.other (arc_item b) → SameDirection c.normal n → SameDirection b.normal n
      → ((c.target ≡ a) × (b.source ≡ L.there_end)) ⊎ ((c.source ≡ a) × (b.target ≡ L.there_end)) → FacetLink C k l ⊎ FacetLink C l k
  link-of n k l c b at-k at-l K M w x o = by L.which
    where
      at-c : IsAt v.map.arcs k.item c
      at-c = arc-at v.map.arcs v.map.sloop k.item c K.item

      at-b : IsAt L.other.map.arcs l.item b
      at-b = arc-at L.other.map.arcs L.other.map.sloop l.item b M.item

      by : ((L.edge.low ≡ i) × (L.edge.low_svertex ≡ a) × (L.edge.high ≡ L.there) × (L.edge.high_svertex ≡ L.there_end) × HasEnds C L.edge v L.other)
          ⊎ ((L.edge.high ≡ i) × (L.edge.high_svertex ≡ a) × (L.edge.low ≡ L.there) × (L.edge.low_svertex ≡ L.there_end) × HasEnds C L.edge L.other v) → FacetLink C k l ⊎ FacetLink C l k
      by (inl (p, q, r, t, H)) = inl (inl (record {
        number = L.number;
        edge = L.edge;
        is_edge = L.listed;
        from_low = at-k ∙ sym p;
        to_high = at-l ∙ sym r;
        along = record {
          low_vertex = v;
          high_vertex = L.other;
          ends = H;
          low_arc = c;
          high_arc = b;
          is_low = at-c;
          is_high = at-b;
          one_normal = SameDirection-trans c.normal n b.normal w (SameDirection-turned b.normal n x);
          one_way = ⊎_elim (λ z. inr (z.0 ∙ sym q, z.1 ∙ sym t)) (λ z. inl (z.0 ∙ sym q, z.1 ∙ sym t)) o;
        };
      }))
      by (inr (p, q, r, t, H)) = inr (inl (record {
        number = L.number;
        edge = L.edge;
        is_edge = L.listed;
        from_low = at-l ∙ sym r;
        to_high = at-k ∙ sym p;
        along = record {
          low_vertex = L.other;
          high_vertex = v;
          ends = H;
          low_arc = b;
          high_arc = c;
          is_low = at-b;
          is_high = at-c;
          one_normal = SameDirection-trans b.normal n c.normal x (SameDirection-turned c.normal n w);
          one_way = ⊎_elim (λ z. inl (z.1 ∙ sym t, z.0 ∙ sym q)) (λ z. inr (z.1 ∙ sym t, z.0 ∙ sym q)) o;
        };
      }))
