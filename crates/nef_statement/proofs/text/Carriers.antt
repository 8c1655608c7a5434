-- Links, cycles and parts of complexes with the same vertices and edges are the same, whatever their carriers.
use Rattle.nef_statement.proofs.text.Prelude.{ℕ, inl, inr, ⊎_elim, List, [], ◌∷◌, Chained, SpacePoint, Form, Vector, Label, In, Item, Side, chain-link, chain-map, SpotMark, Towards, SeesSpot, Belongs, on_skeleton, off_skeleton, Vertex, Edge, Complex, Corner, HasEnds, IsCorner, IsEdgePoint, IsOnEdges, IsFacetPoint, Spot, at_vertex, on_edge, in_facet, IsSpot, IsSkeletonPoint, PlaneMeet, meets_vertex, meets_edge, LiesIn, Meets, IsFirstInPlane, IsCornerAt, RayNames, HasCorner, VertexSide, IsAbove, RayDown, AreAlong, LinkAlong, LinkAcross, FacetLink, LinkInSface, AreSidesAlong, pos_arcs, neg_arcs, around_ends, LinkAlongEdge, LinkAcrossFacet, LinkDown, VolumeLink, IsNextArc, NextCorner, StepsTo, IsCycle, Cycles, IsSideNumber, HasRows, count_items, count_sides, IsVolumeOf, IsSideBelow, FacetNumbers, VolumeNumbers, pos_of, neg_of, IsFacetAt, IsFacet, IsVolume, IsParts, cycle_corners, shell_sides, ShellLink, IsSideNamed, IsShell, Shells, Facet, Parts}
use Rattle.nef_complex.specs.declared.parts.Side.{Side as NamedSide}

abbrev pub made : List Form → List Vertex → List Edge → Complex
made hs vs es = record { carriers = hs; vertices = vs; edges = es }

module _ (vs : List Vertex) (es : List Edge) where
  -- ---- places
  ends : (hs gs : List Form) (e : Edge) (v w : Vertex) → HasEnds (made hs vs es) e v w → HasEnds (made gs vs es) e v w
  ends hs gs e v w h = record { low = h.low; high = h.high }

  corner : (hs gs : List Form) (k : Corner) (v : Vertex) (x : Item) → IsCorner (made hs vs es) k v x → IsCorner (made gs vs es) k v x
  corner hs gs k v x h = record { vertex = h.vertex; item = h.item }

  edge-point : (hs gs : List Form) (k : ℕ) (y : SpacePoint) → IsEdgePoint (made hs vs es) k y → IsEdgePoint (made gs vs es) k y
  edge-point hs gs k y (e, v, w, a, h, b) = (e, v, w, a, ends hs gs e v w h, b)

  on-edges : (hs gs : List Form) (y : SpacePoint) → IsOnEdges (made hs vs es) y → IsOnEdges (made gs vs es) y
  on-edges hs gs y (k, h) = (k, ⊎_elim (λ a. inl a) (λ a. inr (edge-point hs gs k y a)) h)

  facet-point : (hs gs : List Form) (v : Vertex) (x : Item) (y : SpacePoint) → IsFacetPoint (made hs vs es) v x y → IsFacetPoint (made gs vs es) v x y
  facet-point hs gs v x y f = record { off_edges = λ h. f.off_edges (on-edges gs hs y h); on_item = f.on_item; clear = λ q b h. f.clear q b (on-edges gs hs q h) }

  spot : (hs gs : List Form) (o : Spot) (y : SpacePoint) → IsSpot (made hs vs es) o y → IsSpot (made gs vs es) o y
  spot hs gs (at_vertex k) y h = h
  spot hs gs (on_edge k) y h = edge-point hs gs k y h
  spot hs gs (in_facet k) y (v, x, c, f) = (v, x, corner hs gs k v x c, facet-point hs gs v x y f)

  skeleton : (hs gs : List Form) (y : SpacePoint) → IsSkeletonPoint (made hs vs es) y → IsSkeletonPoint (made gs vs es) y
  skeleton hs gs y (o, h) = (o, spot hs gs o y h)

  lies-in : (hs gs : List Form) (h : Form) (k : ℕ) → LiesIn (made hs vs es) h k → LiesIn (made gs vs es) h k
  lies-in hs gs h k (e, v, w, a, b, f, g) = (e, v, w, a, ends hs gs e v w b, f, g)

  meets : (hs gs : List Form) (h : Form) (m : PlaneMeet) (y : SpacePoint) → Meets (made hs vs es) h m y → Meets (made gs vs es) h m y
  meets hs gs h (meets_vertex k) y a = a
  meets hs gs h (meets_edge k) y (a, b) = (edge-point hs gs k y a, lies-in hs gs h k b)

  first-in-plane : (hs gs : List Form) (h : Form) (p : SpacePoint) (d : Vector) (m : PlaneMeet) → IsFirstInPlane (made hs vs es) h p d m → IsFirstInPlane (made gs vs es) h p d m
  first-in-plane hs gs h p d m f = record { place = f.place; ahead = f.ahead; meets = meets hs gs h m f.place f.meets; first = λ q n b a. f.first q n b (meets gs hs h n q a) }

  corner-at : (hs gs : List Form) (h : Form) (f : Vector) (m : PlaneMeet) (k : Corner) → IsCornerAt (made hs vs es) h f m k → IsCornerAt (made gs vs es) h f m k
  corner-at hs gs h f (meets_vertex i) k (v, x, e, c, s, o) = (v, x, e, corner hs gs k v x c, s, o)
  corner-at hs gs h f (meets_edge i) k a = a

  names : (hs gs : List Form) (h : Form) (p : SpacePoint) (d : Vector) (k : Corner) → RayNames (made hs vs es) h p d k → RayNames (made gs vs es) h p d k
  names hs gs h p d k (m, f, c) = (m, first-in-plane hs gs h p d m f, corner-at hs gs h _ m k c)

  has-corner : (hs gs : List Form) (y : SpacePoint) (k : Corner) → HasCorner (made hs vs es) y k → HasCorner (made gs vs es) y k
  has-corner hs gs y k h = record {
    beside = h.beside;
    vertex = h.vertex;
    item = h.item;
    is_beside = corner hs gs h.beside h.vertex h.item h.is_beside;
    facet_point = facet-point hs gs h.vertex h.item y h.facet_point;
    named = names hs gs _ y _ k h.named;
  }

  above : (hs gs : List Form) (y : SpacePoint) (o : Spot) (x : VertexSide) → IsAbove (made hs vs es) y o x → IsAbove (made gs vs es) y o x
  above hs gs y (at_vertex k) x h = h
  above hs gs y (on_edge k) x h = h
  above hs gs y (in_facet j) x (k, c, e, f) = (k, has-corner hs gs y k c, e, f)

  down : (hs gs : List Form) (p : SpacePoint) (x : VertexSide) → RayDown (made hs vs es) p x → RayDown (made gs vs es) p x
  down hs gs p x r = record {
    place = r.place;
    spot = r.spot;
    ahead = r.ahead;
    is_spot = spot hs gs r.spot r.place r.is_spot;
    first = λ q b h. r.first q b (skeleton gs hs q h);
    above = above hs gs r.place r.spot x r.above;
    label = r.label;
    has = r.has;
  }

  -- ---- links of items
  along-arcs : (hs gs : List Form) (e : Edge) (i j : ℕ) → AreAlong (made hs vs es) e i j → AreAlong (made gs vs es) e i j
  along-arcs hs gs e i j a = record {
    low_vertex = a.low_vertex;
    high_vertex = a.high_vertex;
    ends = ends hs gs e a.low_vertex a.high_vertex a.ends;
    low_arc = a.low_arc;
    high_arc = a.high_arc;
    is_low = a.is_low;
    is_high = a.is_high;
    one_normal = a.one_normal;
    one_way = a.one_way;
  }

  link-along : (hs gs : List Form) (j k : Corner) → LinkAlong (made hs vs es) j k → LinkAlong (made gs vs es) j k
  link-along hs gs j k l = record { number = l.number; edge = l.edge; is_edge = l.is_edge; from_low = l.from_low; to_high = l.to_high; along = along-arcs hs gs l.edge j.item k.item l.along }

  link-across : (hs gs : List Form) (j k : Corner) → LinkAcross (made hs vs es) j k → LinkAcross (made gs vs es) j k
  link-across hs gs j k l = record { vertex = l.vertex; item = l.item; corner = corner hs gs j l.vertex l.item l.corner; inward = l.inward; named = names hs gs _ _ _ k l.named }

  facet-link : (hs gs : List Form) (j k : Corner) → FacetLink (made hs vs es) j k → FacetLink (made gs vs es) j k
  facet-link hs gs j k l = ⊎_elim (λ a. inl (link-along hs gs j k a)) (λ a. inr (link-across hs gs j k a)) l

  -- ---- links of sides
  in-sface : (hs gs : List Form) (x y : VertexSide) → LinkInSface (made hs vs es) x y → LinkInSface (made gs vs es) x y
  in-sface hs gs x y l = record { vertex = l.vertex; is_vertex = l.is_vertex; one_vertex = l.one_vertex; one = l.one; other = l.other; has = l.has; has_other = l.has_other; one_sface = l.one_sface }

  sides-along : (hs gs : List Form) (e : Edge) (o p : Side) → AreSidesAlong (made hs vs es) e o p → AreSidesAlong (made gs vs es) e o p
  sides-along hs gs e o p (pos_arcs i j a f g) = pos_arcs i j (along-arcs hs gs e i j a) f g
  sides-along hs gs e o p (neg_arcs i j a f g) = neg_arcs i j (along-arcs hs gs e i j a) f g
  sides-along hs gs e o p (around_ends f g) = around_ends f g

  along-edge : (hs gs : List Form) (x y : VertexSide) → LinkAlongEdge (made hs vs es) x y → LinkAlongEdge (made gs vs es) x y
  along-edge hs gs x y l = record { number = l.number; edge = l.edge; is_edge = l.is_edge; low_side = l.low_side; high_side = l.high_side; is_low = l.is_low; is_high = l.is_high; along = sides-along hs gs l.edge l.low_side l.high_side l.along }

  across-facet : (hs gs : List Form) (x y : VertexSide) → LinkAcrossFacet (made hs vs es) x y → LinkAcrossFacet (made gs vs es) x y
  across-facet hs gs x y l = record { here = l.here; there = l.there; across = link-across hs gs l.here l.there l.across; sides = l.sides }

  link-down : (hs gs : List Form) (x y : VertexSide) → LinkDown (made hs vs es) x y → LinkDown (made gs vs es) x y
  link-down hs gs x y l = record { vertex = l.vertex; is_vertex = l.is_vertex; label = l.label; has = l.has; not_out = l.not_out; sees = l.sees; down = down hs gs _ y l.down }

  volume-link : (hs gs : List Form) (x y : VertexSide) → VolumeLink (made hs vs es) x y → VolumeLink (made gs vs es) x y
  volume-link hs gs x y l =
      ⊎_elim (λ a. inl (in-sface hs gs x y a))
      (λ r. inr (⊎_elim (λ a. inl (along-edge hs gs x y a))
      (λ r. inr (⊎_elim (λ a. inl (across-facet hs gs x y a))
      (λ r. inr (⊎_elim (λ a. inl (link-down hs gs x y a)) (λ a. inr a) r)) r)) r)) l

  -- ---- numbers
  facet-chain : (hs gs : List Form) (j k : Corner) → Chained (FacetLink (made hs vs es)) j k → Chained (FacetLink (made gs vs es)) j k
  facet-chain hs gs j k c = chain-map (FacetLink (made hs vs es)) (FacetLink (made gs vs es)) (λ (x : Corner). x) (λ x y l. chain-link (FacetLink (made gs vs es)) x y (facet-link hs gs x y l)) j k c

  volume-chain : (hs gs : List Form) (x y : VertexSide) → Chained (VolumeLink (made hs vs es)) x y → Chained (VolumeLink (made gs vs es)) x y
  volume-chain hs gs x y c = chain-map (VolumeLink (made hs vs es)) (VolumeLink (made gs vs es)) (λ (x : VertexSide). x) (λ x y l. chain-link (VolumeLink (made gs vs es)) x y (volume-link hs gs x y l)) x y c

  side-number : (hs gs : List Form) (x : VertexSide) (j : ℕ) → IsSideNumber (made hs vs es) x j → IsSideNumber (made gs vs es) x j
  side-number hs gs x j n = record { vertex = n.vertex; is_vertex = n.is_vertex; label = n.label; is_side = n.is_side }

  volume-of : (hs gs : List Form) (rows : List (List ℕ)) (x : VertexSide) (n : ℕ) → IsVolumeOf (made hs vs es) rows x n → IsVolumeOf (made gs vs es) rows x n
  volume-of hs gs rows x n (j, a, b) = (j, side-number hs gs x j a, b)

  side-below : (hs gs : List Form) (x y : VertexSide) → IsSideBelow (made hs vs es) x y → IsSideBelow (made gs vs es) x y
  side-below hs gs x y (i, j, a, b, c) = (i, j, side-number hs gs x i a, side-number hs gs y j b, c)

  rows-too : (hs gs : List Form) (count : Vertex → ℕ) (rows : List (List ℕ)) → HasRows (made hs vs es) count rows → HasRows (made gs vs es) count rows
  rows-too hs gs count rows h = record { as_many = h.as_many; row = h.row }

  facet-numbers : (hs gs : List Form) (rows : List (List ℕ)) → FacetNumbers (made hs vs es) rows → FacetNumbers (made gs vs es) rows
  facet-numbers hs gs rows n = record {
    shape = rows-too hs gs count_items rows n.shape;
    numbered = record {
      by_class = λ j k m l a b. let r = n.numbered.by_class j k m l a b in (λ e. facet-chain hs gs j k (r.0 e), λ c. r.1 (facet-chain gs hs j k c));
      by_appearance = n.numbered.by_appearance;
    };
  }

  volume-numbers : (hs gs : List Form) (rows : List (List ℕ)) → VolumeNumbers (made hs vs es) rows → VolumeNumbers (made gs vs es) rows
  volume-numbers hs gs rows n = record {
    shape = rows-too hs gs count_sides rows n.shape;
    numbered = record {
      by_class = λ x y m l a b.
          let r = n.numbered.by_class x y m l (volume-of gs hs rows x m a) (volume-of gs hs rows y l b) in
          (λ e. volume-chain hs gs x y (r.0 e), λ c. r.1 (volume-chain gs hs x y c));
      by_appearance = λ x m l a low h.
          let r = n.numbered.by_appearance x m l (volume-of gs hs rows x l a) low h in
          (r.0, side-below hs gs (r.0) x (r.1), volume-of hs gs rows (r.0) m (r.2));
    };
    outside = λ x m l a h. n.outside x m l (volume-of gs hs rows x m a) h;
  }

  -- ---- cycles
  next-arc : (hs gs : List Form) (j k : Corner) → IsNextArc (made hs vs es) j k → IsNextArc (made gs vs es) j k
  next-arc hs gs j k n = record {
    here = n.here;
    there = n.there;
    this_arc = n.this_arc;
    that_arc = n.that_arc;
    is_here = n.is_here;
    is_there = n.is_there;
    is_this = n.is_this;
    is_that = n.is_that;
    number = n.number;
    edge = n.edge;
    is_edge = n.is_edge;
    leads = n.leads;
    one_normal = n.one_normal;
  }

  next : (hs gs : List Form) (j k : Corner) → NextCorner (made hs vs es) j k → NextCorner (made gs vs es) j k
  next hs gs j k n = ⊎_elim (λ a. inl (next-arc hs gs j k a)) (λ a. inr (a.0, a.1, a.2, corner hs gs j (a.1) _ (a.3))) n

  steps : (hs gs : List Form) (j z : Corner) (ks : List Corner) → StepsTo (made hs vs es) j ks z → StepsTo (made gs vs es) j ks z
  steps hs gs j z [] n = next hs gs j z n
  steps hs gs j z (k ∷ ks) (n, s) = (next hs gs j k n, steps hs gs k z ks s)

  cycle : (hs gs : List Form) (ks : List Corner) → IsCycle (made hs vs es) ks → IsCycle (made gs vs es) ks
  cycle hs gs [] c = c
  cycle hs gs (j ∷ ks) (s, a) = (steps hs gs j j ks s, a)

  pub cycles-too : (hs gs : List Form) (P : Corner → Type 0) (xs : List (List Corner)) → Cycles (made hs vs es) P xs → Cycles (made gs vs es) P xs
  cycles-too hs gs P xs c = record { cycles = λ i x a. cycle hs gs x (c.cycles i x a); within = c.within; complete = c.complete; ordered = c.ordered }

  -- ---- parts
  facet-at : (hs gs : List Form) (p : Parts) (f : Facet) (k : Corner) (v : Vertex) (x : Item) → IsFacetAt (made hs vs es) p f k v x → IsFacetAt (made gs vs es) p f k v x
  facet-at hs gs p f k v x a = record {
    through = a.through;
    normal = a.normal;
    mark = a.mark;
    pos = volume-of hs gs p.volume_of (pos_of k) f.pos a.pos;
    neg = volume-of hs gs p.volume_of (neg_of k) f.neg a.neg;
  }

  facet-too : (hs gs : List Form) (p : Parts) (n : ℕ) (f : Facet) → IsFacet (made hs vs es) p n f → IsFacet (made gs vs es) p n f
  facet-too hs gs p n f a = record {
    some = a.some;
    corners = λ k v x b c. facet-at hs gs p f k v x (a.corners k v x b (corner gs hs k v x c));
    cycles = cycles-too hs gs _ (cycle_corners f.cycles) a.cycles;
  }

  volume-too : (hs gs : List Form) (p : Parts) (n : ℕ) (l : Label) → IsVolume (made hs vs es) p n l → IsVolume (made gs vs es) p n l
  volume-too hs gs p n l a = record {
    some = let r = a.some in (r.0, volume-of hs gs p.volume_of (r.0) n (r.1));
    labels = λ x m b h. a.labels x m (volume-of gs hs p.volume_of x n b) h;
  }

  -- ---- shells
  shell-link : (hs gs : List Form) (x y : VertexSide) → ShellLink (made hs vs es) x y → ShellLink (made gs vs es) x y
  shell-link hs gs x y l =
      ⊎_elim (λ a. inl (in-sface hs gs x y a))
      (λ r. inr (⊎_elim (λ a. inl (along-edge hs gs x y a)) (λ a. inr (across-facet hs gs x y a)) r)) l

  shell-chain : (hs gs : List Form) (x y : VertexSide) → Chained (ShellLink (made hs vs es)) x y → Chained (ShellLink (made gs vs es)) x y
  shell-chain hs gs x y c = chain-map (ShellLink (made hs vs es)) (ShellLink (made gs vs es)) (λ (x : VertexSide). x) (λ x y l. chain-link (ShellLink (made gs vs es)) x y (shell-link hs gs x y l)) x y c

  named : (hs gs : List Form) (s : NamedSide) (x : VertexSide) → IsSideNamed (made hs vs es) s x → IsSideNamed (made gs vs es) s x
  named hs gs s x (e, n) = (e, side-number hs gs x s.side n)

  shell-too : (hs gs : List Form) (h : List NamedSide) → IsShell (made hs vs es) h → IsShell (made gs vs es) h
  shell-too hs gs h a = record {
    some = a.some;
    sides = λ s l. let r = a.sides s l in (r.0, named hs gs s (r.0) (r.1));
    class = λ s t x y l m n.
        let f = a.class s t x y l (named gs hs s x m) (named gs hs t y n) in
        (λ k. shell-chain hs gs x y (f.0 k), λ c. f.1 (shell-chain gs hs x y c));
    ordered = a.ordered;
  }

  shells-too : (hs gs : List Form) (P Q : VertexSide → Type 0) → ((x : VertexSide) → P x → Q x) → ((x : VertexSide) → Q x → P x) → (xs : List (List NamedSide)) → Shells (made hs vs es) P xs → Shells (made gs vs es) Q xs
  shells-too hs gs P Q to from xs a = record {
    shells = λ i h b. shell-too hs gs h (a.shells i h b);
    within = λ i h s x b l n. to x (a.within i h s x b l (named gs hs s x n));
    complete = λ x b. let r = a.complete x (from x b) in (r.0, r.1, r.2, r.3, r.4, named hs gs (r.2) x (r.5));
    ordered = a.ordered;
  }

  pub parts-too : (hs gs : List Form) (p : Parts) → IsParts (made hs vs es) p → IsParts (made gs vs es) p
  parts-too hs gs p a = record {
    facet_numbers = facet-numbers hs gs p.facet_of a.facet_numbers;
    volume_numbers = volume-numbers hs gs p.volume_of a.volume_numbers;
    facets = λ n f b. facet-too hs gs p n f (a.facets n f b);
    all_facets = a.all_facets;
    volumes = λ n l b. volume-too hs gs p n l (a.volumes n l b);
    all_volumes = λ x n b. a.all_volumes x n (volume-of gs hs p.volume_of x n b);
    sface_numbers = record { as_many = a.sface_numbers.as_many; row = a.sface_numbers.row };
    as_many_shells = a.as_many_shells;
    shells = λ n xs b. shells-too hs gs (λ x. IsVolumeOf (made hs vs es) p.volume_of x n) (λ x. IsVolumeOf (made gs vs es) p.volume_of x n) (λ x v. volume-of hs gs p.volume_of x n v) (λ x v. volume-of gs hs p.volume_of x n v) (shell_sides xs) (a.shells n xs b);
  }

  -- ---- what belongs
  spot-mark : (hs gs : List Form) (o : Spot) (l : Label) → SpotMark (made hs vs es) o l → SpotMark (made gs vs es) o l
  spot-mark hs gs (at_vertex k) l m = m
  spot-mark hs gs (on_edge k) l m = m
  spot-mark hs gs (in_facet k) l (v, x, c, e) = (v, x, corner hs gs k v x c, e)

  towards : (hs gs : List Form) (o : Spot) (d : Vector) (l : Label) → Towards (made hs vs es) o d l → Towards (made gs vs es) o d l
  towards hs gs (at_vertex k) d l t = t
  towards hs gs (on_edge k) d l t = t
  towards hs gs (in_facet k) d l (v, x, c, e) = (v, x, corner hs gs k v x c, e)

  sees-spot : (hs gs : List Form) (p : SpacePoint) (o : Spot) (y : SpacePoint) → SeesSpot (made hs vs es) p o y → SeesSpot (made gs vs es) p o y
  sees-spot hs gs p o y h = record { off = λ k. h.off (skeleton gs hs p k); spot = spot hs gs o y h.spot; clear = λ q b k. h.clear q b (skeleton gs hs q k) }

  pub belongs-too : (hs gs : List Form) (p : SpacePoint) → Belongs (made hs vs es) p → Belongs (made gs vs es) p
  belongs-too hs gs p (on_skeleton o h m) = on_skeleton o (spot hs gs o p h) (spot-mark hs gs o In m)
  belongs-too hs gs p (off_skeleton o y h t) = off_skeleton o y (sees-spot hs gs p o y h) (towards hs gs o _ In t)
