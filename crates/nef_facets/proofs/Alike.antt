-- Linked items have one normal and one mark, and the vertices lie in one plane of that normal.
use Rattle.nef_facets.proofs.Prelude.{◌≡◌, ℕ, pos, sym, ◌∙◌, inl, inr, ⊎_elim, [], ◌∷◌, List, subst, IsChain, Chained, SpacePoint, Form, form_at, normal_of, slope, SamePoint, toward, Set, Vector, opposite, dot, SameDirection, plane_dir, Label, ahead, joined-germs, labels-by_germs, label-one, IsAt, Item, arc_item, items, item_normal, item_mark, on-level, is-at_one, at-arc, Vertex, Edge, Complex, HasEnds, IsCorner, Shows, item_plane, PlaneMeet, meets_vertex, meets_edge, IsFirstInPlane, IsCornerAt, plane-onward, plane-back, plane-ahead, ahead-same, through-at, through-level, AreAlong, LinkAlong, LinkAcross, FacetLink, facet-near, AreTiedItems, EdgeWays, edge-ways, end-level, along-tied, across-tied, SameDirection-turned, SameDirection-trans, level-way}
use Rattle.law_geometry.specs.complex.Complexes.{Corner}
use Rattle.law_geometry.proofs.complex.links.EdgeEnds.{corner_of_numbers}
use Rattle.law_geometry.proofs.complex.FacetEnds.{level-normal}
use Rattle.nef_conn.proofs.Named.{own-plane}
use Rattle.nef_facets.specs.Facets.{IsMarkAt}

-- a corner has one item
pub corner-one : (C : Complex) (k : Corner) (v w : Vertex) (x y : Item) → IsCorner C k v x → IsCorner C k w y → (P : Vertex → Item → Type 0) → P v x → P w y
corner-one C k v w x y a b P p =
    let e = is-at_one C.vertices k.vertex v w a.vertex b.vertex in
    let f = is-at_one (items w.map) k.item x y (subst (λ (r : Vertex). IsAt (items r.map) k.item x) e a.item) b.item in
    subst (λ (r : Item). P w r) f (subst (λ (r : Vertex). P r x) e p)

pub record AreLikeCorners (C : Complex) (j k : Corner) : Type 0 where
  pub vertex : Vertex
  pub item : Item
  pub corner : IsCorner C j vertex item
  pub other_vertex : Vertex
  pub other_item : Item
  pub other_corner : IsCorner C k other_vertex other_item
  pub one_normal : SameDirection (item_normal item) (item_normal other_item)
  pub level : dot (item_normal item) (toward vertex.point other_vertex.point) ≡ pos 0
  pub one_mark : item_mark item ≡ item_mark other_item

module _ (s : Set) (C : Complex) (S : Shows s C) where
  tied-mark : (j k : Corner) (T : AreTiedItems s C j k) → item_mark T.item ≡ item_mark T.other_item
  tied-mark j k T =
      let a = (facet-near s C S j T.vertex T.item T.corner T.dir T.on).label in
      let b = (facet-near s C S k T.other_vertex T.other_item T.other_corner T.other_way T.other_on).label in
      let p = ahead s T.vertex.point T.dir in
      let q = ahead s T.other_vertex.point T.other_way in
      label-one s q (item_mark T.item) (item_mark T.other_item) ((labels-by_germs s p q (joined-germs s p q T.tied.0) (item_mark T.item)).0 a) b

  -- tied items are alike where the other vertex lies in the plane
  from-tied : (j k : Corner) (T : AreTiedItems s C j k) → dot (item_normal T.item) (toward T.vertex.point T.other_vertex.point) ≡ pos 0 → AreLikeCorners C j k
  from-tied j k T level = record {
    vertex = T.vertex;
    item = T.item;
    corner = T.corner;
    other_vertex = T.other_vertex;
    other_item = T.other_item;
    other_corner = T.other_corner;
    one_normal = T.one_normal;
    level = level;
    one_mark = tied-mark j k T;
  }

  -- ---- along an edge
  module _ (n : ℕ) (e : Edge) (a : IsAt C.edges n e) (i j : ℕ) (A : AreAlong C e i j) where
    abbrev v : Vertex
    v = A.low_vertex

    abbrev w : Vertex
    w = A.high_vertex

    W : EdgeWays e v w
    W = edge-ways s C S n e v w a A.ends

    low-corner : IsCorner C (corner_of_numbers e.low i) v (arc_item A.low_arc)
    low-corner = record { vertex = A.ends.low; item = at-arc v.map.arcs v.map.sloop i A.low_arc A.is_low }

    level-along : dot A.low_arc.normal (toward v.point w.point) ≡ pos 0
    level-along =
        let W = edge-ways s C S n e v w a A.ends in
        level-way A.low_arc.normal W.low.dir (toward v.point w.point) (SameDirection-turned (toward v.point w.point) W.low.dir W.onward)
        (end-level s C S (corner_of_numbers e.low i) v A.low_arc low-corner e.low_svertex W.low W.is_low (⊎_elim (λ o. inl o.0) (λ o. inr o.0) A.one_way))

    pub alike-ends : AreLikeCorners C (corner_of_numbers e.low i) (corner_of_numbers e.high j)
    alike-ends =
        let T = along-tied s C S n e a i j A in
        let f = is-at_one C.vertices e.high w T.other_vertex A.ends.high T.other_corner.vertex in
        from-tied (corner_of_numbers e.low i) (corner_of_numbers e.high j) T
        (subst (λ (r : Vertex). dot (item_normal T.item) (toward T.vertex.point r.point) ≡ pos 0) f
        (corner-one C (corner_of_numbers e.low i) v T.vertex (arc_item A.low_arc) T.item low-corner T.corner (λ u x. dot (item_normal x) (toward u.point w.point) ≡ pos 0) level-along))

  alike-along : (j k : Corner) → LinkAlong C j k → AreLikeCorners C j k
  alike-along j k L =
      subst (λ (a : ℕ). AreLikeCorners C (corner_of_numbers a j.item) k) (sym L.from_low)
      (subst (λ (b : ℕ). AreLikeCorners C (corner_of_numbers L.edge.low j.item) (corner_of_numbers b k.item)) (sym L.to_high) (alike-ends L.number L.edge L.is_edge j.item k.item L.along))

  -- ---- across a facet
  module _ (j k : Corner) (L : LinkAcross C j k) where
    abbrev x : Item
    x = L.item

    abbrev p : SpacePoint
    p = L.vertex.point

    abbrev d : Vector
    d = opposite (plane_dir (item_normal x))

    abbrev plane : Form
    plane = item_plane L.vertex x

    level-d : slope plane d ≡ pos 0
    level-d = (through-level (item_normal x) d p).0 (on-level L.vertex.map x d L.inward)

    -- the corner that is named lies in the plane
    named-in : (m : PlaneMeet) → IsFirstInPlane C plane p d m → IsCornerAt C plane (opposite d) m k → (w : Vertex) → IsAt C.vertices k.vertex w → form_at plane w.point ≡ pos 0
    named-in (meets_vertex i) I (u, y, e, c, r, o) w a = by I.meets
      where
        by : (t : Vertex) × IsAt C.vertices i t × SamePoint t.point I.place → form_at plane w.point ≡ pos 0
        by (t, b, same) =
            let f = is-at_one C.vertices i t w b (subst (λ (n : ℕ). IsAt C.vertices n w) e a) in
            plane-ahead plane p w.point d (ahead-same p I.place w.point d (subst (λ (r : Vertex). SamePoint r.point I.place) f same) I.ahead) level-d (own-plane (item_normal x) p)
    named-in (meets_edge i) I (e, v, c, b, f, l, o, r, side) w a = by I.meets.1
      where
        by : (g : Edge) × (u : Vertex) × (t : Vertex) × IsAt C.edges i g × HasEnds C g u t × (form_at plane u.point ≡ pos 0) × (form_at plane t.point ≡ pos 0) → form_at plane w.point ≡ pos 0
        by (g, u, t, h, G, on, also) =
            let same = is-at_one C.edges i g e h b in
            let q = is-at_one C.vertices e.low u w (subst (λ (z : Edge). IsAt C.vertices z.low u) same G.low) (subst (λ (n : ℕ). IsAt C.vertices n w) f a) in
            subst (λ (z : Vertex). form_at plane z.point ≡ pos 0) q on

    alike-across : AreLikeCorners C j k
    alike-across =
        let T = across-tied s C S j k L in
        let N = L.named in
        let e = sym (through-at (item_normal x) p T.other_vertex.point) ∙ named-in N.0 N.1 N.2 T.other_vertex T.other_corner.vertex in
        from-tied j k T (corner-one C j L.vertex T.vertex x T.item L.corner T.corner (λ u y. dot (item_normal y) (toward u.point T.other_vertex.point) ≡ pos 0) e)

  pub alike : (j k : Corner) → FacetLink C j k → AreLikeCorners C j k
  alike j k (inl L) = alike-along j k L
  alike j k (inr L) = alike-across j k L

-- ---- what alike items share
abbrev pub IsFormAt : Complex → Form → Corner → Type 0
IsFormAt C h k = (v : Vertex) (x : Item) → IsCorner C k v x → (form_at h v.point ≡ pos 0) × SameDirection (normal_of h) (item_normal x)

module _ (C : Complex) (j k : Corner) (A : AreLikeCorners C j k) where
  form-onward : (h : Form) → IsFormAt C h j → IsFormAt C h k
  form-onward h f v x c =
      let r = f A.vertex A.item A.corner in
      let n = SameDirection-turned (normal_of h) (item_normal A.item) r.1 in
      corner-one C k A.other_vertex v A.other_item x A.other_corner c (λ u y. (form_at h u.point ≡ pos 0) × SameDirection (normal_of h) (item_normal y)) (
        plane-onward h A.vertex.point A.other_vertex.point (level-normal (item_normal A.item) (normal_of h) (toward A.vertex.point A.other_vertex.point) n A.level) r.0,
        SameDirection-trans (normal_of h) (item_normal A.item) (item_normal A.other_item) r.1 A.one_normal,
      )

  form-back : (h : Form) → IsFormAt C h k → IsFormAt C h j
  form-back h f v x c =
      let r = f A.other_vertex A.other_item A.other_corner in
      let n = SameDirection-trans (normal_of h) (item_normal A.other_item) (item_normal A.item) r.1 (SameDirection-turned (item_normal A.item) (item_normal A.other_item) A.one_normal) in
      corner-one C j A.vertex v A.item x A.corner c (λ u y. (form_at h u.point ≡ pos 0) × SameDirection (normal_of h) (item_normal y)) (
        plane-back h A.vertex.point A.other_vertex.point
            (level-normal (item_normal A.item) (normal_of h) (toward A.vertex.point A.other_vertex.point) (SameDirection-turned (normal_of h) (item_normal A.item) n) A.level) r.0,
        n,
      )

  label-onward : (l : Label) → IsMarkAt C l j → IsMarkAt C l k
  label-onward l f v x c = corner-one C k A.other_vertex v A.other_item x A.other_corner c (λ u y. l ≡ item_mark y) (f A.vertex A.item A.corner ∙ A.one_mark)

  label-back : (l : Label) → IsMarkAt C l k → IsMarkAt C l j
  label-back l f v x c = corner-one C j A.vertex v A.item x A.corner c (λ u y. l ≡ item_mark y) (f A.other_vertex A.other_item A.other_corner ∙ sym A.one_mark)

-- what goes over each link either way goes along chains
pub chain-carries : {X : Type 0} (Link : X → X → Type 0) (P : X → Type 0) → ((x y : X) → Link x y → P x → P y) → ((x y : X) → Link x y → P y → P x) → (x z : X) → Chained Link x z → P x → P z
chain-carries {X} Link P onward back x z (ys, c) p = by x ys c p
  where
    by : (x : X) (ys : List X) → IsChain Link x ys z → P x → P z
    by x [] e p = subst P e p
    by x (y ∷ ys) (l, c) p = by y ys c (⊎_elim (λ a. onward x y a p) (λ a. back y x a p) l)

module _ (s : Set) (C : Complex) (S : Shows s C) (j k : Corner) (c : Chained (FacetLink C) j k) where
  pub form-carried : (h : Form) → IsFormAt C h j → IsFormAt C h k
  form-carried h = chain-carries (FacetLink C) (IsFormAt C h) (λ x y l. form-onward C x y (alike s C S x y l) h) (λ x y l. form-back C x y (alike s C S x y l) h) j k c

  pub label-carried : (l : Label) → IsMarkAt C l j → IsMarkAt C l k
  label-carried m = chain-carries (FacetLink C) (IsMarkAt C m) (λ x y l. label-onward C x y (alike s C S x y l) m) (λ x y l. label-back C x y (alike s C S x y l) m) j k c
