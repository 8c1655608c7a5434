-- Links of sides in one sface, along an edge and across a facet join points at both.
use Rattle.law_geometry.proofs.complex.links.Prelude.{◌≡◌, ℕ, ◌+◌, pos, ◌<ℤ◌, arith, refl, sym, ◌∙◌, ⊎_elim, subst, Some, ints, SpacePoint, toward, Set, Vector, opposite, blend, dot, cross, IsDirection, SameDirection, Label, carriers, ahead, steep, forms, IsAt, MapVertex, Item, item_normal, item_pos, item_neg, OnItem, Side, around_svertex, pos_item, neg_item, HasSide, Sees, Shaped, amount, normal-is, is-at_one, cross-direction_right, sees-around, Vertex, Edge, Complex, Corner, HasEnds, IsCorner, Shows, VertexSide, IsSideOf, LinkInSface, AreSidesAlong, pos_arcs, neg_arcs, around_ends, LinkAlongEdge, LinkAcrossFacet, VolumeLink, IsAtSide, dot-comm, self-pos, nought-if, opposite-same, dot-opposite, direction-right}
use Rattle.law_geometry.proofs.complex.links.Ties.{ahead-way, IsTied, tied-cell, tied-turned, tied-both, tied-ahead}
use Rattle.law_geometry.proofs.complex.links.EdgeEnds.{edge-ways, ends-tied, tied-turn, AreTiedItems, along-tied}
use Rattle.law_geometry.proofs.complex.links.Across.{across-tied}
use Rattle.law_geometry.proofs.complex.links.SideSight.{sees-pos, sees-neg, lone-of, aside, side-sees}
use Rattle.law_geometry.proofs.complex.links.SidePoints.{at-side, level-opposite, one-sface}
use Rattle.law_geometry.proofs.complex.links.Chains.{JoinsPoints}

abbrev pub JoinsSides : Set → Complex → VertexSide → VertexSide → Type 0
JoinsSides s C x y = JoinsPoints VertexSide (VolumeLink C) s (IsAtSide s C) x y

-- a point at the side, tied to p
abbrev pub PointTied : Set → Complex → VertexSide → SpacePoint → Type 0
PointTied s C y p = (q : SpacePoint) × IsAtSide s C y q × IsTied s p q

module _ (s : Set) (C : Complex) (S : Shows s C) where
  -- ---- the sides of an item
  module _ (k : Corner) (v : Vertex) (x : Item) (c : IsCorner C k v x) (d : Vector) (o : OnItem v.map x d) (y : VertexSide) (e : y.vertex ≡ k.vertex) where
    abbrev n : Vector
    n = item_normal x

    abbrev V : Shaped v.map
    V = (S.cones k.vertex v c.vertex).valid.shaped

    listed : IsAt C.vertices y.vertex v
    listed = subst (λ (i : ℕ). IsAt C.vertices i v) (sym e) c.vertex

    n-long : pos 0 <ℤ dot n n
    n-long = self-pos n (normal-is V k.item x c.item)

    abbrev beside : Vector → Vector
    beside f = blend (amount (forms v.map) f + steep (carriers s) f) d 1 f

    tied-beside : (f : Vector) → IsTied s (ahead s (ahead s v.point d) f) (ahead s v.point (beside f))
    tied-beside f = tied-turn s v.point d f (amount (forms v.map) f + steep (carriers s) f) (omega arith)

    pub pos-point : y.side ≡ pos_item k.item → PointTied s C y (ahead s (ahead s v.point d) n)
    pos-point f =
        let h = n-long in
        let g = beside n in
        let sight = sees-pos v.map V k.item x c.item d n o (λ z. omega (arith, ints)) (amount (forms v.map) n + steep (carriers s) n) (omega arith) h in
        let t = sym f in (
          ahead s v.point g,
          at-side s C S y v (item_pos x) listed (subst (λ (r : Side). HasSide v.map r (item_pos x)) t (x, c.item, refl)) g (subst (λ (r : Side). Sees v.map r g) t sight),
          tied-beside n,
        )

    pub neg-point : y.side ≡ neg_item k.item → PointTied s C y (ahead s (ahead s v.point d) (opposite n))
    neg-point f =
        let h = n-long in
        let r = dot-opposite n n in
        let m = opposite n in
        let g = beside m in
        let sight = sees-neg v.map V k.item x c.item d m o (λ z. omega (arith, ints)) (amount (forms v.map) m + steep (carriers s) m) (omega arith) (omega (arith, ints)) in
        let t = sym f in (
          ahead s v.point g,
          at-side s C S y v (item_neg x) listed (subst (λ (r : Side). HasSide v.map r (item_neg x)) t (x, c.item, refl)) g (subst (λ (r : Side). Sees v.map r g) t sight),
          tied-beside m,
        )

  -- ---- the same sides of tied items
  module _ (j k : Corner) (T : AreTiedItems s C j k) (x y : VertexSide) (e : x.vertex ≡ j.vertex) (f : y.vertex ≡ k.vertex) where
    -- from the points beside the one to those beside the other
    between : (g h : Vector) → SameDirection g h → IsTied s (ahead s (ahead s T.vertex.point T.dir) g) (ahead s (ahead s T.other_vertex.point T.other_way) h)
    between g h w =
        let p = ahead s T.vertex.point T.dir in
        let q = ahead s T.other_vertex.point T.other_way in
        tied-both s (ahead s p g) (ahead s q g) (ahead s q h) (tied-ahead s p q g T.tied) (tied-cell s (ahead s q g) (ahead s q h) (ahead-way s q g h w))

    joins-by : (g h : Vector) → SameDirection g h → PointTied s C x (ahead s (ahead s T.vertex.point T.dir) g) → PointTied s C y (ahead s (ahead s T.other_vertex.point T.other_way) h) → JoinsSides s C x y
    joins-by g h w P Q =
        let p = ahead s (ahead s T.vertex.point T.dir) g in
        let q = ahead s (ahead s T.other_vertex.point T.other_way) h in
        (P.0, Q.0, P.1, Q.1, (tied-both s P.0 p Q.0 (tied-turned s p P.0 P.2) (tied-both s p q Q.0 (between g h w) Q.2)).0)

    pub joins-pos : x.side ≡ pos_item j.item → y.side ≡ pos_item k.item → JoinsSides s C x y
    joins-pos a b = joins-by (item_normal T.item) (item_normal T.other_item) T.one_normal (pos-point j T.vertex T.item T.corner T.dir T.on x e a) (pos-point k T.other_vertex T.other_item T.other_corner T.other_way T.other_on y f b)

    pub joins-neg : x.side ≡ neg_item j.item → y.side ≡ neg_item k.item → JoinsSides s C x y
    joins-neg a b = joins-by (opposite (item_normal T.item)) (opposite (item_normal T.other_item)) (opposite-same (item_normal T.item) (item_normal T.other_item) T.one_normal)
        (neg-point j T.vertex T.item T.corner T.dir T.on x e a) (neg-point k T.other_vertex T.other_item T.other_corner T.other_way T.other_on y f b)

  -- ---- in one sface
  pub joins-in_sface : (x y : VertexSide) → LinkInSface C x y → JoinsSides s C x y
  joins-in_sface x y L =
      let v = L.vertex in
      let V = (S.cones x.vertex v L.is_vertex).valid.shaped in
      let a = side-sees v.map V x.side L.one L.has in
      let b = side-sees v.map V y.side L.other L.has_other in (
        ahead s v.point a.0,
        ahead s v.point b.0,
        at-side s C S x v L.one L.is_vertex L.has a.0 a.1,
        at-side s C S y v L.other (subst (λ (i : ℕ). IsAt C.vertices i v) (sym L.one_vertex) L.is_vertex) L.has_other b.0 b.1,
        (one-sface s C S x.vertex v L.is_vertex x.side y.side L.one_sface L.one L.other L.has L.has_other a.0 b.0 a.1 b.1).0,
      )

  -- ---- around both ends of an edge
  -- a point at the side around a svertex, on the side of f
  around-point : (y : VertexSide) (j : ℕ) (v : Vertex) (l : Label) (u : MapVertex) → IsAt C.vertices y.vertex v → HasSide v.map y.side l → y.side ≡ around_svertex j → IsAt v.map.svertices j u → (f : Vector) → IsDirection (cross u.dir f)
      → PointTied s C y (ahead s (ahead s v.point u.dir) f)
  around-point y j v l u a h e b f apart =
      let V = (S.cones y.vertex v a).valid.shaped in
      let K = amount (forms v.map) f + steep (carriers s) f in
      let own : HasSide v.map (around_svertex j) l = subst (λ (r : Side). HasSide v.map r l) e h in
      let same = is-at_one v.map.svertices j own.0 u own.1 b in
      let lone = lone-of v.map V j u l b (subst (λ (r : MapVertex). r.around ≡ Some l) same own.2) in
      let sight = sees-around v.map V j u b lone f K (omega arith) apart in (
        ahead s v.point (blend K u.dir 1 f),
        at-side s C S y v l a h (blend K u.dir 1 f) (subst (λ (r : Side). Sees v.map r (blend K u.dir 1 f)) (sym e) sight),
        tied-turn s v.point u.dir f K (omega arith),
      )

  module _ (number : ℕ) (e : Edge) (is_edge : IsAt C.edges number e) (x y : VertexSide) (o q : Side) (X : IsSideOf C x e.low o) (Y : IsSideOf C y e.high q) where
    around-ends : o ≡ around_svertex e.low_svertex → q ≡ around_svertex e.high_svertex → JoinsSides s C x y
    around-ends a b =
        let v = X.3.0 in
        let w = Y.3.0 in
        let H : HasEnds C e v w = record { low = subst (λ (i : ℕ). IsAt C.vertices i v) X.1 X.3.1; high = subst (λ (i : ℕ). IsAt C.vertices i w) Y.1 Y.3.1 } in
        let W = edge-ways s C S number e v w is_edge H in
        let u = W.low in
        let t = W.high in
        let hu = direction-right (toward v.point w.point) u.dir W.onward in
        let ht = (S.cones e.high w H.high).valid.shaped.svertex_dirs e.high_svertex t W.is_high in
        let f = aside u.dir hu in
        let level = level-opposite f.0 u.dir t.dir W.back (dot-comm f.0 u.dir ∙ f.2) in
        let apart : IsDirection (cross t.dir f.0) = λ z. cross-direction_right u.dir f.0 f.1 (nought-if t.dir f.0 ht z (dot-comm t.dir f.0 ∙ level)) in
        let P = around-point x e.low_svertex v X.0 u X.3.1 X.3.2 (X.2 ∙ a) W.is_low f.0 f.1 in
        let Q = around-point y e.high_svertex w Y.0 t Y.3.1 Y.3.2 (Y.2 ∙ b) W.is_high f.0 apart in
        let c = ahead s (ahead s v.point u.dir) f.0 in
        let d = ahead s (ahead s w.point t.dir) f.0 in
        (P.0, Q.0, P.1, Q.1, (tied-both s P.0 c Q.0 (tied-turned s c P.0 P.2) (tied-both s c d Q.0 (tied-ahead s (ahead s v.point u.dir) (ahead s w.point t.dir) f.0 (ends-tied s C S number e v w is_edge H)) Q.2)).0)

    joins-along_by : AreSidesAlong C e o q → JoinsSides s C x y
    joins-along_by (pos_arcs i j A a b) = let T = along-tied s C S number e is_edge i j A in joins-pos (record { vertex = e.low; item = i }) (record { vertex = e.high; item = j }) T x y X.1 Y.1 (X.2 ∙ a) (Y.2 ∙ b)
    joins-along_by (neg_arcs i j A a b) = let T = along-tied s C S number e is_edge i j A in joins-neg (record { vertex = e.low; item = i }) (record { vertex = e.high; item = j }) T x y X.1 Y.1 (X.2 ∙ a) (Y.2 ∙ b)
    joins-along_by (around_ends a b) = around-ends a b

  pub joins-along : (x y : VertexSide) → LinkAlongEdge C x y → JoinsSides s C x y
  joins-along x y L = joins-along_by L.number L.edge L.is_edge x y L.low_side L.high_side L.is_low L.is_high L.along

  -- ---- across a facet
  pub joins-across : (x y : VertexSide) → LinkAcrossFacet C x y → JoinsSides s C x y
  joins-across x y L =
      let T = across-tied s C S L.here L.there L.across in
      ⊎_elim (λ p. joins-pos L.here L.there T x y p.0.1 p.1.1 p.0.2 p.1.2) (λ p. joins-neg L.here L.there T x y p.0.1 p.1.1 p.0.2 p.1.2) L.sides
