-- Beside an edge: its points are tied to those close to both of its ends; and the arcs along it.
use Rattle.law_geometry.proofs.complex.links.Prelude.{◌≡◌, ℕ, ◌+◌, ◌≤◌, ℤ, pos, ◌+ℤ◌, ◌*ℤ◌, neg_ℤ, ◌<ℤ◌, arith, ap, sym, ◌∙◌, ◌⊎◌, inl, inr, ⊎_elim, ◌∷◌, subst, [], ints, sign, ring, at, num, ◌⊕◌, ◌⊗◌, FlatDim, SpacePoint, SamePoint, toward, IsBetween, Set, Vector, opposite, blend, dot, cross, triple, IsZero, IsDirection, SameDirection, IsOpposite, carriers, ahead, steep, same-point_sym, between-turned, between-inner, forms, IsAt, MapVertex, Arc, Item, arc_item, item_normal, dir_of, OnItem, Shaped, dot-comb, normal-is, same-plus, same-minus, amount, is-at_one, dir-at, arc-at, turn-same, at-arc, ends-of, level-same, Vertex, Edge, Complex, Corner, HasEnds, IsCorner, Shows, between-way, near_point, near-between, edge-points, ahead-back, AreAlong, self-pos, triple-dot, square-cross, nought-if, SameDirection-trans, dir-self, dot-opposite, opposite-way, direction-left, direction-right, right-turn, back-triple}
use Rattle.law_geometry.proofs.complex.FacetArcs.{source-meets, target-meets}
use Rattle.law_geometry.proofs.complex.links.Ties.{ahead-ahead, IsTied, tied-cell, tied-turned, tied-both, tied-ahead, tied-ray}
use Rattle.law_geometry.proofs.near.Same.{dim-same}

-- ---- the ends of an edge
-- the svertices from which an edge goes
pub record EdgeWays (e : Edge) (v w : Vertex) : Type 0 where
  pub low : MapVertex
  pub high : MapVertex
  pub is_low : IsAt v.map.svertices e.low_svertex low
  pub is_high : IsAt w.map.svertices e.high_svertex high
  pub onward : SameDirection (toward v.point w.point) low.dir
  pub back : IsOpposite low.dir high.dir

module _ (s : Set) (C : Complex) (S : Shows s C) (k : ℕ) (e : Edge) (v w : Vertex) (a : IsAt C.edges k e) (H : HasEnds C e v w) where
  pub edge-ways : EdgeWays e v w
  edge-ways =
      let E = S.edges.edges k e a in
      let f = is-at_one C.vertices e.low E.low_vertex v E.is_low H.low in
      let g = is-at_one C.vertices e.high E.high_vertex w E.is_high H.high in
      subst (λ (x : Vertex). EdgeWays e v x) g (subst (λ (x : Vertex). EdgeWays e x E.high_vertex) f
      (record { low = E.low_end; high = E.high_end; is_low = E.leaves; is_high = E.arrives; onward = E.ahead; back = E.back }))

  -- each point of the edge is tied to the points close to its ends
  even-before : (y : SpacePoint) → IsBetween v.point y w.point → (r : SpacePoint) → IsBetween v.point r y ⊎ SamePoint r y → FlatDim s r 1
  even-before y b r (inl c) = (edge-points s C k e v w r S a H (between-inner v.point y w.point r b c)).0
  even-before y b r (inr f) = dim-same s y r 1 (same-point_sym r y f) (edge-points s C k e v w y S a H b).0

  even-behind : (y : SpacePoint) → IsBetween v.point y w.point → (r : SpacePoint) → IsBetween w.point r y ⊎ SamePoint r y → FlatDim s r 1
  even-behind y b r (inl c) = (edge-points s C k e v w r S a H (between-turned w.point v.point r (between-inner w.point y v.point r (between-turned v.point w.point y b) c))).0
  even-behind y b r (inr f) = dim-same s y r 1 (same-point_sym r y f) (edge-points s C k e v w y S a H b).0

  pub tied-low : (y : SpacePoint) → IsBetween v.point y w.point → IsTied s y (ahead s v.point edge-ways.low.dir)
  tied-low y b = tied-ray s 1 v.point y edge-ways.low.dir (SameDirection-trans (toward v.point y) (toward v.point w.point) edge-ways.low.dir (between-way v.point y w.point b) edge-ways.onward) (even-before y b)

  pub tied-high : (y : SpacePoint) → IsBetween v.point y w.point → IsTied s y (ahead s w.point edge-ways.high.dir)
  tied-high y b =
      let E = edge-ways in
      let c = between-turned v.point w.point y b in
      tied-ray s 1 w.point y E.high.dir (SameDirection-trans (toward w.point y) (toward w.point v.point) E.high.dir (between-way w.point y v.point c)
      (SameDirection-trans (toward w.point v.point) (opposite E.low.dir) E.high.dir (ahead-back v.point w.point E.low.dir E.onward) (opposite-way E.low.dir E.high.dir E.back))) (even-behind y b)

  -- so the points close to both ends are tied, beside the edge too
  pub ends-tied : IsTied s (ahead s v.point edge-ways.low.dir) (ahead s w.point edge-ways.high.dir)
  ends-tied =
      let y = near_point s v.point w.point in
      let b = near-between s v.point w.point (direction-left (toward v.point w.point) edge-ways.low.dir edge-ways.onward) in
      tied-both s (ahead s v.point edge-ways.low.dir) y (ahead s w.point edge-ways.high.dir) (tied-turned s y (ahead s v.point edge-ways.low.dir) (tied-low y b)) (tied-high y b)

-- off p toward u, and from there toward f
pub tied-turn : (s : Set) (p : SpacePoint) (u f : Vector) (k : ℕ) → steep (carriers s) f ≤ k → IsTied s (ahead s (ahead s p u) f) (ahead s p (blend k u 1 f))
tied-turn s p u f k large = tied-cell s (ahead s (ahead s p u) f) (ahead s p (blend k u 1 f)) (ahead-ahead s p u f k large)

-- ---- arcs that end at a svertex
-- the arc ends at svertex j, whose way is u, on the side of f
abbrev pub EndsOnSide : ℕ → Vector → Vector → Arc → Type 0
EndsOnSide j u f c = ((c.source ≡ j) × (pos 0 <ℤ triple c.normal u f)) ⊎ ((c.target ≡ j) × (triple c.normal u f <ℤ pos 0))

module _ (s : Set) (C : Complex) (S : Shows s C) (k : Corner) (v : Vertex) (c : Arc) (corner : IsCorner C k v (arc_item c)) (j : ℕ) (u : MapVertex) (b : IsAt v.map.svertices j u) where
  abbrev V : Shaped v.map
  V = (S.cones k.vertex v corner.vertex).valid.shaped

  pub end-level : (c.source ≡ j) ⊎ (c.target ≡ j) → dot c.normal u.dir ≡ pos 0
  end-level =
      let E = ends-of v.map V k.item c (arc-at v.map.arcs v.map.sloop k.item c corner.item) in
      let w = dir-at v.map.svertices j u b in
      ⊎_elim
      (λ e. subst (λ (d : Vector). dot c.normal d ≡ pos 0) w (subst (λ (i : ℕ). dot c.normal (dir_of v.map.svertices i) ≡ pos 0) e E.source_level))
      (λ e. subst (λ (d : Vector). dot c.normal d ≡ pos 0) w (subst (λ (i : ℕ). dot c.normal (dir_of v.map.svertices i) ≡ pos 0) e E.target_level))

  -- a direction on the arc close to the svertex
  abbrev pub close_way : Vector → Vector
  close_way f = blend (amount (forms v.map) f + steep (carriers s) f) u.dir 1 f

  module _ (f : Vector) (level : dot c.normal f ≡ pos 0) (side : EndsOnSide j u.dir f c) where
    level-close : dot c.normal u.dir ≡ pos 0 → dot c.normal (close_way f) ≡ pos 0
    level-close z =
        let i = amount (forms v.map) f + steep (carriers s) f in
        dot-comb c.normal (pos i) u.dir (pos 1) f ∙ ap (λ r. pos i *ℤ r +ℤ pos 1 *ℤ dot c.normal f) z ∙ ap (λ r. pos i *ℤ pos 0 +ℤ pos 1 *ℤ r) level ∙ ring (pos i ∷ []) (at 0 ⊗ num (pos 0) ⊕ num (pos 1) ⊗ num (pos 0)) (num (pos 0)) tt

    pub on-close : OnItem v.map (arc_item c) (close_way f)
    on-close =
        let i = amount (forms v.map) f + steep (carriers s) f in
        ⊎_elim
        (λ e. source-meets v.map V j u b f i (omega arith) k.item c corner.item (level-close (end-level (inl e.0))) e.0 e.1)
        (λ e. target-meets v.map V j u b f i (omega arith) k.item c corner.item (level-close (end-level (inr e.0))) e.0 e.1) side

  pub tied-close_way : (f : Vector) → IsTied s (ahead s (ahead s v.point u.dir) f) (ahead s v.point (close_way f))
  tied-close_way f = tied-turn s v.point u.dir f (amount (forms v.map) f + steep (carriers s) f) (omega arith)

-- ---- linked items
-- a point close to the vertex on one item, and one on the other, are tied, and the items have one normal
pub record AreTiedItems (s : Set) (C : Complex) (j k : Corner) : Type 0 where
  pub vertex : Vertex
  pub item : Item
  pub corner : IsCorner C j vertex item
  pub dir : Vector
  pub on : OnItem vertex.map item dir
  pub other_vertex : Vertex
  pub other_item : Item
  pub other_corner : IsCorner C k other_vertex other_item
  pub other_way : Vector
  pub other_on : OnItem other_vertex.map other_item other_way
  pub one_normal : SameDirection (item_normal item) (item_normal other_item)
  pub tied : IsTied s (ahead s vertex.point dir) (ahead s other_vertex.point other_way)

abbrev pub corner_of_numbers : ℕ → ℕ → Corner
corner_of_numbers i j = record { vertex = i; item = j }

-- a direction of the plane of n on the left of u, and on its right
pub left-turn : (n u : Vector) → IsDirection n → IsDirection u → dot n u ≡ pos 0 → pos 0 <ℤ triple n u (cross n u)
left-turn n u hn hu z = subst (λ (r : ℤ). pos 0 <ℤ r) (sym (triple-dot n u (cross n u))) (self-pos (cross n u) (λ o. hu (nought-if n u hn o z)))

module _ (s : Set) (C : Complex) (S : Shows s C) (k : ℕ) (e : Edge) (a : IsAt C.edges k e) (i j : ℕ) (A : AreAlong C e i j) where
  abbrev v : Vertex
  v = A.low_vertex

  abbrev w : Vertex
  w = A.high_vertex

  abbrev W : EdgeWays e v w
  W = edge-ways s C S k e v w a A.ends

  abbrev u : MapVertex
  u = W.low

  abbrev t : MapVertex
  t = W.high

  low-corner : IsCorner C (corner_of_numbers e.low i) v (arc_item A.low_arc)
  low-corner = record { vertex = A.ends.low; item = at-arc v.map.arcs v.map.sloop i A.low_arc A.is_low }

  high-corner : IsCorner C (corner_of_numbers e.high j) w (arc_item A.high_arc)
  high-corner = record { vertex = A.ends.high; item = at-arc w.map.arcs w.map.sloop j A.high_arc A.is_high }

  n-some : IsDirection A.low_arc.normal
  n-some = normal-is (S.cones e.low v A.ends.low).valid.shaped i (arc_item A.low_arc) low-corner.item

  u-some : IsDirection u.dir
  u-some = direction-right (toward v.point w.point) u.dir W.onward

  along-by : (f : Vector) → dot A.low_arc.normal f ≡ pos 0 → IsDirection f → EndsOnSide e.low_svertex u.dir f A.low_arc → EndsOnSide e.high_svertex t.dir f A.high_arc → AreTiedItems s C (corner_of_numbers e.low i) (corner_of_numbers e.high j)
  along-by f level some p q =
      let n = A.low_arc.normal in
      let m = A.high_arc.normal in
      let c = close_way s C S (corner_of_numbers e.low i) v A.low_arc low-corner e.low_svertex u W.is_low f in
      let d = close_way s C S (corner_of_numbers e.high j) w A.high_arc high-corner e.high_svertex t W.is_high f in
      let x = ahead s (ahead s v.point u.dir) f in
      let y = ahead s (ahead s w.point t.dir) f in
      record {
        vertex = v;
        item = arc_item A.low_arc;
        corner = low-corner;
        dir = c;
        on = on-close s C S (corner_of_numbers e.low i) v A.low_arc low-corner e.low_svertex u W.is_low f level p;
        other_vertex = w;
        other_item = arc_item A.high_arc;
        other_corner = high-corner;
        other_way = d;
        other_on = on-close s C S (corner_of_numbers e.high j) w A.high_arc high-corner e.high_svertex t W.is_high f (level-same n m f f A.one_normal (dir-self f some) level) q;
        one_normal = A.one_normal;
        tied = tied-both s (ahead s v.point c) x (ahead s w.point d)
            (tied-turned s x (ahead s v.point c) (tied-close_way s C S (corner_of_numbers e.low i) v A.low_arc low-corner e.low_svertex u W.is_low f))
            (tied-both s x y (ahead s w.point d) (tied-ahead s (ahead s v.point u.dir) (ahead s w.point t.dir) f (ends-tied s C S k e v w a A.ends))
            (tied-close_way s C S (corner_of_numbers e.high j) w A.high_arc high-corner e.high_svertex t W.is_high f));
      }

  -- at the other end the turn is the other one
  turn-there : (f : Vector) → IsDirection f → sign (triple A.high_arc.normal t.dir f) ≡ sign (neg_ℤ (triple A.low_arc.normal u.dir f))
  turn-there f some = turn-same A.low_arc.normal A.high_arc.normal (opposite u.dir) t.dir f f A.one_normal (opposite-way u.dir t.dir W.back) (dir-self f some) ∙ ap sign (back-triple A.low_arc.normal u.dir f)

  pub along-tied : AreTiedItems s C (corner_of_numbers e.low i) (corner_of_numbers e.high j)
  along-tied = ⊎_elim from-source from-target A.one_way
    where
      low-level : (A.low_arc.source ≡ e.low_svertex) ⊎ (A.low_arc.target ≡ e.low_svertex) → dot A.low_arc.normal u.dir ≡ pos 0
      low-level o = end-level s C S (corner_of_numbers e.low i) v A.low_arc low-corner e.low_svertex u W.is_low o

      from-source : (A.low_arc.source ≡ e.low_svertex) × (A.high_arc.target ≡ e.high_svertex) → AreTiedItems s C (corner_of_numbers e.low i) (corner_of_numbers e.high j)
      from-source o =
          let n = A.low_arc.normal in
          let f = cross n u.dir in
          let h = left-turn n u.dir n-some u-some (low-level (inl o.0)) in
          let some : IsDirection f = λ z. u-some (nought-if n u.dir n-some z (low-level (inl o.0))) in
          along-by f (square-cross n u.dir) some (inl (o.0, h)) (inr (o.1, same-minus (neg_ℤ (triple n u.dir f)) (triple A.high_arc.normal t.dir f) (turn-there f some) (omega (arith, ints))))

      from-target : (A.low_arc.target ≡ e.low_svertex) × (A.high_arc.source ≡ e.high_svertex) → AreTiedItems s C (corner_of_numbers e.low i) (corner_of_numbers e.high j)
      from-target o =
          let n = A.low_arc.normal in
          let g = cross n u.dir in
          let f = opposite g in
          let h = left-turn n u.dir n-some u-some (low-level (inr o.0)) in
          let r = right-turn n u.dir g in
          let z = dot-opposite n g in
          let y = square-cross n u.dir in
          let some : IsDirection f = λ z. u-some (nought-if n u.dir n-some (back-zero g z) (low-level (inr o.0))) in
          along-by f (omega (arith, ints)) some (inr (o.0, omega (arith, ints))) (inl (o.1, same-plus (neg_ℤ (triple n u.dir f)) (triple A.high_arc.normal t.dir f) (turn-there f some) (omega (arith, ints))))
        where
          back-zero : (g : Vector) → IsZero (opposite g) → IsZero g
          back-zero g z = (let a = z.0 in omega (arith, ints), let a = z.1 in omega (arith, ints), let a = z.2 in omega (arith, ints))
