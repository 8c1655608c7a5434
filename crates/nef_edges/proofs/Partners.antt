-- The next end that arrives is the partner of one that leads on.
use Rattle.nef_edges.proofs.Prelude.{◌≡◌, ℕ, ◌<◌, pos, neg_ℤ, List, length, map, arith, refl, sym, ap, subst, ◌∙◌, inl, inr, ◌⊎◌, ⊎_elim, Ordering, Less, Equal, Greater, cases_lt, ints, MatchOrdering, nat_cmp, ordering_then, tied_back, ranked, toward, Set, Vector, opposite, IsNormal, IsZero, cross, SameDirection, IsOpposite, point_of, vector_of, Dir, same_directions_equal, IsAt, MapVertex, is-at_one, normals-not_opposite, Complex as PlainComplex, IsEdge, Shows, SVertex, svertex_of, Vertex, vertex_of, EdgeEnd, line_order, IsEarlierSvertex, IsArriving, AreArriving, IsAfter, IsNextEnd, IsFrom, IsTo, AreJoined, dir-self}
use Rattle.law_geometry.specs.complex.Complexes.{Vertex as PlainVertex, Edge as PlainEdge}
use Rattle.law_geometry.proofs.complex.Joining.{svertex-edge}
use Rattle.nef_edges.proofs.Lines.{OnOneLine, tied-line, line-tied, StandsBetween, stands-between, line_total}
use Rattle.nef_edges.proofs.Rays.{ahead-normal, middle-between, to_opposite, from_opposite, opposites-same}
use Rattle.nef_space.proofs.Lists.{is-at_map, is-at_within, map-is_at}
use Rattle.law_geometry.proofs.near.Normals.{normal-kept}

-- ---- in a complex that shows a set a svertex that leads to later points is the lower end of an edge
pub partner : (s : Set) (C : PlainComplex) → Shows s C → (i a : ℕ) (v : PlainVertex) (u : MapVertex) → IsAt C.vertices i v → IsAt v.map.svertices a u → IsNormal u.dir → (e : PlainEdge) × IsFrom C.vertices i a e
partner s C S i a v u l m up = by (svertex-edge s C S i a v u l m)
  where
    -- an edge arrives from before
    higher : (e : PlainEdge) → IsEdge C.vertices e → e.high ≡ i → e.high_svertex ≡ a → ⊥
    higher e E h k =
        let w = is-at_one C.vertices i E.high_vertex v (subst (λ n. IsAt C.vertices n E.high_vertex) h E.is_high) l in
        let t = is-at_one v.map.svertices a E.high_end u (subst (λ (x : PlainVertex). IsAt x.map.svertices a E.high_end) w (subst (λ n. IsAt E.high_vertex.map.svertices n E.high_end) k E.arrives)) m in
        let n = ahead-normal E.low_vertex.point E.high_vertex.point E.low_end.dir (S.ordered e.low e.high E.low_vertex E.high_vertex E.upward E.is_low E.is_high) E.ahead in
        normals-not_opposite E.low_end.dir u.dir n up (subst (λ (x : MapVertex). IsOpposite E.low_end.dir x.dir) t E.back)

    by : (n : ℕ) × (e : PlainEdge) × IsAt C.edges n e × (((e.low ≡ i) × (e.low_svertex ≡ a)) ⊎ ((e.high ≡ i) × (e.high_svertex ≡ a))) → (e : PlainEdge) × IsFrom C.vertices i a e
    by (n, e, b, inl c) = (e, (S.edges.edges n e b, c.0, c.1))
    by (n, e, b, inr c) = absurd (higher e (S.edges.edges n e b) c.0 c.1)

-- one that leads to earlier points is the higher end
turned-normal : (d : Vector) → IsNormal d → IsNormal (opposite d) → ⊥
turned-normal d n m =
    let a = n.first in let b = m.first in
    let x : d.x ≡ pos 0 = omega (arith, ints, a, b) in let x' : neg_ℤ d.x ≡ pos 0 = omega (arith, ints, a, b) in
    let g = n.second x in let h = m.second x' in
    let y : d.y ≡ pos 0 = omega (arith, ints, g, h) in let y' : neg_ℤ d.y ≡ pos 0 = omega (arith, ints, g, h) in
    let i = n.third x y in let j = m.third x' y' in
    omega (arith, ints, i, j)

pub partner-back : (s : Set) (C : PlainComplex) → Shows s C → (j b : ℕ) (w : PlainVertex) (t : MapVertex) → IsAt C.vertices j w → IsAt w.map.svertices b t → IsNormal (opposite t.dir) → (e : PlainEdge) × IsTo C.vertices j b e
partner-back s C S j b w t l m down = by (svertex-edge s C S j b w t l m)
  where
    -- an edge leads on from there
    lower : (e : PlainEdge) → IsEdge C.vertices e → e.low ≡ j → e.low_svertex ≡ b → ⊥
    lower e E h k =
        let v = is-at_one C.vertices j E.low_vertex w (subst (λ n. IsAt C.vertices n E.low_vertex) h E.is_low) l in
        let u = is-at_one w.map.svertices b E.low_end t (subst (λ (x : PlainVertex). IsAt x.map.svertices b E.low_end) v (subst (λ n. IsAt E.low_vertex.map.svertices n E.low_end) k E.leaves)) m in
        let n = ahead-normal E.low_vertex.point E.high_vertex.point E.low_end.dir (S.ordered e.low e.high E.low_vertex E.high_vertex E.upward E.is_low E.is_high) E.ahead in
        turned-normal t.dir (subst (λ (x : MapVertex). IsNormal x.dir) u n) down

    by : (n : ℕ) × (e : PlainEdge) × IsAt C.edges n e × (((e.low ≡ j) × (e.low_svertex ≡ b)) ⊎ ((e.high ≡ j) × (e.high_svertex ≡ b))) → (e : PlainEdge) × IsTo C.vertices j b e
    by (n, e, a, inl c) = absurd (lower e (S.edges.edges n e a) c.0 c.1)
    by (n, e, a, inr c) = (e, (S.edges.edges n e a, c.0, c.1))

nat-greater : (x y : ℕ) → y < x → nat_cmp x y ≡ Greater
nat-greater x y h = by (nat_cmp x y) (ranked x y (nat_cmp x y) refl)
  where
    by : (o : Ordering) → MatchOrdering o (x < y) (x ≡ y) (y < x) → o ≡ Greater
    by Less m = absurd (omega (arith, m, h))
    by Equal m = absurd (omega (arith, m, h))
    by Greater m = refl

-- ---- the partner of an end
-- the end is a svertex along which an edge leads on to a later vertex
pub record IsLeading (vs : List Vertex) (h : EdgeEnd) : Type 0 where
  pub vertex : Vertex
  pub svertex : SVertex
  pub has_vertex : IsAt vs h.vertex vertex
  pub has_svertex : IsAt vertex.map.svertices h.svertex svertex
  pub point : h.point ≡ vertex.point
  pub dir : h.dir ≡ svertex.dir
  pub up : IsNormal (vector_of h.dir)

-- svertex k of vertex i as an end
pub leading : (vs : List Vertex) (i k : ℕ) (v : Vertex) (s : SVertex) (h : EdgeEnd) → IsAt vs i v → IsAt v.map.svertices k s → h.point ≡ v.point → h.dir ≡ s.dir → h.vertex ≡ i → h.svertex ≡ k → IsNormal (vector_of s.dir) → IsLeading vs h
leading vs i k v s h a b p d e f n = record {
  vertex = v;
  svertex = s;
  has_vertex = subst (λ m. IsAt vs m v) (sym e) a;
  has_svertex = subst (λ m. IsAt v.map.svertices m s) (sym f) b;
  point = p;
  dir = d;
  up = subst (λ (x : Dir). IsNormal (vector_of x)) (sym d) n;
}

-- the edge from the end f to the end h
pub record IsPair (vs : List Vertex) (f h : EdgeEnd) : Type 0 where
  pub edge : PlainEdge
  pub from : IsFrom (map vertex_of vs) f.vertex f.svertex edge
  pub high : edge.high ≡ h.vertex
  pub high_svertex : edge.high_svertex ≡ h.svertex

module _ (vs : List Vertex) (J : AreJoined (map vertex_of vs)) (hs : List EdgeEnd) (all : AreArriving vs (IsEarlierSvertex (length vs) 0) hs) (f : EdgeEnd) (F : IsLeading vs f) where
  abbrev plain : List PlainVertex
  plain = map vertex_of vs

  is-low : IsAt (map vertex_of vs) f.vertex (vertex_of F.vertex)
  is-low = map-is_at vertex_of vs f.vertex F.vertex F.has_vertex

  leaves : IsAt (vertex_of F.vertex).map.svertices f.svertex (svertex_of F.svertex)
  leaves = map-is_at svertex_of F.vertex.map.svertices f.svertex F.svertex F.has_svertex

  found : (e : PlainEdge) × IsFrom (map vertex_of vs) f.vertex f.svertex e
  found = J.joined f.vertex f.svertex (vertex_of F.vertex) (svertex_of F.svertex) is-low leaves (subst (λ (d : Dir). IsNormal (vector_of d)) F.dir F.up)

  abbrev edge : PlainEdge
  edge = found.0

  abbrev E : IsEdge (map vertex_of vs) found.0
  E = found.1.0

  low-is : E.low_vertex ≡ vertex_of F.vertex
  low-is = is-at_one (map vertex_of vs) f.vertex E.low_vertex (vertex_of F.vertex) (subst (λ n. IsAt (map vertex_of vs) n E.low_vertex) found.1.1 E.is_low) is-low

  end-is : E.low_end ≡ svertex_of F.svertex
  end-is = is-at_one (vertex_of F.vertex).map.svertices f.svertex E.low_end (svertex_of F.svertex)
      (subst (λ (x : PlainVertex). IsAt x.map.svertices f.svertex E.low_end) low-is (subst (λ n. IsAt E.low_vertex.map.svertices n E.low_end) found.1.2 E.leaves)) leaves

  -- the higher end as the program has it
  high : (w : Vertex) × IsAt vs edge.high w × (vertex_of w ≡ E.high_vertex)
  high = is-at_map vertex_of vs edge.high E.high_vertex E.is_high

  end : (t : SVertex) × IsAt high.0.map.svertices edge.high_svertex t × (svertex_of t ≡ E.high_end)
  end = is-at_map svertex_of high.0.map.svertices edge.high_svertex E.high_end (subst (λ (x : PlainVertex). IsAt x.map.svertices edge.high_svertex E.high_end) (sym high.2) E.arrives)

  along : SameDirection (vector_of f.dir) (opposite (vector_of end.0.dir))
  along = subst (λ (d : Dir). SameDirection (vector_of d) (opposite (vector_of end.0.dir))) (sym F.dir)
      (subst (λ (x : MapVertex). SameDirection x.dir (opposite (vector_of end.0.dir))) end-is (subst (λ (x : MapVertex). SameDirection E.low_end.dir (opposite x.dir)) (sym end.2) (to_opposite E.low_end.dir E.high_end.dir E.back)))

  -- it is an end that arrives, on the line of f
  met : (k : ℕ) × (g : EdgeEnd) × IsAt hs k g × (g.vertex ≡ edge.high) × (g.svertex ≡ edge.high_svertex)
  met = all.all edge.high edge.high_svertex high.0 end.0 high.1 end.1 (normal-kept (vector_of f.dir) (opposite (vector_of end.0.dir)) along F.up) (inl (is-at_within vs edge.high high.0 high.1))

  abbrev g : EdgeEnd
  g = met.1

  abbrev G : IsArriving vs met.1
  G = all.each met.0 met.1 met.2

  same-vertex : G.vertex ≡ high.0
  same-vertex = is-at_one vs edge.high G.vertex high.0 (subst (λ n. IsAt vs n G.vertex) met.3 G.has_vertex) high.1

  same-end : G.svertex ≡ end.0
  same-end = is-at_one high.0.map.svertices edge.high_svertex G.svertex end.0
      (subst (λ (x : Vertex). IsAt x.map.svertices edge.high_svertex G.svertex) same-vertex (subst (λ n. IsAt G.vertex.map.svertices n G.svertex) met.4 G.has_svertex)) end.1

  same-dir : f.dir ≡ g.dir
  same-dir = same_directions_equal f.dir g.dir (subst (SameDirection (vector_of f.dir)) (sym (G.back ∙ ap (λ (x : SVertex). opposite (vector_of x.dir)) same-end)) along)

  start-is : point_of f.point ≡ E.low_vertex.point
  start-is = ap point_of F.point ∙ ap (λ (x : PlainVertex). x.point) (sym low-is)

  stop-is : point_of g.point ≡ E.high_vertex.point
  stop-is = ap point_of (G.point ∙ ap (λ (x : Vertex). x.point) same-vertex) ∙ ap (λ (x : PlainVertex). x.point) high.2

  way-is : vector_of f.dir ≡ E.low_end.dir
  way-is = ap vector_of F.dir ∙ ap (λ (x : MapVertex). x.dir) (sym end-is)

  tied : line_order g f ≡ Equal
  tied = tied_back line_total f g (line-tied f g (record {
    same_dir = same-dir;
    level = subst (λ d. IsZero (cross (toward (point_of f.point) (point_of g.point)) d)) (sym way-is)
        (subst (λ p. IsZero (cross (toward p (point_of g.point)) E.low_end.dir)) (sym start-is)
        (subst (λ q. IsZero (cross (toward E.low_vertex.point q) E.low_end.dir)) (sym stop-is) E.ahead.parallel));
  }))

  upward : f.vertex < g.vertex
  upward = subst (λ n. f.vertex < n) (sym met.3) (subst (λ n. n < edge.high) found.1.1 E.upward)

  after : IsAfter f g
  after = ap (λ o. ordering_then o (nat_cmp g.vertex f.vertex)) tied ∙ nat-greater g.vertex f.vertex upward

  -- so that there is one after f
  pub some-after : (k : ℕ) × (h : EdgeEnd) × IsAt hs k h × IsAfter f h
  some-after = (met.0, met.1, met.2, after)

  -- and the first one is that end
  module _ (h : EdgeEnd) (N : IsNextEnd hs f h) where
    between : StandsBetween f h g
    between = stands-between f h g N.after (N.first met.0 g met.2 after) tied

    H : IsArriving vs h
    H = all.each N.listed.0 h N.listed.1

    line : OnOneLine f h
    line = tied-line f h (tied_back line_total h f between.line)

    is-vertex : IsAt (map vertex_of vs) h.vertex (vertex_of H.vertex)
    is-vertex = map-is_at vertex_of vs h.vertex H.vertex H.has_vertex

    not-between : h.vertex < g.vertex → ⊥
    not-between l =
        let p = E.low_vertex.point in let u = point_of H.vertex.point in let v = E.high_vertex.point in let d = E.low_end.dir in
        let low : IsAt (map vertex_of vs) f.vertex E.low_vertex = subst (IsAt (map vertex_of vs) f.vertex) (sym low-is) is-low in
        let level : IsZero (cross (toward p u) d) = subst (λ w. IsZero (cross (toward p u) w)) way-is
        (subst (λ q. IsZero (cross (toward q u) (vector_of f.dir))) start-is (subst (λ q. IsZero (cross (toward (point_of f.point) (point_of q)) (vector_of f.dir))) H.point line.level)) in
        E.first h.vertex (vertex_of H.vertex) is-vertex
        (middle-between p u v d (subst IsNormal way-is F.up) (J.ordered f.vertex h.vertex E.low_vertex (vertex_of H.vertex) between.after low is-vertex)
        (J.ordered h.vertex edge.high (vertex_of H.vertex) E.high_vertex (subst (λ n. h.vertex < n) met.3 l) is-vertex E.is_high) level E.ahead.parallel)

    is-high : edge.high ≡ h.vertex
    is-high = ⊎_elim (λ l. absurd (not-between l)) (λ l. sym met.3 ∙ (let b = between.before in omega arith)) (cases_lt h.vertex g.vertex)

    is-end : edge.high_svertex ≡ h.svertex
    is-end =
        let w = is-at_one vs edge.high H.vertex high.0 (subst (λ n. IsAt vs n H.vertex) (sym is-high) H.has_vertex) high.1 in
        let t = map-is_at svertex_of high.0.map.svertices h.svertex H.svertex (subst (λ (x : Vertex). IsAt x.map.svertices h.svertex H.svertex) w H.has_svertex) in
        let r = map-is_at svertex_of high.0.map.svertices edge.high_svertex end.0 end.1 in
        let d = vector_of f.dir in
        let back : SameDirection d (opposite (vector_of H.svertex.dir)) = subst (SameDirection d) (ap vector_of line.same_dir ∙ H.back) (dir-self d f.dir.some) in
        let same = opposites-same d (vector_of end.0.dir) (vector_of H.svertex.dir) (from_opposite d (vector_of end.0.dir) along) (from_opposite d (vector_of H.svertex.dir) back) in
        (J.shaped edge.high (vertex_of high.0) (map-is_at vertex_of vs edge.high high.0 high.1)).svertices_apart edge.high_svertex h.svertex (svertex_of end.0) (svertex_of H.svertex) r t same

    pub pair-is : IsPair vs f h
    pair-is = record { edge = edge; from = found.1; high = is-high; high_svertex = is-end }
