-- Two carriers hold each edge, and where planes cut edges.
use Rattle.nef_cand.proofs.Prelude.{◌≡◌, ℕ, pos, List, Option, Some, None, IsNone, IfSome, refl, sym, subst, ◌↔◌, MatchOption, Lies, nought-is, Flat, SpacePoint, Form, form_at, normal_of, toward, SamePoint, IsBetween, Set, IsDirection, HasDependentNormals, IsOnlyCommon, point_of, form_of, HasOppositeSigns, Plane, Point, carriers, EdgeSupport, start, start-between, edge-support, IsAt, is-at_one, map-is_at, is-at_map, HasEnds, SamePlane, IsVertexPoint, IsEdgePoint, edge-points, edge-way, plane-turned, plane-point, Vertex, Edge, Complex, vertex_of, edge_of, complex_of, ShowsSet, through-both, listed_edge, ends, apart, Named, Operand, IsVertexOf, IsCutBy, IsNamedIn, AreInOrder, HoldsBoth, IsCutBetween, CutsEdge, AddsPoints, parallel-both, map, IsBelow, form_numbers}
use Rattle.law_geometry.specs.complex.Complexes.{Vertex as PlainVertex, Edge as PlainEdge}
use Rattle.law_geometry.specs.complex.Complexes.{Complex as PlainComplex}
use Rattle.nef_cand.specs.declared.named.CandidateName.TheVariants as name
use Rattle.nef_cand.proofs.Adding.{adds-as, AnyAt}
use Rattle.nef_cand.proofs.Crossing.{never-dependent, meet-crosses, never-crosses}
use Rattle.nef_cand.proofs.EdgeLines.{AreHeldByTwo}
use Rattle.nef_cand.proofs.Planes.{IsLineThrough}
use Rattle.law_geometry.proofs.complex.Planes.{same-parallel}
use Rattle.nef_space.proofs.Elementary.{same-itself}
use Rattle.nef_smap.proofs.SortedOnce.{map-in_order}
use Rattle.law_geometry.specs.complex.Shows.{Carriers}

-- ---- the planes of a segment

module _ (s : Set) (c : Complex) (S : ShowsSet s c) (k : ℕ) (e : Edge) (a : IsAt c.edges k e) where
  module _ (u v : Vertex) (b : IsAt c.vertices e.low u) (d : IsAt c.vertices e.high v) where
    listed : IsAt (complex_of c).edges k (edge_of e)
    listed = listed_edge s c S.shows k e u v a b d

    both : HasEnds (complex_of c) (edge_of e) (vertex_of u) (vertex_of v)
    both = ends s c S.shows k e u v a b d

    way : IsDirection (toward (point_of u.point) (point_of v.point))
    way = apart s c S.shows k e u v a b d

    support : EdgeSupport s (start 1 (point_of u.point) (point_of v.point))
    support = edge-support s (start 1 (point_of u.point) (point_of v.point))
        (edge-points s (complex_of c) k (edge_of e) (vertex_of u) (vertex_of v) (start 1 (point_of u.point) (point_of v.point)) S.shows listed both (start-between 1 (point_of u.point) (point_of v.point) way)).0

    along : Flat s (start 1 (point_of u.point) (point_of v.point)) (toward (point_of u.point) (point_of v.point))
    along =
        let E = edge-points s (complex_of c) k (edge_of e) (vertex_of u) (vertex_of v) (start 1 (point_of u.point) (point_of v.point)) S.shows listed both (start-between 1 (point_of u.point) (point_of v.point) way) in
        (E.1 (toward (point_of u.point) (point_of v.point))).1 (edge-way s (complex_of c) k (edge_of e) (vertex_of u) (vertex_of v) S.shows listed both)

    -- a carrier of the set is a plane of the complex
    plane-of : (f : Form) → Lies (carriers s) f → HoldsBoth f (point_of u.point) (point_of v.point) → (i : ℕ) × (h : Plane) × IsAt c.carriers i h × SamePlane (form_of h) f × HoldsBoth (form_of h) (point_of u.point) (point_of v.point)
    plane-of f l (x, y) =
        let r = S.shows.carriers.all f l in
        let h = is-at_map form_of c.carriers r.0 r.1 r.2 in
        let same : SamePlane (form_of h.0) f = subst (λ (g : Form). SamePlane g f) (sym h.2) r.3 in
        (r.0, h.0, h.1, same, (plane-point f (form_of h.0) (point_of u.point) (plane-turned (form_of h.0) f same) x, plane-point f (form_of h.0) (point_of v.point) (plane-turned (form_of h.0) f same) y))

    pub edge-held : AreHeldByTwo c.carriers (point_of u.point) (point_of v.point)
    edge-held =
        let E = support in
        let z = (E.flat_in (toward (point_of u.point) (point_of v.point))).0 along in
        let g = plane-of E.first E.first_listed (through-both E.first (point_of u.point) (point_of v.point) (nought-is (form_at E.first (start 1 (point_of u.point) (point_of v.point))) E.first_passes) z.0) in
        let h = plane-of E.second E.second_listed (through-both E.second (point_of u.point) (point_of v.point) (nought-is (form_at E.second (start 1 (point_of u.point) (point_of v.point))) E.second_passes) z.1) in (
          g.0,
          h.0,
          g.1,
          h.1,
          g.2,
          h.2,
          g.4,
          h.4,
          λ o. E.independent (parallel-both (normal_of (form_of g.1)) (normal_of E.first) (normal_of E.second) g.3.is_plane (same-parallel (form_of g.1) E.first g.3)
              (same-parallel (form_of g.1) E.second (subst (λ (r : Plane). SamePlane (form_of r) E.second) (sym o) h.3))),
        )

-- ---- the cuts of an edge
-- a point where a plane crosses the edge is named by it
pub edge-named : (o : Operand) (c : Complex) (h : Plane) (k : ℕ) (e : Edge) (u v : Vertex) → IsAt c.edges k e → IsAt c.vertices e.low u → IsAt c.vertices e.high v
    → (p : Point) → IsCutBetween (form_of h) (point_of u.point) (point_of v.point) (point_of p) → IsNamedIn o (complex_of c) (record { point = p; name = name.Edge o k })
edge-named o c h k e u v a f g p x = λ D E same. subst (λ (C : PlainComplex). IsEdgePoint C k (point_of p)) (sym same)
    (edge_of e, vertex_of u, vertex_of v, map-is_at edge_of c.edges k e a, record { low = map-is_at vertex_of c.vertices e.low u f; high = map-is_at vertex_of c.vertices e.high v g }, x.between)

pub edge-crosses : (c : Complex) (h : Plane) (e : Edge) (u v : Vertex) → IsAt c.vertices e.low u → IsAt c.vertices e.high v → (y : SpacePoint) → CutsEdge c h e y → IsCutBetween (form_of h) (point_of u.point) (point_of v.point) y
edge-crosses c h e u v a b y (r, t, f, g, x) =
    subst (λ (w : Vertex). IsCutBetween (form_of h) (point_of w.point) (point_of v.point) y) (is-at_one c.vertices e.low r u f a)
    (subst (λ (w : Vertex). IsCutBetween (form_of h) (point_of r.point) (point_of w.point) y) (is-at_one c.vertices e.high t v g b) x)

-- what is answered of one edge and one plane
abbrev pub IsCrossingOf : Complex → Edge → Plane → Option Point → Type 0
IsCrossingOf c e h o = MatchOption o ((y : SpacePoint) → CutsEdge c h e y → ⊥) (λ m. CutsEdge c h e (point_of m) × ((y : SpacePoint) → CutsEdge c h e y → SamePoint (point_of m) y))

module _ (c : Complex) (h : Plane) (e : Edge) (u v : Vertex) (a : IsAt c.vertices e.low u) (b : IsAt c.vertices e.high v) where
  pub uncrossed : (HasOppositeSigns (form_at (form_of h) (point_of u.point)) (form_at (form_of h) (point_of v.point)) → ⊥) → IsCrossingOf c e h None
  uncrossed n = λ y d. never-crosses (form_of h) (point_of u.point) (point_of v.point) n y (edge-crosses c h e u v a b y d)

  -- the point that the plane has in common with two that hold the edge
  pub crossed : (f g : Plane) → IsLineThrough f g (point_of u.point) (point_of v.point) → HasOppositeSigns (form_at (form_of h) (point_of u.point)) (form_at (form_of h) (point_of v.point))
      → (m : Option Point) → (IsNone m ↔ HasDependentNormals (form_of f) (form_of g) (form_of h)) → IfSome m (λ p. IsOnlyCommon (form_of f) (form_of g) (form_of h) (point_of p)) → IsCrossingOf c e h m
  crossed f g L s None n met = absurd (never-dependent f g h (point_of u.point) (point_of v.point) L s (n.0 refl))
  crossed f g L s (Some p) n met = let o = meet-crosses f g h (point_of u.point) (point_of v.point) L s (point_of p) met in ((u, v, a, b, o.0), λ y d. o.1 y (edge-crosses c h e u v a b y d))

-- the answer of an edge is that of each edge with its number
pub crossing-same : (c : Complex) (h : Plane) (k : ℕ) (e f : Edge) (o : Option Point) → IsAt c.edges k e → IsAt c.edges k f → IsCrossingOf c e h o → IsCrossingOf c f h o
crossing-same c h k e f o a b = subst (λ (g : Edge). IsCrossingOf c g h o) (is-at_one c.edges k e f a b)

-- a plane cuts the complex where it crosses one of its edges
pub some-cut : (c : Complex) (h : Plane) (y : SpacePoint) → AnyAt (CutsEdge c h) c.edges y → IsCutBy (complex_of c) (form_of h) y
some-cut c h y (k, e, a, (u, v, f, g, x)) =
    (k, edge_of e, vertex_of u, vertex_of v, map-is_at edge_of c.edges k e a, record { low = map-is_at vertex_of c.vertices e.low u f; high = map-is_at vertex_of c.vertices e.high v g }, x.between, x.on, x.parts)

pub cut-some : (c : Complex) (h : Plane) (y : SpacePoint) → IsCutBy (complex_of c) (form_of h) y → AnyAt (CutsEdge c h) c.edges y
cut-some c h y (k, e, v, w, a, H, m, o, n) =
    let d = is-at_map edge_of c.edges k e a in
    from y k d.0 d.1 v w (subst (λ (r : PlainEdge). HasEnds (complex_of c) r v w) (sym d.2) H) m o n
  where
    from : (y : SpacePoint) (k : ℕ) (e : Edge) → IsAt c.edges k e → (v w : PlainVertex) → HasEnds (complex_of c) (edge_of e) v w → IsBetween v.point y w.point
        → form_at (form_of h) y ≡ pos 0 → (HoldsBoth (form_of h) v.point w.point → ⊥) → AnyAt (CutsEdge c h) c.edges y
    from y k e a v w H m o n =
        let u = is-at_map vertex_of c.vertices e.low v H.low in
        let t = is-at_map vertex_of c.vertices e.high w H.high in (
          k,
          e,
          a,
          (
            u.0,
            t.0,
            u.1,
            t.1,
            subst (λ (r : PlainVertex). IsCutBetween (form_of h) r.point (point_of t.0.point) y) (sym u.2)
                (subst (λ (r : PlainVertex). IsCutBetween (form_of h) v.point r.point y) (sym t.2) (record { between = m; on = o; parts = n })),
          ),
        )

pub cut-named : (o : Operand) (c : Complex) (h : Plane) (k : ℕ) (e : Edge) → IsAt c.edges k e → (p : Point) → CutsEdge c h e (point_of p) → IsNamedIn o (complex_of c) (record { point = p; name = name.Edge o k })
cut-named o c h k e a p (u, v, f, g, t) = edge-named o c h k e u v a f g p t

pub cuts-all : (c : Complex) (h : Plane) (N : Named → Type 0) (ps qs : List Named) → AddsPoints (AnyAt (CutsEdge c h) c.edges) N ps qs → AddsPoints (IsCutBy (complex_of c) (form_of h)) N ps qs
cuts-all c h N ps qs = adds-as (AnyAt (CutsEdge c h) c.edges) (AnyAt (CutsEdge c h) c.edges) (IsCutBy (complex_of c) (form_of h)) (IsCutBy (complex_of c) (form_of h)) N ps qs (some-cut c h) (cut-some c h)

-- ---- the vertices
pub vertex-named : (o : Operand) (c : Complex) (k : ℕ) (u : Vertex) → IsAt c.vertices k u → IsNamedIn o (complex_of c) (record { point = u.point; name = name.Vertex o k })
vertex-named o c k u a = λ D E same. subst (λ (C : PlainComplex). IsVertexPoint C k (point_of u.point)) (sym same) (vertex_of u, map-is_at vertex_of c.vertices k u a, same-itself (point_of u.point))

pub vertices-all : (c : Complex) (N : Named → Type 0) (ps qs : List Named) → AddsPoints (AnyAt (λ (u : Vertex) (y : SpacePoint). SamePoint (point_of u.point) y) c.vertices) N ps qs → AddsPoints (IsVertexOf (complex_of c)) N ps qs
vertices-all c N ps qs =
    adds-as (AnyAt (λ (u : Vertex) (y : SpacePoint). SamePoint (point_of u.point) y) c.vertices) (AnyAt (λ (u : Vertex) (y : SpacePoint). SamePoint (point_of u.point) y) c.vertices) (IsVertexOf (complex_of c)) (IsVertexOf (complex_of c)) N ps qs
    (λ y a. (a.0, (vertex_of a.1, map-is_at vertex_of c.vertices a.0 a.1 a.2, a.3)))
    (λ y a. let v = is-at_map vertex_of c.vertices a.0 a.1.0 a.1.1 in (a.0, v.0, v.1, subst (λ (r : PlainVertex). SamePoint r.point y) (sym v.2) a.1.2))

-- ---- the carriers, once each
pub planes-ordered : (s : Set) (hs : List Plane) → Carriers s (map form_of hs) → AreInOrder hs
planes-ordered s hs C = map-in_order (λ g h. IsBelow (form_numbers g) (form_numbers h)) form_of hs C.ordered

pub carriers-ordered : (s : Set) (c : Complex) → ShowsSet s c → AreInOrder c.carriers
carriers-ordered s c S = planes-ordered s c.carriers S.shows.carriers
