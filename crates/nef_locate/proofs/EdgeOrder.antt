-- A point of an edge comes between the edge's ends in the order of vertices, and what comes between on its line lies on it.
use Rattle.nef_locate.proofs.Prelude.{◌≡◌, ℕ, ◌+◌, ◌<◌, ◌≤◌, sym, pos, Bool, IsTrue, ◌↔◌, List, arith, ⊎_elim, subst, eq-or-lt_of_le, cases_lt, IsAt, SpacePoint, Form, form_at, toward, SamePoint, IsBetween, IsPointBelow, Set, IsZero, cross, form_of, point_of, Point, point_below-same, same-point_below, point_below-apart, same-point_sym, map-is_at, is-at_map, is-at_one, Shows, IsVertexPoint, IsEdgePoint, aligned, cross-back, plane-way, between-way, Edge, Complex, edge_of, vertex_of, complex_of, AreBelow, AreAbove, EdgeLiesIn, AreNumbersWith, EndBelow, apart, edge-inside, ends, listed_edge, vertex-same, held-between, AllThrough, edge-along, lies, lying-ends, level-same_point, Span, AreAlone, IsInSpan, IsNarrower, span-between, PartsOn, AreThroughEnds, cross-turned, SameDirection-turned}
use Rattle.law_geometry.proofs.sphere.Compare.{normals-same}
use Rattle.nef_complex.specs.declared.complex.Vertex.{Vertex}
use Rattle.nef_complex.proofs.Rising.{BeginFrom}
use Rattle.nef_conn.proofs.Lexical.{normal-below}
use Rattle.law_geometry.proofs.near.PointOrder.{point_below-one_way}
use Rattle.law_geometry.proofs.near.Normals.{normal-kept, toward-normal}
use Rattle.nef_space.proofs.Elementary.{same-itself}

-- a point strictly between two others comes between them
pub between-order : (p y q : SpacePoint) → IsPointBelow p q → IsBetween p y q → IsPointBelow p y × IsPointBelow y q
between-order p y q h b =
    let n = normal-kept (toward p q) (toward p y) (SameDirection-turned (toward p y) (toward p q) (between-way p y q b)) (toward-normal p q h) in
    (normal-below p y n, normal-below y q (normal-kept (toward p y) (toward y q) b n))

module _ (s : Set) (c : Complex) (S : Shows s (complex_of c)) (k : ℕ) (e : Edge) (u v : Vertex) (l : IsAt c.edges k e) (i : IsAt c.vertices e.low u) (j : IsAt c.vertices e.high v) where
  abbrev low : SpacePoint
  low = point_of u.point

  abbrev high : SpacePoint
  high = point_of v.point

  ends-order : IsPointBelow low high
  ends-order =
      let E = S.edges.edges k (edge_of e) (map-is_at edge_of c.edges k e l) in
      S.ordered e.low e.high (vertex_of u) (vertex_of v) E.upward (map-is_at vertex_of c.vertices e.low u i) (map-is_at vertex_of c.vertices e.high v j)

  -- a point that lies on the edge comes between its ends
  pub edge-order : (p y : SpacePoint) → SamePoint y p → IsEdgePoint (complex_of c) k y → IsPointBelow low p × IsPointBelow p high
  edge-order p y o x =
      let b = between-order low y high ends-order (edge-inside s c S k e u v l i j y x) in
      (point_below-same low y p b.0 o, same-point_below p y high (same-point_sym y p o) b.1)

  -- so where the vertices of a plane that holds the edge are parted at number n, the lower end has a smaller number and the upper one hasn't
  pub edge-parted : (h : Form) (y : SpacePoint) (n : ℕ) → PartsOn c.vertices h y n → form_at h low ≡ pos 0 → form_at h high ≡ pos 0 → IsEdgePoint (complex_of c) k y → (e.low < n) × (n ≤ e.high)
  edge-parted h y n P f g x =
      let b = edge-order y y (same-itself y) x in (
        ⊎_elim (λ m. m) (λ m. absurd (point_below-one_way low y b.0 (P.after e.low u m i f))) (cases_lt e.low n),
        ⊎_elim (λ m. absurd (point_below-one_way y high b.1 (P.before e.high v m j g))) (λ m. m) (cases_lt e.high n),
      )

  -- and a point of the edge's line that comes between its ends lies on the edge
  pub line-edge : (y : SpacePoint) → IsPointBelow low y → IsPointBelow y high → AllThrough c.carriers low high y → IsEdgePoint (complex_of c) k y
  line-edge y g h T = (edge_of e, vertex_of u, vertex_of v, listed, ends s c S k e u v l i j, normals-same (toward low y) (toward y high) (toward-normal low y g) (toward-normal y high h) turned)
    where
      listed : IsAt (complex_of c).edges k (edge_of e)
      listed = listed_edge s c S k e u v l i j

      line : IsZero (cross (toward low high) (toward low y))
      line = edge-along s c S k (edge_of e) (vertex_of u) (vertex_of v) listed (ends s c S k e u v l i j) (apart s c S k e u v l i j) (toward low y) (λ m f o H. plane-way (form_of f) low y H.0 (T m f o H))

      turned : IsZero (cross (toward low y) (toward y high))
      turned = cross-back (toward low y) high y (aligned low y high (cross-turned (toward low high) (toward low y) line))

  -- what holds both ends holds a point of the edge
  pub edge-through : (y : SpacePoint) → IsEdgePoint (complex_of c) k y → AllThrough c.carriers low high y
  edge-through y x = λ g f o H. held-between (form_of f) low high y (edge-inside s c S k e u v l i j y x) H

  -- a span as wide as those of the ends holds it too
  pub edge-spanned : (ss : List Span) → AreAlone c.vertices ss → (a b t : Span) → IsAt ss e.low a → IsAt ss e.high b → IsNarrower a t → IsNarrower b t → (y : SpacePoint) → IsEdgePoint (complex_of c) k y → IsInSpan t y
  edge-spanned ss A a b t o r m n y x = span-between a b t low y high (edge-inside s c S k e u v l i j y x) (A.each e.low u a i o) (A.each e.high v b j r) m n

  -- so it does where the numbers of the plane's vertices tell that it comes between
  pub parted-edge : (h : Form) (y : SpacePoint) (n : ℕ) → PartsOn c.vertices h y n → form_at h low ≡ pos 0 → form_at h high ≡ pos 0 → e.low < n → n ≤ e.high → AllThrough c.carriers low high y → IsEdgePoint (complex_of c) k y
  parted-edge h y n P f g m r T = line-edge y (P.before e.low u m i f) (P.after e.high v r j g) T

-- ---- an edge alone
module _ (s : Set) (c : Complex) (S : Shows s (complex_of c)) (k : ℕ) (e : Edge) (a : IsAt c.edges k e) where
  l : IsAt c.edges k e
  l = a

  record HasBoth : Type 0 where
    pub low : Vertex
    pub high : Vertex
    pub low_at : IsAt c.vertices e.low low
    pub high_at : IsAt c.vertices e.high high

  both : HasBoth
  both =
      let E = S.edges.edges k (edge_of e) (map-is_at edge_of c.edges k e l) in
      let u = is-at_map vertex_of c.vertices e.low E.low_vertex E.is_low in let v = is-at_map vertex_of c.vertices e.high E.high_vertex E.is_high in
      record { low = u.0; high = v.0; low_at = u.1; high_at = v.1 }

  -- a span as wide as those of its ends holds the points of the edge
  pub told-spanned : (ss : List Span) → AreAlone c.vertices ss → (x z t : Span) → IsAt ss e.low x → IsAt ss e.high z → IsNarrower x t → IsNarrower z t → (y : SpacePoint) → IsEdgePoint (complex_of c) k y → IsInSpan t y
  told-spanned = edge-spanned s c S k e both.low both.high l both.low_at both.high_at

  -- and what holds both ends holds these points
  pub told-line : (b : Bool) (y : SpacePoint)
      → ((e : Edge) (u v : Vertex) → IsAt c.edges k e → IsAt c.vertices e.low u → IsAt c.vertices e.high v → (IsTrue b ↔ AllThrough c.carriers (point_of u.point) (point_of v.point) y))
      → IsEdgePoint (complex_of c) k y → IsTrue b
  told-line b y line x =
      (line e both.low both.high a both.low_at both.high_at).1 (edge-through s c S k e both.low both.high l both.low_at both.high_at y x)

-- such a point is no vertex
pub parts-off : (c : Complex) (h : Form) (y : SpacePoint) (n : ℕ) → form_at h y ≡ pos 0 → PartsOn c.vertices h y n → (k : ℕ) → IsVertexPoint (complex_of c) k y → ⊥
parts-off c h y n on P k (x, a, e) =
    let l = lies c h k x a (level-same_point h y x.point (same-point_sym x.point y e) on) in
    let o = vertex-same c k l.0 l.1 y (x, a, e) in
    ⊎_elim
    (λ m. point_below-apart (point_of l.0.point) y (P.before k l.0 m l.1 l.2) o)
    (λ m. point_below-apart y (point_of l.0.point) (P.after k l.0 m l.1 l.2) (same-point_sym (point_of l.0.point) y o))
    (cases_lt k n)

-- a point that parts all vertices parts those of each plane
pub parts-all : (c : Complex) (p : Point) (y : SpacePoint) (n : ℕ) → SamePoint y (point_of p) → AreBelow c.vertices n p → AreAbove c.vertices n p → (h : Form) → PartsOn c.vertices h y n
parts-all c p y n o below above h = record {
  before = λ j v l e f. point_below-same (point_of v.point) (point_of p) y (below j v l e) (same-point_sym y (point_of p) o);
  after = λ j v l e f. same-point_below y (point_of p) (point_of v.point) o (above j v l e);
}

-- ---- edges in a plane
module _ (s : Set) (c : Complex) (S : Shows s (complex_of c)) (h : Form) (y : SpacePoint) (n : ℕ) (P : PartsOn c.vertices h y n) where
  -- an edge in it with the point on it has its lower end among the first vertices, and not its upper one
  pub number-parted : (k : ℕ) (e : Edge) → IsAt c.edges k e → EdgeLiesIn c.vertices c.edges h k → IsEdgePoint (complex_of c) k y → (e.low < n) × (n ≤ e.high)
  number-parted k e a L x =
      let l = a in
      let E = lying-ends c.vertices c.edges h k e a L in
      edge-parted s c S k e E.0.0 E.1.0 l E.0.1 E.1.1 h y n P E.0.2 E.1.2 x

  -- where the ends' numbers tell that, the edge has the point on it if its line does
  pub number-edge : (k : ℕ) (e : Edge) → IsAt c.edges k e → EdgeLiesIn c.vertices c.edges h k → e.low < n → n ≤ e.high → AreThroughEnds c k y → IsEdgePoint (complex_of c) k y
  number-edge k e a L m r line =
      let l = a in
      let E = lying-ends c.vertices c.edges h k e a L in
      let u = E.0.0 in let v = E.1.0 in
      parted-edge s c S k e u v l E.0.1 E.1.1 h y n P E.0.2 E.1.2 m r (line e u v a E.0.1 E.1.1)

  -- from a place of a row of them on the point lies on none
  abbrev pub NoneFrom : List ℕ → ℕ → Type 0
  NoneFrom ns m = (j k : ℕ) → m ≤ j → IsAt ns j k → IsEdgePoint (complex_of c) k y → ⊥

  module _ (ns : List ℕ) (N : AreNumbersWith (EdgeLiesIn c.vertices c.edges h) ns) where
    -- it lies on none that doesn't begin among the first vertices, nor on one that ends among them
    pub none-beyond : (count : ℕ) → BeginFrom c.edges ns n count → NoneFrom ns count
    none-beyond count B j k l a x = let L = N.each j k a in let z = number-parted k L.0 L.1 L x in let w = z.0 in let b = B j k L.0 l a L.1 in omega (arith, w, b)

    pub none-below : (first past : ℕ) → EndBelow c.edges ns first past n → NoneFrom ns past → NoneFrom ns first
    none-below first past E F j k l a x = ⊎_elim
        (λ t. let L = N.each j k a in let z = number-parted k L.0 L.1 L x in let w = z.1 in let b = E j k L.0 l t a L.1 in omega (arith, w, b)) (λ t. F j k t a x) (cases_lt j past)

    pub none-more : (i m k : ℕ) → m ≡ i + 1 → IsAt ns i k → (IsEdgePoint (complex_of c) k y → ⊥) → NoneFrom ns m → NoneFrom ns i
    none-more i m k e a off F j r l b x = ⊎_elim
        (λ t. off (subst (λ z. IsEdgePoint (complex_of c) z y) (is-at_one ns i r k (subst (λ z. IsAt ns z r) (sym t) b) a) x)) (λ t. F j r (omega (arith, t, e)) b x)
        (eq-or-lt_of_le {n = i} {m = j} l)
