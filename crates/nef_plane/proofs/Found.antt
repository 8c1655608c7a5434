-- What a ray meets at a vertex, inside an edge, and first of all.
use Rattle.nef_plane.proofs.Prelude.{◌≡◌, ℕ, ◌<◌, length, refl, sym, ⊎_elim, ◌⊎◌, inl, inr, subst, pos, SpacePoint, Form, form_at, slope, normal_of, toward, SamePoint, IsAhead, IsBetween, Set, Vector, cross, IsZero, IsDirection, point_of, point-toward, between-inner, same-point_sym, IsAt, is-at_one, map-is_at, is-at_map, is-at_within, HasEnds, Shows, meets_vertex, meets_edge, Meets, IsFirstInPlane, plane-way, same-point_trans, Vertex, Edge, Complex, vertex_of, edge_of, complex_of, HoldsBoth, vertex-same, listed_edge, ends, apart, of-ends, one-crossing, held-between, Encounter, FromVertex, HasNoSvertex, IsOffEdges, AllHold, AtVertexNumber, AtEdgeNumber, AtVertexOrEdge, IsReachedEncounter, IsNearestMet, in-span, direction-right}
use Rattle.law_geometry.specs.complex.Complexes.{Vertex as PlainVertex, Edge as PlainEdge}
use Rattle.law_geometry.specs.complex.Skeleton.{PlaneMeet as PlainMeet}
use Rattle.nef_plane.proofs.Beside.{edge-or_end}
use Rattle.nef_plane.proofs.Crossed.{vertex-crossed, edge-along}
use Rattle.nef_plane.proofs.Nearest.{between-ahead}
use Rattle.nef_space.proofs.Elementary.{same-itself}

-- a point strictly between isn't the end
pub not-end : (p q r : SpacePoint) → IsBetween p q r → SamePoint q r → ⊥
not-end p q r b s = direction-right (toward p q) (toward q r) b (point-toward q r s)

pub both-same : (a b q : SpacePoint) → SamePoint a q → SamePoint b q → SamePoint a b
both-same a b q i j = same-point_trans a q b i (same-point_sym b q j)

pub from-vertex : (c : Complex) (k : ℕ) (v : Vertex) → IsAt c.vertices k v → (P : SpacePoint → Type 0) → P (point_of v.point) → FromVertex (complex_of c) k P
from-vertex c k v a P h x l = subst (λ (r : PlainVertex). P r.point) (is-at_one (complex_of c).vertices k (vertex_of v) x (map-is_at vertex_of c.vertices k v a) l) h

-- ---- a vertex
module _ (s : Set) (c : Complex) (S : Shows s (complex_of c)) (p : SpacePoint) (d : Vector) (some : IsDirection d) (k : ℕ) (v : Vertex) (a : IsAt c.vertices k v) where
  abbrev y : SpacePoint
  y = point_of v.point

  listed : IsAt (complex_of c).vertices k (vertex_of v)
  listed = map-is_at vertex_of c.vertices k v a

  -- the ray doesn't meet it, where all planes that hold it would be along the ray
  pub vertex-none : ((q : SpacePoint) → IsAhead p d q → SamePoint y q → AllHold c.carriers d y y) → (m : PlainMeet) (q : SpacePoint) → IsAhead p d q → AtVertexNumber (complex_of c) k m q → ⊥
  vertex-none N m q w x = vertex-crossed s c S d some k (vertex_of v) listed (N q w (vertex-same c k v a q x.1))

  pub vertex-some : (x : Encounter) → x.meet ≡ meets_vertex k → SamePoint y x.at.place → IsAhead p d x.at.place → IsReachedEncounter p d x → IsNearestMet p d (AtVertexNumber (complex_of c) k) x
  vertex-some x e same w r = record {
    reached = r;
    ahead = w;
    met = (e, (vertex_of v, listed, same));
    first = λ n q b m. not-end p q x.at.place b (both-same q x.at.place y (same-point_sym y q (vertex-same c k v a q m.1)) (same-point_sym y x.at.place same));
  }

-- ---- an edge
module _ (s : Set) (c : Complex) (S : Shows s (complex_of c)) (h : Form) (p : SpacePoint) (d : Vector) (some : IsDirection d) (k : ℕ) (e : Edge) (u v : Vertex) (l : IsAt c.edges k e) (i : IsAt c.vertices e.low u) (j : IsAt c.vertices e.high v) where
  abbrev a : SpacePoint
  a = point_of u.point

  abbrev b : SpacePoint
  b = point_of v.point

  E : HasEnds (complex_of c) (edge_of e) (vertex_of u) (vertex_of v)
  E = ends s c S k e u v l i j

  F : IsAt (complex_of c).edges k (edge_of e)
  F = listed_edge s c S k e u v l i j

  -- what is inside the edge is so for its ends
  inside : (m : PlainMeet) (q : SpacePoint) → AtEdgeNumber (complex_of c) h d k m q → IsBetween a q b × HoldsBoth h a b × (IsZero (cross (toward a b) d) → ⊥)
  inside m q (o, f, x, z, g, H, w, n, t) = of-ends s c S k e u v l i j (λ r t. IsBetween r q t × HoldsBoth h r t × (IsZero (cross (toward r t) d) → ⊥)) f x z g H (w, n, t)

  -- the ray doesn't meet it, where all planes that hold it would be along the ray
  pub edge-none : ((q : SpacePoint) → IsAhead p d q → IsBetween a q b → HoldsBoth h a b → AllHold c.carriers d a b) → (m : PlainMeet) (q : SpacePoint) → IsAhead p d q → AtEdgeNumber (complex_of c) h d k m q → ⊥
  edge-none N m q w x =
      let r = inside m q x in
      r.2 (edge-along s c S k (edge_of e) (vertex_of u) (vertex_of v) F E (apart s c S k e u v l i j) d (N q w r.0 r.1))

  module _ (x : Encounter) (g : Form) (G : HoldsBoth g a b) (passes : slope g d ≡ pos 0 → ⊥) (m : IsBetween a x.at.place b) (w : IsAhead p d x.at.place) where
    not-along : IsZero (cross (toward a b) d) → ⊥
    not-along z = passes (in-span (normal_of g) (toward a b) d (apart s c S k e u v l i j) z (plane-way g a b G.0 G.1))

    pub edge-some : x.meet ≡ meets_edge k → HoldsBoth h a b → IsReachedEncounter p d x → IsNearestMet p d (AtEdgeNumber (complex_of c) h d k) x
    edge-some o H r = record {
      reached = r;
      ahead = w;
      met = (o, edge_of e, vertex_of u, vertex_of v, F, E, m, H, not-along);
      first = λ n q t f.
          let z = inside n q f in
          not-end p q x.at.place t (one-crossing g d p q x.at.place (between-ahead p q x.at.place d t w).parallel w.parallel (held-between g a b q z.0 G, held-between g a b x.at.place m G) passes);
    }

-- ---- all
abbrev pub MeetsAny : Complex → Form → Vector → PlainMeet → SpacePoint → Type 0
MeetsAny c h d m q = AtVertexOrEdge (complex_of c) h d m q

module _ (s : Set) (c : Complex) (S : Shows s (complex_of c)) (h : Form) (p : SpacePoint) (d : Vector) (some : IsDirection d) (off : IsOffEdges (complex_of c) h p) (no_svertex : HasNoSvertex (complex_of c) p d) where
  abbrev Sooner : SpacePoint → Type 0
  Sooner q = (j : ℕ) × (x : PlainVertex) × IsAt (complex_of c).vertices j x × IsBetween p x.point q

  -- what is met is a vertex or an edge that isn't along the ray, or lies past a vertex
  met-as : (m : PlainMeet) (q : SpacePoint) → IsAhead p d q → Meets (complex_of c) h m q → MeetsAny c h d m q ⊎ Sooner q
  met-as (meets_vertex k) q w x = inl (inl (k, (refl, x)))
  met-as (meets_edge k) q w ((e, v, x, a, H, b), (f, t, z, l, K, i, j)) =
      let eq = is-at_one (complex_of c).edges k f e l a in
      let first = is-at_one (complex_of c).vertices e.low t v (subst (λ (r : PlainEdge). IsAt (complex_of c).vertices r.low t) eq K.low) H.low in
      let second = is-at_one (complex_of c).vertices e.high z x (subst (λ (r : PlainEdge). IsAt (complex_of c).vertices r.high z) eq K.high) H.high in
      let n : form_at h v.point ≡ pos 0 = subst (λ (r : PlainVertex). form_at h r.point ≡ pos 0) first i in
      let o : form_at h x.point ≡ pos 0 = subst (λ (r : PlainVertex). form_at h r.point ≡ pos 0) second j in
      ⊎_elim (λ r. inl (inr (k, r))) (λ r. inr r) (edge-or_end (complex_of c) h p d some no_svertex s S off k e v x q a H b (n, o) w)

  pub first-none : ((m : PlainMeet) (q : SpacePoint) → IsAhead p d q → MeetsAny c h d m q → ⊥) → (m : PlainMeet) (q : SpacePoint) → IsAhead p d q → Meets (complex_of c) h m q → ⊥
  first-none N m q w x = ⊎_elim (N m q w)
      (λ ((j, y, l, b) : Sooner q). N (meets_vertex j) y.point (between-ahead p y.point q d b w) (inl (j, (refl, (y, l, same-itself y.point))))) (met-as m q w x)

  pub first-some : (r : Encounter) → IsNearestMet p d (MeetsAny c h d) r → IsFirstInPlane (complex_of c) h p d r.meet
  first-some r N = record {
    place = r.at.place;
    ahead = N.ahead;
    meets = ⊎_elim
        (λ ((k, (e, x)) : (k : ℕ) × AtVertexNumber (complex_of c) k r.meet r.at.place). subst (λ (m : PlainMeet). Meets (complex_of c) h m r.at.place) (sym e) x)
        (λ ((k, (o, e, v, w, a, H, b, i, n)) : (k : ℕ) × AtEdgeNumber (complex_of c) h d k r.meet r.at.place).
        subst (λ (m : PlainMeet). Meets (complex_of c) h m r.at.place) (sym o) ((e, v, w, a, H, b), (e, v, w, a, H, i.0, i.1))) N.met;
    first = λ q n b x. ⊎_elim (N.first n q b)
        (λ ((j, y, l, t) : Sooner q). N.first (meets_vertex j) y.point (between-inner p q r.at.place y.point b t) (inl (j, (refl, (y, l, same-itself y.point)))))
        (met-as n q (between-ahead p q r.at.place d b N.ahead) x);
  }

-- ---- numbers of what is met
pub vertex-within : (c : Complex) (k : ℕ) (m : PlainMeet) (q : SpacePoint) → AtVertexNumber (complex_of c) k m q → k < length c.vertices
vertex-within c k m q (e, (x, l, o)) = let v = is-at_map vertex_of c.vertices k x l in is-at_within c.vertices k v.0 v.1
