-- Corners by the items and arcs that were found.
use Rattle.nef_locate.proofs.Prelude.{◌≡◌, ℕ, Some, slice_get, refl, sym, ap, ◌∙◌, ◌⊎◌, inl, inr, ⊎_elim, subst, SpacePoint, Form, normal_of, Vector, IsDirection, SameDirection, triple, vector_of, sign_of, Sign, Minus, Plus, sign_of-positive, sign_of-negative, IsAt, item_normal, dir_of, is-at_one, SArc, SVertex, IsItemThrough, arc_of, map_of, map-is_at, Vertex as PlainVertex, Corner, PlaneMeet, meets_vertex, meets_edge, Meets, IsArcOnSide, IsCornerAt, Edge, Complex, vertex_of, edge_of, complex_of, IsArcBeside, HasMet, SameDirection-turned, SameDirection-trans, dir-self}
use Rattle.nef_smap.proofs.Axes.{plus-of, minus-of}
use Rattle.nef_smap.proofs.CloseSigns.{dir-from_get}
use Rattle.law_geometry.specs.complex.Complexes.{Edge as PlainEdge, Complex as PlainComplex}
use Rattle.nef_complex.specs.declared.complex.Vertex.{Vertex}
use Rattle.nef_conn.proofs.SamePlanes.{side-turned}

-- the side of an arc by the turn from its svertex to a direction
module _ (v : Vertex) (s : ℕ) (w : SVertex) (e : slice_get v.map.svertices s ≡ Some w) (n d : Vector) (t : Sign) (turn : t ≡ sign_of (triple n (vector_of w.dir) d)) (a : SArc) where
  abbrev Told : Type 0
  Told = ((a.source ≡ s) × (t ≡ Plus)) ⊎ ((a.target ≡ s) × (t ≡ Minus))

  turn-is : t ≡ sign_of (triple n (dir_of (map_of v.map).svertices s) d)
  turn-is = turn ∙ ap (λ (p : Vector). sign_of (triple n p d)) (sym (dir-from_get v.map.svertices s w e))

  pub told-side : Told → IsArcOnSide (vertex_of v) s n d (arc_of a)
  told-side = ⊎_elim (λ h. inl (h.0, plus-of t _ turn-is h.1)) (λ h. inr (h.0, minus-of t _ turn-is h.1))

  pub side-told : IsArcOnSide (vertex_of v) s n d (arc_of a) → Told
  side-told = ⊎_elim (λ h. inl (h.0, turn-is ∙ sign_of-positive _ h.1)) (λ h. inr (h.0, turn-is ∙ sign_of-negative _ h.1))

module _ (c : Complex) (h : Form) (n d : Vector) (w : SameDirection (normal_of h) n) where
  -- ---- at a vertex
  module _ (i : ℕ) (u : Vertex) (e : slice_get c.vertices i ≡ Some u) where
    listed : IsAt (complex_of c).vertices i (vertex_of u)
    listed = map-is_at vertex_of c.vertices i u e

    pub vertex-some : (k : ℕ) → IsItemThrough (map_of u.map) n d k → IsCornerAt (complex_of c) h d (meets_vertex i) (record { vertex = i; item = k })
    vertex-some k (x, a, s, o) = (vertex_of u, x, refl, record { vertex = listed; item = a }, SameDirection-trans (item_normal x) n (normal_of h) s (SameDirection-turned (normal_of h) n w), o)

    pub vertex-none : ((k : ℕ) → IsItemThrough (map_of u.map) n d k → ⊥) → (k : Corner) → IsCornerAt (complex_of c) h d (meets_vertex i) k → ⊥
    vertex-none f k (v, x, r, a, s, o) =
        let same = is-at_one (complex_of c).vertices i v (vertex_of u) (subst (λ (j : ℕ). IsAt (complex_of c).vertices j v) r a.vertex) listed in
        f k.item (subst (λ (y : PlainVertex). IsItemThrough y.map n d k.item) same (x, a.item, SameDirection-trans (item_normal x) (normal_of h) n s w, o))

  -- ---- beside an edge
  module _ (j : ℕ) (g : Edge) (b : slice_get c.edges j ≡ Some g) (u : Vertex) (e : slice_get c.vertices g.low ≡ Some u) (some : IsDirection d) where
    listed_edge : IsAt (complex_of c).edges j (edge_of g)
    listed_edge = map-is_at edge_of c.edges j g b

    listed_low : IsAt (complex_of c).vertices g.low (vertex_of u)
    listed_low = map-is_at vertex_of c.vertices g.low u e

    pub edge-some : (k : ℕ) → IsArcBeside (vertex_of u) g.low_svertex n d k → IsCornerAt (complex_of c) h d (meets_edge j) (record { vertex = g.low; item = k })
    edge-some k (a, l, s, o) =
        let back = SameDirection-turned (normal_of h) n w in
        (edge_of g, vertex_of u, a, listed_edge, refl, listed_low, l, SameDirection-trans a.normal n (normal_of h) s back, side-turned (vertex_of u) g.low_svertex n (normal_of h) d d a back (dir-self d some) o)

    pub edge-none : ((k : ℕ) → IsArcBeside (vertex_of u) g.low_svertex n d k → ⊥) → (k : Corner) → IsCornerAt (complex_of c) h d (meets_edge j) k → ⊥
    edge-none f k (q, v, a, l, r, m, t, s, o) =
        let same-edge = is-at_one (complex_of c).edges j q (edge_of g) l listed_edge in
        let at-low = subst (λ (y : PlainEdge). IsAt (complex_of c).vertices y.low v) same-edge m in
        let same = is-at_one (complex_of c).vertices g.low v (vertex_of u) at-low listed_low in
        let side = subst (λ (y : PlainEdge). IsArcOnSide v y.low_svertex (normal_of h) d a) same-edge o in
        f k.item (subst (λ (y : PlainVertex). IsArcBeside y g.low_svertex n d k.item) same
        (a, t, SameDirection-trans a.normal (normal_of h) n s w, side-turned v g.low_svertex (normal_of h) n d d a w (dir-self d some) side))

-- ---- what is met is listed
pub met-listed : (C : PlainComplex) (h : Form) (m : PlaneMeet) (q : SpacePoint) → Meets C h m q → HasMet C m
met-listed C h (meets_vertex k) q (v, a, e) = (v, a)
met-listed C h (meets_edge k) q ((e, v, w, a, H, b), l) = (e, a)
