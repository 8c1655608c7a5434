-- The plane of a facet point is that of an item, and the vertices and edges of a plane on which a point lies are listed.
use Rattle.nef_locate.proofs.Prelude.{◌≡◌, ℕ, List, pos, sym, subst, IsAt, SpacePoint, Form, form_at, normal_of, Set, Vector, dot, opposite, IsDirection, SameDirection, plane_axis, form_of, Plane, same-point_sym, Item, arc_item, items, item_normal, at-arc, is-at_one, normal-direction, is-at_map, Vertex as PlainVertex, Corner, IsFlatIn, PlaneMeet, meets_vertex, meets_edge, Meets, IsVertexPoint, IsEdgePoint, IsCornerAt, facet-behind, axis-in, plane-ahead, Complex, vertex_of, complex_of, ShowsSet, HasItemIn, EdgeLiesIn, AreNumbersWith, lies, edge-lies, level-same_point}
use Rattle.law_geometry.specs.complex.Complexes.{Edge as PlainEdge, Complex as PlainComplex}

module _ (s : Set) (c : Complex) (S : ShowsSet s c) (h : Plane) (y : SpacePoint) (on : form_at (form_of h) y ≡ pos 0) (F : IsFlatIn s (form_of h) y) where
  abbrev C : PlainComplex
  C = complex_of c

  abbrev n : Vector
  n = normal_of (form_of h)

  abbrev d : Vector
  d = plane_axis n

  axis : IsDirection d × (dot n d ≡ pos 0)
  axis = axis-in n (normal-direction n h.normal)

  has-item : (k j : ℕ) (v : PlainVertex) (x : Item) → IsAt C.vertices k v → IsAt (items v.map) j x → form_at (form_of h) v.point ≡ pos 0 → SameDirection (item_normal x) n → HasItemIn c.vertices (form_of h)
  has-item k j v x a b e w =
      let u = is-at_map vertex_of c.vertices k v a in
      (k, u.0, j, x, u.1, subst (λ (r : PlainVertex). IsAt (items r.map) j x) (sym u.2) b, subst (λ (r : PlainVertex). form_at (form_of h) r.point ≡ pos 0) (sym u.2) e, w)

  -- the corner that the point sees at what it first meets has an item in the plane
  at-meet : (m : PlaneMeet) (q : SpacePoint) (f : Vector) → Meets C (form_of h) m q → form_at (form_of h) q ≡ pos 0 → (k : Corner) → IsCornerAt C (form_of h) f m k → HasItemIn c.vertices (form_of h)
  at-meet (meets_vertex i) q f (v, a, e) o k (u, x, p, K, w, t) =
      let r = is-at_one C.vertices i v u a (subst (λ j. IsAt C.vertices j u) p K.vertex) in
      has-item k.vertex k.item u x K.vertex K.item (subst (λ (z : PlainVertex). form_at (form_of h) z.point ≡ pos 0) r (level-same_point (form_of h) q v.point (same-point_sym v.point q e) o)) w
  at-meet (meets_edge i) q f (I, (e, v, z, a, H, l, m)) o k (g, u, b, a2, p, K, t, w, side) =
      let same = is-at_one C.edges i e g a a2 in
      let r = is-at_one C.vertices g.low v u (subst (λ (x : PlainEdge). IsAt C.vertices x.low v) same H.low) K in
      has-item g.low k.item u (arc_item b) K (at-arc u.map.arcs u.map.sloop k.item b t) (subst (λ (x : PlainVertex). form_at (form_of h) x.point ≡ pos 0) r l) w

  pub flat-item : HasItemIn c.vertices (form_of h)
  flat-item =
      let m = facet-behind s C S.shows (form_of h) y h.normal on d axis.0 axis.1 F in
      at-meet m.0 m.1.place (opposite d) m.1.meets (plane-ahead (form_of h) y m.1.place d m.1.ahead axis.1 on) m.2.0 m.2.1

-- a point that is no vertex and lies on none of the listed edges is none that the plane meets
pub unmet : (c : Complex) (h : Form) (y : SpacePoint) (ns : List ℕ) → AreNumbersWith (EdgeLiesIn c.vertices c.edges h) ns → ((k : ℕ) → IsVertexPoint (complex_of c) k y → ⊥)
    → ((i k : ℕ) → IsAt ns i k → IsEdgePoint (complex_of c) k y → ⊥) → (m : PlaneMeet) → Meets (complex_of c) h m y → ⊥
unmet c h y ns N off none (meets_vertex k) x = off k x
unmet c h y ns N off none (meets_edge k) (x, l) = let i = N.all k (edge-lies c h k l) in none i.0 k i.1 x
