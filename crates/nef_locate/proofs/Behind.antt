-- The corner of a facet point: what it first meets has an item behind, and such an item is its corner.
use Rattle.nef_locate.proofs.Prelude.{◌≡◌, ℕ, pos, refl, sym, ◌∙◌, ⊎_elim, subst, Flat, FlatDim, SpacePoint, Form, form_at, level-of_opposite, normal_of, slope, toward, IsBetween, Set, Vector, opposite, dot, IsDirection, IsNormal, SameDirection, plane_axis, Drop, between-turned, between-inner, even-until, even-germs, IsAt, arc_item, Item, item_normal, dir_of, at-arc, on-level, normal-direction, Vertex, Corner, IsCorner, IsFlatIn, Shows, IsEdgePoint, PlaneMeet, meets_vertex, meets_edge, Meets, IsFirstInPlane, IsCornerAt, HasCorner, item_plane, FlatAre, edge-points, near_point, near-between, corner-one, through-at, ahead-back, low-end, way-is, arc-beside, item-seen, facets-complete, plane-ahead, end-meets, flat-onto, even-by, between-way, between-start, SameDirection-turned, SameDirection-trans, dir-self, level-way, direction-left}
use Rattle.law_geometry.specs.complex.Complexes.{Complex}
use Rattle.law_geometry.proofs.complex.FacetPoints.{facet-point}
use Rattle.law_geometry.proofs.complex.FacetSides.{flats-one, flats-carried}
use Rattle.law_geometry.proofs.complex.links.Across.{through-same}
use Rattle.nef_conn.proofs.WayInward.{names-same}
use Rattle.nef_locate.proofs.SameAxis.{axis-same}

module _ (s : Set) (C : Complex) (S : Shows s C) (h : Form) (y : SpacePoint) (normal : IsNormal (normal_of h)) (on : form_at h y ≡ pos 0) (d : Vector) (some : IsDirection d) (level : slope h d ≡ pos 0)
    (F : IsFlatIn s h y) (m : PlaneMeet) (I : IsFirstInPlane C h y d m) where
  abbrev n : Vector
  n = normal_of h

  abbrev z : SpacePoint
  z = I.place

  -- ---- between the point and what it first meets two directions are flat
  flat-way : Flat s y (toward y z)
  flat-way = (F.1 (toward y z)).1 (level-way n d (toward y z) (SameDirection-turned (toward y z) d I.ahead) level)

  never-drops : Drop s 2 y z → ⊥
  never-drops D =
      let t = D.at_place in
      let way = SameDirection-trans (toward y t) (toward y z) d (between-way y t z D.between) I.ahead in
      let e = end-meets s C S h y t (between-start y t z D.between) F.0 F.1 D.even_before (plane-ahead h y t d way level on) D.drops in
      I.first t e.0 D.between e.1

  all : (r : SpacePoint) → IsBetween y r z → FlatDim s r 2
  all = ⊎_elim (λ a. a) (λ D. absurd (never-drops D)) (even-until s 2 y z F.0 flat-way)

  -- ---- close to what is met
  to-y : SameDirection (toward z y) (opposite d)
  to-y = ahead-back y z d I.ahead

  abbrev q : SpacePoint
  q = near_point s z y

  close : IsBetween y q z
  close = between-turned z y q (near-between s z y (direction-left (toward z y) (opposite d) to-y))

  flat-close : FlatAre s q n
  flat-close = flats-carried s y q n (even-germs s 2 y q (even-by s 2 y q F.0 (λ r c. all r (between-inner y q z r close c)) (all q close))) F.1

  -- ---- the corner
  by-edge : (i : ℕ) → IsEdgePoint C i z → (k : Corner) × IsCornerAt C h (opposite d) (meets_edge i) k
  by-edge i (e, v, w, a, H, b) =
      let way = dir_of v.map.svertices e.low_svertex in
      let u = low-end s C S i e v w z a H b in
      let is = way-is s C S i e v w z a H b in
      let leads : IsDirection way = subst IsDirection (sym is) ((S.cones e.low v H.low).valid.shaped.svertex_dirs e.low_svertex u.0 u.1) in
      let along = ((edge-points s C i e v w z S a H b).1 way).1 (dir-self way leads).parallel in
      let flat = (F.1 way).0 (flat-onto s 2 y z (direction-left (toward y z) d I.ahead) F.0 all way along) in
      let x = arc-beside s C S i e v w z a H b (opposite d) y to-y n normal (subst (λ (g : Vector). dot n g ≡ pos 0) is flat) (level-of_opposite n d level) (all q close) flat-close in
      (record { vertex = e.low; item = x.0 }, (e, v, x.1, a, refl, H.low, x.2, x.3, x.4))

  by-meet : (t : PlaneMeet) → Meets C h t z → (k : Corner) × IsCornerAt C h (opposite d) t k
  by-meet (meets_vertex i) (v, a, e) =
      let x = item-seen s C S h y normal on d some level F z I.ahead all i v a e in
      (record { vertex = i; item = x.number }, (v, x.item, refl, record { vertex = a; item = x.listed }, x.same, x.on))
  by-meet (meets_edge i) x = by-edge i x.0

  -- what a facet point first meets has an item of the plane toward the point
  pub corner-behind : (k : Corner) × IsCornerAt C h (opposite d) m k
  corner-behind = by-meet m I.meets

-- such an item is the corner of the point
pub corner-has : (s : Set) (C : Complex) (S : Shows s C) (h : Form) (y : SpacePoint) → IsNormal (normal_of h) → form_at h y ≡ pos 0 → (d : Vector) → SameDirection (plane_axis (normal_of h)) d → IsFlatIn s h y
    → (m : PlaneMeet) (k : Corner) → IsFirstInPlane C h y d m → IsCornerAt C h (opposite d) m k → HasCorner C y k
corner-has s C S h y normal on d w F m k I c =
    let H = (facets-complete s C S h y normal on F).1 in
    let v = H.vertex in
    let x = H.item in
    let n = normal_of h in
    let o = item_normal x in
    let N = (S.cones H.beside.vertex v H.is_beside.vertex).valid.shaped.normals H.beside.item x H.is_beside.item in
    let same = flats-one s y n o normal N F.1 (facet-point s C S H.beside v x y H.is_beside H.facet_point).flat in
    let to-plane = SameDirection-trans n o (normal_of (item_plane v x)) same (through-same o v.point (normal-direction o N)) in
    let axis = SameDirection-trans d (plane_axis n) (plane_axis o) (SameDirection-turned (plane_axis n) d w) (axis-same n o same) in
    let on-item = through-at o v.point y ∙ on-level v.map x (toward v.point y) H.facet_point.on_item in
    record {
      beside = H.beside;
      vertex = v;
      item = x;
      is_beside = H.is_beside;
      facet_point = H.facet_point;
      named = names-same C h (item_plane v x) y on on-item to-plane d (plane_axis o) axis k (m, I, c);
    }

-- the item of such a corner has the normal of the plane
pub corner-normal : (C : Complex) (h : Form) (d : Vector) (m : PlaneMeet) (k : Corner) → IsCornerAt C h d m k → (v : Vertex) (x : Item) → IsCorner C k v x → SameDirection (item_normal x) (normal_of h)
corner-normal C h d (meets_vertex i) k (u, o, e, b, r, t) v x c = subst (λ (w : Item). SameDirection (item_normal w) (normal_of h)) (corner-one C k u v o x b c) r
corner-normal C h d (meets_edge i) k (e, u, a, l, p, b, t, r, side) v x c =
    subst (λ (w : Item). SameDirection (item_normal w) (normal_of h))
    (corner-one C k u v (arc_item a) x (record { vertex = subst (λ (j : ℕ). IsAt C.vertices j u) (sym p) b; item = at-arc u.map.arcs u.map.sloop k.item a t }) c) r
