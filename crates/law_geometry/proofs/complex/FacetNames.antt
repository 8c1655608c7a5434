-- Each point with two flat directions is a facet point of an item of a vertex that it sees, and has a corner.
use Rattle.law_geometry.proofs.complex.Prelude.{◌≡◌, ℤ, pos, ◌*ℤ◌, ◌<ℤ◌, arith, refl, ap, sym, ◌∙◌, ⊎_elim, ◌↔◌, ◌∷◌, subst, Bool, true, false, cond, ◌&&◌, Decides, [], ints, ring, at, num, neg, ◌⊕◌, ◌⊗◌, mul_nonneg, mul_pos, nought-or, Flat, FlatDim, SpacePoint, Form, form_at, normal_of, slope, plane_through, toward, Set, Vector, vector, opposite, dot, IsDirection, IsNormal, plane_axis, beside_x, beside_y, flat-plane, between-turned, point-toward, Item, item_normal, OnItem, normal-direction, on-level, product-off, Vertex, Complex, Corner, IsCorner, Shows, IsFacetPoint, item_plane, RayNames, HasCorner, IsFlatIn, dot-zero, vector-same, dir-self, opposite-dot}
use Rattle.std.specs.Ordering.{int_eq}
use Rattle.std.proofs.lemmas.Bool.Decides.{Decides-int_eq}
use Rattle.law_geometry.proofs.complex.Cones.{FlatAre}
use Rattle.law_geometry.proofs.complex.Planes.{plane-way}
use Rattle.law_geometry.proofs.complex.FacetWays.{two-off}
use Rattle.law_geometry.proofs.complex.FacetPoints.{facet-point}
use Rattle.law_geometry.proofs.complex.Skeletons.{FacetAt}
use Rattle.law_geometry.proofs.complex.FacetEnds.{item-seen, facet-behind}
use Rattle.law_geometry.proofs.complex.FacetAngles.{through-at, through-slope}
use Rattle.law_geometry.proofs.complex.FacetSight.{sees-vertex}
use Rattle.law_geometry.proofs.sphere.Builder.{normal-either}
use Rattle.nef_space.proofs.Elementary.{same-itself, weight-positive}

-- ---- the plane of an item
scaled-nought : (k x : ℤ) → pos 0 <ℤ k → x *ℤ k ≡ pos 0 → x ≡ pos 0
scaled-nought k x h e = ⊎_elim (λ z. z) (λ f. absurd (product-off k x h f (ring (k ∷ x ∷ []) (at 0 ⊗ at 1) (at 1 ⊗ at 0) tt ∙ e))) (nought-or x)

pub normal-scaled : (n : Vector) (k : ℤ) → pos 0 <ℤ k → IsNormal n → IsNormal (vector (n.x *ℤ k) (n.y *ℤ k) (n.z *ℤ k))
normal-scaled n k h N = record {
  first = mul_nonneg n.x k N.first (omega (arith, ints));
  second = λ e. mul_nonneg n.y k (N.second (scaled-nought k n.x h e)) (omega (arith, ints));
  third = λ e f. mul_pos n.z k (N.third (scaled-nought k n.x h e) (scaled-nought k n.y h f)) h;
}

-- its directions are those of the normal
pub through-level : (n d : Vector) (p : SpacePoint) → (dot n d ≡ pos 0) ↔ (slope (plane_through n p) d ≡ pos 0)
through-level n d p = (
  λ e. through-slope n p d ∙ ap (λ r. pos p.w *ℤ r) e ∙ ring (pos p.w ∷ []) (at 0 ⊗ num (pos 0)) (num (pos 0)) tt,
  λ e. scaled-nought (pos p.w) (dot n d) (weight-positive p) (ring (dot n d ∷ pos p.w ∷ []) (at 0 ⊗ at 1) (at 1 ⊗ at 0) tt ∙ sym (through-slope n p d) ∙ e),
)

flats-through : (s : Set) (y p : SpacePoint) (n : Vector) → FlatAre s y n → (d : Vector) → Flat s y d ↔ (slope (plane_through n p) d ≡ pos 0)
flats-through s y p n flat d = let l = through-level n d p in let f = flat d in ((λ g. l.0 (f.0 g)), (λ e. f.1 (l.1 e)))

-- the axis of a plane is a direction of it
pub axis-in : (n : Vector) → IsDirection n → IsDirection (plane_axis n) × (dot n (plane_axis n) ≡ pos 0)
axis-in n i = by (int_eq n.z (pos 0)) (int_eq n.y (pos 0)) (Decides-int_eq n.z (pos 0)) (Decides-int_eq n.y (pos 0))
  where
    level-y : dot n (beside_y n) ≡ pos 0
    level-y = ring (n.x ∷ n.y ∷ n.z ∷ []) (at 0 ⊗ neg (at 2) ⊕ at 1 ⊗ num (pos 0) ⊕ at 2 ⊗ at 0) (num (pos 0)) tt

    level-x : dot n (beside_x n) ≡ pos 0
    level-x = ring (n.x ∷ n.y ∷ n.z ∷ []) (at 0 ⊗ num (pos 0) ⊕ at 1 ⊗ at 2 ⊕ at 2 ⊗ neg (at 1)) (num (pos 0)) tt

    axis : Bool → Bool → Vector
    axis a b = cond (a && b) (beside_y n) (beside_x n)

    by : (a b : Bool) → Decides a (n.z ≡ pos 0) → Decides b (n.y ≡ pos 0) → IsDirection (axis a b) × (dot n (axis a b) ≡ pos 0)
    by true true f g = ((λ z. i (z.2, g.0 refl, f.0 refl)), level-y)
    by true false f g = ((λ z. let e : n.y ≡ pos 0 = (let m = z.2 in omega (arith, ints)) in let q : false ≡ true = g.1 e in cc), level-x)
    by false true f g = ((λ z. let q : false ≡ true = f.1 z.1 in cc), level-x)
    by false false f g = ((λ z. let q : false ≡ true = f.1 z.1 in cc), level-x)

pub toward-turned : (p q : SpacePoint) → opposite (toward p q) ≡ toward q p
toward-turned p q = vector-same (opposite (toward p q)) (toward q p) (omega (arith, ints)) (omega (arith, ints)) (omega (arith, ints))

-- ---- an item beside a facet point
pub record ItemBeside (C : Complex) (y : SpacePoint) : Type 0 where
  pub corner : Corner
  pub vertex : Vertex
  pub item : Item
  pub is_corner : IsCorner C corner vertex item
  pub facet_point : IsFacetPoint C vertex item y

module _ (s : Set) (C : Complex) (S : Shows s C) where
  module _ (h : Form) (normal : IsNormal (normal_of h)) (y : SpacePoint) (on : form_at h y ≡ pos 0) (F : IsFlatIn s h y) where
    beside : ItemBeside C y
    beside =
        let v = sees-vertex s C S h (normal-direction (normal_of h) normal) y on F in
        let p = v.vertex.point in
        let x = item-seen s C S h y normal on (toward y p) v.leads (plane-way h y p on v.level) F p (dir-self (toward y p) v.leads) v.clear v.number v.vertex v.listed (same-itself p) in
        record {
          corner = record { vertex = v.number; item = x.number };
          vertex = v.vertex;
          item = x.item;
          is_corner = record { vertex = v.listed; item = x.listed };
          facet_point = record {
            off_edges = two-off s C S y F.0;
            on_item = subst (OnItem v.vertex.map x.item) (toward-turned y p) x.on;
            clear = λ q b. two-off s C S q (v.clear q (between-turned p y q b));
          };
        }

  -- ---- the corner that the ray along the axis names
  named : (y : SpacePoint) (k : Corner) (v : Vertex) (x : Item) → IsCorner C k v x → IsFacetPoint C v x y → (j : Corner) × RayNames C (item_plane v x) y (plane_axis (item_normal x)) j
  named y k v x c P =
      let n = item_normal x in
      let h = item_plane v x in
      let p = v.point in
      let N = (S.cones k.vertex v c.vertex).valid.shaped.normals k.item x c.item in
      let F = facet-point s C S k v x y c P in
      let axis = axis-in n (normal-direction n N) in
      let m = facet-behind s C S h y (normal-scaled n (pos p.w) (weight-positive p) N) (through-at n p y ∙ on-level v.map x (toward p y) P.on_item) (plane_axis n) axis.0 ((through-level n (plane_axis n) p).0 axis.1)
      (F.dim, flats-through s y p n F.flat) in
      (m.2.0, (m.0, m.1, m.2.1))

  pub facets-complete : (h : Form) (y : SpacePoint) → IsNormal (normal_of h) → form_at h y ≡ pos 0 → IsFlatIn s h y → (k : Corner) × HasCorner C y k
  facets-complete h y normal on F =
      let B = beside h normal y on F in
      let k = named y B.corner B.vertex B.item B.is_corner B.facet_point in
      (k.0, record { beside = B.corner; vertex = B.vertex; item = B.item; is_beside = B.is_corner; facet_point = B.facet_point; named = k.1 })

  -- a point with two flat directions is a facet point
  pub facet-of : (y : SpacePoint) → FlatDim s y 2 → (k : Corner) × (v : Vertex) × (x : Item) × IsCorner C k v x × IsFacetPoint C v x y
  facet-of y f =
      let p = flat-plane s y f in
      ⊎_elim (λ N. found p.0 N p.2) (λ N. found (opposite p.0) N (λ d. turned p.0 d (p.2 d))) (normal-either p.0 p.1)
    where
      turned : {A : Type 0} (n d : Vector) → A ↔ (dot n d ≡ pos 0) → A ↔ (dot (opposite n) d ≡ pos 0)
      turned n d e = ((λ a. let z = e.0 a in let q = opposite-dot n d in omega (arith, ints)), (λ z. e.1 (let q = opposite-dot n d in omega (arith, ints))))

      found : (n : Vector) → IsNormal n → FlatAre s y n → (k : Corner) × (v : Vertex) × (x : Item) × IsCorner C k v x × IsFacetPoint C v x y
      found n N flat =
          let h = plane_through n y in
          let on = through-at n y y ∙ dot-zero n (toward y y) (point-toward y y (same-itself y)) in
          let B = beside h (normal-scaled n (pos y.w) (weight-positive y) N) y on (f, flats-through s y y n flat) in
          (B.corner, B.vertex, B.item, B.is_corner, B.facet_point)

-- the law of facet points
pub facet-at : (s : Set) (C : Complex) → Shows s C → FacetAt s C
facet-at s C S k v x y c F = let p = facet-point s C S k v x y c F in (p.dim, p.flat, p.label, p.sided)
