-- Along a path of even segments within a facet, the ends of each segment in its turn: so the converse comes to single segments.
use Rattle.nef_conn.proofs.Prelude.{◌≡◌, ℕ, pos, List, ◌∷◌, inl, inr, ⊎_elim, subst, [], Chained, Joined, IsEven, IsEvenPath, SpacePoint, Form, form_at, normal_of, slope, toward, Set, Vector, opposite, IsDirection, IsNormal, SameDirection, plane_dir, carriers, FlatDim-one, start-close, flat-way, even-germs, joined-germs, joined-turned, joined-both, reach_all, Item, item_normal, normal-direction, Vertex, Complex, Corner, IsCorner, Shows, item_plane, RayNames, IsFlatIn, between-way, between-start, near_point, near-between, flats-carried, flats-one, plane-onward, weight-positive, normal-scaled, facet-behind, FacetLink, through-same, way_inward, NamesFor, NamesOfSegments, ItemsBySegments, zero-decided, dot-zero, level-of_opposite, SameDirection-turned, SameDirection-trans, opposite-same, level-way, direction-right}
use Rattle.nef_conn.proofs.WayInward.{names-same, dir-level, dir-same}
use Rattle.nef_conn.proofs.Reached.{items-name}
use Rattle.nef_space.proofs.Chains.{chain-trans, chain-turned}
use Rattle.law_geometry.proofs.complex.FacetEnds.{level-normal}
use Rattle.nef_space.proofs.Elementary.{same-itself}

-- ---- an even segment from a point of a facet stays in its plane
module _ (s : Set) (h : Form) (r t : SpacePoint) (on : form_at h r ≡ pos 0) (F : IsFlatIn s h r) (even : IsEven s 2 r t) where
  level-toward : slope h (toward r t) ≡ pos 0
  level-toward = ⊎_elim (λ z. dot-zero (normal_of h) (toward r t) z) (λ i. apart i) (zero-decided (toward r t))
    where
      apart : IsDirection (toward r t) → slope h (toward r t) ≡ pos 0
      apart i =
          let q = near_point s r t in
          let b = near-between s r t i in
          let f = flat-way s 2 r q F.0 (even q (inr (inl b))) (start-close (reach_all (carriers s) r) r t) (between-start r q t b) in
          level-way (normal_of h) (toward r q) (toward r t) (between-way r q t b) ((F.1 (toward r q)).0 f)

  pub even-on : form_at h t ≡ pos 0
  even-on = plane-onward h r t level-toward on

  pub even-flat : IsFlatIn s h t
  even-flat = (even t (inr (inr (same-itself t))), flats-carried s r t (normal_of h) (even-germs s 2 r t even) F.1)

module _ (s : Set) (h : Form) where
  pub path-on : (rs : List SpacePoint) (r q : SpacePoint) → form_at h r ≡ pos 0 → IsFlatIn s h r → IsEvenPath s 2 r rs q → form_at h q ≡ pos 0
  path-on [] r q on F even = even-on s h r q on F even
  path-on (t ∷ rs) r q on F (even, path) = path-on rs t q (even-on s h r t on F even) (even-flat s h r t on F even) path

-- ---- along a path
module _ (s : Set) (C : Complex) (S : Shows s C) (names : NamesOfSegments s C) (h : Form) (N : IsNormal (normal_of h)) (d : Vector) (inward : SameDirection (opposite (plane_dir (normal_of h))) d) (some : IsDirection d) (level : slope h d ≡ pos 0) where
  walk : (rs : List SpacePoint) (r q : SpacePoint) (k l : Corner) → form_at h r ≡ pos 0 → IsFlatIn s h r → RayNames C h r d k → IsEvenPath s 2 r rs q → RayNames C h q d l → Chained (FacetLink C) k l
  walk [] r q k l on F a even b = names h d r q k l N on F inward even a b
  walk (t ∷ rs) r q k l on F a (even, path) b =
      let on-t = even-on s h r t on F even in
      let G = even-flat s h r t on F even in
      let m = facet-behind s C S h t N on-t d some level G in
      let c = m.2.0 in
      let named : RayNames C h t d c = (m.0, m.1, m.2.1) in
      chain-trans (FacetLink C) k c l (names h d r t k c N on F inward even a named) (walk rs t q c l on-t G named path b)

module _ (s : Set) (C : Complex) (S : Shows s C) (names : NamesOfSegments s C) (j i : Corner) (v w : Vertex) (x y : Item) (K : IsCorner C j v x) (L : IsCorner C i w y) (p q : SpacePoint) (k l : Corner)
    (A : NamesFor s C j v x p k) (B : NamesFor s C i w y q l) (J : Joined s p q) where
  abbrev h : Form
  h = item_plane v x

  abbrev g : Form
  g = item_plane w y

  x-normal : IsNormal (item_normal x)
  x-normal = (S.cones j.vertex v K.vertex).valid.shaped.normals j.item x K.item

  y-normal : IsNormal (item_normal y)
  y-normal = (S.cones i.vertex w L.vertex).valid.shaped.normals i.item y L.item

  x-some : IsDirection (item_normal x)
  x-some = normal-direction (item_normal x) x-normal

  to-h : SameDirection (item_normal x) (normal_of h)
  to-h = through-same (item_normal x) v.point x-some

  to-g : SameDirection (item_normal y) (normal_of g)
  to-g = through-same (item_normal y) w.point (normal-direction (item_normal y) y-normal)

  h-normal : IsNormal (normal_of h)
  h-normal = normal-scaled (item_normal x) (pos v.point.w) (weight-positive v.point) x-normal

  g-normal : IsNormal (normal_of g)
  g-normal = normal-scaled (item_normal y) (pos w.point.w) (weight-positive w.point) y-normal

  path : IsEvenPath s 2 p J.1 q
  path = subst (λ (e : ℕ). IsEvenPath s e p J.1 q) (FlatDim-one s p J.0 2 J.2 A.flat.0) J.3

  on-q : form_at h q ≡ pos 0
  on-q = path-on s h J.1 p q A.on_plane A.flat path

  one-normal : SameDirection (normal_of g) (normal_of h)
  one-normal = flats-one s q (normal_of g) (normal_of h) g-normal h-normal B.flat.1 (flats-carried s p q (normal_of h) (joined-germs s p q J) A.flat.1)

  items-same : SameDirection (item_normal y) (item_normal x)
  items-same = SameDirection-trans (item_normal y) (normal_of g) (item_normal x) to-g (SameDirection-trans (normal_of g) (normal_of h) (item_normal x) one-normal (SameDirection-turned (item_normal x) (normal_of h) to-h))

  named-q : RayNames C h q (way_inward x) l
  named-q = names-same C g h q B.on_plane on-q one-normal (way_inward y) (way_inward x) (opposite-same (plane_dir (item_normal y)) (plane_dir (item_normal x)) (dir-same (item_normal y) (item_normal x) items-same)) l B.named

  inward : SameDirection (opposite (plane_dir (normal_of h))) (way_inward x)
  inward = opposite-same (plane_dir (normal_of h)) (plane_dir (item_normal x)) (dir-same (normal_of h) (item_normal x) (SameDirection-turned (item_normal x) (normal_of h) to-h))

  level : slope h (way_inward x) ≡ pos 0
  level = level-normal (item_normal x) (normal_of h) (way_inward x) to-h (level-of_opposite (item_normal x) (plane_dir (item_normal x)) (dir-level (item_normal x)))

  pub joined-names : Chained (FacetLink C) k l
  joined-names = walk s C S names h h-normal (way_inward x) inward (direction-right (opposite (plane_dir (normal_of h))) (way_inward x) inward) level J.1 p q k l A.on_plane A.flat A.named path named-q

-- ---- what the converse comes to
pub converse-by_segments : ItemsBySegments
converse-by_segments s C S names j i p q a b t =
    let A = items-name s C j a.vertex a.item S a.corner in
    let B = items-name s C i b.vertex b.item S b.corner in
    let y = A.0 in
    let z = B.0 in
    let k = A.1 in
    let l = B.1 in
    let way = joined-both s y p z (joined-turned s p y (A.2.joined p a)) (joined-both s p q z t (B.2.joined q b)) in
    let one = joined-names s C S names j i a.vertex b.vertex a.item b.item a.corner b.corner y z k l A.2 B.2 way in
    chain-trans (FacetLink C) j k i A.3 (chain-trans (FacetLink C) k l i one (chain-turned (FacetLink C) i l B.3))
