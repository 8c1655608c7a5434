-- The facet beside an item has a point that names, by the ray inward, a corner of the item's class.
--
-- Let d be the way inward of an item, and f the opposite way. One of three cases holds of the item:
-- * d lies on it. Then a point close to the vertex toward d names what the link across the facet leads to.
-- * an arc begins or ends at a svertex on whose side f lies. Then a point close to the edge of the svertex, off it toward f, first meets that edge
--   and names the arc at its lower end, which is this one or linked with it along the edge.
-- * an arc ends at the svertex of d. Then the arc at the other end of the edge is linked with it, has the same plane, and lies further along d, where
--   the number of its vertex is greater for each such step, or smaller for each. So this comes to an end, by induction on the vertices left.
use Rattle.nef_conn.proofs.Prelude.{◌≡◌, ℕ, pos, ◌<ℤ◌, sym, ◌∙◌, ◌⊎◌, inl, inr, ⊎_elim, subst, Chained, FlatDim, SpacePoint, Form, form_at, normal_of, plane_through, SamePoint, toward, IsBetween, Set, Vector, opposite, dot, triple, IsDirection, SameDirection, plane_dir, SameGerms, FlatDim-by_germs, ahead, joined-germs, joined-turned, joined-both, between-turned, point-toward, IsAt, Arc, Item, arc_item, item_normal, dir_of, OnItem, normal-is, same-plus, same-minus, on-direction, on-level, dir-at, arc-at, turn-same, turn-last, Vertex, Edge, Complex, Corner, HasEnds, IsCorner, Shows, item_plane, PlaneMeet, meets_edge, Meets, IsFirstInPlane, IsArcOnSide, IsCornerAt, IsFlatIn, FlatAre, between-way, between-cases, near_point, near-between, flats-carried, plane-ahead, two-off, meets-on, IsInFacetOf, ahead-back, through-at, weight-positive, normal-scaled, through-level, facet-behind, LinkAcross, FacetLink, ahead-toward, even-after, IsTied, tied-both, tied-ahead, facet-near, at-item, item-has_point, one-item, EdgeWays, edge-ways, tied-low, EndsOnSide, end-level, close_way, on-close, tied-close_way, through-same, way_inward, NamesFor, dot-zero, SameDirection-turned, SameDirection-trans, dir-self, opposite-same, level-way, opposite-twice, direction-left, direction-right}
use Rattle.law_geometry.proofs.complex.links.ItemLinks.{items-joined}
use Rattle.nef_space.proofs.Chains.{chain-here, chain-before}
use Rattle.nef_conn.proofs.SamePlanes.{on-too}
use Rattle.nef_conn.proofs.WayInward.{names-same, dir-level, dir-some, dir-same}
use Rattle.law_geometry.proofs.complex.FacetEnds.{level-normal}
use Rattle.nef_space.proofs.Elementary.{same-itself}

-- ---- planes
pub own-plane : (n : Vector) (p : SpacePoint) → form_at (plane_through n p) p ≡ pos 0
own-plane n p = through-at n p p ∙ dot-zero n (toward p p) (point-toward p p (same-itself p))

flats-in : (s : Set) (q p : SpacePoint) (n : Vector) → FlatDim s q 2 → FlatAre s q n → IsFlatIn s (plane_through n p) q
flats-in s q p n two flat = (two, λ e. let l = through-level n e p in let f = flat e in (λ g. l.0 (f.0 g), λ z. f.1 (l.1 z)))

-- the same side, by the same way
pub side-same : (b : ℕ) (t f g : Vector) (a : Arc) → SameDirection f g → EndsOnSide b t f a → EndsOnSide b t g a
side-same b t f g a w = ⊎_elim
    (λ r. inl (r.0, same-plus (triple a.normal t f) (triple a.normal t g) (turn-last a.normal t f g w) r.1))
    (λ r. inr (r.0, same-minus (triple a.normal t f) (triple a.normal t g) (turn-last a.normal t f g w) r.1))

-- a point that does what is claimed of the item
abbrev pub ReachesItem : Set → Complex → Corner → Vertex → Item → Type 0
ReachesItem s C j v x = (q : SpacePoint) × (k : Corner) × NamesFor s C j v x q k × Chained (FacetLink C) j k

-- ---- from a linked item of the same plane
module _ (s : Set) (C : Complex) (S : Shows s C) (j : Corner) (v : Vertex) (x : Item) (K : IsCorner C j v x) (i : Corner) (w : Vertex) (y : Item) (L : IsCorner C i w y)
    (link : FacetLink C j i ⊎ FacetLink C i j) (same : SameDirection (item_normal y) (item_normal x)) (on : form_at (item_plane v x) w.point ≡ pos 0) where
  abbrev g : Form
  g = item_plane w y

  abbrev h : Form
  h = item_plane v x

  one-normal : SameDirection (normal_of g) (normal_of h)
  one-normal =
      let a = through-same (item_normal y) w.point (direction-left (item_normal y) (item_normal x) same) in
      let b = through-same (item_normal x) v.point (direction-right (item_normal y) (item_normal x) same) in
      SameDirection-trans (normal_of g) (item_normal y) (normal_of h) (SameDirection-turned (item_normal y) (normal_of g) a) (SameDirection-trans (item_normal y) (item_normal x) (normal_of h) same b)

  pub carried : ReachesItem s C i w y → ReachesItem s C j v x
  carried (q, k, N, chain) =
      let on-q = on-too g h w.point (own-plane (item_normal y) w.point) on one-normal q N.on_plane in (
        q,
        k,
        record {
          on_plane = on-q;
          flat = (
            N.flat.0,
            λ u. (
              λ f. level-normal (normal_of g) (normal_of h) u one-normal ((N.flat.1 u).0 f),
              λ z. (N.flat.1 u).1 (level-normal (normal_of h) (normal_of g) u (SameDirection-turned (normal_of g) (normal_of h) one-normal) z),
            ),
          );
          joined = λ p a.
              let m = item-has_point s C S i w y L in
              joined-both s p m.0 q (items-joined s C j i p m.0 S (chain-before (FacetLink C) j i i link (chain-here (FacetLink C) i)) a m.1) (N.joined m.0 m.1);
          named = names-same C g h q N.on_plane on-q one-normal (way_inward y) (way_inward x) (opposite-same (plane_dir (item_normal y)) (plane_dir (item_normal x)) (dir-same (item_normal y) (item_normal x) same)) k N.named;
        },
        chain-before (FacetLink C) j i k link chain,
      )

-- ---- where the way inward lies on the item
module _ (s : Set) (C : Complex) (S : Shows s C) (j : Corner) (v : Vertex) (x : Item) (K : IsCorner C j v x) (o : OnItem v.map x (way_inward x)) where
  abbrev n : Vector
  n = item_normal x

  abbrev p : SpacePoint
  p = v.point

  abbrev d : Vector
  d = way_inward x

  abbrev q : SpacePoint
  q = ahead s p d

  abbrev plane : Form
  plane = item_plane v x

  pub F : IsInFacetOf s x q
  F = facet-near s C S j v x K d o

  to-q : SameDirection (toward p q) d
  to-q = ahead-toward s p d (on-direction v.map x d o)

  pub on-q : form_at plane q ≡ pos 0
  on-q = through-at n p q ∙ level-way n d (toward p q) (SameDirection-turned (toward p q) d to-q) (on-level v.map x d o)

  flat-q : IsFlatIn s plane q
  flat-q = flats-in s q p n F.dim F.flat

  pub found : (m : PlaneMeet) × IsFirstInPlane C plane q d m × ((k : Corner) × IsCornerAt C plane (opposite d) m k)
  found = facet-behind s C S plane q (normal-scaled n (pos p.w) (weight-positive p) ((S.cones j.vertex v K.vertex).valid.shaped.normals j.item x K.item)) on-q d (on-direction v.map x d o)
      ((through-level n d p).0 (on-level v.map x d o)) flat-q

  pub from-vertex : (m : PlaneMeet) → IsFirstInPlane C plane q d m → IsFirstInPlane C plane p d m
  from-vertex m I = record {
    place = I.place;
    ahead = SameDirection-trans (toward p I.place) (toward p q) d (SameDirection-turned (toward p q) (toward p I.place) (between-way p q I.place before)) to-q;
    meets = I.meets;
    first = λ r t b e. ⊎_elim (λ c. off r t (inl c) e) (⊎_elim (λ c. off r t (inr c) e) (λ c. I.first r t c e)) (between-cases p q I.place r before b);
  }
    where
      before : IsBetween p q I.place
      before = SameDirection-trans (toward p q) d (toward q I.place) to-q (SameDirection-turned (toward q I.place) d I.ahead)

      off : (r : SpacePoint) (t : PlaneMeet) → IsBetween p r q ⊎ SamePoint r q → Meets C plane t r → ⊥
      off r t b e = two-off s C S r (even-after s 2 p d F.dim r b) (meets-on s C S plane t r e)

  pub onward-named : ReachesItem s C j v x
  onward-named =
      let m = found.0 in
      let I = found.1 in
      let k = found.2.0 in
      let across : LinkAcross C j k = record { vertex = v; item = x; corner = K; inward = o; named = (m, from-vertex m I, found.2.1) } in (
        q,
        k,
        record {
          on_plane = on-q;
          flat = flat-q;
          joined = λ y a. (one-item s C S j y q a (at-item s C S j v x K d o)).0;
          named = (m, I, found.2.1);
        },
        chain-before (FacetLink C) j k k (inl (inr across)) (chain-here (FacetLink C) k),
      )

-- ---- where the arc lies on the side of its edge to which the way back leads: at the lower end of the edge
module _ (s : Set) (C : Complex) (S : Shows s C) (i : ℕ) (e : Edge) (at-i : IsAt C.edges i e) (v w : Vertex) (H : HasEnds C e v w) (k : Corner) (c : Arc) (K : IsCorner C k v (arc_item c)) (low : k.vertex ≡ e.low) where
  abbrev W : EdgeWays e v w
  W = edge-ways s C S i e v w at-i H

  abbrev u : Vector
  u = W.low.dir

  abbrev f : Vector
  f = opposite (way_inward (arc_item c))

  abbrev z : SpacePoint
  z = near_point s v.point w.point

  abbrev y : SpacePoint
  y = ahead s z f

  abbrev sheet : Form
  sheet = item_plane v (arc_item c)

  n-some : IsDirection c.normal
  n-some = normal-is (S.cones k.vertex v K.vertex).valid.shaped k.item (arc_item c) K.item

  u-some : IsDirection u
  u-some = direction-right (toward v.point w.point) u W.onward

  amid : IsBetween v.point z w.point
  amid = near-between s v.point w.point (direction-left (toward v.point w.point) u W.onward)

  f-is : f ≡ plane_dir c.normal
  f-is = opposite-twice (plane_dir c.normal)

  level-f : dot c.normal f ≡ pos 0
  level-f = subst (λ (r : Vector). dot c.normal r ≡ pos 0) (sym f-is) (dir-level c.normal)

  f-some : IsDirection f
  f-some = subst IsDirection (sym f-is) (dir-some c.normal n-some)

  module _ (side : EndsOnSide e.low_svertex u f c) where
    abbrev near : Vector
    near = close_way s C S k v c K e.low_svertex W.low W.is_low f

    on-near : OnItem v.map (arc_item c) near
    on-near = on-close s C S k v c K e.low_svertex W.low W.is_low f level-f side

    tied : IsTied s y (ahead s v.point near)
    tied = tied-both s y (ahead s (ahead s v.point u) f) (ahead s v.point near) (tied-ahead s z (ahead s v.point u) f (tied-low s C S i e v w at-i H z amid))
        (tied-close_way s C S k v c K e.low_svertex W.low W.is_low f)

    G : IsInFacetOf s (arc_item c) (ahead s v.point near)
    G = facet-near s C S k v (arc_item c) K near on-near

    germs : SameGerms s (ahead s v.point near) y
    germs = joined-germs s (ahead s v.point near) y (joined-turned s y (ahead s v.point near) tied.0)

    two : FlatDim s y 2
    two = FlatDim-by_germs s s (ahead s v.point near) y germs 2 G.dim

    flat-y : IsFlatIn s sheet y
    flat-y = flats-in s y v.point c.normal two (flats-carried s (ahead s v.point near) y c.normal germs G.flat)

    level-u : dot c.normal u ≡ pos 0
    level-u = end-level s C S k v c K e.low_svertex W.low W.is_low (⊎_elim (λ r. inl r.0) (λ r. inr r.0) side)

    on-w : form_at sheet w.point ≡ pos 0
    on-w = through-at c.normal v.point w.point ∙ level-way c.normal u (toward v.point w.point) (SameDirection-turned (toward v.point w.point) u W.onward) level-u

    to-z : SameDirection (toward v.point z) u
    to-z = SameDirection-trans (toward v.point z) (toward v.point w.point) u (between-way v.point z w.point amid) W.onward

    on-z : form_at sheet z ≡ pos 0
    on-z = through-at c.normal v.point z ∙ level-way c.normal u (toward v.point z) (SameDirection-turned (toward v.point z) u to-z) level-u

    on-y : form_at sheet y ≡ pos 0
    on-y = plane-ahead sheet z y f (ahead-toward s z f f-some) ((through-level c.normal f v.point).0 level-f) on-z

    first-met : IsFirstInPlane C sheet y (way_inward (arc_item c)) (meets_edge i)
    first-met = record {
      place = z;
      ahead = subst (λ (r : Vector). SameDirection (toward y z) r) (opposite-twice (way_inward (arc_item c))) (ahead-back z y f (ahead-toward s z f f-some));
      meets = ((e, v, w, at-i, H, amid), (e, v, w, at-i, H, own-plane c.normal v.point, on-w));
      first = λ r t b m. two-off s C S r (even-after s 2 z f two r (inl (between-turned y z r b))) (meets-on s C S sheet t r m);
    }

    on-side : IsArcOnSide v e.low_svertex (normal_of sheet) f c
    on-side =
        let way : dir_of v.map.svertices e.low_svertex ≡ u = dir-at v.map.svertices e.low_svertex W.low W.is_low in
        let turn = turn-same c.normal (normal_of sheet) u u f f (through-same c.normal v.point n-some) (dir-self u u-some) (dir-self f f-some) in
        ⊎_elim
        (λ r. inl (r.0, subst (λ (t : Vector). pos 0 <ℤ triple (normal_of sheet) t f) (sym way) (same-plus (triple c.normal u f) (triple (normal_of sheet) u f) turn r.1)))
        (λ r. inr (r.0, subst (λ (t : Vector). triple (normal_of sheet) t f <ℤ pos 0) (sym way) (same-minus (triple c.normal u f) (triple (normal_of sheet) u f) turn r.1))) side

    corner-met : IsCornerAt C sheet f (meets_edge i) k
    corner-met = (e, v, c, at-i, low, H.low, arc-at v.map.arcs v.map.sloop k.item c K.item, through-same c.normal v.point n-some, on-side)

    pub edge-named : ReachesItem s C k v (arc_item c)
    edge-named = (
      y,
      k,
      record {
        on_plane = on-y;
        flat = flat-y;
        joined = λ r a. joined-both s r (ahead s v.point near) y (one-item s C S k r (ahead s v.point near) a (at-item s C S k v (arc_item c) K near on-near)).0 (joined-turned s y (ahead s v.point near) tied.0);
        named = (meets_edge i, first-met, corner-met);
      },
      chain-here (FacetLink C) k,
    )
