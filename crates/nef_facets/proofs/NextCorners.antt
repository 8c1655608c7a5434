-- Each arc has a next corner, and no two corners have one next corner.
use Rattle.nef_facets.proofs.Prelude.{◌≡◌, ℕ, ◌+◌, pos, ◌<ℤ◌, ◌+ℤ◌, ◌*ℤ◌, neg_ℤ, arith, refl, ap, sym, ◌∙◌, inl, inr, ⊎_elim, [], ◌∷◌, subst, ints, sign, ring, at, num, ◌⊕◌, ◌⊗◌, Chained, Germ, SpacePoint, toward, Set, Vector, opposite, blend, dot, cross, triple, IsDirection, SameDirection, Label, carriers, SameGerms, FlatDim-by_germs, ahead, near-ahead, joined-germs, steep, forms, IsAt, Arc, MapSloop, Item, arc_item, sloop_item, items, item_normal, Map, OnItem, NearLabel, Valid, normal-is, dot-comb, same-plus, same-minus, amount, far-keeps, is-at_one, arc-at, direction-around, turn-same, at-arc, Vertex, Complex, IsCorner, Shows, near-label, flats-carried, IsInFacetOf, target-met, FacetLink, facet-near, IsTied, tied-turned, tied-both, tied-ahead, end-level, close_way, on-close, tied-close_way, tied-turn, chain-link, chain-turned, IsNextArc, NextCorner, square-cross, nought-if, SameDirection-turned, SameDirection-trans, dir-self, dot-opposite, level-way, opposite-way, direction-right}
use Rattle.nef_space.proofs.Vectors.{back-triple}
use Rattle.law_geometry.specs.complex.Complexes.{Corner}
use Rattle.law_geometry.proofs.complex.FacetCorners.{ItemAt, item-at}
use Rattle.law_geometry.proofs.complex.links.EdgeEnds.{corner_of_numbers, left-turn}
use Rattle.nef_facets.proofs.EdgeViews.{EdgeFrom, edge-from, one-vertex, one-svertex}
use Rattle.law_geometry.proofs.complex.FacetEnds.{level-normal}
use Rattle.law_geometry.proofs.complex.Equal.{corners-equal}

-- an arc of one normal that ends at a svertex
pub record ArcInto (M : Map) (b : ℕ) (n : Vector) : Type 0 where
  pub number : ℕ
  pub arc : Arc
  pub listed : IsAt M.arcs number arc
  pub target : arc.target ≡ b
  pub one_normal : SameDirection n arc.normal

-- ---- the arc that leaves along the edge
module _ (s : Set) (C : Complex) (S : Shows s C) (i a j b : ℕ) (V : EdgeFrom s C i a j b) (k : ℕ) (c : Arc) (listed : IsAt V.from.map.arcs k c) (leaves : c.source ≡ a) where
  abbrev here : Corner
  here = corner_of_numbers i k

  pub corner : IsCorner C here V.from (arc_item c)
  corner = record { vertex = V.is_from; item = at-arc V.from.map.arcs V.from.map.sloop k c listed }

  abbrev n : Vector
  n = c.normal

  abbrev u : Vector
  u = V.start.dir

  abbrev t : Vector
  t = V.end.dir

  abbrev f : Vector
  f = cross n u

  n-some : IsDirection n
  n-some = normal-is (S.cones i V.from V.is_from).valid.shaped k (arc_item c) corner.item

  u-some : IsDirection u
  u-some = direction-right (toward V.from.point V.to.point) u V.onward

  level-u : dot n u ≡ pos 0
  level-u = end-level s C S here V.from c corner a V.start V.is_start (inl leaves)

  left : pos 0 <ℤ triple n u f
  left = left-turn n u n-some u-some level-u

  f-some : IsDirection f
  f-some z = u-some (nought-if n u n-some z level-u)

  abbrev way : Vector
  way = close_way s C S here V.from c corner a V.start V.is_start f

  pub on-way : OnItem V.from.map (arc_item c) way
  on-way = on-close s C S here V.from c corner a V.start V.is_start f (square-cross n u) (inl (leaves, left))

  -- ---- there it arrives
  abbrev M : Map
  M = V.to.map

  L : Valid M
  L = (S.cones j V.to V.is_to).valid

  abbrev K : ℕ
  K = amount (forms M) f + steep (carriers s) f

  abbrev d : Vector
  d = blend K t 1 f

  abbrev p : SpacePoint
  p = ahead s V.from.point way

  abbrev q : SpacePoint
  q = ahead s V.to.point d

  tied-q : IsTied s p q
  tied-q =
      let x = ahead s (ahead s V.from.point u) f in
      let y = ahead s (ahead s V.to.point t) f in
      tied-both s p x q (tied-turned s x p (tied-close_way s C S here V.from c corner a V.start V.is_start f))
      (tied-both s x y q (tied-ahead s (ahead s V.from.point u) (ahead s V.to.point t) f V.tied) (tied-turn s V.to.point t f K (omega arith)))

  germs : SameGerms s p q
  germs = joined-germs s p q tied-q.0

  F : IsInFacetOf s (arc_item c) p
  F = facet-near s C S here V.from (arc_item c) corner way on-way

  t-way : SameDirection (opposite u) t
  t-way = opposite-way u t V.back

  t-some : IsDirection t
  t-some = direction-right (opposite u) t t-way

  level-t : dot n t ≡ pos 0
  level-t = level-way n (opposite u) t t-way (let e = dot-opposite n u in let z = level-u in omega (arith, ints))

  level-d : dot n d ≡ pos 0
  level-d =
      dot-comb n (pos K) t (pos 1) f ∙ ap (λ r. pos K *ℤ r +ℤ pos 1 *ℤ dot n f) level-t ∙ ap (λ r. pos K *ℤ pos 0 +ℤ pos 1 *ℤ r) (square-cross n u)
      ∙ ring (pos K ∷ []) (at 0 ⊗ num (pos 0) ⊕ num (pos 1) ⊗ num (pos 0)) (num (pos 0)) tt

  d-some : IsDirection d
  d-some = direction-around M L.shaped t d (far-keeps (forms M) t f K (omega arith)) t-some

  near : (g : Vector) (l : Label) → Germ s q g l → NearLabel M d g l
  near g l h = near-label M s V.to.point (S.cones j V.to V.is_to) d g l d-some ((near-ahead s V.to.point d g l).0 h)

  found : ItemAt s M d q n
  found = item-at s M L (S.least j V.to V.is_to) d q near d-some n ((S.cones i V.from V.is_from).valid.shaped.normals k (arc_item c) corner.item)
      (flats-carried s p q n germs F.flat) (FlatDim-by_germs s s p q germs 2 F.dim) level-d

  right : triple n t f <ℤ pos 0
  right = same-minus (neg_ℤ (triple n u f)) (triple n t f) (turn-same n n (opposite u) t f f (dir-self n n-some) t-way (dir-self f f-some) ∙ ap sign (back-triple n u f)) (let h = left in omega (arith, ints))

  by-item : (x : Item) (l : ℕ) → IsAt (items M) l x → OnItem M x d → SameDirection (item_normal x) n → ArcInto M b n
  by-item (arc_item e) l r o w = record {
    number = l;
    arc = e;
    listed = arc-at M.arcs M.sloop l e r;
    target = target-met M L.shaped b V.end V.is_end f K (omega arith) l e r o
        (same-minus (triple n t f) (triple e.normal t f) (turn-same n e.normal t t f f (SameDirection-turned e.normal n w) (dir-self t t-some) (dir-self f f-some)) right);
    one_normal = SameDirection-turned e.normal n w;
  }
  by-item (sloop_item e) l r o w =
      absurd (L.shaped.no_svertex_on_item b l V.end (sloop_item e) V.is_end r (record { direction = t-some; level = level-normal n e.normal t (SameDirection-turned e.normal n w) level-t }))

  pub next-arc : ArcInto M b n
  next-arc = by-item found.item found.number found.listed found.on found.same

-- ---- two arcs that leave one svertex with one normal are one
module _ (s : Set) (C : Complex) (S : Shows s C) (i a j b : ℕ) (V : EdgeFrom s C i a j b) (k l : ℕ) (c e : Arc) (at-k : IsAt V.from.map.arcs k c) (at-l : IsAt V.from.map.arcs l e) (leaves : c.source ≡ a) (also : e.source ≡ a) (w : SameDirection c.normal e.normal) where
  abbrev v : Vertex
  v = V.from

  first : IsCorner C (corner_of_numbers i k) v (arc_item c)
  first = record { vertex = V.is_from; item = at-arc v.map.arcs v.map.sloop k c at-k }

  second : IsCorner C (corner_of_numbers i l) v (arc_item e)
  second = record { vertex = V.is_from; item = at-arc v.map.arcs v.map.sloop l e at-l }

  abbrev g : Vector
  g = cross c.normal V.start.dir

  u-is : IsDirection V.start.dir
  u-is = direction-right (toward v.point V.to.point) V.start.dir V.onward

  n-is : IsDirection c.normal
  n-is = normal-is (S.cones i v V.is_from).valid.shaped k (arc_item c) first.item

  level-is : dot c.normal V.start.dir ≡ pos 0
  level-is = end-level s C S (corner_of_numbers i k) v c first a V.start V.is_start (inl leaves)

  g-is : IsDirection g
  g-is z = u-is (nought-if c.normal V.start.dir n-is z level-is)

  left-is : pos 0 <ℤ triple c.normal V.start.dir g
  left-is = left-turn c.normal V.start.dir n-is u-is level-is

  pub one-arc : k ≡ l
  one-arc = (S.cones i v V.is_from).valid.shaped.no_items_meet k l (arc_item c) (arc_item e)
      (close_way s C S (corner_of_numbers i k) v c first a V.start V.is_start g) first.item second.item
      (on-close s C S (corner_of_numbers i k) v c first a V.start V.is_start g (square-cross c.normal V.start.dir) (inl (leaves, left-is)))
      (on-close s C S (corner_of_numbers i l) v e second a V.start V.is_start g (level-normal c.normal e.normal g w (square-cross c.normal V.start.dir))
      (inl (also, same-plus (triple c.normal V.start.dir g) (triple e.normal V.start.dir g) (turn-same c.normal e.normal V.start.dir V.start.dir g g w (dir-self V.start.dir u-is) (dir-self g g-is)) left-is)))

-- ---- next corners
module _ (s : Set) (C : Complex) (S : Shows s C) where
  -- what stands where an arc is no sloop
  pub arc-no_sloop : (k : Corner) (v w : Vertex) (c : Arc) (l : MapSloop) → IsAt C.vertices k.vertex v → IsAt v.map.arcs k.item c → IsCorner C k w (sloop_item l) → ⊥
  arc-no_sloop k v w c l a b h =
      let e = is-at_one C.vertices k.vertex v w a h.vertex in
      differ (is-at_one (items w.map) k.item (arc_item c) (sloop_item l) (subst (λ (r : Vertex). IsAt (items r.map) k.item (arc_item c)) e (at-arc v.map.arcs v.map.sloop k.item c b)) h.item)
    where
      differ : ◌≡◌ {A = Item} (arc_item c) (sloop_item l) → ⊥
      differ e = cc

  arcs-apart : (i j k : Corner) (x : IsNextArc C i k) (y : IsNextArc C j k) → x.that_arc ≡ y.that_arc → i ≡ j
  arcs-apart i j k x y e =
      let V = edge-from s C S x.number x.edge x.is_edge i.vertex x.this_arc.source k.vertex x.that_arc.target x.leads in
      let W = subst (λ (c : Arc). EdgeFrom s C j.vertex y.this_arc.source k.vertex c.target) (sym e) (edge-from s C S y.number y.edge y.is_edge j.vertex y.this_arc.source k.vertex y.that_arc.target y.leads) in
      let p = i.vertex in let q = j.vertex in let a = x.this_arc.source in let b = y.this_arc.source in let m = k.vertex in let t = x.that_arc.target in
      let same = one-vertex s C S p a q b m t V W in
      let there = is-at_one C.vertices i.vertex y.here V.from (subst (λ (n : ℕ). IsAt C.vertices n y.here) (sym same) y.is_here) V.is_from in
      let here = is-at_one C.vertices i.vertex x.here V.from x.is_here V.is_from in
      corners-equal i j same
      (one-arc s C S p a m t V i.item j.item x.this_arc y.this_arc (subst (λ (v : Vertex). IsAt v.map.arcs i.item x.this_arc) here x.is_this) (subst (λ (v : Vertex). IsAt v.map.arcs j.item y.this_arc) there y.is_this)
      refl (sym (one-svertex s C S p a q b m t V W))
      (SameDirection-trans x.this_arc.normal x.that_arc.normal y.this_arc.normal x.one_normal
      (SameDirection-turned y.this_arc.normal x.that_arc.normal (subst (λ (c : Arc). SameDirection y.this_arc.normal c.normal) (sym e) y.one_normal))))

  pub next-injective : (i j k : Corner) → NextCorner C i k → NextCorner C j k → i ≡ j
  next-injective i j k (inl x) (inl y) =
      let e = is-at_one C.vertices k.vertex x.there y.there x.is_there y.is_there in
      arcs-apart i j k x y (is-at_one y.there.map.arcs k.item x.that_arc y.that_arc (subst (λ (v : Vertex). IsAt v.map.arcs k.item x.that_arc) e x.is_that) y.is_that)
  next-injective i j k (inl x) (inr (e, v', l, h)) = absurd (arc-no_sloop k x.there v' x.that_arc l x.is_there x.is_that (subst (λ (r : Corner). IsCorner C r v' (sloop_item l)) e h))
  next-injective i j k (inr (e, v', l, h)) (inl y) = absurd (arc-no_sloop k y.there v' y.that_arc l y.is_there y.is_that (subst (λ (r : Corner). IsCorner C r v' (sloop_item l)) e h))
  next-injective i j k (inr x) (inr y) = x.0 ∙ sym y.0

-- ---- a corner and the next are linked along an edge
pub next-linked : (C : Complex) (j k : Corner) → NextCorner C j k → Chained (FacetLink C) j k
next-linked C j k (inr x) = ([], x.0)
next-linked C j k (inl x) = ⊎_elim
    (λ l. chain-link (FacetLink C) j k (inl (record {
      number = x.number;
      edge = x.edge;
      is_edge = x.is_edge;
      from_low = sym l.0;
      to_high = sym l.2;
      along = record {
        low_vertex = x.here;
        high_vertex = x.there;
        ends = record { low = subst (λ (n : ℕ). IsAt C.vertices n x.here) (sym l.0) x.is_here; high = subst (λ (n : ℕ). IsAt C.vertices n x.there) (sym l.2) x.is_there };
        low_arc = x.this_arc;
        high_arc = x.that_arc;
        is_low = x.is_this;
        is_high = x.is_that;
        one_normal = x.one_normal;
        one_way = inl (sym l.1, sym l.3);
      };
    })))
    (λ l. chain-turned (FacetLink C) k j (chain-link (FacetLink C) k j (inl (record {
      number = x.number;
      edge = x.edge;
      is_edge = x.is_edge;
      from_low = sym l.2;
      to_high = sym l.0;
      along = record {
        low_vertex = x.there;
        high_vertex = x.here;
        ends = record { low = subst (λ (n : ℕ). IsAt C.vertices n x.there) (sym l.2) x.is_there; high = subst (λ (n : ℕ). IsAt C.vertices n x.here) (sym l.0) x.is_here };
        low_arc = x.that_arc;
        high_arc = x.this_arc;
        is_low = x.is_that;
        is_high = x.is_this;
        one_normal = SameDirection-turned x.this_arc.normal x.that_arc.normal x.one_normal;
        one_way = inr (sym l.3, sym l.1);
      };
    })))) x.leads
