-- An arc that ends at an edge goes on along it: at the edge's other end there is an arc of the same plane on the same side, and the two are linked.
use Rattle.nef_conn.proofs.Prelude.{◌≡◌, ℕ, ◌+◌, pos, ◌<ℤ◌, ◌+ℤ◌, ◌*ℤ◌, neg_ℤ, arith, ap, ◌∙◌, ◌⊎◌, inl, inr, ⊎_elim, ◌∷◌, subst, refl, [], ints, sign, ring, at, num, ◌⊕◌, ◌⊗◌, Germ, SpacePoint, toward, Set, Vector, opposite, blend, dot, cross, triple, IsDirection, SameDirection, IsOpposite, Label, carriers, SameGerms, FlatDim-by_germs, ahead, near-ahead, joined-germs, steep, forms, IsAt, MapVertex, Arc, Item, arc_item, sloop_item, items, item_normal, Map, OnItem, NearLabel, Valid, normal-is, dot-comb, same-plus, same-minus, amount, far-keeps, arc-at, direction-around, turn-same, at-arc, Vertex, Edge, Complex, Corner, HasEnds, IsCorner, Shows, near-label, flats-carried, IsInFacetOf, source-met, target-met, ahead-back, LinkAlong, facet-near, IsTied, tied-turned, tied-both, tied-ahead, EdgeWays, edge-ways, ends-tied, EndsOnSide, end-level, close_way, on-close, tied-close_way, tied-turn, corner_of_numbers, left-turn, EndsAt, ArcsGoOn, dot-comm, square-cross, level-of_opposite, nought-if, SameDirection-turned, SameDirection-trans, dir-self, opposite-turned, level-way, opposite-way, direction-right, right-turn, back-triple}
use Rattle.law_geometry.proofs.complex.FacetCorners.{ItemAt, item-at}
use Rattle.law_geometry.proofs.complex.FacetEnds.{level-normal}

-- ---- an edge seen from one of its ends
-- an edge leads from svertex a of vertex i, which is v, to svertex b of vertex j, which is w
pub record EdgeAway (s : Set) (C : Complex) (i a : ℕ) (v : Vertex) (j b : ℕ) (w : Vertex) : Type 0 where
  pub start : MapVertex
  pub end : MapVertex
  pub is_from : IsAt C.vertices i v
  pub is_to : IsAt C.vertices j w
  pub is_start : IsAt v.map.svertices a start
  pub is_end : IsAt w.map.svertices b end
  pub onward : SameDirection (toward v.point w.point) start.dir
  pub back : IsOpposite start.dir end.dir
  pub tied : IsTied s (ahead s v.point start.dir) (ahead s w.point end.dir)

module _ (s : Set) (C : Complex) (S : Shows s C) (n : ℕ) (e : Edge) (at_n : IsAt C.edges n e) (v w : Vertex) (H : HasEnds C e v w) where
  abbrev W : EdgeWays e v w
  W = edge-ways s C S n e v w at_n H

  abbrev pub from-low : EdgeAway s C e.low e.low_svertex v e.high e.high_svertex w
  from-low = record {
    start = W.low;
    end = W.high;
    is_from = H.low;
    is_to = H.high;
    is_start = W.is_low;
    is_end = W.is_high;
    onward = W.onward;
    back = W.back;
    tied = ends-tied s C S n e v w at_n H;
  }

  abbrev pub from-high : EdgeAway s C e.high e.high_svertex w e.low e.low_svertex v
  from-high = record {
    start = W.high;
    end = W.low;
    is_from = H.high;
    is_to = H.low;
    is_start = W.is_high;
    is_end = W.is_low;
    onward = SameDirection-trans (toward w.point v.point) (opposite W.low.dir) W.high.dir (ahead-back v.point w.point W.low.dir W.onward) (opposite-way W.low.dir W.high.dir W.back);
    back = opposite-turned W.low.dir W.high.dir W.back;
    tied = tied-turned s (ahead s v.point W.low.dir) (ahead s w.point W.high.dir) (ends-tied s C S n e v w at_n H);
  }

-- an arc with the normal n that ends at svertex b, whose way is t, on the side of f; and it begins there exactly where the arc c ends at a
pub record ArcThere (M : Map) (c : Arc) (a b : ℕ) (t f : Vector) : Type 0 where
  pub number : ℕ
  pub arc : Arc
  pub listed : IsAt M.arcs number arc
  pub one_normal : SameDirection c.normal arc.normal
  pub one_way : ((c.source ≡ a) × (arc.target ≡ b)) ⊎ ((c.target ≡ a) × (arc.source ≡ b))
  pub side : EndsOnSide b t f arc

-- ---- the arc at the other end, on the side of f
module _ (s : Set) (C : Complex) (S : Shows s C) (i a : ℕ) (v : Vertex) (j b : ℕ) (v' : Vertex) (V : EdgeAway s C i a v j b v') (k : ℕ) (c : Arc) (listed : IsAt v.map.arcs k c) (f : Vector) (level : dot c.normal f ≡ pos 0) (f-some : IsDirection f) (side : EndsOnSide a V.start.dir f c) where
  abbrev here : Corner
  here = corner_of_numbers i k

  corner : IsCorner C here v (arc_item c)
  corner = record { vertex = V.is_from; item = at-arc v.map.arcs v.map.sloop k c listed }

  abbrev n : Vector
  n = c.normal

  abbrev u : Vector
  u = V.start.dir

  abbrev t : Vector
  t = V.end.dir

  n-some : IsDirection n
  n-some = normal-is (S.cones i v V.is_from).valid.shaped k (arc_item c) corner.item

  level-u : dot n u ≡ pos 0
  level-u = end-level s C S here v c corner a V.start V.is_start (⊎_elim (λ x. inl x.0) (λ x. inr x.0) side)

  abbrev way : Vector
  way = close_way s C S here v c corner a V.start V.is_start f

  on-way : OnItem v.map (arc_item c) way
  on-way = on-close s C S here v c corner a V.start V.is_start f level side

  abbrev M : Map
  M = v'.map

  L : Valid M
  L = (S.cones j v' V.is_to).valid

  abbrev K : ℕ
  K = amount (forms M) f + steep (carriers s) f

  abbrev d : Vector
  d = blend K t 1 f

  abbrev p : SpacePoint
  p = ahead s v.point way

  abbrev q : SpacePoint
  q = ahead s v'.point d

  tied-q : IsTied s p q
  tied-q =
      let x = ahead s (ahead s v.point u) f in
      let y = ahead s (ahead s v'.point t) f in
      tied-both s p x q (tied-turned s x p (tied-close_way s C S here v c corner a V.start V.is_start f))
      (tied-both s x y q (tied-ahead s (ahead s v.point u) (ahead s v'.point t) f V.tied) (tied-turn s v'.point t f K (omega arith)))

  germs : SameGerms s p q
  germs = joined-germs s p q tied-q.0

  F : IsInFacetOf s (arc_item c) p
  F = facet-near s C S here v (arc_item c) corner way on-way

  t-way : SameDirection (opposite u) t
  t-way = opposite-way u t V.back

  t-some : IsDirection t
  t-some = direction-right (opposite u) t t-way

  level-t : dot n t ≡ pos 0
  level-t = level-way n (opposite u) t t-way (level-of_opposite n u level-u)

  level-d : dot n d ≡ pos 0
  level-d =
      dot-comb n (pos K) t (pos 1) f ∙ ap (λ r. pos K *ℤ r +ℤ pos 1 *ℤ dot n f) level-t ∙ ap (λ r. pos K *ℤ pos 0 +ℤ pos 1 *ℤ r) level
      ∙ ring (pos K ∷ []) (at 0 ⊗ num (pos 0) ⊕ num (pos 1) ⊗ num (pos 0)) (num (pos 0)) tt

  d-some : IsDirection d
  d-some = direction-around M L.shaped t d (far-keeps (forms M) t f K (omega arith)) t-some

  near : (g : Vector) (l : Label) → Germ s q g l → NearLabel M d g l
  near g l h = near-label M s v'.point (S.cones j v' V.is_to) d g l d-some ((near-ahead s v'.point d g l).0 h)

  found : ItemAt s M d q n
  found = item-at s M L (S.least j v' V.is_to) d q near d-some n ((S.cones i v V.is_from).valid.shaped.normals k (arc_item c) corner.item)
      (flats-carried s p q n germs F.flat) (FlatDim-by_germs s s p q germs 2 F.dim) level-d

  -- seen from the other end f lies on the other side
  turned : (m : Vector) → SameDirection n m → sign (triple m t f) ≡ sign (neg_ℤ (triple n u f))
  turned m w = turn-same n m (opposite u) t f f w t-way (dir-self f f-some) ∙ ap sign (back-triple n u f)

  by-item : (x : Item) (l : ℕ) → IsAt (items M) l x → OnItem M x d → SameDirection (item_normal x) n → ArcThere M c a b t f
  by-item (sloop_item e) l r o w =
      absurd (L.shaped.no_svertex_on_item b l V.end (sloop_item e) V.is_end r (record { direction = t-some; level = level-normal n e.normal t (SameDirection-turned e.normal n w) level-t }))
  by-item (arc_item e) l r o w = ⊎_elim from-source from-target side
    where
      same : SameDirection n e.normal
      same = SameDirection-turned e.normal n w

      made : ((c.source ≡ a) × (e.target ≡ b)) ⊎ ((c.target ≡ a) × (e.source ≡ b)) → EndsOnSide b t f e → ArcThere M c a b t f
      made one z = record { number = l; arc = e; listed = arc-at M.arcs M.sloop l e r; one_normal = same; one_way = one; side = z }

      from-source : (c.source ≡ a) × (pos 0 <ℤ triple n u f) → ArcThere M c a b t f
      from-source (x, h) =
          let m = same-minus (neg_ℤ (triple n u f)) (triple e.normal t f) (turned e.normal same) (omega (arith, ints)) in
          let g = target-met M L.shaped b V.end V.is_end f K (omega arith) l e r o m in
          made (inl (x, g)) (inr (g, m))

      from-target : (c.target ≡ a) × (triple n u f <ℤ pos 0) → ArcThere M c a b t f
      from-target (x, h) =
          let m = same-plus (neg_ℤ (triple n u f)) (triple e.normal t f) (turned e.normal same) (omega (arith, ints)) in
          let g = source-met M L.shaped b V.end V.is_end f K (omega arith) l e r o m in
          made (inr (x, g)) (inl (g, m))

  pub arc-there : ArcThere M c a b t f
  arc-there = by-item found.item found.number found.listed found.on found.same

-- ---- on the side on which it is
-- a direction of the arc's plane on the side of a svertex on which the arc lies
pub record SideOf (c : Arc) (a : ℕ) (u : Vector) : Type 0 where
  pub dir : Vector
  pub level : dot c.normal dir ≡ pos 0
  pub some : IsDirection dir
  pub ends : EndsOnSide a u dir c

module _ (c : Arc) (a : ℕ) (u : Vector) (normal-some : IsDirection c.normal) (u-some : IsDirection u) (level-at : dot c.normal u ≡ pos 0) where
  abbrev g : Vector
  g = cross c.normal u

  g-some : IsDirection g
  g-some z = u-some (nought-if c.normal u normal-some z level-at)

  left : pos 0 <ℤ triple c.normal u g
  left = left-turn c.normal u normal-some u-some level-at

  pub side-of : EndsAt c a → SideOf c a u
  side-of (inl e) = record { dir = g; level = square-cross c.normal u; some = g-some; ends = inl (e, left) }
  side-of (inr e) = record {
    dir = opposite g;
    level = level-of_opposite c.normal g (square-cross c.normal u);
    some = λ z. g-some (let x = z.0 in omega (arith, ints), let y = z.1 in omega (arith, ints), let w = z.2 in omega (arith, ints));
    ends = inr (e, let h = left in let r = right-turn c.normal u g in omega (arith, ints));
  }

module _ (s : Set) (C : Complex) (S : Shows s C) (i a : ℕ) (v : Vertex) (j b : ℕ) (v' : Vertex) (V : EdgeAway s C i a v j b v') (k : ℕ) (c : Arc) (listed : IsAt v.map.arcs k c) where
  own : IsCorner C (corner_of_numbers i k) v (arc_item c)
  own = record { vertex = V.is_from; item = at-arc v.map.arcs v.map.sloop k c listed }

  pub goes-on : (o : EndsAt c a) → (f : Vector) × ArcThere v'.map c a b V.end.dir f
  goes-on o =
      let F = side-of c a V.start.dir (normal-is (S.cones i v V.is_from).valid.shaped k (arc_item c) own.item) (direction-right (toward v.point v'.point) V.start.dir V.onward)
      (end-level s C S (corner_of_numbers i k) v c own a V.start V.is_start o) o in
      (F.dir, arc-there s C S i a v j b v' V k c listed F.dir F.level F.some F.ends)

-- ---- the links
module _ (s : Set) (C : Complex) (S : Shows s C) (n : ℕ) (e : Edge) (at_n : IsAt C.edges n e) (v w : Vertex) (H : HasEnds C e v w) (j : Corner) (c : Arc) where
  pub link-up : (f : Vector) → j.vertex ≡ e.low → IsAt v.map.arcs j.item c → (A : ArcThere w.map c e.low_svertex e.high_svertex (from-low s C S n e at_n v w H).end.dir f) → LinkAlong C j (corner_of_numbers e.high A.number)
  link-up f low l A = record {
    number = n;
    edge = e;
    is_edge = at_n;
    from_low = low;
    to_high = refl;
    along = record { low_vertex = v; high_vertex = w; ends = H; low_arc = c; high_arc = A.arc; is_low = l; is_high = A.listed; one_normal = A.one_normal; one_way = A.one_way };
  }

  pub link-down : (f : Vector) → j.vertex ≡ e.high → IsAt w.map.arcs j.item c → (A : ArcThere v.map c e.high_svertex e.low_svertex (from-high s C S n e at_n v w H).end.dir f) → LinkAlong C (corner_of_numbers e.low A.number) j
  link-down f high l A = record {
    number = n;
    edge = e;
    is_edge = at_n;
    from_low = refl;
    to_high = high;
    along = record {
      low_vertex = v;
      high_vertex = w;
      ends = H;
      low_arc = A.arc;
      high_arc = c;
      is_low = A.listed;
      is_high = l;
      one_normal = SameDirection-turned c.normal A.arc.normal A.one_normal;
      one_way = ⊎_elim (λ x. inr (x.1, x.0)) (λ x. inl (x.1, x.0)) A.one_way;
    };
  }

pub arcs-go_on : ArcsGoOn
arcs-go_on s C n e j v c S at_n K =
    let E = S.edges.edges n e at_n in
    let l = arc-at v.map.arcs v.map.sloop j.item c K.item in (
      λ low o.
          let is = subst (λ (i : ℕ). IsAt C.vertices i v) low K.vertex in
          let H : HasEnds C e v E.high_vertex = record { low = is; high = E.is_high } in
          let A = goes-on s C S e.low e.low_svertex v e.high e.high_svertex E.high_vertex (from-low s C S n e at_n v E.high_vertex H) j.item c l o in
          (corner_of_numbers e.high A.1.number, link-up s C S n e at_n v E.high_vertex H j c A.0 low l A.1),
      λ high o.
          let is = subst (λ (i : ℕ). IsAt C.vertices i v) high K.vertex in
          let H : HasEnds C e E.low_vertex v = record { low = E.is_low; high = is } in
          let A = goes-on s C S e.high e.high_svertex v e.low e.low_svertex E.low_vertex (from-high s C S n e at_n E.low_vertex v H) j.item c l o in
          (corner_of_numbers e.low A.1.number, link-down s C S n e at_n E.low_vertex v H j c A.0 high l A.1),
    )
