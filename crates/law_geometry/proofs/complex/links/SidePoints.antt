-- Each side has points at it, and all points at one side are joined.
use Rattle.law_geometry.proofs.complex.links.Prelude.{◌≡◌, ℕ, ◌+◌, ◌*◌, ◌<◌, ℤ, pos, ◌+ℤ◌, ◌*ℤ◌, ◌<ℤ◌, arith, sym, ◌∙◌, ⊎_elim, ◌∷◌, subst, Some, [], ints, mul-pos, minus, nought, plus, sign, ring, at, num, ◌⊕◌, ◌⊗◌, sign-plus, sign-minus, FlatDim, SpacePoint, toward, Set, Vector, opposite, blend, dot, cross, IsDirection, SameDirection, IsOpposite, Label, carriers, ahead, same-sym, steep, forms, Cone, IsAt, MapVertex, Map, Item, items, item_normal, item_pos, item_mark, item_neg, OnItem, IsFree, Side, around_svertex, pos_item, neg_item, whole, HasSide, IsClear, Reaches, Sees, directly, by_way_of, InOneSface, here, link, HasArc, Shaped, amount, is-at_one, normal-is, same-minus, IsOpposite-decided, Beside, same_way, other_way, beside, cross-direction_right, free-close, Vertex, Complex, IsCorner, Shows, VertexSide, IsEvenAfter, IsAtSide, SidesHavePoints, dot-comm, self-pos, vector-same, cross-turned, square-cross, nought-if, SameDirection-turned, dir-self, dir-signs, parallel-trans, dot-opposite, level-way, opposite-way, blend-turned, cross-blend, level_cross_second}
use Rattle.law_geometry.proofs.complex.links.Ties.{ahead-toward, ahead-way, ahead-cells, ahead-ahead, dim-cell, even-fan, IsTied, tied-even, tied-cell, tied-turned, tied-both, tied-itself, tied-ahead, tied-ray, even-after}
use Rattle.law_geometry.proofs.complex.links.NearVertex.{free-dim, tied-off, facet-near, item-tied}
use Rattle.law_geometry.proofs.complex.links.EdgeEnds.{tied-turn, corner_of_numbers}
use Rattle.law_geometry.proofs.complex.links.SideSight.{sees-way, seen-free, blend-direction, lone-of, free-whole, aside, side-sees}

-- ---- points at a side
module _ (s : Set) (C : Complex) (S : Shows s C) where
  pub at-side : (x : VertexSide) (v : Vertex) (l : Label) → IsAt C.vertices x.vertex v → HasSide v.map x.side l → (d : Vector) → Sees v.map x.side d → IsAtSide s C x (ahead s v.point d)
  at-side x v l a h d o =
      let F = seen-free v.map x.side d o in
      record {
        vertex = v;
        is_vertex = a;
        label = l;
        has = h;
        sees = sees-way v.map d (toward v.point (ahead s v.point d)) (SameDirection-turned (toward v.point (ahead s v.point d)) d (ahead-toward s v.point d F.direction)) x.side o;
        even = even-after s 3 v.point d (free-dim v.map s v.point (S.cones x.vertex v a) d F);
      }

pub sides-have_points : SidesHavePoints
sides-have_points s C x l S (v, a, h) = let o = side-sees v.map (S.cones x.vertex v a).valid.shaped x.side l h in (ahead s v.point o.0, at-side s C S x v l a h o.0 o.1)

-- ---- directions that one side sees are tied
-- along a clear way
module _ (M : Map) (s : Set) (p : SpacePoint) (K : Cone M s p) where
  pub tied-clear : (d e : Vector) → IsClear M d e → IsFree M e → IsTied s (ahead s p d) (ahead s p e)
  tied-clear d e c F = tied-even s 3 (ahead s p d) (ahead s p e) (even-fan s p d e 3 (free-dim M s p K d c.start) (free-dim M s p K e F) (λ i j si sj. free-dim M s p K (blend i d j e) (c.between i j si sj)))

  -- as far as one likes toward the end of a clear way
  module _ (a y : Vector) (c : IsClear M a y) (k : ℕ) (some : 0 < k) where
    abbrev later : Vector
    later = blend k y 1 a

    one : (i j : ℕ) (x z : ℤ) → pos (i + j) *ℤ x +ℤ pos (j * k) *ℤ z ≡ pos i *ℤ x +ℤ pos j *ℤ (pos k *ℤ z +ℤ pos 1 *ℤ x)
    one i j x z = ring (pos i ∷ pos j ∷ pos k ∷ x ∷ z ∷ []) ((at 0 ⊕ at 1) ⊗ at 3 ⊕ at 1 ⊗ at 2 ⊗ at 4) (at 0 ⊗ at 3 ⊕ at 1 ⊗ (at 2 ⊗ at 4 ⊕ num (pos 1) ⊗ at 3)) tt

    both : (i j : ℕ) → blend (i + j) a (j * k) y ≡ blend i a j later
    both i j = vector-same (blend (i + j) a (j * k) y) (blend i a j later) (one i j a.x y.x) (one i j a.y y.y) (one i j a.z y.z)

    tied-later : IsTied s (ahead s p a) (ahead s p later)
    tied-later = tied-even s 3 (ahead s p a) (ahead s p later) (even-fan s p a later 3 (free-dim M s p K a c.start)
        (free-dim M s p K later (subst (IsFree M) (blend-turned 1 k a y) (c.between 1 k (omega arith) some)))
        (λ i j si sj. free-dim M s p K (blend i a j later) (subst (IsFree M) (both i j) (c.between (i + j) (j * k) (omega arith) (mul-pos sj some)))))

  -- so a clear way leads to a point beside its end
  pub tied-end : (a y : Vector) → IsClear M a y → IsTied s (ahead s p a) (ahead s (ahead s p y) a)
  tied-end a y c =
      let k = steep (carriers s) a + 1 in
      tied-both s (ahead s p a) (ahead s p (blend k y 1 a)) (ahead s (ahead s p y) a) (tied-later a y c k (omega arith))
      (tied-turned s (ahead s (ahead s p y) a) (ahead s p (blend k y 1 a)) (tied-turn s p y a k (omega arith)))

-- a direction whose way to an end on the side's item is clear, from the side
pub record Arrival (M : Map) (o : Side) : Type 0 where
  pub from : Vector
  pub end : Vector
  pub clear : IsClear M from end
  pub reached : Reaches M o from end

-- what a side sees is tied to an arrival
pub arrives : (M : Map) (s : Set) (p : SpacePoint) → Cone M s p → (o : Side) (d : Vector) → Sees M o d → (A : Arrival M o) × IsTied s (ahead s p d) (ahead s p A.from)
arrives M s p K o d (directly y c r) = (record { from = d; end = y; clear = c; reached = r }, tied-itself s (ahead s p d))
arrives M s p K o d (by_way_of c y a b r) = (record { from = c; end = y; clear = b; reached = r }, tied-clear M s p K d c a b.start)

-- what is level with a direction is level with its opposite
pub level-opposite : (n d e : Vector) → IsOpposite d e → dot n d ≡ pos 0 → dot n e ≡ pos 0
level-opposite n d e o z = level-way n (opposite d) e (opposite-way d e o) (let r = dot-opposite n d in omega (arith, ints))

-- ---- all around
module _ (M : Map) (s : Set) (p : SpacePoint) (K : Cone M s p) where
  abbrev V : Shaped M
  V = K.valid.shaped

  -- a map with nothing on it
  module _ (l : Label) (ground : M.ground ≡ Some l) where
    whole-dim : (d : Vector) → IsDirection d → FlatDim s (ahead s p d) 3
    whole-dim d i = free-dim M s p K d (free-whole M V l ground d i)

    whole-step : (d e : Vector) → IsDirection d → IsDirection e → (IsOpposite d e → ⊥) → IsTied s (ahead s p d) (ahead s p e)
    whole-step d e i j off = tied-even s 3 (ahead s p d) (ahead s p e) (even-fan s p d e 3 (whole-dim d i) (whole-dim e j) (λ a b sa sb. whole-dim (blend a d b e) (blend-direction d e a b sa sb i j off)))

    pub whole-tied : (d e : Vector) → IsDirection d → IsDirection e → IsTied s (ahead s p d) (ahead s p e)
    whole-tied d e i j = ⊎_elim (λ o. by o (aside d i)) (λ off. whole-step d e i j off) (IsOpposite-decided d e)
      where
        by : IsOpposite d e → (f : Vector) × IsDirection (cross d f) × (dot d f ≡ pos 0) → IsTied s (ahead s p d) (ahead s p e)
        by o (f, h, z) =
            let m = cross-direction_right d f h in
            let y = level-opposite f d e o (dot-comm f d ∙ z) in
            tied-both s (ahead s p d) (ahead s p f) (ahead s p e) (whole-step d f i m (λ w. let b = w.backward in omega (arith, ints))) (whole-step f e m j (λ w. let b = w.backward in omega (arith, ints)))

  -- a svertex without arcs
  module _ (k : ℕ) (u : MapVertex) (a : IsAt M.svertices k u) (lone : HasArc M k → ⊥) where
    abbrev z : SpacePoint
    z = ahead s p u.dir

    around-dim : (d : Vector) → IsDirection (cross u.dir d) → FlatDim s (ahead s z d) 3
    around-dim d i =
        let n = amount (forms M) d + steep (carriers s) d in
        dim-cell s (ahead s p (blend n u.dir 1 d)) (ahead s z d) 3 (same-sym (carriers s) (ahead s z d) (ahead s p (blend n u.dir 1 d)) (ahead-ahead s p u.dir d n (omega arith)))
        (free-dim M s p K (blend n u.dir 1 d) (free-close M V k u a lone d n (omega arith) i))

    around-step : (d e : Vector) → IsDirection (cross u.dir d) → IsDirection (cross u.dir e) → (IsOpposite (cross u.dir d) (cross u.dir e) → ⊥) → IsTied s (ahead s z d) (ahead s z e)
    around-step d e i j off = tied-even s 3 (ahead s z d) (ahead s z e) (even-fan s z d e 3 (around-dim d i) (around-dim e j)
        (λ b c sb sc. around-dim (blend b d c e) (subst IsDirection (sym (cross-blend u.dir d e b c)) (blend-direction (cross u.dir d) (cross u.dir e) b c sb sc i j off))))

    pub around-tied : (d e : Vector) → IsDirection (cross u.dir d) → IsDirection (cross u.dir e) → IsTied s (ahead s z d) (ahead s z e)
    around-tied d e i j = ⊎_elim by (λ off. around-step d e i j off) (IsOpposite-decided (cross u.dir d) (cross u.dir e))
      where
        by : IsOpposite (cross u.dir d) (cross u.dir e) → IsTied s (ahead s z d) (ahead s z e)
        by o =
            let m = cross u.dir d in
            let h : IsDirection (cross u.dir m) = λ y. i (nought-if u.dir m (V.svertex_dirs k u a) y (square-cross u.dir d)) in
            let q = level_cross_second u.dir m in
            let r = level-opposite (cross u.dir m) m (cross u.dir e) o (dot-comm (cross u.dir m) m ∙ q) in
            tied-both s (ahead s z d) (ahead s z m) (ahead s z e) (around-step d m i h (λ w. let b = w.backward in omega (arith, ints))) (around-step m e h j (λ w. let b = w.backward in omega (arith, ints)))

    -- an arrival at the svertex is tied to the points all around it
    pub tied-around : (d y : Vector) → IsClear M d y → SameDirection u.dir y → IsTied s (ahead s p d) (ahead s z d)
    tied-around d y c w = tied-both s (ahead s p d) (ahead s (ahead s p y) d) (ahead s z d) (tied-end M s p K d y c)
        (tied-cell s (ahead s (ahead s p y) d) (ahead s z d) (ahead-cells s (ahead s p y) z d (ahead-way s p y u.dir (SameDirection-turned u.dir y w))))

    apart-end : (d y : Vector) → IsClear M d y → SameDirection u.dir y → IsDirection (cross u.dir d)
    apart-end d y c w o = by (beside u.dir d (V.svertex_dirs k u a) c.start.direction o)
      where
        by : Beside u.dir d → ⊥
        by (same_way q) = c.start.off_svertices k u a q
        by (other_way q) = c.short (record {
          parallel = parallel-trans d u.dir y (V.svertex_dirs k u a) (cross-turned u.dir d o) w.parallel;
          backward = let h = q.backward in let e = same-minus (dot d u.dir) (dot d y) (dir-signs u.dir y d (V.svertex_dirs k u a) w) (let g = dot-comm d u.dir in omega (arith, ints)) in e;
        })

    pub lone-tied : (d e x y : Vector) → IsClear M d x → SameDirection u.dir x → IsClear M e y → SameDirection u.dir y → IsTied s (ahead s p d) (ahead s p e)
    lone-tied d e x y c v b w = tied-both s (ahead s p d) (ahead s z d) (ahead s p e) (tied-around d x c v)
        (tied-both s (ahead s z d) (ahead s z e) (ahead s p e) (around-tied d e (apart-end d x c v) (apart-end e y b w)) (tied-turned s (ahead s p e) (ahead s z e) (tied-around e y b w)))

-- ---- arrivals at one side
module _ (s : Set) (C : Complex) (S : Shows s C) (i : ℕ) (v : Vertex) (listed : IsAt C.vertices i v) where
  abbrev M : Map
  M = v.map

  abbrev K : Cone v.map s v.point
  K = S.cones i v listed

  module _ (k : ℕ) (x : Item) (a : IsAt (items v.map) k x) where
    corner : IsCorner C (corner_of_numbers i k) v x
    corner = record { vertex = listed; item = a }

    -- an arrival at an item from a side, and the points beside the item on that side
    item-arrival : (d y f : Vector) → IsClear v.map d y → OnItem v.map x y → (sign (dot (item_normal x) d) ≡ nought → ⊥) → sign (dot (item_normal x) f) ≡ sign (dot (item_normal x) d)
        → IsTied s (ahead s v.point d) (ahead s (ahead s v.point y) f)
    item-arrival d y f c o off same = tied-both s (ahead s v.point d) (ahead s (ahead s v.point y) d) (ahead s (ahead s v.point y) f) (tied-end v.map s v.point K d y c)
        (let F = facet-near s C S (corner_of_numbers i k) v x corner y o in tied-off s (ahead s v.point y) (item_normal x) (item_pos x) (item_mark x) (item_neg x) F.sided d f off same)

    item-arrivals : (d y e t f : Vector) → IsClear v.map d y → OnItem v.map x y → IsClear v.map e t → OnItem v.map x t → (sign (dot (item_normal x) f) ≡ nought → ⊥)
        → sign (dot (item_normal x) d) ≡ sign (dot (item_normal x) f) → sign (dot (item_normal x) e) ≡ sign (dot (item_normal x) f) → IsTied s (ahead s v.point d) (ahead s v.point e)
    item-arrivals d y e t f c o b q off same also =
        let g = ahead s (ahead s v.point y) f in
        let h = ahead s (ahead s v.point t) f in
        tied-both s (ahead s v.point d) g (ahead s v.point e) (item-arrival d y f c o (λ w. off (sym same ∙ w)) (sym same))
        (tied-both s g h (ahead s v.point e) (tied-ahead s (ahead s v.point y) (ahead s v.point t) f (item-tied s C S (corner_of_numbers i k) v x corner y t o q))
        (tied-turned s (ahead s v.point e) h (item-arrival e t f b q (λ w. off (sym also ∙ w)) (sym also))))

  arrivals : (o : Side) (l : Label) → HasSide v.map o l → (d y e t : Vector) → IsClear v.map d y → Reaches v.map o d y → IsClear v.map e t → Reaches v.map o e t → IsTied s (ahead s v.point d) (ahead s v.point e)
  arrivals (around_svertex k) l (u, a, f) d y e t c (w, b, m) g (r, h, n) =
      let one = λ (q : MapVertex) (j : IsAt v.map.svertices k q). is-at_one v.map.svertices k q u j a in
      lone-tied v.map s v.point K k u a (lone-of v.map K.valid.shaped k u l a f) d e y t c (subst (λ (q : MapVertex). SameDirection q.dir y) (one w b) m) g (subst (λ (q : MapVertex). SameDirection q.dir t) (one r h) n)
  arrivals (pos_item k) l has d y e t c (x, a, o, h) g (z, b, q, m) =
      let same = is-at_one (items v.map) k z x b a in
      let n = item_normal x in
      let up = sign-plus (dot n n) (self-pos n (normal-is K.valid.shaped k x a)) in
      item-arrivals k x a d y e t n c o g (subst (λ (r : Item). OnItem v.map r t) same q) (λ w. let j : plus ≡ nought = sym up ∙ w in cc) (sign-plus (dot n d) h ∙ sym up)
      (sign-plus (dot n e) (subst (λ (r : Item). pos 0 <ℤ dot (item_normal r) e) same m) ∙ sym up)
  arrivals (neg_item k) l has d y e t c (x, a, o, h) g (z, b, q, m) =
      let same = is-at_one (items v.map) k z x b a in
      let n = item_normal x in
      let up = self-pos n (normal-is K.valid.shaped k x a) in
      let r = dot-opposite n n in
      let down = sign-minus (dot n (opposite n)) (omega (arith, ints)) in
      item-arrivals k x a d y e t (opposite n) c o g (subst (λ (r : Item). OnItem v.map r t) same q) (λ w. let j : minus ≡ nought = sym down ∙ w in cc) (sign-minus (dot n d) h ∙ sym down)
      (sign-minus (dot n e) (subst (λ (r : Item). dot (item_normal r) e <ℤ pos 0) same m) ∙ sym down)
  arrivals whole l has d y e t c r g q = whole-tied v.map s v.point K l has d e c.start.direction g.start.direction

  -- what one side sees
  pub one-sight : (o : Side) (l : Label) → HasSide v.map o l → (d e : Vector) → Sees v.map o d → Sees v.map o e → IsTied s (ahead s v.point d) (ahead s v.point e)
  one-sight o l h d e a b =
      let A = arrives v.map s v.point K o d a in
      let B = arrives v.map s v.point K o e b in
      tied-both s (ahead s v.point d) (ahead s v.point A.0.from) (ahead s v.point e) A.1
      (tied-both s (ahead s v.point A.0.from) (ahead s v.point B.0.from) (ahead s v.point e) (arrivals o l h A.0.from A.0.end B.0.from B.0.end A.0.clear A.0.reached B.0.clear B.0.reached)
      (tied-turned s (ahead s v.point e) (ahead s v.point B.0.from) B.1))

  -- and the sides of one sface
  pub one-sface : (o q : Side) → InOneSface v.map o q → (l m : Label) → HasSide v.map o l → HasSide v.map q m → (d e : Vector) → Sees v.map o d → Sees v.map q e → IsTied s (ahead s v.point d) (ahead s v.point e)
  one-sface o q (here r) l m h g d e a b = one-sight o l h d e a b
  one-sface o q (link o' p q' n k c f) l m h g d e a b =
      tied-both s (ahead s v.point d) (ahead s v.point c.0) (ahead s v.point e) (one-sight o l h d c.0 a c.1) (one-sface p q f n m k g c.0 e c.2 b)

-- ---- all points at one side are joined
module _ (s : Set) (C : Complex) (S : Shows s C) where
  pub side-close : (v : Vertex) (o : Side) (p : SpacePoint) → Sees v.map o (toward v.point p) → IsEvenAfter s 3 v.point p → IsTied s p (ahead s v.point (toward v.point p))
  side-close v o p a even = tied-ray s 3 v.point p (toward v.point p) (dir-self (toward v.point p) (let F = seen-free v.map o (toward v.point p) a in F.direction)) even

  pub one-side : (x : VertexSide) (p q : SpacePoint) → IsAtSide s C x p → IsAtSide s C x q → IsTied s p q
  one-side x p q a b =
      let v = a.vertex in
      let e = is-at_one C.vertices x.vertex b.vertex v b.is_vertex a.is_vertex in
      let o = subst (λ (u : Vertex). Sees u.map x.side (toward u.point q)) e b.sees in
      let even = subst (λ (u : Vertex). IsEvenAfter s 3 u.point q) e b.even in
      let c = ahead s v.point (toward v.point p) in
      let d = ahead s v.point (toward v.point q) in
      tied-both s p c q (side-close v x.side p a.sees a.even)
      (tied-both s c d q (one-sight s C S x.vertex v a.is_vertex x.side a.label a.has (toward v.point p) (toward v.point q) a.sees o) (tied-turned s q d (side-close v x.side q o even)))
