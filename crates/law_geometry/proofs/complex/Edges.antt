-- The points of a set with one flat direction are those strictly between the ends of edges.
use Rattle.law_geometry.proofs.complex.Prelude.{◌≡◌, ℕ, zero, suc, pos, arith, refl, sym, inl, inr, ⊎_elim, ◌↔◌, subst, sign, HasLabel, Germ, Flat, FlatDim, IsVertex, IsEven, SpacePoint, toward, IsBetween, Set, Vector, zero_vector, opposite, dot, cross, IsZero, IsDirection, SameDirection, Label, carriers, NearGerm, IsOnSegment, Drop, label_of, germ_of, Flat-from_cone, FlatCone-from_flat, Germ-zero, signs-same, same-point_sym, slope-same, germs-by_cell, Flat-by_germs, FlatDim-by_germs, flat-germ, flat-plane, flat-line, germ-nearby, flat-toward, even-germs, labels-by_germs, span-1, span-3, flat_dim-of, near-by_signs, flat-by_signs, between-inner, start, start-close, start-between, start-toward, even-until, reach_all, between-same, is-at_one, dir-at, label-unique, by_side, NearPlain, NearStraight, Cone, IsAt, Map, MapVertex, MapLabel, at_svertex, NearLabel, dir_of, Item, items, Vertex, Edge, Complex, HasEnds, IsEdge, Corner, IsCorner, Shows, cross-turned, parallel-both, SameDirection-turned, SameDirection-trans, dir-self, direction-left}
use Rattle.law_geometry.proofs.near.Topology.{near-germ_zero}
use Rattle.law_geometry.proofs.complex.Ways.{between-way, between-rest, between-outer}
use Rattle.law_geometry.proofs.complex.Cones.{germ-label, near-germ, near-label, FlatAre, plane-sides}
use Rattle.nef_space.proofs.Elementary.{same-itself}

-- ---- at points close to p toward d, where the germs are those near d
module _ (M : Map) (s : Set) (p : SpacePoint) (K : Cone M s p) (d : Vector) (some : IsDirection d) (q : SpacePoint) (near : (e : Vector) (l : Label) → Germ s q e l ↔ NearGerm s p d e l) where
  pub label-near : (m : Label) → HasLabel s q m → MapLabel M d m
  label-near m h =
      let a = (near zero_vector m).0 ((Germ-zero s q zero_vector m (refl, refl, refl)).1 h) in
      germ-label M s p K d m some ((near-germ_zero s p d zero_vector m (refl, refl, refl)).0 a)

  -- with three flat directions the map is plain at d, with two it is straight
  pub plain-at : FlatDim s q 3 → NearPlain M d
  plain-at f =
      let m = label_of s q in
      record {
        label = m.0;
        at_d = label-near m.0 m.1;
        near = λ e _. near-label M s p K d e m.0 some ((near e m.0).0 (flat-germ s q e m.0 (let h = f.0 in span-3 s q h.0 h.1 h.2 e h.3 h.4 h.5 h.6) m.1));
      }

  pub straight-at : (n : Vector) → IsDirection n → FlatAre s q n → dot n d ≡ pos 0 → NearStraight M d
  straight-at n i flat level =
      let a = germ_of s q n in
      let m = label_of s q in
      let b = germ_of s q (opposite n) in
      record {
        normal = n;
        direction = i;
        level = level;
        pos = a.0;
        label = m.0;
        neg = b.0;
        at_d = label-near m.0 m.1;
        near = λ e _. near-label M s p K d e (by_side a.0 m.0 b.0 (sign (dot n e))) some ((near e (by_side a.0 m.0 b.0 (sign (dot n e)))).0 (plane-sides s q n flat a.0 m.0 b.0 a.1 m.1 b.1 i e));
      }

  -- so one direction is flat where the map is neither
  pub one-at : (NearPlain M d → ⊥) → (NearStraight M d → ⊥) → Flat s q d → FlatDim s q 1
  one-at plain straight flat = let j = flat_dim-of s q in by j.0 j.1
    where
      by : (j : ℕ) → FlatDim s q j → FlatDim s q 1
      by zero f = absurd (f.1 (d, some, flat))
      by (suc zero) f = f
      by (suc (suc zero)) f = let n = flat-plane s q f in absurd (straight (straight-at n.0 n.1 n.2 ((n.2 d).0 flat)))
      by (suc (suc (suc zero))) f = absurd (plain (plain-at f))
      by (suc (suc (suc (suc j)))) f = absurd f.0

-- ---- a point close to p on the way to y
module _ (s : Set) (p : SpacePoint) where
  abbrev pub near_point : SpacePoint → SpacePoint
  near_point y = start (reach_all (carriers s) p) p y

  pub near-between : (y : SpacePoint) → IsDirection (toward p y) → IsBetween p (near_point y) y
  near-between y i = start-between (reach_all (carriers s) p) p y i

  module _ (d : Vector) (y : SpacePoint) (w : SameDirection (toward p y) d) where
    pub way-near : SameDirection (toward p (near_point y)) d
    way-near = subst (λ (r : Vector). SameDirection r d) (sym (start-toward (reach_all (carriers s) p) p y)) w

    pub near-germs : (e : Vector) (l : Label) → Germ s (near_point y) e l ↔ NearGerm s p d e l
    near-germs e l =
        let g = germ-nearby s p (near_point y) (start-close (reach_all (carriers s) p) p y) e l in (
          λ h. near-by_signs s p (toward p (near_point y)) d e e l (λ f _ _. slope-same f (toward p (near_point y)) d way-near) (λ f _ _ _. refl) (g.0 h),
          λ h. g.1 (near-by_signs s p d (toward p (near_point y)) e e l (λ f _ _. sym (slope-same f (toward p (near_point y)) d way-near)) (λ f _ _ _. refl) h),
        )

    pub near-flat : Flat s (near_point y) d
    near-flat =
        let f = flat-toward s p (near_point y) (start-close (reach_all (carriers s) p) p y) in
        Flat-from_cone s (near_point y) d (flat-by_signs s (near_point y) (toward p (near_point y)) d (λ h _ _. slope-same h (toward p (near_point y)) d way-near) f)

-- ---- the points of an edge
abbrev pub IsAlongSvertex : Set → Vertex → MapVertex → Label → SpacePoint → Type 0
IsAlongSvertex s v u m y = FlatDim s y 1 × ((d : Vector) → Flat s y d ↔ IsZero (cross u.dir d)) × HasLabel s y m × ((d : Vector) (l : Label) → Germ s y d l ↔ NearLabel v.map u.dir d l)

module _ (s : Set) (C : Complex) (S : Shows s C) where
  -- a point equal to a vertex of the set is the point of a listed vertex
  pub vertex-listed : (p w x : SpacePoint) → IsVertex s x → IsBetween p x w → ((k : ℕ) (v : Vertex) → IsAt C.vertices k v → IsBetween p v.point w → ⊥) → ⊥
  vertex-listed p w x f b none =
      let u = S.complete x f in
      none u.0 u.1 u.2 (between-same p x w p u.1.point w (same-itself p) (same-point_sym u.1.point x u.3) (same-itself w) b)

  module _ (i k : ℕ) (v : Vertex) (u : MapVertex) (a : IsAt C.vertices i v) (b : IsAt v.map.svertices k u) where
    abbrev K : Cone v.map s v.point
    K = S.cones i v a

    some : IsDirection u.dir
    some = K.valid.shaped.svertex_dirs k u b

    pub near-one : (y : SpacePoint) → SameDirection (toward v.point y) u.dir → FlatDim s (near_point s v.point y) 1
    near-one y w = one-at v.map s v.point K u.dir some (near_point s v.point y) (near-germs s v.point u.dir y w) ((S.least i v a).no_plain k u b) ((S.least i v a).no_straight k u b) (near-flat s v.point u.dir y w)

    -- up to the first vertex the cone is that near v
    pub along-svertex : (w y : SpacePoint) → SameDirection (toward v.point w) u.dir → IsBetween v.point y w → ((j : ℕ) (x : Vertex) → IsAt C.vertices j x → IsBetween v.point x.point w → ⊥) → IsAlongSvertex s v u u.mark y
    along-svertex w y way on none =
        let to_y : SameDirection (toward v.point y) u.dir = SameDirection-trans (toward v.point y) (toward v.point w) u.dir (between-way v.point y w on) way in
        let q = near_point s v.point y in
        let n = reach_all (carriers s) v.point in
        let c : IsBetween v.point q y = start-between n v.point y (direction-left (toward v.point y) u.dir to_y) in
        let d : IsBetween q y w = between-rest v.point q y w c on in
        let f = near-one y to_y in
        let to_w : SameDirection u.dir (toward q w) = SameDirection-trans u.dir (toward v.point y) (toward q w) (SameDirection-turned (toward v.point y) u.dir to_y)
        (SameDirection-trans (toward v.point y) (toward y w) (toward q w) on (SameDirection-turned (toward q w) (toward y w) (way-end q y w d))) in
        let even = go w q f (between-outer-of w y q c on) none (Flat-from_cone s q (toward q w) (flat-by_signs s q u.dir (toward q w) (λ h _ _. slope-same h u.dir (toward q w) to_w) (FlatCone-from_flat s q u.dir (near-flat s v.point u.dir y to_y)))) in
        let e : IsEven s 1 q y = λ r h. at-point w q y f even d r h in
        let same = even-germs s 1 q y e in
        let one = e y (inr (inr (same-itself y))) in (
          one,
          λ g. flat-parallel y one (Flat-by_germs s s q y same u.dir (near-flat s v.point u.dir y to_y)) g,
          (labels-by_germs s q y same u.mark).0 (near-mark y to_y),
          λ g l. (
            λ h. near-label v.map s v.point K u.dir g l some ((near-germs s v.point u.dir y to_y g l).0 ((same g l).1 h)),
            λ h. (same g l).0 ((near-germs s v.point u.dir y to_y g l).1 (near-germ v.map s v.point K u.dir g l h)),
          ),
        )
      where
        -- direction from q to w when y is between
        way-end : (q y w : SpacePoint) → IsBetween q y w → SameDirection (toward q w) (toward y w)
        way-end q y w d = SameDirection-trans (toward q w) (toward q y) (toward y w) (SameDirection-turned (toward q y) (toward q w) (between-way q y w d)) d

        between-outer-of : (w y q : SpacePoint) → IsBetween v.point q y → IsBetween v.point y w → IsBetween v.point q w
        between-outer-of w y q c b = between-inner v.point y w q b c

        go : (w q : SpacePoint) → FlatDim s q 1 → IsBetween v.point q w → ((j : ℕ) (x : Vertex) → IsAt C.vertices j x → IsBetween v.point x.point w → ⊥) → Flat s q (toward q w) → (r : SpacePoint) → IsBetween q r w → FlatDim s r 1
        go w q f c none flat = ⊎_elim (λ all. all) (λ z. absurd (drop z)) (even-until s 1 q w f flat)
          where
            drop : Drop s 1 q w → ⊥
            drop z =
                let x = z.at_place in
                let l : z.drops.0 ≡ 0 = (let h = z.drops.1 in omega arith) in
                vertex-listed v.point w x (subst (FlatDim s x) l z.drops.2) (between-outer v.point q x w c z.between) none

        at-point : (w q y : SpacePoint) → FlatDim s q 1 → ((r : SpacePoint) → IsBetween q r w → FlatDim s r 1) → IsBetween q y w → (r : SpacePoint) → IsOnSegment q r y → FlatDim s r 1
        at-point w q y f even d r (inl e) = FlatDim-by_germs s s q r (germs-by_cell s q r (signs-same (carriers s) q r (same-point_sym r q e))) 1 f
        at-point w q y f even d r (inr (inl c)) = even r (between-inner q y w r d c)
        at-point w q y f even d r (inr (inr e)) = FlatDim-by_germs s s y r (germs-by_cell s y r (signs-same (carriers s) y r (same-point_sym r y e))) 1 (even y d)

        flat-parallel : (y : SpacePoint) → FlatDim s y 1 → Flat s y u.dir → (g : Vector) → Flat s y g ↔ IsZero (cross u.dir g)
        flat-parallel y one flat g =
            let l = flat-line s y one in
            let p = (l.2 u.dir).0 flat in
            (λ h. parallel-both l.0 u.dir g l.1 p ((l.2 g).0 h), λ z. span-1 s y u.dir g some flat z)

        near-mark : (y : SpacePoint) → (w : SameDirection (toward v.point y) u.dir) → HasLabel s (near_point s v.point y) u.mark
        near-mark y w =
            let q = near_point s v.point y in
            let m = label_of s q in
            let l = label-near v.map s v.point K u.dir some q (near-germs s v.point u.dir y w) m.0 m.1 in
            subst (HasLabel s q) (label-unique v.map K.valid u.dir m.0 u.mark l (at_svertex k u b (dir-self u.dir some) refl)) m.1

-- the svertices of an edge
svertex-dir : (e : Edge) (v : Vertex) (u : MapVertex) → IsAt v.map.svertices e.low_svertex u → dir_of v.map.svertices e.low_svertex ≡ u.dir
svertex-dir e v u a = dir-at v.map.svertices e.low_svertex u a

abbrev IsAlongEdge : Set → Edge → Vertex → SpacePoint → Type 0
IsAlongEdge s e v y = FlatDim s y 1 × ((d : Vector) → Flat s y d ↔ IsZero (cross (dir_of v.map.svertices e.low_svertex) d)) × HasLabel s y e.mark
    × ((d : Vector) (l : Label) → Germ s y d l ↔ NearLabel v.map (dir_of v.map.svertices e.low_svertex) d l)

edge-points_of : (s : Set) (C : Complex) (S : Shows s C) (e : Edge) (E : IsEdge C.vertices e) (y : SpacePoint) → IsBetween E.low_vertex.point y E.high_vertex.point → IsAlongEdge s e E.low_vertex y
edge-points_of s C S e E y b =
    let r = along-svertex s C S e.low e.low_svertex E.low_vertex E.low_end E.is_low E.leaves E.high_vertex.point y E.ahead b E.first in
    let w = sym (svertex-dir e E.low_vertex E.low_end E.leaves) in (
      r.0,
      subst (λ (d : Vector). (g : Vector) → Flat s y g ↔ IsZero (cross d g)) w r.1,
      subst (HasLabel s y) (sym E.mark) r.2,
      subst (λ (d : Vector). (g : Vector) (l : Label) → Germ s y g l ↔ NearLabel E.low_vertex.map d g l) w r.3,
    )

pub edge-points : (s : Set) (C : Complex) (k : ℕ) (e : Edge) (v w : Vertex) (y : SpacePoint) → Shows s C → IsAt C.edges k e → HasEnds C e v w → IsBetween v.point y w.point → IsAlongEdge s e v y
edge-points s C k e v w y S a H b =
    let E = S.edges.edges k e a in
    let f = is-at_one C.vertices e.low E.low_vertex v E.is_low H.low in
    let g = is-at_one C.vertices e.high E.high_vertex w E.is_high H.high in
    subst (λ (x : Vertex). IsAlongEdge s e x y) f (edge-points_of s C S e E y
    (subst (λ (x : Vertex). IsBetween E.low_vertex.point y x.point) (sym g) (subst (λ (x : Vertex). IsBetween x.point y w.point) (sym f) b)))

-- what lies between the ends of an edge is edge
pub inner-dim : (s : Set) (C : Complex) (k : ℕ) (e : Edge) (v w : Vertex) → Shows s C → IsAt C.edges k e → HasEnds C e v w → (y : SpacePoint) → IsBetween v.point y w.point → FlatDim s y 1
inner-dim s C k e v w S a H y b = (edge-points s C k e v w y S a H b).0

-- the edge runs along its lower svertex
pub edge-way : (s : Set) (C : Complex) (k : ℕ) (e : Edge) (v w : Vertex) → Shows s C → IsAt C.edges k e → HasEnds C e v w → IsZero (cross (dir_of v.map.svertices e.low_svertex) (toward v.point w.point))
edge-way s C k e v w S a H =
    let E = S.edges.edges k e a in
    let f = is-at_one C.vertices e.low E.low_vertex v E.is_low H.low in
    let g = is-at_one C.vertices e.high E.high_vertex w E.is_high H.high in
    subst (λ (x : Vertex). IsZero (cross (dir_of x.map.svertices e.low_svertex) (toward x.point w.point))) f
    (subst (λ (x : Vertex). IsZero (cross (dir_of E.low_vertex.map.svertices e.low_svertex) (toward E.low_vertex.point x.point))) g
    (subst (λ (d : Vector). IsZero (cross d (toward E.low_vertex.point E.high_vertex.point))) (sym (svertex-dir e E.low_vertex E.low_end E.leaves))
    (cross-turned (toward E.low_vertex.point E.high_vertex.point) E.low_end.dir E.ahead.parallel)))

-- a corner has one vertex and one item
pub corner-one : (C : Complex) (k : Corner) (v w : Vertex) (x z : Item) → IsCorner C k v x → IsCorner C k w z → x ≡ z
corner-one C k v w x z a b =
    let f = is-at_one C.vertices k.vertex v w a.vertex b.vertex in
    is-at_one (items w.map) k.item x z (subst (λ (r : Vertex). IsAt (items r.map) k.item x) f a.item) b.item
