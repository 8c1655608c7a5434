-- What lies above a point of the skeleton, and above what leaves it in the first direction down from up that isn't free, is linked.
use Rattle.nef_conn.proofs.Prelude.{◌≡◌, ℕ, ◌+◌, ◌*◌, ◌<◌, ◌≤◌, ℤ, pos, ◌+ℤ◌, ◌*ℤ◌, ◌<ℤ◌, arith, refl, ap, sym, ◌∙◌, inl, ⊎_elim, ◌∷◌, subst, [], ints, mul-pos, sign, ring, at, num, ◌⊕◌, ◌⊗◌, given, none, follows, product-off, Chained, FlatDim, SpacePoint, toward, IsBetween, Set, Vector, blend, dot, IsZero, IsDirection, SameDirection, up, FlatDim-one, ahead, same-factor, factor-same, same-nought, forms, SameSigns, IsAt, Item, items, item_normal, item_pos, OnItem, Shaped, item-forms, normal-form, on-level, PlaceOf, svertex_place, item_place, free_place, place_of, far-keeps, far-level, dot-comb, same-plus, Vertex, Complex, Corner, Shows, VertexSide, near_point, near-between, near-one, VolumeLink, IsUpright, free-dim, sees-pos, ahead-toward, ahead-way, dim-cell, even-after, IsTied, nought-or, vector-same, SameDirection-turned, SameDirection-trans, direction-left, blend-turned}
use Rattle.nef_conn.proofs.AtSides.{ahead-zero}
use Rattle.nef_space.proofs.Chains.{chain-trans}
use Rattle.nef_conn.proofs.Fans.{IsOff, fan}
use Rattle.nef_conn.proofs.Hits.{ItemAt, above}
use Rattle.nef_conn.proofs.RaysEnd.{tied-dim}
use Rattle.nef_conn.proofs.Touch.{bound, Frame, Touch, same-seers, touched, turn-touch}
use Rattle.law_geometry.proofs.near.Same.{dim-same}

-- ---- wedges
-- all directions between f and g are free
abbrev pub Wedge : Set → ℕ → SpacePoint → Vector → Vector → Type 0
Wedge s k y f g = (i j : ℕ) → 0 < i → 0 < j → FlatDim s (ahead s y (blend i f j g)) k

-- the same between directions of the same ways
pub wedge-way : (s : Set) (k : ℕ) (y : SpacePoint) (f f' g g' : Vector) → SameDirection f f' → SameDirection g g' → ((i j : ℕ) → 0 < i → 0 < j → IsDirection (blend i f' j g')) → Wedge s k y f g → Wedge s k y f' g'
wedge-way s k y f f' g g' w v some all i j si sj =
    let a = same-factor f f' w in
    let b = same-factor g g' v in
    -- a.k f = a.l f', b.k g = b.l g'
    let x = i * a.k * b.l in
    let z = j * b.k * a.l in
    let same = factor-same (blend x f z g) (blend i f' j g') (record {
      k = 1;
      l = a.l * b.l;
      some_k = omega arith;
      some_l = mul-pos a.some_l b.some_l;
      is_x = one a.k a.l b.k b.l f.x f'.x g.x g'.x a.is_x b.is_x;
      is_y = one a.k a.l b.k b.l f.y f'.y g.y g'.y a.is_y b.is_y;
      is_z = one a.k a.l b.k b.l f.z f'.z g.z g'.z a.is_z b.is_z;
      is_w = ring (pos (a.l * b.l) ∷ []) (num (pos 1) ⊗ num (pos 0)) (at 0 ⊗ num (pos 0)) tt;
    }) in
    let some-left : IsDirection (blend x f z g) = λ o. some i j si sj (zero-other (a.l * b.l) (mul-pos a.some_l b.some_l)
    (one a.k a.l b.k b.l f.x f'.x g.x g'.x a.is_x b.is_x) (one a.k a.l b.k b.l f.y f'.y g.y g'.y a.is_y b.is_y) (one a.k a.l b.k b.l f.z f'.z g.z g'.z a.is_z b.is_z) o) in
    dim-cell s (ahead s y (blend x f z g)) (ahead s y (blend i f' j g')) k (ahead-way s y (blend x f z g) (blend i f' j g') (same some-left)) (all x z (mul-pos (mul-pos si a.some_k) b.some_l) (mul-pos (mul-pos sj b.some_k) a.some_l))
  where
    one : (ak al bk bl : ℕ) (f f' g g' : ℤ) → pos ak *ℤ f ≡ pos al *ℤ f' → pos bk *ℤ g ≡ pos bl *ℤ g' → pos 1 *ℤ (pos (i * ak * bl) *ℤ f +ℤ pos (j * bk * al) *ℤ g) ≡ pos (al * bl) *ℤ (pos i *ℤ f' +ℤ pos j *ℤ g')
    one ak al bk bl f f' g g' e h = follows (pos i ∷ pos j ∷ pos ak ∷ pos al ∷ pos bk ∷ pos bl ∷ f ∷ f' ∷ g ∷ g' ∷ [])
        (num (pos 1) ⊗ (at 0 ⊗ at 2 ⊗ at 5 ⊗ at 6 ⊕ at 1 ⊗ at 4 ⊗ at 3 ⊗ at 8)) (at 3 ⊗ at 5 ⊗ (at 0 ⊗ at 7 ⊕ at 1 ⊗ at 9))
        (given (at 0 ⊗ at 5) (at 2 ⊗ at 6) (at 3 ⊗ at 7) e (given (at 1 ⊗ at 3) (at 4 ⊗ at 8) (at 5 ⊗ at 9) h none)) tt

    zero-other : {u v : Vector} (m : ℕ) → 0 < m → pos 1 *ℤ u.x ≡ pos m *ℤ v.x → pos 1 *ℤ u.y ≡ pos m *ℤ v.y → pos 1 *ℤ u.z ≡ pos m *ℤ v.z → IsZero u → IsZero v
    zero-other {u} {v} m sm ex ey ez o = (cancel m sm u.x v.x ex o.0, cancel m sm u.y v.y ey o.1, cancel m sm u.z v.z ez o.2)
      where
        cancel : (m : ℕ) → 0 < m → (a b : ℤ) → pos 1 *ℤ a ≡ pos m *ℤ b → a ≡ pos 0 → b ≡ pos 0
        cancel m sm a b e z = ⊎_elim (λ n. n) (λ n. absurd (product-off (pos m) b (omega (arith, ints)) n (sym e ∙ ap (λ r. pos 1 *ℤ r) z ∙ refl))) (nought-or b)

-- between two points close to y, on which all are as flat
pub wedge-of : (s : Set) (k : ℕ) (y p q : SpacePoint) → IsOff s y p → IsOff s y q → IsDirection (toward p q) → ((r : SpacePoint) → IsBetween p r q → FlatDim s r k) → Wedge s k y (toward y p) (toward y q)
wedge-of s k y p q a b d all = fan s k y p q a b d all

-- m g + f and f
pub wedge-on : (s : Set) (k : ℕ) (y : SpacePoint) (f g : Vector) (m : ℕ) → 0 < m → Wedge s k y f g → FlatDim s (ahead s y (blend m g 1 f)) k × Wedge s k y f (blend m g 1 f)
wedge-on s k y f g m sm all = (subst (λ (v : Vector). FlatDim s (ahead s y v) k) (blend-turned 1 m f g) (all 1 m (omega arith) sm), λ i j si sj. subst (λ (v : Vector). FlatDim s (ahead s y v) k) (both i j) (all (i + j) (j * m) (omega arith) (mul-pos sj sm)))
  where
    one : (i j : ℕ) (x z : ℤ) → pos (i + j) *ℤ x +ℤ pos (j * m) *ℤ z ≡ pos i *ℤ x +ℤ pos j *ℤ (pos m *ℤ z +ℤ pos 1 *ℤ x)
    one i j x z = ring (pos i ∷ pos j ∷ pos m ∷ x ∷ z ∷ []) ((at 0 ⊕ at 1) ⊗ at 3 ⊕ at 1 ⊗ at 2 ⊗ at 4) (at 0 ⊗ at 3 ⊕ at 1 ⊗ (at 2 ⊗ at 4 ⊕ num (pos 1) ⊗ at 3)) tt

    both : (i j : ℕ) → blend (i + j) f (j * m) g ≡ blend i f j (blend m g 1 f)
    both i j = vector-same (blend (i + j) f (j * m) g) (blend i f j (blend m g 1 f)) (one i j f.x g.x) (one i j f.y g.y) (one i j f.z g.z)

-- ---- beside a facet
module _ (s : Set) (C : Complex) (S : Shows s C) (upright : IsUpright C) where
  -- seen from what lies toward g, f points to the side to which up does
  abbrev pub Above : Vector → Vector → Type 0
  Above g f = (n : Vector) → dot n g ≡ pos 0 → sign (dot n f) ≡ sign (dot n up)

  -- toward what lies in a facet an item of the vertex lies, and what touches between it and such an f is linked with its upper side
  pub record Slot (y : SpacePoint) (F : Frame s C y) (g : Vector) : Type 0 where
    pub corner : Corner
    pub item : ItemAt s C S (ahead s y g) corner
    pub links : (f : Vector) → Above g f → (x : VertexSide) (m : ℕ) → bound s F.vertex f ≤ m → Touch s C y F x (blend m g 1 f) → Chained (VolumeLink C) x (above corner)

  module _ (y : SpacePoint) (F : Frame s C y) (g : Vector) (two : FlatDim s (ahead s y g) 2) where
    abbrev v : Vertex
    v = F.vertex

    abbrev K : ℕ
    K = bound s F.vertex g

    abbrev a : Vector
    a = blend K F.dir 1 g

    tied : IsTied s (ahead s y g) (ahead s v.point a)
    tied = F.tied g K (omega arith)

    two-there : FlatDim s (ahead s v.point a) 2
    two-there = tied-dim s (ahead s y g) (ahead s v.point a) 2 tied two

    some : IsDirection a
    some z = let e = FlatDim-one s (ahead s v.point a) 0 2 (dim-same s v.point (ahead s v.point a) 0 (ahead-zero s v.point a z) (S.vertices F.number v F.listed)) two-there in absurd (omega arith)

    V : Shaped v.map
    V = (S.cones F.number v F.listed).valid.shaped

    by-item : (k : ℕ) (x : Item) → IsAt (items v.map) k x → OnItem v.map x a → Slot y F g
    by-item k x h on = record {
      corner = record { vertex = F.number; item = k };
      item = (v, x, record { vertex = F.listed; item = h }, (a, on, tied.0));
      links = λ f up-side z m l T. same-seers s C S F.number v F.listed z (above (record { vertex = F.number; item = k })) (blend T.steps F.dir 1 (blend m g 1 f)) (blend m a 1 f) T.seer
          (record { here = refl; label = item_pos x; has = (x, h, refl); sees = sees-pos v.map V k x h a f on (λ o. let q = high f up-side in omega (arith, ints)) m (omega arith) (high f up-side) })
          (same f m l T.steps T.large);
    }
      where
        -- the item's plane holds the way and g
        holds-way : dot (item_normal x) F.dir ≡ pos 0
        holds-way = ⊎_elim (λ z. z)
            (λ o. absurd (o (same-nought (dot (item_normal x) a) (dot (item_normal x) F.dir) (sym (far-keeps (forms v.map) F.dir g K (omega arith) (item_normal x) (item-forms v.map k x (item_normal x) h (normal-form v.map x)) o)) (on-level v.map x a on))))
            (nought-or (dot (item_normal x) F.dir))

        holds-g : dot (item_normal x) g ≡ pos 0
        holds-g = same-nought (dot (item_normal x) a) (dot (item_normal x) g) (sym (far-level (forms v.map) F.dir g K (omega arith) (item_normal x) holds-way)) (on-level v.map x a on)

        high : (f : Vector) → Above g f → pos 0 <ℤ dot (item_normal x) f
        high f up-side = same-plus (dot (item_normal x) up) (dot (item_normal x) f) (up-side (item_normal x) holds-g) (upright (record { vertex = F.number; item = k }) v x (record { vertex = F.listed; item = h }))

        value : (f : Vector) (m : ℕ) (p : Vector) → dot p F.dir ≡ pos 0 → dot p (blend m a 1 f) ≡ dot p (blend m g 1 f)
        value f m p z =
            dot-comb p (pos m) a (pos 1) f ∙ ap (λ r. pos m *ℤ r +ℤ pos 1 *ℤ dot p f) (dot-comb p (pos K) F.dir (pos 1) g) ∙ ap (λ r. pos m *ℤ (pos K *ℤ r +ℤ pos 1 *ℤ dot p g) +ℤ pos 1 *ℤ dot p f) z
            ∙ ring (pos m ∷ pos K ∷ dot p g ∷ dot p f ∷ []) (at 0 ⊗ (at 1 ⊗ num (pos 0) ⊕ num (pos 1) ⊗ at 2) ⊕ num (pos 1) ⊗ at 3) (at 0 ⊗ at 2 ⊕ num (pos 1) ⊗ at 3) tt
            ∙ sym (dot-comb p (pos m) g (pos 1) f)

        same : (f : Vector) (m : ℕ) → bound s v f ≤ m → (n : ℕ) → bound s v (blend m g 1 f) ≤ n → SameSigns (forms v.map) (blend n F.dir 1 (blend m g 1 f)) (blend m a 1 f)
        same f m l n h p i = ⊎_elim
            (λ z. ap sign (value f m p z) ∙ sym (far-level (forms v.map) F.dir (blend m g 1 f) n (omega arith) p z))
            (λ o.
            let u = far-keeps (forms v.map) F.dir g K (omega arith) p i o in
            far-keeps (forms v.map) a f m (omega arith) p i (λ z. o (same-nought (dot p a) (dot p F.dir) (sym u) z)) ∙ u ∙ sym (far-keeps (forms v.map) F.dir (blend m g 1 f) n (omega arith) p i o))
            (nought-or (dot p F.dir))

    pub slot : Slot y F g
    slot = by (place_of v.map a some)
      where
        by : PlaceOf v.map a → Slot y F g
        by (item_place k x h on) = by-item k x h on
        by (free_place f) = let e = FlatDim-one s (ahead s v.point a) 3 2 (free-dim v.map s v.point (S.cones F.number v F.listed) a f) two-there in absurd (omega arith)
        by (svertex_place k u h w) =
            let q = ahead s v.point a in
            let to-q = ahead-toward s v.point a some in
            let m = near_point s v.point q in
            let b = near-between s v.point q (direction-left (toward v.point q) a to-q) in
            let one = near-one s C S F.number k v u F.listed h q (SameDirection-trans (toward v.point q) a u.dir to-q (SameDirection-turned u.dir a w)) in
            let e = FlatDim-one s m 1 2 one (even-after s 2 v.point a two-there m (inl b)) in absurd (omega arith)

  -- what touches toward f is linked with the upper side of the item in the first direction that isn't free
  pub to-slot : (y : SpacePoint) (F : Frame s C y) (g : Vector) (two : FlatDim s (ahead s y g) 2) (f : Vector) → Above g f → FlatDim s (ahead s y f) 3 → Wedge s 3 y f g → (x : VertexSide) → Touch s C y F x f → Chained (VolumeLink C) x (above (slot y F g two).corner)
  to-slot y F g two f up-side free all x T =
      let m = bound s F.vertex f + 1 in
      let w = wedge-on s 3 y f g m (omega arith) all in
      let o = touched s C S y F (blend m g 1 f) w.0 in
      chain-trans (VolumeLink C) x o.0 (above (slot y F g two).corner) (turn-touch s C S y F f (blend m g 1 f) free w.0 w.1 x o.0 T o.1) ((slot y F g two).links f up-side o.0 m (omega arith) o.1)
