-- What falls from a point b names a side of the class of what lies above the point at which the fall beside it ends: on an edge of the plane at once; at a vertex of the plane by what leaves it, or, where nothing does, by what lies below it.
use Rattle.nef_conn.proofs.Prelude.{◌≡◌, ℕ, zero, suc, ◌<◌, pos, ◌<ℤ◌, arith, sym, ◌⊎◌, inl, inr, ⊎_elim, subst, Lies, lies-left, lies-right, lies-append, Germ, FlatDim, IsEven, Label, label_not, Germ-unique, facet-at, SpacePoint, Form, form_at, normal_of, slope, SamePoint, InFrame, toward, IsBetween, Set, halves, Vector, opposite, IsDirection, SameDirection, up, frame, carriers, SameGerms, FlatDim-one, FlatDim-by_germs, between-turned, between-inner, label_of, germ_of, ahead, start-close, even-germs, labels-by_germs, flat-toward, flat_dim-of, Flat-from_cone, same-point_sym, reach_all, toward-point, point-toward, between-same, Complex, Shows, VertexSide, RayDown, IsFlatIn, near_point, near-between, facet-of, plane-between, even-by, skeleton-not_flat, skeleton-or_flat, between-outer, same-point_trans, IsUpright, IsEvenAfter, beside-ahead, beside-cell, AreLinkedWhereJoined, plane_set, sliced, nought-or, SameDirection-turned, SameDirection-trans, opposite-same, direction-left}
use Rattle.nef_conn.proofs.Leaves.{toward-same}
use Rattle.law_geometry.specs.near.Cells.{SameSigns}
use Rattle.nef_conn.proofs.SameRay.{on-ray}
use Rattle.nef_conn.proofs.SidePaths.{label-inside, inside-label}
use Rattle.nef_conn.proofs.Fans.{IsOff}
use Rattle.nef_conn.proofs.Land.{Landing}
use Rattle.nef_conn.proofs.Slice.{germ-on, germ-off, free-slice, unsliced}
use Rattle.nef_conn.proofs.SliceStrip.{lam, Clear, back-way}
use Rattle.law_geometry.proofs.near.Same.{dim-same}
use Rattle.nef_space.proofs.Elementary.{same-itself}

-- ---- the carriers of a slice are those of the set, and more
pub sliced-lies : (s : Set) (h f : Form) → Lies (carriers s) f → Lies (carriers (sliced s h)) f
sliced-lies s h f l = ⊎_elim (λ m. lies-left frame (halves (sliced s h)) f m) (λ m. lies-right frame (halves (sliced s h)) f (lies-left (halves s) (halves (plane_set h)) f m)) (lies-append frame (halves s) f l)

pub sliced-signs : (s : Set) (h : Form) (p q : SpacePoint) → SameSigns (carriers (sliced s h)) p q → SameSigns (carriers s) p q
sliced-signs s h p q same f l = same f (sliced-lies s h f l)

pub sliced-off : (s : Set) (h : Form) (y r : SpacePoint) → IsOff (sliced s h) y r → IsOff s y r
sliced-off s h y r off f l = off f (sliced-lies s h f l)

-- what lies close to y for the slice lies in the same cell for the set
pub sliced-ahead : (s : Set) (h : Form) (y : SpacePoint) (d : Vector) → SameSigns (carriers s) (ahead (sliced s h) y d) (ahead s y d)
sliced-ahead s h y d = beside-cell s y d (ahead (sliced s h) y d) (ahead s y d) (λ f l. beside-ahead (sliced s h) y d f (sliced-lies s h f l)) (beside-ahead s y d)

-- points with the same germs lie in the frame together
pub germs-inside : (s : Set) (p q : SpacePoint) → SameGerms s p q → InFrame p → InFrame q
germs-inside s p q same i = let l = label_of s p in label-inside s q l.0 ((labels-by_germs s p q same l.0).0 l.1) (inside-label s p l.0 l.1 i)

-- along a way that is free, up to its end that is free too, the germs are those of the end; where the end lies in the frame, so does the way
pub germs-along : (s : Set) (y b : SpacePoint) → ((r : SpacePoint) → IsBetween y r b → FlatDim s r 3) → FlatDim s b 3 → (r : SpacePoint) → IsBetween y r b → SameGerms s b r
germs-along s y b free three r m d l = let e = even-germs s 3 r b (even-by s 3 r b (free r m) (λ u k. free u (between-outer y r u b m k)) three) d l in (e.1, e.0)

pub frame-along : (s : Set) (y b : SpacePoint) → ((r : SpacePoint) → IsBetween y r b → FlatDim s r 3) → FlatDim s b 3 → InFrame b → (r : SpacePoint) → IsBetween y r b → InFrame r
frame-along s y b free three inside r m = germs-inside s b r (germs-along s y b free three r m) inside

-- points of the plane with the same germs have the same for the slice
module _ (s : Set) (h : Form) (p q : SpacePoint) (on-p : form_at h p ≡ pos 0) (on-q : form_at h q ≡ pos 0) where
  there : SameGerms s p q → (v : Vector) (l : Label) → Germ (sliced s h) p v l → Germ (sliced s h) q v l
  there same v l g = ⊎_elim (λ z. level z) (λ n. apart n) (nought-or (slope h v))
    where
      level : slope h v ≡ pos 0 → Germ (sliced s h) q v l
      level z = let k = germ_of s p v in subst (Germ (sliced s h) q v) (Germ-unique (sliced s h) p v (label_not k.0) l (germ-on s h p on-p v k.0 z k.1) g) (germ-on s h q on-q v k.0 z ((same v k.0).0 k.1))

      apart : (slope h v ≡ pos 0 → ⊥) → Germ (sliced s h) q v l
      apart n = let k = germ_of s p v in subst (Germ (sliced s h) q v) (Germ-unique (sliced s h) p v k.0 l (germ-off s h p on-p v k.0 n k.1) g) (germ-off s h q on-q v k.0 n ((same v k.0).0 k.1))

pub resliced : (s : Set) (h : Form) (p q : SpacePoint) → form_at h p ≡ pos 0 → form_at h q ≡ pos 0 → SameGerms s p q → SameGerms (sliced s h) p q
resliced s h p q on-p on-q same v l = (there s h p q on-p on-q same v l, there s h q p on-q on-p (λ d m. let g = same d m in (g.1, g.0)) v l)

-- the way to an equal point
pub toward-end : (y p c : SpacePoint) → SamePoint p c → IsDirection (toward y c) → SameDirection (toward y p) (toward y c)
toward-end y p c e i =
    subst (λ (v : Vector). SameDirection v (toward y c)) (sym (back-way p y)) (subst (λ (v : Vector). SameDirection (opposite (toward p y)) v) (sym (back-way c y))
    (opposite-same (toward p y) (toward c y) (toward-same p c y e (λ z. i (point-toward y c (same-point_trans y p c (same-point_sym p y (toward-point p y z)) e))))))

module _ (s : Set) (h : Form) (hn : IsDirection (normal_of h)) where
  abbrev t : Set
  t = sliced s h

  -- ---- points of the plane
  pub two-of : (p : SpacePoint) → form_at h p ≡ pos 0 → FlatDim s p 3 → InFrame p → IsFlatIn (sliced s h) h p
  two-of p on f i = let l = label_of s p in free-slice s h hn p l.0 on f l.1 (inside-label s p l.0 l.1 i)

  pub germs-of : (k : ℕ) (p r : SpacePoint) → form_at h p ≡ pos 0 → form_at h r ≡ pos 0 → IsEven (sliced s h) k p r → SameGerms s p r
  germs-of k p r on-p on-r even = unsliced s h p r on-p on-r (even-germs (sliced s h) k p r even)

  pub three-of : (k : ℕ) (p r : SpacePoint) → form_at h p ≡ pos 0 → form_at h r ≡ pos 0 → IsEven (sliced s h) k p r → FlatDim s p 3 → FlatDim s r 3
  three-of k p r on-p on-r even = FlatDim-by_germs s s p r (germs-of k p r on-p on-r even) 3

  -- a way in the plane is free in it where it is free, and the other way round where its end is
  pub two-along : (y b : SpacePoint) → form_at h y ≡ pos 0 → form_at h b ≡ pos 0 → ((r : SpacePoint) → IsBetween y r b → FlatDim s r 3) → FlatDim s b 3 → InFrame b → (r : SpacePoint) → IsBetween y r b → FlatDim (sliced s h) r 2
  two-along y b on-y on-b free three inside r m = let f = two-of r (plane-between h y r b m on-y on-b) (free r m) (frame-along s y b free three inside r m) in f.0

  pub three-along : (y b : SpacePoint) → form_at h y ≡ pos 0 → form_at h b ≡ pos 0 → FlatDim (sliced s h) b 2 → ((r : SpacePoint) → IsBetween b r y → FlatDim (sliced s h) r 2) → FlatDim s b 3 → (r : SpacePoint) → IsBetween y r b → FlatDim s r 3
  three-along y b on-y on-b two free three r m =
      let d = between-turned y b r m in
      three-of 2 b r on-b (plane-between h y r b m on-y on-b) (even-by (sliced s h) 2 b r two (λ p i. free p (between-inner b r y p d i)) (free r d)) three

-- no two close points are both vertices
pub no-vertices : (s : Set) (c y : SpacePoint) → IsDirection (toward c y) → FlatDim s (near_point s c y) 0 → ⊥
no-vertices s c y i f =
    let q = near_point s c y in
    f.1 (toward c q, direction-left (toward c q) (toward q y) (near-between s c y i), Flat-from_cone s q (toward c q) (flat-toward s c q (start-close (reach_all (carriers s) c) c y)))

module _ (s : Set) (C : Complex) (S : Shows s C) (upright : IsUpright C) (linked : AreLinkedWhereJoined s C) (h : Form) (hn : IsDirection (normal_of h)) (level : slope h up ≡ pos 0) where
  -- ---- what falls from b ends where it lands
  module _ (y' b : SpacePoint) (on-y' : form_at h y' ≡ pos 0) (on-b : form_at h b ≡ pos 0) (side : pos 0 <ℤ lam (normal_of h) y' b) (clear : Clear (sliced s h) h hn level y' b) (to-b : (r : SpacePoint) → IsBetween b r y' → FlatDim (sliced s h) r 2) (F : IsFlatIn (sliced s h) h b)
      (three : FlatDim s b 3) (inside : InFrame b) (g : Vector) (L : Landing (sliced s h) h hn level y' b on-y' on-b side clear to-b F g) (z : VertexSide) (R : RayDown C b z) where
    abbrev c : SpacePoint
    c = L.place

    free-b : (r : SpacePoint) → IsBetween b r L.place → FlatDim s r 3
    free-b r m = three-of s h hn 2 b r on-b (plane-between h b r L.place m on-b L.on) (even-by (sliced s h) 2 b r F.0 (λ u k. L.free u (between-inner b r L.place u m k)) (L.free r m)) three

    not-free : FlatDim s L.place 3 → ⊥
    not-free f =
        let even = even-by s 3 b L.place three free-b f in
        let two = two-of s h hn L.place L.on f (germs-inside s b L.place (even-germs s 3 b L.place even) inside) in
        let e = FlatDim-one (sliced s h) L.place 1 2 L.here two.0 in cc

    pub lands : SamePoint R.place L.place
    lands = by (on-ray b R.place L.place (SameDirection-trans (toward b R.place) (opposite up) (toward b L.place) R.ahead (SameDirection-turned (toward b L.place) (opposite up) L.below)))
      where
        by : IsBetween b R.place L.place ⊎ (SamePoint R.place L.place ⊎ IsBetween b L.place R.place) → SamePoint R.place L.place
        by (inl m) = absurd (skeleton-not_flat s C S (facet-at s C S) (facet-of s C S) R.place (R.spot, R.is_spot) (free-b R.place m))
        by (inr (inl e)) = e
        by (inr (inr m)) = absurd (⊎_elim not-free (λ o. R.first L.place m o) (skeleton-or_flat s C S (facet-at s C S) (facet-of s C S) L.place))

    -- how flat the set is there, and all along the edge
    abbrev pub flatness : ℕ
    flatness = (flat_dim-of s L.place).0

    some-way : IsDirection (toward y' L.place)
    some-way = direction-left (toward y' L.place) g L.dir

    along : (r : SpacePoint) → IsBetween y' r L.place → SameGerms s L.place r
    along r m =
        let even = even-by (sliced s h) 1 r L.place (L.edge r m) (λ u k. L.edge u (between-outer y' r u L.place m k)) L.here in
        let same = germs-of s h hn 1 r L.place (plane-between h y' r L.place m on-y' L.on) L.on even in
        λ d l. let i = same d l in (i.1, i.0)

    pub edge-flat : (r : SpacePoint) → IsBetween y' r L.place → FlatDim s r flatness
    edge-flat r m = FlatDim-by_germs s s L.place r (along r m) flatness (flat_dim-of s L.place).1

    pub some-flat : 0 < flatness
    some-flat = by flatness (flat_dim-of s L.place).1 edge-flat
      where
        back : IsDirection (toward L.place y')
        back z = some-way (point-toward y' L.place (same-point_sym L.place y' (toward-point L.place y' z)))

        by : (k : ℕ) → FlatDim s L.place k → ((r : SpacePoint) → IsBetween y' r L.place → FlatDim s r k) → 0 < k
        by zero f all = absurd (no-vertices s L.place y' back (all (near_point s L.place y') (between-turned L.place y' (near_point s L.place y') (near-between s L.place y' back))))
        by (suc k) f all = omega arith

    pub even-hit : IsEvenAfter s flatness y' R.place
    even-hit r (inl m) = edge-flat r (between-same y' r R.place y' r L.place (same-itself y') (same-itself r) lands m)
    even-hit r (inr e) = dim-same s L.place r flatness (same-point_trans L.place R.place r (same-point_sym R.place L.place lands) (same-point_sym r R.place e)) (flat_dim-of s L.place).1
