-- The rays down from the ends of a segment of points with three flat directions name sides of one class, where that is known beside each vertex of the slices below: cut where a vertex of the slice lies on the line along up.
use Rattle.nef_conn.proofs.Prelude.{◌≡◌, ℕ, ℤ, pos, ◌+ℤ◌, ◌*ℤ◌, ◌<ℤ◌, ◌≤ℤ◌, neg_ℤ, arith, refl, ap, sym, ◌∙◌, ◌⊎◌, inl, inr, ⊎_elim, List, ◌∷◌, subst, [], ints, sign, Lies, ring, at, num, neg, ◌⊕◌, ◌⊖◌, ◌⊗◌, by_order, mul_pos, mul_nonneg, sign-plus, plus-is, minus-is, sign-minus, nought-is, nought-or, plus-of, Chained, FlatDim, IsVertex, IsEven, SpacePoint, Form, plane_through, form_at, normal_of, slope, SamePoint, InFrame, toward, IsBetween, Set, Vector, opposite, cross, dot, IsZero, IsDirection, SameDirection, up, FlatDim-by_germs, between-turned, between-inner, germ_of, even-germs, Germ-unique, signs-same, same-point_sym, all-vertices, Germ, Label, label_not, toward-point, point-toward, between-same, Beside, same_way, other_way, beside, same-plus, Complex, Shows, VertexSide, RayDown, near_point, near-between, through-at, ahead-back, facet-of, through-level, through-same, turn-last, plane-between, plane-ahead, even-by, plane-way, skeleton-not_flat, skeleton-or_flat, between-way, between-cases, between-outer, same-point_trans, VolumeLink, IsUpright, facet-at, AreLinkedWhereJoined, opposite_form, sliced, dot-comm, zero-decided, dot-zero, SameDirection-turned, SameDirection-trans, parallel-in_plane, dot-opposite, opposite-way, direction-left, direction-right}
use Rattle.nef_conn.proofs.SameRay.{on-ray}
use Rattle.nef_conn.proofs.Sweep.{Crosses, crosses-or, crosses-first, crosses-second, level-end, level-start, cut-of}
use Rattle.nef_space.proofs.Chains.{chain-trans, chain-turned}
use Rattle.nef_conn.proofs.Claims.{Claim, beside-fall}
use Rattle.nef_conn.proofs.Fall.{lam-zero}
use Rattle.nef_conn.proofs.Hits.{ray-over}
use Rattle.nef_conn.proofs.NearOver.{up-some}
use Rattle.nef_conn.proofs.OneOver.{over-place}
use Rattle.nef_conn.proofs.Leaves.{toward-same}
use Rattle.nef_conn.proofs.RaysEnd.{ray-down}
use Rattle.nef_conn.proofs.Silhouettes.{germs-inside, two-of}
use Rattle.nef_conn.proofs.Slice.{germ-on, germ-off}
use Rattle.nef_conn.proofs.SliceStrip.{lam, up_line, lam-at, lam-turned, lam-sum, Clear, lam-plus}
use Rattle.nef_space.proofs.Vectors.{neg-zero, opposite-at, opposite-slope}
use Rattle.law_geometry.proofs.near.Same.{dim-same}
use Rattle.nef_space.proofs.Elementary.{same-itself}

-- ---- the slice by a plane and by its opposite form have one cone at each point of the plane
minus-lam : (h : Form) (p q : SpacePoint) → lam (normal_of (opposite_form h)) p q ≡ neg_ℤ (lam (normal_of h) p q)
minus-lam h p q = let v = toward p q in ring (h.a ∷ h.b ∷ h.c ∷ up.x ∷ up.y ∷ up.z ∷ v.x ∷ v.y ∷ v.z ∷ [])
    (neg (at 0) ⊗ (at 4 ⊗ at 8 ⊖ at 5 ⊗ at 7) ⊕ neg (at 1) ⊗ (at 5 ⊗ at 6 ⊖ at 3 ⊗ at 8) ⊕ neg (at 2) ⊗ (at 3 ⊗ at 7 ⊖ at 4 ⊗ at 6))
    (neg (at 0 ⊗ (at 4 ⊗ at 8 ⊖ at 5 ⊗ at 7) ⊕ at 1 ⊗ (at 5 ⊗ at 6 ⊖ at 3 ⊗ at 8) ⊕ at 2 ⊗ (at 3 ⊗ at 7 ⊖ at 4 ⊗ at 6))) tt

zero-minus : (x : ℤ) → x ≡ pos 0 → neg_ℤ x ≡ pos 0
zero-minus x e = omega (arith, ints)

pub minus-some : (h : Form) → IsDirection (normal_of h) → IsDirection (normal_of (opposite_form h))
minus-some h i z = i (neg-zero h.a z.0, neg-zero h.b z.1, neg-zero h.c z.2)

pub minus-on : (h : Form) (p : SpacePoint) → form_at h p ≡ pos 0 → form_at (opposite_form h) p ≡ pos 0
minus-on h p e = opposite-at h p ∙ zero-minus (form_at h p) e

pub minus-off : (h : Form) (p : SpacePoint) → form_at (opposite_form h) p ≡ pos 0 → form_at h p ≡ pos 0
minus-off h p e = neg-zero (form_at h p) (sym (opposite-at h p) ∙ e)

pub minus-up : (h : Form) → slope h up ≡ pos 0 → slope (opposite_form h) up ≡ pos 0
minus-up h e = opposite-slope h up ∙ zero-minus (slope h up) e

-- slices by two forms that are nought at p, and whose planes hold the same directions
module _ (s : Set) (g h : Form) (p : SpacePoint) (on-g : form_at g p ≡ pos 0) (on-h : form_at h p ≡ pos 0) (same : (d : Vector) → slope g d ≡ pos 0 → slope h d ≡ pos 0) (back : (d : Vector) → slope h d ≡ pos 0 → slope g d ≡ pos 0) where
  there : (v : Vector) (l : Label) → Germ (sliced s g) p v l → Germ (sliced s h) p v l
  there v l x = ⊎_elim
      (λ z. let k = germ_of s p v in subst (Germ (sliced s h) p v) (Germ-unique (sliced s g) p v (label_not k.0) l (germ-on s g p on-g v k.0 z k.1) x) (germ-on s h p on-h v k.0 (same v z) k.1))
      (λ n. let k = germ_of s p v in subst (Germ (sliced s h) p v) (Germ-unique (sliced s g) p v k.0 l (germ-off s g p on-g v k.0 n k.1) x) (germ-off s h p on-h v k.0 (λ z. n (back v z)) k.1))
      (nought-or (slope g v))

pub one-slice : (s : Set) (g h : Form) (p : SpacePoint) → form_at g p ≡ pos 0 → form_at h p ≡ pos 0 → ((d : Vector) → slope g d ≡ pos 0 → slope h d ≡ pos 0) → ((d : Vector) → slope h d ≡ pos 0 → slope g d ≡ pos 0)
    → (k : ℕ) → FlatDim (sliced s g) p k → FlatDim (sliced s h) p k
one-slice s g h p a b same back k = FlatDim-by_germs (sliced s g) (sliced s h) p p (λ v l. (there s g h p a b same back v l, there s h g p b a back same v l)) k

pub minus-slice : (s : Set) (h : Form) (p : SpacePoint) → form_at h p ≡ pos 0 → (k : ℕ) → FlatDim (sliced s (opposite_form h)) p k → FlatDim (sliced s h) p k
minus-slice s h p on = one-slice s (opposite_form h) h p (minus-on h p on) on (λ d e. neg-zero (slope h d) (sym (opposite-slope h d) ∙ e)) (λ d e. opposite-slope h d ∙ zero-minus (slope h d) e)

later : (x : SpacePoint) (xs : List SpacePoint) (q : SpacePoint) → Lies (x ∷ xs) q → (x ≡ q → ⊥) → Lies xs q
later x xs q (inl e) f = absurd (f e)
later x xs q (inr l) f = l

part-first : (y r z u : SpacePoint) → IsBetween y r z → SamePoint u y ⊎ IsBetween y u r ⊎ SamePoint u r → SamePoint u y ⊎ IsBetween y u z ⊎ SamePoint u z
part-first y r z u b (inl e) = inl e
part-first y r z u b (inr (inl m)) = inr (inl (between-inner y r z u b m))
part-first y r z u b (inr (inr e)) = inr (inl (between-same y r z y u z (same-itself y) (same-point_sym u r e) (same-itself z) b))

part-second : (y r z u : SpacePoint) → IsBetween y r z → SamePoint u r ⊎ IsBetween r u z ⊎ SamePoint u z → SamePoint u y ⊎ IsBetween y u z ⊎ SamePoint u z
part-second y r z u b (inl e) = inr (inl (between-same y r z y u z (same-itself y) (same-point_sym u r e) (same-itself z) b))
part-second y r z u b (inr (inl m)) = inr (inl (between-outer y r u z b m))
part-second y r z u b (inr (inr e)) = inr (inr e)

module _ (s : Set) (C : Complex) (S : Shows s C) (upright : IsUpright C) (linked : AreLinkedWhereJoined s C) where
  -- ---- rays that end at one place
  pub one-end : (p q : SpacePoint) (x z : VertexSide) (R : RayDown C p x) (T : RayDown C q z) → SamePoint R.place T.place → Chained (VolumeLink C) x z
  one-end p q x z R T e = over-place s C S linked R.place T.place x z e (ray-over s C S p x R) (ray-over s C S q z T)

  free-ray : (p : SpacePoint) (x : VertexSide) (R : RayDown C p x) (r : SpacePoint) → IsBetween p r R.place → FlatDim s r 3
  free-ray p x R r m = ⊎_elim (λ f. f) (λ o. absurd (R.first r m o)) (skeleton-or_flat s C S (facet-at s C S) (facet-of s C S) r)

  not-free : (p : SpacePoint) (x : VertexSide) (R : RayDown C p x) → FlatDim s R.place 3 → ⊥
  not-free p x R f = skeleton-not_flat s C S (facet-at s C S) (facet-of s C S) R.place (R.spot, R.is_spot) f

  -- where one ray leads on through the start of the other, all between them free
  pub one-ray : (p q : SpacePoint) (x z : VertexSide) (R : RayDown C p x) (T : RayDown C q z) → SameDirection (toward p q) (opposite up) → ((r : SpacePoint) → IsBetween p r q → FlatDim s r 3) → FlatDim s q 3 → Chained (VolumeLink C) x z
  one-ray p q x z R T to all f = one-end p q x z R T (by (on-ray p R.place T.place (SameDirection-trans (toward p R.place) (opposite up) (toward p T.place) R.ahead (SameDirection-turned (toward p T.place) (opposite up) way))))
    where
      on : IsBetween p q T.place
      on = SameDirection-trans (toward p q) (opposite up) (toward q T.place) to (SameDirection-turned (toward q T.place) (opposite up) T.ahead)

      way : SameDirection (toward p T.place) (opposite up)
      way = SameDirection-trans (toward p T.place) (toward p q) (opposite up) (SameDirection-turned (toward p q) (toward p T.place) (between-way p q T.place on)) to

      free : (r : SpacePoint) → IsBetween p r T.place → FlatDim s r 3
      free r m = ⊎_elim (λ k. all r k) (λ o. ⊎_elim (λ e. dim-same s q r 3 (same-point_sym r q e) f) (λ k. free-ray q z T r k) o) (between-cases p q T.place r on m)

      by : IsBetween p R.place T.place ⊎ (SamePoint R.place T.place ⊎ IsBetween p T.place R.place) → SamePoint R.place T.place
      by (inl m) = absurd (not-free p x R (free R.place m))
      by (inr (inl e)) = e
      by (inr (inr m)) = absurd (not-free q z T (free-ray p x R T.place m))

  -- from equal points
  one-start : (p q : SpacePoint) (x z : VertexSide) (R : RayDown C p x) (T : RayDown C q z) → SamePoint p q → Chained (VolumeLink C) x z
  one-start p q x z R T e = one-end p q x z R T (by (on-ray p R.place T.place (SameDirection-trans (toward p R.place) (opposite up) (toward p T.place) R.ahead (SameDirection-turned (toward p T.place) (opposite up) way))))
    where
      some : IsDirection (toward p T.place)
      some o = direction-left (toward q T.place) (opposite up) T.ahead (point-toward q T.place (same-point_trans q p T.place (same-point_sym p q e) (toward-point p T.place o)))

      way : SameDirection (toward p T.place) (opposite up)
      way = SameDirection-trans (toward p T.place) (toward q T.place) (opposite up) (toward-same p q T.place e some) T.ahead

      by : IsBetween p R.place T.place ⊎ (SamePoint R.place T.place ⊎ IsBetween p T.place R.place) → SamePoint R.place T.place
      by (inl m) = absurd (not-free p x R (free-ray q z T R.place (between-same p R.place T.place q R.place T.place e (same-itself R.place) (same-itself T.place) m)))
      by (inr (inl f)) = f
      by (inr (inr m)) = absurd (not-free q z T (free-ray p x R T.place m))

  -- ---- steps
  -- the sides named below the points of G are known
  module _ (A : Form → Type 0) (G : SpacePoint → Type 0) (good : (h : Form) → A h → (hn : IsDirection (normal_of h)) (level : slope h up ≡ pos 0) (y : SpacePoint) → form_at h y ≡ pos 0 → FlatDim (sliced s h) y 0 → G y → Claim s C S upright linked h hn level y) where
    -- y, where the segment begins, lies above none but points of G
    abbrev Over-good : SpacePoint → Type 0
    Over-good y = (r : SpacePoint) → SameDirection (toward y r) (opposite up) → G r

    step-plus : (h : Form) → A h → (hn : IsDirection (normal_of h)) (level : slope h up ≡ pos 0) (y z : SpacePoint) (x x' : VertexSide) → form_at h y ≡ pos 0 → form_at h z ≡ pos 0 → InFrame y → IsEven s 3 y z → pos 0 <ℤ lam (normal_of h) y z → Clear (sliced s h) h hn level y z
        → Over-good y → RayDown C y x → RayDown C z x' → Chained (VolumeLink C) x x'
    step-plus h al hn level y z x x' on-y on-z inside even side clear over R T =
        beside-fall s C S upright linked h hn level y R.place z on-y on-place on-z R.ahead side clear (λ r m. even r (inr (inl m))) second (even z (inr (inr (same-itself z)))) (germs-inside s y z (even-germs s 3 y z even) inside)
        (inl (let f = two-of s h hn y on-y three-y inside in f.0)) x x' (ray-over s C S y x R) T (λ f. good h al hn level R.place on-place f (over R.place R.ahead))
      where
        three-y : FlatDim s y 3
        three-y = even y (inl (same-itself y))

        on-place : form_at h R.place ≡ pos 0
        on-place = plane-ahead h y R.place (opposite up) R.ahead (let e = dot-opposite (normal_of h) up in let l = level in omega (arith, ints)) on-y

        second : (r : SpacePoint) → IsBetween y r R.place → FlatDim s r 3 × InFrame r
        second r m = (free-ray y x R r m, germs-inside s y r (even-germs s 3 y r (even-by s 3 y r three-y (λ u k. free-ray y x R u (between-inner y r R.place u m k)) (free-ray y x R r m))) inside)

    step-minus : (h : Form) → A (opposite_form h) → (hn : IsDirection (normal_of h)) (level : slope h up ≡ pos 0) (y z : SpacePoint) (x x' : VertexSide) → form_at h y ≡ pos 0 → form_at h z ≡ pos 0 → InFrame y → IsEven s 3 y z → lam (normal_of h) y z <ℤ pos 0
        → ((r : SpacePoint) → IsVertex (sliced s h) r → form_at h r ≡ pos 0 → lam (normal_of h) y r <ℤ pos 0 → lam (normal_of h) r z ≤ℤ pos 0 → ⊥) → Over-good y → RayDown C y x → RayDown C z x' → Chained (VolumeLink C) x x'
    step-minus h al hn level y z x x' on-y on-z inside even side clear over R T =
        step-plus (opposite_form h) al (minus-some h hn) (minus-up h level) y z x x' (minus-on h y on-y) (minus-on h z on-z) inside even (let e = minus-lam h y z in omega (arith, ints))
        (λ r v o l m. let o' = minus-off h r o in clear r (minus-slice s h r o' 0 v) o' (let e = minus-lam h y r in omega (arith, ints)) (let e = minus-lam h r z in omega (arith, ints))) over R T

    -- ---- along a segment
    abbrev Overs : SpacePoint → SpacePoint → Type 0
    Overs y z = (u : SpacePoint) → SamePoint u y ⊎ IsBetween y u z ⊎ SamePoint u z → (r : SpacePoint) → SameDirection (toward u r) (opposite up) → G r

    module _ (h : Form) (al : A h) (al' : A (opposite_form h)) (hn : IsDirection (normal_of h)) (level : slope h up ≡ pos 0) where
      abbrev n : Vector
      n = normal_of h

      abbrev ps : List SpacePoint
      ps = (all-vertices (sliced s h)).0

      abbrev Uncrossed : SpacePoint → SpacePoint → Type 0
      Uncrossed y z = (q : SpacePoint) → Lies (all-vertices (sliced s h)).0 q → form_at h q ≡ pos 0 → Crosses (up_line (normal_of h) q) y z → ⊥

      -- signs at equal points
      same-plus-at : (y p q : SpacePoint) → SamePoint q p → pos 0 <ℤ lam (normal_of h) y p → pos 0 <ℤ lam (normal_of h) y q
      same-plus-at y p q e l =
          let a = lam-at n y p in
          let b = lam-at n y q in
          let m = plus-is (form_at (up_line n y) q) (signs-same (up_line n y ∷ []) q p e (up_line n y) (inl refl) ∙ sign-plus (form_at (up_line n y) p) (omega (arith, ints))) in
          omega (arith, ints)

      same-minus-at : (y p q : SpacePoint) → SamePoint q p → lam (normal_of h) y p <ℤ pos 0 → lam (normal_of h) y q <ℤ pos 0
      same-minus-at y p q e l =
          let a = lam-at n y p in
          let b = lam-at n y q in
          let m = minus-is (form_at (up_line n y) q) (signs-same (up_line n y ∷ []) q p e (up_line n y) (inl refl) ∙ sign-minus (form_at (up_line n y) p) (omega (arith, ints))) in
          omega (arith, ints)

      lam-past : (a b c : SpacePoint) → pos 0 <ℤ lam (normal_of h) a b → pos 0 ≤ℤ lam (normal_of h) b c → pos 0 <ℤ lam (normal_of h) a c
      lam-past a b c l m = plain (lam n a c) (lam n a b) (lam n b c) (lam-sum n a b c) l m
        where
          plain : (g d e : ℤ) → pos b.w *ℤ g ≡ pos c.w *ℤ d +ℤ pos a.w *ℤ e → pos 0 <ℤ d → pos 0 ≤ℤ e → pos 0 <ℤ g
          plain g d e q l m =
              let u = mul_pos (pos c.w) d (let k = c.proper in omega (arith, ints)) l in
              let v = mul_nonneg (pos a.w) e (let k = a.proper in omega (arith, ints)) m in
              plus-of (pos b.w) g (let j = b.proper in omega (arith, ints)) (omega (arith, ints))

      -- a vertex that lies past y and before z is crossed
      crossed : (y z r : SpacePoint) → IsVertex (sliced s h) r → form_at h r ≡ pos 0 → pos 0 <ℤ lam (normal_of h) y r → pos 0 <ℤ lam (normal_of h) r z → (q : SpacePoint) × Lies (all-vertices (sliced s h)).0 q × (form_at h q ≡ pos 0) × Crosses (up_line (normal_of h) q) y z
      crossed y z r v on l m =
          let A = (all-vertices (sliced s h)).2 r v in
          let q = A.0 in
          let a = same-plus-at y r q A.2 l in
          let e = lam-turned n y q in
          let f = lam-turned n r z in
          let b = same-minus-at z r q A.2 (omega (arith, ints)) in
          let g = lam-turned n z q in
          let x = lam-at n q y in
          let w = lam-at n q z in
          let on-q = nought-is (form_at h q) (signs-same (h ∷ []) q r A.2 h (inl refl) ∙ ap sign on) in
          (q, A.1, on-q, inr (omega (arith, ints), omega (arith, ints)))

      -- where z lies to the side of y, by a point between
      halves : (y z : SpacePoint) (x x' : VertexSide) → form_at h y ≡ pos 0 → form_at h z ≡ pos 0 → InFrame y → IsEven s 3 y z → Overs y z → Uncrossed y z → pos 0 <ℤ lam (normal_of h) y z → RayDown C y x → RayDown C z x' → Chained (VolumeLink C) x x'
      halves y z x x' on-y on-z inside even over none side R T =
          let m = ray-down s C S upright r inside-r three-r in
          chain-trans (VolumeLink C) x m.0 x' (step-plus h al hn level y r x m.0 on-y on-r inside even-y side-y clear-y (over y (inl (same-itself y))) R m.1)
          (chain-turned (VolumeLink C) x' m.0 (step-minus h al' hn level z r x' m.0 on-z on-r inside-z even-z (let e = lam-turned n r z in let l = side-z in omega (arith, ints)) clear-z (over z (inr (inr (same-itself z)))) T m.1))
        where
          some : IsDirection (toward y z)
          some o = let e = lam-zero n y z o in let l = side in omega (arith, ints)

          r : SpacePoint
          r = near_point s y z

          amid : IsBetween y (near_point s y z) z
          amid = near-between s y z some

          on-r : form_at h (near_point s y z) ≡ pos 0
          on-r = plane-between h y (near_point s y z) z amid on-y on-z

          three-r : FlatDim s (near_point s y z) 3
          three-r = even (near_point s y z) (inr (inl amid))

          even-y : IsEven s 3 y (near_point s y z)
          even-y = even-by s 3 y (near_point s y z) (even y (inl (same-itself y))) (λ u k. even u (inr (inl (between-inner y (near_point s y z) z u amid k)))) three-r

          even-z : IsEven s 3 z (near_point s y z)
          even-z = even-by s 3 z (near_point s y z) (even z (inr (inr (same-itself z)))) (λ u k. even u (inr (inl (between-turned z y u (between-inner z (near_point s y z) y u (between-turned y z (near_point s y z) amid) k))))) three-r

          inside-r : InFrame (near_point s y z)
          inside-r = germs-inside s y (near_point s y z) (even-germs s 3 y (near_point s y z) even-y) inside

          inside-z : InFrame z
          inside-z = germs-inside s y z (even-germs s 3 y z even) inside

          side-y : pos 0 <ℤ lam (normal_of h) y (near_point s y z)
          side-y = same-plus (lam n y z) (lam n y (near_point s y z)) (turn-last n up (toward y z) (toward y (near_point s y z)) (SameDirection-turned (toward y (near_point s y z)) (toward y z) (between-way y (near_point s y z) z amid))) side

          side-z : pos 0 <ℤ lam (normal_of h) (near_point s y z) z
          side-z = same-plus (lam n y (near_point s y z)) (lam n (near_point s y z) z) (turn-last n up (toward y (near_point s y z)) (toward (near_point s y z) z) amid) side-y

          clear-y : Clear (sliced s h) h hn level y (near_point s y z)
          clear-y u v on l m = let c = crossed y z u v on l (lam-plus n u (near_point s y z) z m side-z) in none c.0 c.1 c.2 c.3

          clear-z : (u : SpacePoint) → IsVertex (sliced s h) u → form_at h u ≡ pos 0 → lam (normal_of h) z u <ℤ pos 0 → lam (normal_of h) u (near_point s y z) ≤ℤ pos 0 → ⊥
          clear-z u v on l m =
              let e = lam-turned n z u in
              let g = lam-turned n u (near_point s y z) in
              let c = crossed y z u v on (lam-past y (near_point s y z) u side-y (omega (arith, ints))) (omega (arith, ints)) in
              none c.0 c.1 c.2 c.3

      uncrossed : (y z : SpacePoint) (x x' : VertexSide) → form_at h y ≡ pos 0 → form_at h z ≡ pos 0 → InFrame y → IsEven s 3 y z → Overs y z → Uncrossed y z → RayDown C y x → RayDown C z x' → Chained (VolumeLink C) x x'
      uncrossed y z x x' on-y on-z inside even over none R T = ⊎_elim at-one-place apart (zero-decided (toward y z))
        where
          at-one-place : IsZero (toward y z) → Chained (VolumeLink C) x x'
          at-one-place o = one-start y z x x' R T (toward-point y z o)

          even-back : IsEven s 3 z y
          even-back = even-by s 3 z y (even z (inr (inr (same-itself z)))) (λ u k. even u (inr (inl (between-turned z y u k)))) (even y (inl (same-itself y)))

          over-back : Overs z y
          over-back u (inl e) = over u (inr (inr e))
          over-back u (inr (inl m)) = over u (inr (inl (between-turned z y u m)))
          over-back u (inr (inr e)) = over u (inl e)

          none-back : Uncrossed z y
          none-back q l on (inl (a, b)) = none q l on (inr (b, a))
          none-back q l on (inr (a, b)) = none q l on (inl (b, a))

          vertical : IsDirection (toward y z) → lam (normal_of h) y z ≡ pos 0 → Chained (VolumeLink C) x x'
          vertical i e = by (beside up (toward y z) up-some i (parallel-in_plane n up (toward y z) hn level (plane-way h y z on-y on-z) e))
            where
              by : Beside up (toward y z) → Chained (VolumeLink C) x x'
              by (same_way w) = chain-turned (VolumeLink C) x' x (one-ray z y x' x T R (ahead-back y z up (SameDirection-turned up (toward y z) w)) (λ u k. even u (inr (inl (between-turned z y u k)))) (even y (inl (same-itself y))))
              by (other_way o) = one-ray y z x x' R T (SameDirection-turned (opposite up) (toward y z) (opposite-way up (toward y z) o)) (λ u k. even u (inr (inl k))) (even z (inr (inr (same-itself z))))

          apart : IsDirection (toward y z) → Chained (VolumeLink C) x x'
          apart i = by_order (lam n y z) (pos 0)
              (λ l. chain-turned (VolumeLink C) x' x (halves z y x' x on-z on-y (germs-inside s y z (even-germs s 3 y z even) inside) even-back over-back none-back (let e = lam-turned n y z in omega (arith, ints)) T R))
              (λ e. vertical i e)
              (λ l. halves y z x x' on-y on-z inside even over none l R T)

      -- ---- over the vertices of the slice
      sweep : (xs : List SpacePoint) (y z : SpacePoint) (x x' : VertexSide) → form_at h y ≡ pos 0 → form_at h z ≡ pos 0 → InFrame y → IsEven s 3 y z → Overs y z
          → ((q : SpacePoint) → Lies (all-vertices (sliced s h)).0 q → form_at h q ≡ pos 0 → Crosses (up_line (normal_of h) q) y z → Lies xs q) → RayDown C y x → RayDown C z x' → Chained (VolumeLink C) x x'
      sweep [] y z x x' on-y on-z inside even over only R T = uncrossed y z x x' on-y on-z inside even over (λ q l on c. only q l on c) R T
      sweep (w ∷ xs) y z x x' on-y on-z inside even over only R T = ⊎_elim
          (λ cr.
          let t = cut-of (up_line n w) y z cr in
          let r = t.place in
          let f = even r (inr (inl t.between)) in
          let first = even-by s 3 y r (even y (inl (same-itself y))) (λ u k. even u (inr (inl (between-inner y r z u t.between k)))) f in
          let second = even-by s 3 r z f (λ u k. even u (inr (inl (between-outer y r u z t.between k)))) (even z (inr (inr (same-itself z)))) in
          let on-r = plane-between h y r z t.between on-y on-z in
          let i = germs-inside s y r (even-germs s 3 y r first) inside in
          let m = ray-down s C S upright r i f in
          chain-trans (VolumeLink C) x m.0 x'
          (sweep xs y r x m.0 on-y on-r inside first (λ u o. over u (part-first y r z u t.between o))
          (λ q l on c. later w xs q (only q l on (crosses-first (up_line n q) y r z t.between c)) (λ e. level-end (up_line n w) y r t.level (subst (λ (v : SpacePoint). Crosses (up_line n v) y r) (sym e) c))) R m.1)
          (sweep xs r z m.0 x' on-r on-z i second (λ u o. over u (part-second y r z u t.between o))
          (λ q l on c. later w xs q (only q l on (crosses-second (up_line n q) y r z t.between c)) (λ e. level-start (up_line n w) r z t.level (subst (λ (v : SpacePoint). Crosses (up_line n v) r z) (sym e) c))) m.1 T))
          (λ no. sweep xs y z x x' on-y on-z inside even over (λ q l on c. later w xs q (only q l on c) (λ e. no (subst (λ (v : SpacePoint). Crosses (up_line n v) y z) (sym e) c))) R T)
          (crosses-or (up_line n w) y z)

      pub segment-in : (y z : SpacePoint) (x x' : VertexSide) → form_at h y ≡ pos 0 → form_at h z ≡ pos 0 → InFrame y → IsEven s 3 y z → Overs y z → RayDown C y x → RayDown C z x' → Chained (VolumeLink C) x x'
      segment-in y z x x' on-y on-z inside even over R T = sweep (all-vertices (sliced s h)).0 y z x x' on-y on-z inside even over (λ q l on c. l) R T

    -- ---- in whatever plane
    pub segment-names : ((h : Form) → A h) → (y z : SpacePoint) (x x' : VertexSide) → InFrame y → IsEven s 3 y z → Overs y z → RayDown C y x → RayDown C z x' → Chained (VolumeLink C) x x'
    segment-names each y z x x' inside even over R T = ⊎_elim (λ o. one-start y z x x' R T (toward-point y z o)) apart (zero-decided (toward y z))
      where
        apart : IsDirection (toward y z) → Chained (VolumeLink C) x x'
        apart i = ⊎_elim (λ o. by (beside up (toward y z) up-some i o)) slanted (zero-decided (cross up (toward y z)))
          where
            by : Beside up (toward y z) → Chained (VolumeLink C) x x'
            by (same_way w) = chain-turned (VolumeLink C) x' x (one-ray z y x' x T R (ahead-back y z up (SameDirection-turned up (toward y z) w)) (λ u k. even u (inr (inl (between-turned z y u k)))) (even y (inl (same-itself y))))
            by (other_way o) = one-ray y z x x' R T (SameDirection-turned (opposite up) (toward y z) (opposite-way up (toward y z) o)) (λ u k. even u (inr (inl k))) (even z (inr (inr (same-itself z))))

            slanted : IsDirection (cross up (toward y z)) → Chained (VolumeLink C) x x'
            slanted c =
                let m = cross up (toward y z) in
                let on-y = through-at m y y ∙ dot-zero m (toward y y) (point-toward y y (same-itself y)) in
                let on-z = through-at m y z ∙ (dot-comm m (toward y z) ∙ square-second (toward y z)) in
                segment-in (plane_through m y) (each (plane_through m y)) (each (opposite_form (plane_through m y))) (direction-right m (normal_of (plane_through m y)) (through-same m y c)) ((through-level m up y).0 (dot-comm m up ∙ square-first (toward y z))) y z x x' on-y on-z inside even over R T
              where
                square-first : (v : Vector) → dot up (cross up v) ≡ pos 0
                square-first v = ring (up.x ∷ up.y ∷ up.z ∷ v.x ∷ v.y ∷ v.z ∷ []) (at 0 ⊗ (at 1 ⊗ at 5 ⊖ at 2 ⊗ at 4) ⊕ at 1 ⊗ (at 2 ⊗ at 3 ⊖ at 0 ⊗ at 5) ⊕ at 2 ⊗ (at 0 ⊗ at 4 ⊖ at 1 ⊗ at 3)) (num (pos 0)) tt

                square-second : (v : Vector) → dot v (cross up v) ≡ pos 0
                square-second v = ring (up.x ∷ up.y ∷ up.z ∷ v.x ∷ v.y ∷ v.z ∷ []) (at 3 ⊗ (at 1 ⊗ at 5 ⊖ at 2 ⊗ at 4) ⊕ at 4 ⊗ (at 2 ⊗ at 3 ⊖ at 0 ⊗ at 5) ⊕ at 5 ⊗ (at 0 ⊗ at 4 ⊖ at 1 ⊗ at 3)) (num (pos 0)) tt
