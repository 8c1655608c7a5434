-- What lies above a vertex or an edge is linked with what lies above the edge or facet that leaves it in the first direction, down from up, that isn't free.
use Rattle.nef_conn.proofs.Prelude.{ℕ, ◌+◌, ◌<◌, ◌≤◌, arith, sym, ◌∙◌, ◌⊎◌, inl, inr, ⊎_elim, List, subst, Chained, Flat, FlatDim, Joined, SpacePoint, SamePoint, toward, IsBetween, Set, Vector, blend, dot, cross, opposite, IsZero, IsDirection, SameDirection, up, FlatDim-one, between-turned, between-inner, between-mix, ahead, joined-both, same-point_sym, toward-point, between-same, forms, SameSigns, same-nought, is-at_one, IsAt, Beside, same_way, other_way, beside, amount, far-keeps, far-level, Vertex, Edge, Complex, Corner, HasEnds, Shows, VertexSide, edge-points, edge-way, ahead-back, between-way, between-ends, between-outer, same-point_trans, VolumeLink, IsUpright, IsEvenAfter, EdgeWays, edge-ways, tied-ray, AreLinkedWhereJoined, nought-or, zero-decided, SameDirection-turned, SameDirection-trans, dir-signs, opposite-way, direction-left}
use Rattle.law_geometry.proofs.near.Points.{mix_point}
use Rattle.nef_conn.proofs.SameRay.{on-ray}
use Rattle.nef_space.proofs.Chains.{chain-trans, chain-turned}
use Rattle.nef_conn.proofs.Hits.{OverEdge, OverFacet, Over, ItemAt, over-item, above}
use Rattle.nef_conn.proofs.Near.{Above, Wedge, wedge-on, slot, to-slot}
use Rattle.nef_conn.proofs.NearOver.{high-frame, two-views}
use Rattle.nef_conn.proofs.OneOver.{vertex-dim, edge-dim, facet-dim}
use Rattle.nef_conn.proofs.OneNamed.{one-vertex}
use Rattle.nef_conn.proofs.Triangles.{half-to}
use Rattle.nef_conn.proofs.RaysEnd.{tied-dim}
use Rattle.nef_conn.proofs.Touch.{Seer, bound, Frame, Touch, vertex-frame, edge-frame, touched, turn-touch, same-seers, no-way}
use Rattle.law_geometry.proofs.near.Same.{one-not_zero, dim-same}
use Rattle.nef_space.proofs.Elementary.{same-itself}
use Rattle.law_geometry.proofs.complex.Edges.{inner-dim}

-- the way from an equal point
pub toward-same : (y c z : SpacePoint) → SamePoint y c → IsDirection (toward y z) → SameDirection (toward y z) (toward c z)
toward-same y c z e i =
    SameDirection-trans (toward y z) (toward y near-middle) (toward c z) (SameDirection-turned (toward y near-middle) (toward y z) (between-way y near-middle z amid))
    (SameDirection-trans (toward y near-middle) (toward near-middle z) (toward c z) amid (SameDirection-turned (toward c z) (toward near-middle z) (SameDirection-trans (toward c z) (toward c near-middle) (toward near-middle z) (SameDirection-turned (toward c near-middle) (toward c z) (between-way c near-middle z moved)) moved)))
  where
    near-middle : SpacePoint
    near-middle = mix_point 1 y z

    amid : IsBetween y near-middle z
    amid = between-mix 1 y z (omega arith) i

    moved : IsBetween c near-middle z
    moved = between-same y near-middle z c near-middle z e (same-itself near-middle) (same-itself z) amid

-- ---- a vertex from which all points to a point of an edge lie on an edge is an end of that edge
module _ (s : Set) (y z v w : SpacePoint) (vertex : FlatDim s y 0) (all : (r : SpacePoint) → IsBetween y r z → FlatDim s r 1) (b : IsBetween v z w) (edge : (r : SpacePoint) → IsBetween v r w → FlatDim s r 1)
    (flat : Flat s z (toward v w)) (low : FlatDim s v 0) (high : FlatDim s w 0) where
  one : FlatDim s z 1
  one = edge z b

  apart : IsDirection (toward z y)
  apart o = one-not_zero s z one (dim-same s y z 0 (same-point_sym z y (toward-point z y o)) vertex)

  back : (r : SpacePoint) → IsBetween z r y → FlatDim s r 1
  back r c = all r (between-turned z y r c)

  parallel : IsZero (cross (toward v w) (toward z y))
  parallel = ⊎_elim (λ i. i) (λ n. absurd (one.1 (toward v w, toward z y, n, flat, (let h = half-to s z y apart one back in h.flat)))) (zero-decided (cross (toward v w) (toward z y)))

  -- toward the end c of the edge
  toward-end : (c : SpacePoint) → ((r : SpacePoint) → IsBetween z r c → FlatDim s r 1) → FlatDim s c 0 → SameDirection (toward z y) (toward z c) → SamePoint y c
  toward-end c inner end w = by (on-ray z y c w)
    where
      by : IsBetween z y c ⊎ (SamePoint y c ⊎ IsBetween z c y) → SamePoint y c
      by (inl d) = absurd (one-not_zero s y (inner y d) vertex)
      by (inr (inl e)) = e
      by (inr (inr d)) = absurd (one-not_zero s c (back c d) end)

  pub is-end : SamePoint y v ⊎ SamePoint y w
  is-end = by (beside (toward v w) (toward z y) (between-ends v z w b) apart parallel)
    where
      by : Beside (toward v w) (toward z y) → SamePoint y v ⊎ SamePoint y w
      by (same_way o) = inr (toward-end w (λ r c. edge r (between-outer v z r w b c)) high
          (SameDirection-trans (toward z y) (toward v w) (toward z w) (SameDirection-turned (toward v w) (toward z y) o) (SameDirection-trans (toward v w) (toward v z) (toward z w) (SameDirection-turned (toward v z) (toward v w) (between-way v z w b)) b)))
      by (other_way o) = inl (toward-end v (λ r c. edge r (between-inner v z w r b (between-turned z v r c))) low
          (SameDirection-trans (toward z y) (opposite (toward v w)) (toward z v) (SameDirection-turned (opposite (toward v w)) (toward z y) (opposite-way (toward v w) (toward z y) o))
          (SameDirection-turned (toward z v) (opposite (toward v w)) (ahead-back v z (toward v w) (between-way v z w b)))))

-- directions close to g toward f, and close to one of the same way toward up, have the same signs where f points to the side of up
ways-above : (s : Set) (C : Complex) (S : Shows s C) (upright : IsUpright C) (gs : List Vector) (g d f : Vector) (k l : ℕ) → SameDirection g d → Above s C S upright g f → amount gs f ≤ k → amount gs up ≤ l → SameSigns gs (blend k g 1 f) (blend l d 1 up)
ways-above s C S upright gs g d f k l w up-side h i p m = ⊎_elim
    (λ z. far-level gs d up l i p (same-nought (dot p g) (dot p d) (dir-signs g d p (direction-left g d w) w) z) ∙ sym (up-side p z) ∙ sym (far-level gs g f k h p z))
    (λ n. far-keeps gs d up l i p m (λ z. n (same-nought (dot p d) (dot p g) (sym (dir-signs g d p (direction-left g d w) w)) z)) ∙ dir-signs g d p (direction-left g d w) w ∙ sym (far-keeps gs g f k h p m n))
    (nought-or (dot p g))

module _ (s : Set) (C : Complex) (S : Shows s C) (upright : IsUpright C) (linked : AreLinkedWhereJoined s C) where
  -- the side touches the vertex, or the edge close to the lower end, toward f
  abbrev pub BesideVertex : SpacePoint → Vector → VertexSide → Type 0
  BesideVertex z f x = (i : ℕ) × (v : Vertex) × (a : IsAt C.vertices i v) × (e : SamePoint v.point z) × Touch s C z (vertex-frame s C i v z a e) x f

  abbrev pub BesideEdge : SpacePoint → Vector → VertexSide → Type 0
  BesideEdge z f x = (k : ℕ) × (e : Edge) × (v : Vertex) × (w : Vertex) × (a : IsAt C.edges k e) × (H : HasEnds C e v w) × (b : IsBetween v.point z w.point) × Touch s C z (edge-frame s C S k e v w z a H b) x f

  abbrev pub Beside-point : SpacePoint → Vector → VertexSide → Type 0
  Beside-point z f x = BesideVertex z f x ⊎ BesideEdge z f x

  pub beside-over : (z : SpacePoint) (x : VertexSide) → (FlatDim s z 2 → ⊥) → Over s C S z x → Beside-point z up x
  beside-over z x n (inl A) = inl A
  beside-over z x n (inr (inl A)) = inr A
  beside-over z x n (inr (inr A)) = absurd (n (facet-dim s C S z x A))

  -- by free directions to another one
  pub turn-beside : (z : SpacePoint) (f g : Vector) (x : VertexSide) → FlatDim s (ahead s z f) 3 → FlatDim s (ahead s z g) 3 → Wedge s 3 z f g → Beside-point z f x → (x' : VertexSide) × Beside-point z g x' × Chained (VolumeLink C) x x'
  turn-beside z f g x hf hg all (inl (i, v, a, e, T)) =
      let F = vertex-frame s C i v z a e in
      let o = touched s C S z F g hg in
      (o.0, inl (i, v, a, e, o.1), turn-touch s C S z F f g hf hg all x o.0 T o.1)
  turn-beside z f g x hf hg all (inr (k, e, v, w, a, H, b, T)) =
      let F = edge-frame s C S k e v w z a H b in
      let o = touched s C S z F g hg in
      (o.0, inr (k, e, v, w, a, H, b, o.1), turn-touch s C S z F f g hf hg all x o.0 T o.1)

  module _ (y z : SpacePoint) (x x' : VertexSide) (g f : Vector) (to : SameDirection (toward y z) g) (up-side : Above s C S upright g f) (free : FlatDim s (ahead s y f) 3) (free' : FlatDim s (ahead s z up) 3) (wedge : Wedge s 3 y f g) where
    -- to a facet
    to-facet : (F : Frame s C y) → Touch s C y F x f → IsEvenAfter s 2 y z → OverFacet s C S z x' → Chained (VolumeLink C) x x'
    to-facet F T even B =
        let t = tied-ray s 2 y z g to even in
        let two = tied-dim s z (ahead s y g) 2 t (facet-dim s C S z x' B) in
        let L = slot s C S upright y F g two in
        chain-trans (VolumeLink C) x (above L.corner) x' (to-slot s C S upright y F g two f up-side free wedge x T)
        (chain-turned (VolumeLink C) x' (above L.corner) (over-item s C S linked z x' L.corner B (item-there L.corner t.0 L.item)))
      where
        item-there : (j : Corner) → Joined s z (ahead s y g) → ItemAt s C S (ahead s y g) j → ItemAt s C S z j
        item-there j J (v, i, c, (d, o, t)) = (v, i, c, (d, o, joined-both s z (ahead s y g) (ahead s v.point d) J t))

    -- from a vertex to an edge
    module _ (i : ℕ) (v : Vertex) (a : IsAt C.vertices i v) (e : SamePoint v.point y) (T : Touch s C y (vertex-frame s C i v y a e) x f) (even : IsEvenAfter s 1 y z) where
      abbrev F : Frame s C y
      F = vertex-frame s C i v y a e

      -- with a side of an end of the edge
      module _ (j : ℕ) (w : Vertex) (b : IsAt C.vertices j w) (d : Vector) (at-y : SamePoint y w.point) (way : SameDirection g d) (h : VertexSide) (n : ℕ) (large : bound s w up ≤ n) (U : Seer j w h (blend n d 1 up)) where
        at-end : Chained (VolumeLink C) x h
        at-end =
            let m = bound s v f + 1 in
            let k = wedge-on s 3 y f g m (omega arith) wedge in
            let o = touched s C S y F (blend m g 1 f) k.0 in
            let p = subst (λ (r : Vector). Seer i v o.0 r) (no-way o.1.steps (blend m g 1 f)) o.1.seer in
            let same = one-vertex s C S i j v w a b (same-point_trans v.point y w.point e at-y) in
            chain-trans (VolumeLink C) x o.0 h (turn-touch s C S y F f (blend m g 1 f) free k.0 k.1 x o.0 T o.1)
            (by o.0 p (subst (λ (r : ℕ). IsAt C.vertices r w) (sym same) b) (subst (λ (r : ℕ). Seer r w h (blend n d 1 up)) (sym same) U))
          where
            by : (x0 : VertexSide) → Seer i v x0 (blend (bound s v f + 1) g 1 f) → IsAt C.vertices i w → Seer i w h (blend n d 1 up) → Chained (VolumeLink C) x0 h
            by x0 p b' q =
                let one = is-at_one C.vertices i w v b' a in
                let q' = subst (λ (u : Vertex). Seer i u h (blend n d 1 up)) one q in
                let l = subst (λ (u : Vertex). bound s u up ≤ n) one large in
                same-seers s C S i v a x0 h (blend (bound s v f + 1) g 1 f) (blend n d 1 up) p q' (ways-above s C S upright (forms v.map) g d f (bound s v f + 1) n way up-side (omega arith) (omega arith))

      to-edge : OverEdge s C S z x' → Chained (VolumeLink C) x x'
      to-edge (k, e', v', w', a', H, b, U) = ⊎_elim low high (is-end s y z v'.point w'.point vertex all b (inner-dim s C k e' v' w' S a' H) flat (S.vertices e'.low v' H.low) (S.vertices e'.high w' H.high))
        where
          vertex : FlatDim s y 0
          vertex = dim-same s v.point y 0 e (S.vertices i v a)

          all : (r : SpacePoint) → IsBetween y r z → FlatDim s r 1
          all r c = even r (inl c)

          flat : Flat s z (toward v'.point w'.point)
          flat = let E = edge-points s C k e' v' w' z S a' H b in (E.1 (toward v'.point w'.point)).1 (edge-way s C k e' v' w' S a' H)

          W : EdgeWays e' v' w'
          W = edge-ways s C S k e' v' w' a' H

          -- from an end toward z
          from-end : (c : SpacePoint) → SamePoint y c → (d : Vector) → SameDirection (toward c z) d → SameDirection g d
          from-end c f d o = SameDirection-trans g (toward y z) d (SameDirection-turned (toward y z) g to) (SameDirection-trans (toward y z) (toward c z) d (moved c f) o)
            where
              moved : (c : SpacePoint) → SamePoint y c → SameDirection (toward y z) (toward c z)
              moved c f = toward-same y c z f (direction-left (toward y z) g to)

          low : SamePoint y v'.point → Chained (VolumeLink C) x x'
          low f = at-end e'.low v' H.low (edge-ways s C S k e' v' w' a' H).low.dir f
              (from-end v'.point f (edge-ways s C S k e' v' w' a' H).low.dir (SameDirection-trans (toward v'.point z) (toward v'.point w'.point) (edge-ways s C S k e' v' w' a' H).low.dir (between-way v'.point z w'.point b) (edge-ways s C S k e' v' w' a' H).onward)) x' U.steps U.large U.seer

          high : SamePoint y w'.point → Chained (VolumeLink C) x x'
          high f =
              let G = high-frame s C S upright linked k e' v' w' a' H z b free' in
              let o = touched s C S z G up free' in
              let c = between-turned v'.point w'.point z b in
              let E = edge-ways s C S k e' v' w' a' H in
              let d = SameDirection-trans (toward w'.point z) (toward w'.point v'.point) E.high.dir (between-way w'.point z v'.point c)
              (SameDirection-trans (toward w'.point v'.point) (opposite E.low.dir) E.high.dir (ahead-back v'.point w'.point E.low.dir E.onward) (opposite-way E.low.dir E.high.dir E.back)) in
              chain-trans (VolumeLink C) x o.0 x'
              (at-end e'.high w' H.high E.high.dir f (from-end w'.point f E.high.dir d) o.0 o.1.steps o.1.large o.1.seer)
              (chain-turned (VolumeLink C) x' o.0 (two-views s C S upright linked k e' v' w' a' H z b free' x' o.0 U o.1))

    -- ---- all of them, from a vertex or an edge
    pub near-over : (k : ℕ) → 0 < k → IsEvenAfter s k y z → (Flat s y (toward y z) → ⊥) → Beside-point y f x → Over s C S z x' → Chained (VolumeLink C) x x'
    near-over k sk even not A (inl B) = let d = FlatDim-one s z 0 k (vertex-dim s C S z x' B) (even z (inr (same-itself z))) in absurd (omega arith)
    near-over k sk even not (inl (i, v, a, e, T)) (inr (inl B)) = let d = FlatDim-one s z k 1 (even z (inr (same-itself z))) (edge-dim s C S z x' B) in to-edge i v a e T (subst (λ (n : ℕ). IsEvenAfter s n y z) d even) B
    near-over k sk even not (inl (i, v, a, e, T)) (inr (inr B)) = let d = FlatDim-one s z k 2 (even z (inr (same-itself z))) (facet-dim s C S z x' B) in to-facet (vertex-frame s C i v y a e) T (subst (λ (n : ℕ). IsEvenAfter s n y z) d even) B
    near-over k sk even not (inr (m, e, v, w, a, H, b, T)) (inr (inl B)) =
        let d = FlatDim-one s z k 1 (even z (inr (same-itself z))) (edge-dim s C S z x' B) in
        let E = subst (λ (n : ℕ). IsEvenAfter s n y z) d even in
        let K = half-to s y z (direction-left (toward y z) g to) (edge-points s C m e v w y S a H b).0 (λ r c. E r (inl c)) in
        absurd (not K.flat)
    near-over k sk even not (inr (m, e, v, w, a, H, b, T)) (inr (inr B)) = let d = FlatDim-one s z k 2 (even z (inr (same-itself z))) (facet-dim s C S z x' B) in to-facet (edge-frame s C S m e v w y a H b) T (subst (λ (n : ℕ). IsEvenAfter s n y z) d even) B
