-- The directions in which two items meet.
use Rattle.nef_sover.proofs.Prelude.{◌≡◌, ℕ, ◌+◌, ◌<◌, ◌≤◌, List, [], ◌∷◌, ◌++◌, Some, None, length, get_or, refl, sym, ap, subst, inl, inr, ◌⊎◌, svertex_limit, Vector, IsAtMost, IsParallel, SameDirection, cross, opposite, vector_of, Dir, IsOnCircle, arcs_are_of_directions, two_meets_at, SVertex, SphereMap, map-is_at, is-at_map, svertex_of, map_of, IsSphereMap, Track, track_normal, track_number, IsOnTrack, Axis, CrossedItems, AddsAxes, NamesTracks, IsCommon, IsMeetAlong, IsTrackMeet, IsOnSvertex, direction-right, dir-self, level-way, SameDirection-turned}
use Rattle.nef_arc.proofs.Ends.{source_on, target_on}
use Rattle.nef_sover.specs.declared.axes.Track.TheVariants.{Arc, Sloop}
use Rattle.nef_sover.proofs.Adding.{adds-none, adds-one, adds-both, adds-as, AnyFirst, AnyAt, any-more, any-all}
use Rattle.nef_space.proofs.Lists.{is-at_read}

on-same : (x : Track) (d e : Vector) → SameDirection d e → IsOnTrack x d → IsOnTrack x e
on-same (Arc k a) d e s o = arcs_are_of_directions (vector_of a.normal) (vector_of a.source) (vector_of a.target) d e a.normal.some (source_on a) (target_on a) s o
on-same (Sloop k l) d e s o = record { direction = direction-right d e s; level = level-way (vector_of l.normal) d e s o.level }

on-circle : (x : Track) (d : Vector) → IsOnTrack x d → IsOnCircle (track_normal x) d
on-circle (Arc k a) d o = o.on_circle
on-circle (Sloop k l) d o = o

module _ (x y : Track) where
  pub common-adds : (xs : List Axis) (d : Dir) (p q : ℕ) → IsAtMost svertex_limit (vector_of d) → IsCommon x y (vector_of d) → p ≡ track_number x → q ≡ track_number y
      → AddsAxes (IsMeetAlong x y (vector_of d)) xs (xs ++ record { dir = d; crossed = Some (p, q) } ∷ [])
  common-adds xs d p q s b e f = adds-one (IsMeetAlong x y (vector_of d)) xs (record { dir = d; crossed = Some (p, q) }) ((b, dir-self (vector_of d) d.some, (λ i. Some (e i, f i))), s) (λ k v w. w.1)

  pub apart-adds : (xs : List Axis) (d : Vector) → (IsCommon x y d → ⊥) → AddsAxes (IsMeetAlong x y d) xs xs
  apart-adds xs d n = adds-none (IsMeetAlong x y d) xs (λ c e q. let s = SameDirection-turned d e q.1 in n (on-same x e d s (let b = q.0 in b.0), on-same y e d s (let b = q.0 in b.1)))

  pub parallel-adds : (xs : List Axis) → IsParallel (track_normal x) (track_normal y) → AddsAxes (IsTrackMeet x y) xs xs
  parallel-adds xs p = adds-none (IsTrackMeet x y) xs (λ c e q. q.1 p)

  pub meets-add : (xs ys zs : List Axis) (d e : Vector) → (IsParallel (track_normal x) (track_normal y) → ⊥) → SameDirection (cross (track_normal x) (track_normal y)) d → e ≡ opposite d
      → AddsAxes (IsMeetAlong x y d) xs ys → AddsAxes (IsMeetAlong x y e) ys zs → AddsAxes (IsTrackMeet x y) xs zs
  meets-add xs ys zs d e n s o p q = adds-both (IsMeetAlong x y d) (IsMeetAlong x y e) (IsTrackMeet x y) xs ys zs p q forth back
    where
      forth : (c : CrossedItems) (f : Vector) → IsMeetAlong x y d c f ⊎ IsMeetAlong x y e c f → IsTrackMeet x y c f
      forth c f (inl (b, w, m)) = (b, n, m)
      forth c f (inr (b, w, m)) = (b, n, m)

      on : (c : CrossedItems) (f : Vector) → IsCommon x y f → NamesTracks x y c → SameDirection d f ⊎ SameDirection (opposite d) f → IsMeetAlong x y d c f ⊎ IsMeetAlong x y e c f
      on c f b m (inl w) = inl (b, w, m)
      on c f b m (inr w) = inr (b, subst (λ (g : Vector). SameDirection g f) (sym o) w, m)

      back : (c : CrossedItems) (f : Vector) → IsTrackMeet x y c f → IsMeetAlong x y d c f ⊎ IsMeetAlong x y e c f
      back c f (b, a, m) = on c f b m (two_meets_at (track_normal x) (track_normal y) d f n (SameDirection-turned (cross (track_normal x) (track_normal y)) d s) (on-circle x f b.0) (on-circle y f b.1))

-- ---- svertices
abbrev pub IsSvertexAlong : SVertex → CrossedItems → Vector → Type 0
IsSvertexAlong v c d = SameDirection (vector_of v.dir) d × (c ≡ None)

module _ (m : SphereMap) (S : IsSphereMap m) where
  pub svertex-more : (i : ℕ) (v : SVertex) (ds es fs : List Axis) → i < length m.svertices → v ≡ get_or m.svertices i v → AddsAxes (AnyFirst IsSvertexAlong m.svertices i) ds es
      → fs ≡ es ++ record { dir = v.dir; crossed = None } ∷ [] → AddsAxes (AnyFirst IsSvertexAlong m.svertices (i + 1)) ds fs
  svertex-more i v ds es fs l e p q =
      let s = S.small.svertices i (svertex_of v) (map-is_at svertex_of m.svertices i v (is-at_read m.svertices i v l e)) in
      any-more IsSvertexAlong m.svertices i v ds es fs l e p
      (subst (AddsAxes (IsSvertexAlong v) es) (sym q) (adds-one (IsSvertexAlong v) es (record { dir = v.dir; crossed = None }) ((dir-self (vector_of v.dir) v.dir.some, refl), s) (λ c f w. w.0)))

  pub svertices-all : (i : ℕ) (ds es : List Axis) → length m.svertices ≤ i → AddsAxes (AnyFirst IsSvertexAlong m.svertices i) ds es → AddsAxes (IsOnSvertex (map_of m)) ds es
  svertices-all i ds es l p = adds-as (AnyAt IsSvertexAlong m.svertices) (IsOnSvertex (map_of m)) ds es
      (λ c d a. let r = a.3 in ((a.0, svertex_of a.1, map-is_at svertex_of m.svertices a.0 a.1 a.2, r.0), r.1))
      (λ c d o. let a = o.0 in let v = is-at_map svertex_of m.svertices a.0 a.1 a.2 in (a.0, v.0, v.1, (subst (λ w. SameDirection w d) (ap (λ u. u.dir) (sym v.2)) a.3, o.1)))
      (any-all IsSvertexAlong m.svertices i ds es l p)
