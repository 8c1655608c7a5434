-- Close to a svertex: on a ray of an arc that begins or ends there, or free.
use Rattle.law_geometry.proofs.sphere.Prelude.{◌≡◌, ℕ, ◌<◌, ℤ, pos, ◌*ℤ◌, ◌<ℤ◌, arith, refl, sym, inl, inr, ⊎_elim, ◌∷◌, subst, ints, ring, at, num, ◌⊗◌, by_order, mul_pos, mul_neg, Vector, IsDirection, triple, cross, dot, opposite, IsZero, SameDirection, blend, IsStrictlyOn, Decided, IsAt, MapVertex, Arc, Map, Item, arc_item, sloop_item, items, dir_of, OnItem, IsFree, IsClear, Shaped, ArcRay, ray_left, Unrayed, Keeps, arc_forms, forms, dot-comm, self-pos, triple-dot, cross-turned, direction-left, level-way, opposite-dot, triple-middle, triple-turned, SameDirection-turned, SameDirection-trans, level-opposite, opposite-turned, parallel-in_plane, blend-turned, blend_of, cross_of, dot_of, level-both, numbers, vec}
use Rattle.law_geometry.proofs.sphere.Vectors.{normal-is, same-plus, same-minus}
use Rattle.law_geometry.proofs.sphere.Places.{kept-nought, kept-minus, SameDirection-decided}
use Rattle.law_geometry.proofs.sphere.Forms.{axes-forms, item-forms}
use Rattle.law_geometry.proofs.sphere.Shot.{arc-at}
use Rattle.law_geometry.proofs.sphere.Around.{opposite-triple, Beside, same_way, other_way, beside, IsStrictlyOn-back, direction-around, svertex-around}
use Rattle.law_geometry.proofs.sphere.NearItems.{keeps-between, kept-not_opposite}
use Rattle.law_geometry.proofs.sphere.Turn.{turn-last}
use Rattle.law_geometry.proofs.sphere.Arcs.{Ends, ends-of}
use Rattle.nef_space.proofs.Lists.{is-at_one}

-- what lies in the plane of n through d, ahead, has n to its left
pub left-ahead : (n d w : Vector) → dot n d ≡ pos 0 → dot n w ≡ pos 0 → pos 0 <ℤ triple n d w → SameDirection n (cross d w)
left-ahead n d w a b h = record { parallel = level-both n d w a b; forward = h }

-- ---- an arc close to one of its ends
module _ (n s t d w : Vector) (hn : IsDirection n) (hs : IsDirection s) (ht : IsDirection t) (ls : dot n s ≡ pos 0) (lt : dot n t ≡ pos 0)
    (k : Keeps (arc_forms n s t) d w) (ld : dot n d ≡ pos 0) (off : IsZero (cross d w) → ⊥) (o : IsStrictlyOn n s t w) where
  last-kept : triple n s d <ℤ pos 0 → triple n s w <ℤ pos 0
  last-kept h = subst (λ (r : ℤ). r <ℤ pos 0) (sym (triple-dot n s w)) (kept-minus (cross n s) d w (k (cross n s) (inr (inl refl))) (subst (λ (r : ℤ). r <ℤ pos 0) (triple-dot n s d) h))

  middle-kept : triple n d t <ℤ pos 0 → triple n w t <ℤ pos 0
  middle-kept h = subst (λ (r : ℤ). r <ℤ pos 0) (sym (triple-middle n w t)) (kept-minus (cross t n) d w (k (cross t n) (inr (inr (inl refl)))) (subst (λ (r : ℤ). r <ℤ pos 0) (triple-middle n d t) h))

  turned-minus : (a b : Vector) → triple n a b <ℤ pos 0 → pos 0 <ℤ triple n b a
  turned-minus a b h = let e = triple-turned n b a in omega (arith, ints)

  turned-plus : (a b : Vector) → pos 0 <ℤ triple n a b → triple n b a <ℤ pos 0
  turned-plus a b h = let e = triple-turned n b a in omega (arith, ints)

  -- the sign of a turn goes over to the same way, in front and behind
  first-minus : (a b c : Vector) → SameDirection a b → triple n a c <ℤ pos 0 → triple n b c <ℤ pos 0
  first-minus a b c q h = turned-plus c b (same-plus (triple n c a) (triple n c b) (turn-last n c a b q) (turned-minus a c h))

  last-minus : (a b c : Vector) → SameDirection a b → triple n c a <ℤ pos 0 → triple n c b <ℤ pos 0
  last-minus a b c q h = same-minus (triple n c a) (triple n c b) (turn-last n c a b q) h

  -- behind the source is only the target
  behind-source : SameDirection d s → triple n d w <ℤ pos 0 → SameDirection s t
  behind-source q h = by_order (triple n s t) (pos 0)
      (λ l. absurd (⊎_elim (λ u. let b = below in omega (arith, ints)) (λ u. let m = middle-kept (first-minus s d t (SameDirection-turned d s q) l) in omega (arith, ints)) (o.more_than_half l)))
      (λ z. by (beside s t hs ht (parallel-in_plane n s t hn ls lt z)))
      (λ l. let u = (o.less_than_half l).0 in let b = below in absurd (omega (arith, ints)))
    where
      below : triple n s w <ℤ pos 0
      below = first-minus d s w q h

      by : Beside s t → SameDirection s t
      by (same_way z) = z
      by (other_way z) = let u = o.just_half z in let b = below in absurd (omega (arith, ints))

  -- an arc that ends at d, and doesn't begin there, is behind it
  before-target : SameDirection d t → (SameDirection s d → ⊥) → triple n w d <ℤ pos 0 → ⊥
  before-target q f h = by_order (triple n s t) (pos 0)
      (λ l. ⊎_elim (λ u. let m = last-kept (last-minus t d s (SameDirection-turned d t q) l) in omega (arith, ints)) (λ u. let b = below in omega (arith, ints)) (o.more_than_half l))
      (λ z. by (beside s t hs ht (parallel-in_plane n s t hn ls lt z)))
      (λ l. let u = (o.less_than_half l).1 in let b = below in omega (arith, ints))
    where
      below : triple n w t <ℤ pos 0
      below = last-minus d t w q h

      by : Beside s t → ⊥
      by (same_way z) = f (SameDirection-trans s t d z (SameDirection-turned d t q))
      by (other_way z) =
          let e = opposite-triple n t w s ht (cross-turned s t z.parallel) in
          let c = dot-comm t s in
          let b = z.backward in
          let u = mul_pos (dot t t) (triple n s w) (self-pos t ht) (o.just_half z) in
          let m = mul_neg (triple n t w) (dot t s) (turned-minus w t below) (omega (arith, ints)) in
          omega (arith, ints)

-- ---- close to svertex k
module _ (M : Map) (V : Shaped M) (k : ℕ) (v : MapVertex) (a : IsAt M.svertices k v) (w : Vector) (kept : Keeps (forms M) v.dir w) (off : IsDirection (cross v.dir w)) where
  abbrev d : Vector
  d = v.dir

  -- w lies along a ray of the svertex
  pub record AlongRay : Type 0 where
    pub ray : ArcRay M k
    pub along : SameDirection (ray_left ray) (cross d w)

  module _ (i : ℕ) (r : Arc) (h : IsAt (items M) i (arc_item r)) (o : OnItem M (arc_item r) w) where
    abbrev n : Vector
    n = r.normal

    abbrev s : Vector
    s = dir_of M.svertices r.source

    abbrev t : Vector
    t = dir_of M.svertices r.target

    j : IsAt M.arcs i r
    j = arc-at M.arcs M.sloop i r h

    b : Ends M r
    b = ends-of M V i r j

    hn : IsDirection n
    hn = normal-is V i (arc_item r) h

    near : Keeps (arc_forms n s t) d w
    near g l = kept g (item-forms M i (arc_item r) g h l)

    begins : SameDirection s d → dot n d ≡ pos 0 → pos 0 <ℤ triple n d w → AlongRay
    begins q ld p = record {
      ray = record { number = i; arc = r; listed = j; end = inl (V.svertices_apart r.source k b.source v b.has_source a (subst (λ (x : Vector). SameDirection x d) b.source_is q)) };
      along = left-ahead n d w ld o.on_circle.level p;
    }

    ends : SameDirection t d → dot n d ≡ pos 0 → triple n d w <ℤ pos 0 → AlongRay
    ends q ld p = record {
      ray = record { number = i; arc = r; listed = j; end = inr (V.svertices_apart r.target k b.target v b.has_target a (subst (λ (x : Vector). SameDirection x d) b.target_is q)) };
      along = left-ahead (opposite n) d w (level-opposite n d ld) (level-opposite n w o.on_circle.level) (let e = opposite-dot n (cross d w) in omega (arith, ints));
    }

    level_at : (x : Vector) → SameDirection x d → dot n x ≡ pos 0 → dot n d ≡ pos 0
    level_at x q z = level-way n x d q z

    by : Decided (SameDirection s d) → Decided (SameDirection t d) → AlongRay
    by (inl q) e = let ld = level_at s q b.source_level in by_order (triple n d w) (pos 0)
        (λ l. ends (SameDirection-trans t s d (SameDirection-turned s t (behind-source n s t d w hn b.source_direction b.target_direction b.source_level b.target_level near ld off o (SameDirection-turned s d q) l)) q) ld l)
        (λ z. absurd (off (parallel-in_plane n d w hn ld o.on_circle.level z)))
        (λ l. begins q ld l)
    by (inr f) (inl q) = let ld = level_at t q b.target_level in by_order (triple n d w) (pos 0)
        (λ l. ends q ld l)
        (λ z. absurd (off (parallel-in_plane n d w hn ld o.on_circle.level z)))
        (λ l. absurd (before-target n s t d w hn b.source_direction b.target_direction b.source_level b.target_level near ld off o (SameDirection-turned t d q) f (let e = triple-turned n w d in omega (arith, ints))))
    by (inr f) (inr g) = absurd (V.no_svertex_on_item k i v (arc_item r) a h
        (IsStrictlyOn-back n s t d w hn b.source_direction b.target_direction b.source_level b.target_level near (V.svertex_dirs k v a) f g o))

    on_arc : AlongRay
    on_arc = by (SameDirection-decided s d) (SameDirection-decided t d)

  -- an item close to a svertex lies along one of its rays
  pub near-ray : (i : ℕ) (x : Item) → IsAt (items M) i x → OnItem M x w → AlongRay
  near-ray i (arc_item r) h o = on_arc i r h o
  near-ray i (sloop_item l) h o = absurd (V.no_svertex_on_item k i v (sloop_item l) a h
      (record { direction = V.svertex_dirs k v a; level = kept-nought l.normal d w (kept l.normal (item-forms M i (sloop_item l) l.normal h (inl refl))) o.level }))

  -- off the rays all is free
  pub near-free : (AlongRay → ⊥) → IsFree M w
  near-free n = record {
    direction = direction-around M V d w kept (V.svertex_dirs k v a);
    off_svertices = λ i u b z.
        let q = svertex-around M V d w kept i u b (V.svertex_dirs k v a) z in
        let e = V.svertices_apart i k u v b a q in
        let f = is-at_one M.svertices k u v (subst (λ (r : ℕ). IsAt M.svertices r u) e b) a in
        let y = subst (λ (r : MapVertex). SameDirection r.dir w) f z in
        off y.parallel;
    off_items = λ i x h o. n (near-ray i x h o);
  }

-- v x (i w + j v) = i (v x w)
pub same-cross : (v w : Vector) (i j : ℕ) → 0 < i → IsDirection (cross v w) → SameDirection (cross v (blend i w j v)) (cross v w)
same-cross v w i j si h =
    let xs = pos i ∷ pos j ∷ numbers v w w w in let b = cross_of (vec 2) (blend_of (at 0) (vec 5) (at 1) (vec 2)) in let k = cross_of (vec 2) (vec 5) in let p = cross_of b k in let o = num (pos 0) in
    let e : dot (cross v (blend i w j v)) (cross v w) ≡ pos i *ℤ dot (cross v w) (cross v w) = ring xs (dot_of b k) (at 0 ⊗ dot_of k k) tt in
    let m = mul_pos (pos i) (dot (cross v w) (cross v w)) (omega (arith, ints)) (self-pos (cross v w) h) in
    record { parallel = (ring xs p.0 o tt, ring xs p.1 o tt, ring xs p.2 o tt); forward = omega (arith, ints) }

-- from close to the svertex the way to it is clear, off the rays
pub near-clear : (M : Map) (V : Shaped M) (k : ℕ) (v : MapVertex) (a : IsAt M.svertices k v) (w : Vector) → Keeps (forms M) v.dir w → IsDirection (cross v.dir w) → Unrayed M k v.dir w → IsClear M w v.dir
near-clear M V k v a w kept off free = record {
  start = near-free M V k v a w kept off (λ r. free r.ray r.along);
  direction = V.svertex_dirs k v a;
  short = λ q. kept-not_opposite v.dir w (λ g l. kept g (axes-forms M g l)) (opposite-turned w v.dir q);
  between = λ i j si sj.
      let q = same-cross v.dir w i j si off in
      near-free M V k v a (blend i w j v.dir)
      (subst (Keeps (forms M) v.dir) (blend-turned j i v.dir w) (keeps-between (forms M) v.dir w j i sj si kept))
      (direction-left (cross v.dir (blend i w j v.dir)) (cross v.dir w) q)
      (λ r. free r.ray (SameDirection-trans (ray_left r.ray) (cross v.dir (blend i w j v.dir)) (cross v.dir w) r.along q));
}
