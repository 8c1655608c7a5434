-- The map of the half great circles at the lower end of an edge is the least map with the labels along the edge.
use Rattle.nef_locate.proofs.Prelude.{◌≡◌, ℕ, zero, suc, ◌<◌, ℤ, pos, negsuc, neg_ℤ, ◌*ℤ◌, ◌+ℤ◌, ◌-ℤ◌, arith, refl, ap, sym, ◌∙◌, ◌⊎◌, inl, inr, ⊎_elim, List, [], ◌∷◌, Some, None, subst, ints, ring, at, num, neg, ◌⊕◌, ◌⊖◌, ◌⊗◌, follows, given, none, by_order, mul_pos, Vector, IsDirection, IsZero, IsNormal, IsOpposite, SameDirection, cross, dot, opposite, blend, Label, IsStrictlyOn, forms, combination, IsPrimitive, VectorBelow, IsAt, MapVertex, Arc, Item, arc_item, sloop_item, Map, items, item_normal, dir_of, OnItem, ArcBetween, HasArc, MapLabel, at_svertex, NearLabel, Valid, by_side, InOrder, ArcBelow, Least, Ordered, Near, StraightAt, IsSmooth, plain, straight, IsBuilt, NoneSmooth, Proper, StraightAfter, ArcRay, ray_left, end_left, at-arc, sloop-at, normals-not_opposite, cross-between, lowest-same, near-lone, arc-at, normal-direction, direction-by, dot-comb, cross-direction_right, Of, labels-build, to_opposite, from_opposite, two_ends, zero-decided, self-pos, vector-same, cross-turned, opposite-same, direction-opposite, level-of_opposite, opposite-twice, cross-opposite, nought-if, opposites, SameDirection-turned, SameDirection-trans, dir-self, direction-right, is-at_none, is-at_first}
use Rattle.nef_space.proofs.Order.{sign}
use Rattle.nef_space.proofs.Vectors.{dot-opposite, opposite-itself, neg-zero}
use Rattle.law_geometry.proofs.sphere.building.BuiltAxes.{number-order}
use Rattle.nef_locate.proofs.FlatLabels.{are-labelling, is-label, off-smooth, off-plane, off-axis, flat-opposite, label-moved, straight-moved}
use Rattle.nef_locate.proofs.EdgeLabels.{HasLabelsAlong, axis, L, to-near, from-near, way-direction, arc-level, ray-straight, arc-there}
use Rattle.law_geometry.proofs.sphere.building.RayClose.{cross-last}
use Rattle.law_geometry.proofs.sphere.building.BuiltArcs.{arc-below_not}
use Rattle.law_geometry.proofs.near.Normals.{normal-kept}

-- the opposite of a normal is the lesser one
opposite-below : (d e : Vector) → IsNormal d → IsOpposite d e → VectorBelow e d
opposite-below d e N O = by (normal-kept d (opposite e) (to_opposite d e O) N)
  where
    by : IsNormal (opposite e) → VectorBelow e d
    by K = by_order e.x d.x
        (λ l. inl l)
        (λ x. let dx : d.x ≡ pos 0 = (let g = N.first in let h = K.first in omega (arith, ints)) in let ex : neg_ℤ e.x ≡ pos 0 = omega (arith, ints) in
        by_order e.y d.y
        (λ l. inr (inl (x, l)))
        (λ y. let dy : d.y ≡ pos 0 = (let g = N.second dx in let h = K.second ex in omega (arith, ints)) in let ey : neg_ℤ e.y ≡ pos 0 = omega (arith, ints) in
        inr (inr (x, y, (let g = N.third dx dy in let h = K.third ex ey in omega (arith, ints)))))
        (λ l. absurd (let g = N.second dx in let h = K.second ex in omega (arith, ints))))
        (λ l. absurd (let g = N.first in let h = K.first in omega (arith, ints)))

-- w x (n x w) is n again, where n is perpendicular to w
turned-twice : (w n : Vector) → IsDirection w → IsDirection n → dot n w ≡ pos 0 → SameDirection (cross w (cross n w)) n
turned-twice w n hw hn z = record { parallel = (along.0, along.1, along.2); forward = let p = mul_pos (dot w w) (dot n n) (self-pos w hw) (self-pos n hn) in let e = ahead in omega (arith, ints) }
  where
    along : IsZero (cross (cross w (cross n w)) n)
    along =
        let xs = w.x ∷ w.y ∷ w.z ∷ n.x ∷ n.y ∷ n.z ∷ [] in
        let ax = at 4 ⊗ at 2 ⊖ at 5 ⊗ at 1 in
        let ay = at 5 ⊗ at 0 ⊖ at 3 ⊗ at 2 in
        let az = at 3 ⊗ at 1 ⊖ at 4 ⊗ at 0 in
        let bx = at 1 ⊗ az ⊖ at 2 ⊗ ay in
        let by = at 2 ⊗ ax ⊖ at 0 ⊗ az in
        let bz = at 0 ⊗ ay ⊖ at 1 ⊗ ax in
        let nw = at 3 ⊗ at 0 ⊕ at 4 ⊗ at 1 ⊕ at 5 ⊗ at 2 in
        let o = num (pos 0) in (
          follows xs (by ⊗ at 5 ⊖ bz ⊗ at 4) o (given (at 2 ⊗ at 4 ⊖ at 1 ⊗ at 5) nw o z none) tt,
          follows xs (bz ⊗ at 3 ⊖ bx ⊗ at 5) o (given (at 0 ⊗ at 5 ⊖ at 2 ⊗ at 3) nw o z none) tt,
          follows xs (bx ⊗ at 4 ⊖ by ⊗ at 3) o (given (at 1 ⊗ at 3 ⊖ at 0 ⊗ at 4) nw o z none) tt,
        )

    ahead : dot (cross w (cross n w)) n ≡ dot w w *ℤ dot n n
    ahead =
        let xs = w.x ∷ w.y ∷ w.z ∷ n.x ∷ n.y ∷ n.z ∷ [] in
        let ax = at 4 ⊗ at 2 ⊖ at 5 ⊗ at 1 in
        let ay = at 5 ⊗ at 0 ⊖ at 3 ⊗ at 2 in
        let az = at 3 ⊗ at 1 ⊖ at 4 ⊗ at 0 in
        let bx = at 1 ⊗ az ⊖ at 2 ⊗ ay in
        let by = at 2 ⊗ ax ⊖ at 0 ⊗ az in
        let bz = at 0 ⊗ ay ⊖ at 1 ⊗ ax in
        let nw = at 3 ⊗ at 0 ⊕ at 4 ⊗ at 1 ⊕ at 5 ⊗ at 2 in
        let o = num (pos 0) in
        follows xs (bx ⊗ at 3 ⊕ by ⊗ at 4 ⊕ bz ⊗ at 5) ((at 0 ⊗ at 0 ⊕ at 1 ⊗ at 1 ⊕ at 2 ⊗ at 2) ⊗ (at 3 ⊗ at 3 ⊕ at 4 ⊗ at 4 ⊕ at 5 ⊗ at 5)) (given (o ⊖ nw) nw o z none) tt

-- two normals aren't opposite
not-back : (n m : Vector) → IsNormal n → IsNormal m → SameDirection n (opposite m) → ⊥
not-back n m h k s = normals-not_opposite n m h k (from_opposite n m s)

not-opposite : (w : Vector) → IsDirection w → SameDirection w (opposite w) → ⊥
not-opposite w h s = let o = from_opposite w w s in let b = o.backward in let p = self-pos w h in omega (arith, ints)

-- ---- both ends
abbrev IsHighEnd : MapVertex → ℕ → MapVertex → Type 0
IsHighEnd u i v = (i ≡ 1) × (v.dir ≡ u.dir)

abbrev IsLowEnd : MapVertex → ℕ → MapVertex → Type 0
IsLowEnd u i v = (i ≡ 0) × (v.dir ≡ opposite u.dir)

pub record IsEdgeEnd (u : MapVertex) (i : ℕ) (v : MapVertex) : Type 0 where
  pub mark : v.mark ≡ u.mark
  pub around : v.around ≡ u.around
  pub which : IsHighEnd u i v ⊎ IsLowEnd u i v

end-is : (u : MapVertex) (i : ℕ) (v : MapVertex) → IsAt (two_ends u) i v → IsEdgeEnd u i v
end-is u zero v a = let e = is-at_first a in record { mark = sym (ap (λ (x : MapVertex). x.mark) e); around = sym (ap (λ (x : MapVertex). x.around) e); which = inr (refl, sym (ap (λ (x : MapVertex). x.dir) e)) }
end-is u (suc zero) v a = let e = is-at_first a in record { mark = sym (ap (λ (x : MapVertex). x.mark) e); around = sym (ap (λ (x : MapVertex). x.around) e); which = inl (refl, sym (ap (λ (x : MapVertex). x.dir) e)) }
end-is u (suc (suc i)) v e = absurd (is-at_none e)

-- ---- half circles
-- an arc that begins at the svertex leads from its direction to the opposite one, an arc that ends there the other way
abbrev pub HalfEnds : {A B : Type 0} → A ⊎ B → Arc → Type 0
HalfEnds (inl e) h = (h.source ≡ 1) × (h.target ≡ 0)
HalfEnds (inr e) h = (h.source ≡ 0) × (h.target ≡ 1)

pub record IsHalfOf {V : Map} {k : ℕ} (q : ArcRay V k) (h : Arc) : Type 0 where
  pub normal : h.normal ≡ q.arc.normal
  pub pos : h.pos ≡ q.arc.pos
  pub mark : h.mark ≡ q.arc.mark
  pub neg : h.neg ≡ q.arc.neg
  pub ends : HalfEnds q.end h

pub record AreHalfArcs (V : Map) (k : ℕ) (hs : List Arc) : Type 0 where
  pub each : (i : ℕ) (h : Arc) → IsAt hs i h → (q : ArcRay V k) × IsHalfOf q h
  pub all : (q : ArcRay V k) → (i : ℕ) × (h : Arc) × IsAt hs i h × IsHalfOf q h
  pub ordered : InOrder ArcBelow hs

-- ---- along w
along-off : (f w : Vector) (z : ℤ) → IsDirection f → dot f w ≡ pos 0 → IsDirection (combination (pos 1) f z w)
along-off f w z h level = direction-by f (combination (pos 1) f z w) (λ e. let p = self-pos f h in let q = dot-comb f (pos 1) f z w ∙ ap (λ r. pos 1 *ℤ dot f f +ℤ z *ℤ r) level ∙ ring (dot f f ∷ z ∷ []) (num (pos 1) ⊗ at 0 ⊕ at 1 ⊗ num (pos 0)) (at 0) tt in omega (arith, ints))

onward : (e w : Vector) (n : ℕ) → combination (pos 1) e (pos n) w ≡ blend n w 1 e
onward e w n = vector-same (combination (pos 1) e (pos n) w) (blend n w 1 e) (one e.x w.x) (one e.y w.y) (one e.z w.z)
  where
    one : (x z : ℤ) → pos 1 *ℤ x +ℤ pos n *ℤ z ≡ pos n *ℤ z +ℤ pos 1 *ℤ x
    one x z = ring (pos n ∷ x ∷ z ∷ []) (num (pos 1) ⊗ at 1 ⊕ at 0 ⊗ at 2) (at 0 ⊗ at 2 ⊕ num (pos 1) ⊗ at 1) tt

backward : (e w : Vector) (n : ℕ) → combination (pos 1) e (neg_ℤ (pos n)) w ≡ blend n (opposite w) 1 e
backward e w n = vector-same (combination (pos 1) e (neg_ℤ (pos n)) w) (blend n (opposite w) 1 e) (one e.x w.x) (one e.y w.y) (one e.z w.z)
  where
    one : (x z : ℤ) → pos 1 *ℤ x +ℤ neg_ℤ (pos n) *ℤ z ≡ pos n *ℤ neg_ℤ z +ℤ pos 1 *ℤ x
    one x z = ring (pos n ∷ x ∷ z ∷ []) (num (pos 1) ⊗ at 1 ⊕ neg (at 0) ⊗ at 2) (at 0 ⊗ neg (at 2) ⊕ num (pos 1) ⊗ at 1) tt

-- and back again
off-onward : (e w : Vector) (n : ℕ) → combination (pos 1) (blend n w 1 e) (neg_ℤ (pos n)) w ≡ e
off-onward e w n = vector-same (combination (pos 1) (blend n w 1 e) (neg_ℤ (pos n)) w) e (one e.x w.x) (one e.y w.y) (one e.z w.z)
  where
    one : (x z : ℤ) → pos 1 *ℤ (pos n *ℤ z +ℤ pos 1 *ℤ x) +ℤ neg_ℤ (pos n) *ℤ z ≡ x
    one x z = ring (pos n ∷ x ∷ z ∷ []) (num (pos 1) ⊗ (at 0 ⊗ at 2 ⊕ num (pos 1) ⊗ at 1) ⊕ neg (at 0) ⊗ at 2) (at 1) tt

off-backward : (e w : Vector) (n : ℕ) → combination (pos 1) (blend n (opposite w) 1 e) (pos n) w ≡ e
off-backward e w n = vector-same (combination (pos 1) (blend n (opposite w) 1 e) (pos n) w) e (one e.x w.x) (one e.y w.y) (one e.z w.z)
  where
    one : (x z : ℤ) → pos 1 *ℤ (pos n *ℤ neg_ℤ z +ℤ pos 1 *ℤ x) +ℤ pos n *ℤ z ≡ x
    one x z = ring (pos n ∷ x ∷ z ∷ []) (num (pos 1) ⊗ (at 0 ⊗ neg (at 2) ⊕ num (pos 1) ⊗ at 1) ⊕ at 0 ⊗ at 2) (at 1) tt

turned-way : (n w : Vector) → cross (opposite n) w ≡ cross n (opposite w)
turned-way n w = vector-same (cross (opposite n) w) (cross n (opposite w)) (one n.y w.z n.z w.y) (one n.z w.x n.x w.z) (one n.x w.y n.y w.x)
  where
    one : (a b c d : ℤ) → neg_ℤ a *ℤ b -ℤ neg_ℤ c *ℤ d ≡ a *ℤ neg_ℤ b -ℤ c *ℤ neg_ℤ d
    one a b c d = ring (a ∷ b ∷ c ∷ d ∷ []) (neg (at 0) ⊗ at 1 ⊖ neg (at 2) ⊗ at 3) (at 0 ⊗ neg (at 1) ⊖ at 2 ⊗ neg (at 3)) tt

none-some : {A B : Type 0} (x : A) → None ≡ Some x → B
none-some x e = cc

module _ (V : Map) (k : ℕ) (u : MapVertex) (N : Map) (A : HasLabelsAlong V k u N) (own : Label) (hs : List Arc) (H : AreHalfArcs V k hs) where
  abbrev w : Vector
  w = u.dir

  abbrev F : Vector → Label → Type 0
  F = Of (L V k u N A)

  abbrev M : Map
  M = record { mark = own; svertices = two_ends u; arcs = hs; sloop = None; ground = None }

  hw : IsDirection w
  hw = axis V k u N A

  back : IsDirection (opposite w)
  back = direction-opposite w hw

  -- ---- the svertices
  end-direction : (i : ℕ) (v : MapVertex) → IsHighEnd u i v ⊎ IsLowEnd u i v → IsDirection v.dir
  end-direction i v (inl e) = subst IsDirection (sym e.1) hw
  end-direction i v (inr e) = subst IsDirection (sym e.1) back

  ends-apart : (i j : ℕ) (v x : MapVertex) → IsHighEnd u i v ⊎ IsLowEnd u i v → IsHighEnd u j x ⊎ IsLowEnd u j x → SameDirection v.dir x.dir → i ≡ j
  ends-apart i j v x (inl e) (inl f) s = e.0 ∙ sym f.0
  ends-apart i j v x (inr e) (inr f) s = e.0 ∙ sym f.0
  ends-apart i j v x (inl e) (inr f) s = absurd (not-opposite w hw (subst (λ (d : Vector). SameDirection d (opposite w)) e.1 (subst (SameDirection v.dir) f.1 s)))
  ends-apart i j v x (inr e) (inl f) s = absurd (not-opposite w hw (SameDirection-turned (opposite w) w (subst (λ (d : Vector). SameDirection d w) e.1 (subst (SameDirection v.dir) f.1 s))))

  own-is : L V k u N A w ≡ u.mark
  own-is = is-label N A.along_valid w u.mark A.own

  through : combination (pos 1) w (negsuc 1) w ≡ opposite w
  through = vector-same (combination (pos 1) w (negsuc 1) w) (opposite w) (one w.x) (one w.y) (one w.z)
    where
      one : (x : ℤ) → pos 1 *ℤ x +ℤ negsuc 1 *ℤ x ≡ neg_ℤ x
      one x = ring (x ∷ []) (num (pos 1) ⊗ at 0 ⊕ num (negsuc 1) ⊗ at 0) (neg (at 0)) tt

  back-is : L V k u N A (opposite w) ≡ u.mark
  back-is = subst (λ (d : Vector). L V k u N A d ≡ u.mark) through (label-moved N A.along_valid w A.flat w (negsuc 1) u.mark hw (subst IsDirection (sym through) back) own-is)

  end-label : (i : ℕ) (v : MapVertex) → IsHighEnd u i v ⊎ IsLowEnd u i v → L V k u N A v.dir ≡ u.mark
  end-label i v (inl e) = ap (L V k u N A) e.1 ∙ own-is
  end-label i v (inr e) = ap (L V k u N A) e.1 ∙ back-is

  smooth : (d : Vector) → IsDirection d → ((i : ℕ) (v : MapVertex) → IsAt (two_ends u) i v → SameDirection v.dir d → ⊥) → IsSmooth F d
  smooth d h off = ⊎_elim (λ z. along (cross-turned d w z)) (λ f. off-smooth N A.along_valid w A.flat d f) (zero-decided (cross d w))
    where
      along : IsZero (cross w d) → IsSmooth F d
      along z = by_order (dot w d) (pos 0)
          (λ l. absurd (off 0 _ refl (opposites w (opposite w) d hw (opposite-itself w hw) (record { parallel = z; backward = l }))))
          (λ e. absurd (h (nought-if w d hw z e)))
          (λ l. absurd (off 1 u refl (record { parallel = z; forward = l })))

  -- ---- the arcs
  half-level : (q : ArcRay V k) (h : Arc) → IsHalfOf q h → dot h.normal w ≡ pos 0
  half-level q h I = subst (λ (n : Vector). dot n w ≡ pos 0) (sym I.normal) (arc-level V k u N A q)

  listed-of : (q : ArcRay V k) → IsAt (items V) q.number (arc_item q.arc)
  listed-of q = at-arc V.arcs V.sloop q.number q.arc q.listed

  half-normal : (q : ArcRay V k) (h : Arc) → IsHalfOf q h → IsNormal h.normal
  half-normal q h I = subst IsNormal (sym I.normal) (A.valid.shaped.normals q.number (arc_item q.arc) (listed-of q))

  half-lowest : (q : ArcRay V k) (h : Arc) → IsHalfOf q h → IsPrimitive h.normal
  half-lowest q h I = subst IsPrimitive (sym I.normal) (A.ordered.normals_lowest q.number (arc_item q.arc) (listed-of q))

  abbrev low : MapVertex
  low = record { dir = opposite w; mark = u.mark; around = u.around }

  between-by : (h : Arc) (B C : Type 0) (e : B ⊎ C) → HalfEnds e h → dot h.normal w ≡ pos 0 → ArcBetween M h
  between-by h B C (inl e) (s, t) z = record {
    source = u;
    target = low;
    has_source = subst (λ i. IsAt (two_ends u) i u) (sym s) refl;
    has_target = subst (λ i. IsAt (two_ends u) i low) (sym t) refl;
    level_source = z;
    level_target = level-of_opposite h.normal w z;
  }
  between-by h B C (inr e) (s, t) z = record {
    source = low;
    target = u;
    has_source = subst (λ i. IsAt (two_ends u) i low) (sym s) refl;
    has_target = subst (λ i. IsAt (two_ends u) i u) (sym t) refl;
    level_source = level-of_opposite h.normal w z;
    level_target = z;
  }

  passes-none : (h : Arc) (B C : Type 0) (e : B ⊎ C) → HalfEnds e h → (i : ℕ) (v : MapVertex) → IsHighEnd u i v ⊎ IsLowEnd u i v
      → IsStrictlyOn h.normal (dir_of (two_ends u) h.source) (dir_of (two_ends u) h.target) v.dir → ⊥
  passes-none h B C (inl e) (s, t) i v (inl f) o = o.not_source (subst (λ j. SameDirection (dir_of (two_ends u) j) v.dir) (sym s) (subst (SameDirection w) (sym f.1) (dir-self w hw)))
  passes-none h B C (inl e) (s, t) i v (inr f) o = o.not_target (subst (λ j. SameDirection (dir_of (two_ends u) j) v.dir) (sym t) (subst (SameDirection (opposite w)) (sym f.1) (dir-self (opposite w) back)))
  passes-none h B C (inr e) (s, t) i v (inl f) o = o.not_target (subst (λ j. SameDirection (dir_of (two_ends u) j) v.dir) (sym t) (subst (SameDirection w) (sym f.1) (dir-self w hw)))
  passes-none h B C (inr e) (s, t) i v (inr f) o = o.not_source (subst (λ j. SameDirection (dir_of (two_ends u) j) v.dir) (sym s) (subst (SameDirection (opposite w)) (sym f.1) (dir-self (opposite w) back)))

  -- from its source on the arc has its labels
  after-by : (arc : Arc) (a m b : Label) (h : Arc) (B C : Type 0) (e : B ⊎ C) → HalfEnds e h → dot arc.normal w ≡ pos 0
      → IsDirection (cross (end_left arc e) w) → StraightAt F arc.normal a m b (cross (end_left arc e) w) → StraightAfter F arc.normal a m b (dir_of (two_ends u) h.source)
  after-by arc a m b h B C (inl e) (s, t) z hf st = subst (λ j. StraightAfter F arc.normal a m b (dir_of (two_ends u) j)) (sym s) (0, λ i _. to i)
    where
      to : (i : ℕ) → StraightAt F arc.normal a m b (blend i w 1 (cross arc.normal w))
      to i =
          let f = cross arc.normal w in
          subst (StraightAt F arc.normal a m b) (onward f w i) (straight-moved N A.along_valid w A.flat arc.normal f a m b (pos i) z hf (along-off f w (pos i) hf (cross-last arc.normal w)) st)
  after-by arc a m b h B C (inr e) (s, t) z hf st = subst (λ j. StraightAfter F arc.normal a m b (dir_of (two_ends u) j)) (sym s) (0, λ i _. to i)
    where
      to : (i : ℕ) → StraightAt F arc.normal a m b (blend i (opposite w) 1 (cross arc.normal (opposite w)))
      to i =
          let f = cross arc.normal (opposite w) in
          let way = turned-way arc.normal w in
          let hg = subst IsDirection way hf in
          subst (StraightAt F arc.normal a m b) (backward f w i) (straight-moved N A.along_valid w A.flat arc.normal f a m b (neg_ℤ (pos i)) z hg
          (along-off f w (neg_ℤ (pos i)) hg (subst (λ (d : Vector). dot d w ≡ pos 0) way (cross-last (opposite arc.normal) w))) (subst (StraightAt F arc.normal a m b) way st))

  half-after : (q : ArcRay V k) (h : Arc) → IsHalfOf q h → StraightAfter F h.normal h.pos h.mark h.neg (dir_of (two_ends u) h.source)
  half-after q h I = rw (I.normal, I.pos, I.mark, I.neg)
      (after-by q.arc q.arc.pos q.arc.mark q.arc.neg h _ _ q.end I.ends (arc-level V k u N A q) (way-direction V k u N A q) (ray-straight V k u N A q))

  half-proper : (q : ArcRay V k) (h : Arc) → IsHalfOf q h → Proper h.pos h.mark h.neg
  half-proper q h I x y = A.least.items_differ q.number (arc_item q.arc) (listed-of q) (sym I.pos ∙ x ∙ I.mark) (sym I.neg ∙ y ∙ I.mark)

  halves-apart : (i j : ℕ) (a b : Arc) → IsAt hs i a → IsAt hs j b → SameDirection a.normal b.normal → a.source ≡ b.source → i ≡ j
  halves-apart i j a b g h s e =
      let p = H.each i a g in
      let r = H.each j b h in
      let same = lowest-same a.normal b.normal s (half-lowest p.0 a p.1) (half-lowest r.0 b r.1) in
      number-order i j (λ l. absurd (arc-below_not a b same e (H.ordered i j a b l g h))) (λ q. q) (λ l. absurd (arc-below_not b a (sym same) (sym e) (H.ordered j i b a l h g)))

  -- where the labels are straight and proper after an end there is an arc
  module _ (n : Vector) (a m b : Label) (normal : IsNormal n) (level : dot n w ≡ pos 0) (proper : Proper a m b) where
    hn : IsDirection n
    hn = normal-direction n normal

    cross-some : (v : Vector) → IsDirection v → dot n v ≡ pos 0 → IsDirection (cross n v)
    cross-some v h z e = h (nought-if n v hn e z)

    ray-normal : (q : ArcRay V k) → IsNormal q.arc.normal
    ray-normal q = A.valid.shaped.normals q.number (arc_item q.arc) (listed-of q)

    abbrev Found : ℕ → Type 0
    Found j = (i : ℕ) × (c : Arc) × IsAt hs i c × (c.source ≡ j) × SameDirection n c.normal

    found-high : (q : ArcRay V k) (e : (q.arc.source ≡ k) ⊎ (q.arc.target ≡ k)) → SameDirection (end_left q.arc e) n → ((h : Arc) → IsHalfOf q h → HalfEnds e h) → Found 1
    found-high q (inl e) s ends = let r = H.all q in (r.0, r.1, r.2, (ends r.1 r.3).0, let I = r.3 in subst (SameDirection n) (sym I.normal) (SameDirection-turned q.arc.normal n s))
    found-high q (inr e) s ends = absurd (not-back n q.arc.normal normal (ray-normal q) (SameDirection-turned (opposite q.arc.normal) n s))

    found-low : (q : ArcRay V k) (e : (q.arc.source ≡ k) ⊎ (q.arc.target ≡ k)) → SameDirection (end_left q.arc e) (opposite n) → ((h : Arc) → IsHalfOf q h → HalfEnds e h) → Found 0
    found-low q (inl e) s ends = absurd (not-back q.arc.normal n (ray-normal q) normal s)
    found-low q (inr e) s ends =
        let r = H.all q in
        let t : SameDirection q.arc.normal n = subst (λ (d : Vector). SameDirection d n) (opposite-twice q.arc.normal) (subst (SameDirection (opposite (opposite q.arc.normal))) (opposite-twice n) (opposite-same (opposite q.arc.normal) (opposite n) s)) in
        (r.0, r.1, r.2, (ends r.1 r.3).0, let I = r.3 in subst (SameDirection n) (sym I.normal) (SameDirection-turned q.arc.normal n t))

    arc-high : StraightAfter F n a m b w → Found 1
    arc-high (i, after) =
        let f = cross n w in
        let hf = cross-some w hw level in
        let e = off-onward f w i in
        let st = subst (StraightAt F n a m b) e (straight-moved N A.along_valid w A.flat n (blend i w 1 f) a m b (neg_ℤ (pos i)) level
        (subst IsDirection (onward f w i) (along-off f w (pos i) hf (cross-last n w))) (subst IsDirection (sym e) hf) (after i (omega arith))) in
        let t = turned-twice w n hw hn level in
        let r = arc-there V k u N A n f a m b hn level (direction-right n (cross w f) (SameDirection-turned (cross w f) n t)) proper st in
        found-high r.0 r.0.end (SameDirection-trans (ray_left r.0) (cross w f) n r.1 t) (λ h I. I.ends)

    arc-low : StraightAfter F n a m b (opposite w) → Found 0
    arc-low (i, after) =
        let f = cross n (opposite w) in
        let lb = level-of_opposite n w level in
        let hf = cross-some (opposite w) back lb in
        let e = off-backward f w i in
        let lf = subst (λ (d : Vector). dot d w ≡ pos 0) (turned-way n w) (cross-last (opposite n) w) in
        let st = subst (StraightAt F n a m b) e (straight-moved N A.along_valid w A.flat n (blend i (opposite w) 1 f) a m b (pos i) level
        (subst IsDirection (backward f w i) (along-off f w (neg_ℤ (pos i)) hf lf)) (subst IsDirection (sym e) hf) (after i (omega arith))) in
        -- w x f is the opposite of n
        let t = subst (λ (d : Vector). SameDirection d (opposite n)) (ap opposite (cross-opposite w f) ∙ opposite-twice (cross w f)) (opposite-same (cross (opposite w) f) n (turned-twice (opposite w) n back hn lb)) in
        let r = arc-there V k u N A n f a m b hn level (direction-right (opposite n) (cross w f) (SameDirection-turned (cross w f) (opposite n) t)) proper st in
        found-low r.0 r.0.end (SameDirection-trans (ray_left r.0) (cross w f) (opposite n) r.1 t) (λ h I. I.ends)

  arcs-all : (j : ℕ) (v : MapVertex) (n : Vector) (a m b : Label) → IsHighEnd u j v ⊎ IsLowEnd u j v → IsNormal n → dot n v.dir ≡ pos 0 → Proper a m b → StraightAfter F n a m b v.dir
      → (i : ℕ) × (c : Arc) × IsAt hs i c × (c.source ≡ j) × SameDirection n c.normal
  arcs-all j v n a m b (inl e) normal z proper after =
      let r = arc-high n a m b normal (subst (λ (d : Vector). dot n d ≡ pos 0) e.1 z) proper (subst (StraightAfter F n a m b) e.1 after) in
      (r.0, r.1, r.2, r.3 ∙ sym e.0, r.4)
  arcs-all j v n a m b (inr e) normal z proper after =
      let y = neg-zero (dot n w) (sym (dot-opposite n w) ∙ subst (λ (d : Vector). dot n d ≡ pos 0) e.1 z) in
      let r = arc-low n a m b normal y proper (subst (StraightAfter F n a m b) e.1 after) in
      (r.0, r.1, r.2, r.3 ∙ sym e.0, r.4)

  -- ---- faces
  arc-of : (i : ℕ) → HasArc M i → HasArc V k
  arc-of i (j, h, l, e) = let q = (H.each j h l).0 in (q.number, q.arc, q.listed, q.end)

  to-arc : (i : ℕ) → (i ≡ 0) ⊎ (i ≡ 1) → HasArc V k → HasArc M i
  to-arc i o (j, b, l, e) =
      let q : ArcRay V k = record { number = j; arc = b; listed = l; end = e } in
      let r = H.all q in let I = r.3 in
      (r.0, r.1, r.2, by e r.1 I.ends o)
    where
      by : {B C : Type 0} (e : B ⊎ C) (h : Arc) → HalfEnds e h → (i ≡ 0) ⊎ (i ≡ 1) → (h.source ≡ i) ⊎ (h.target ≡ i)
      by (inl x) h (s, t) (inl z) = inr (t ∙ sym z)
      by (inl x) h (s, t) (inr z) = inl (s ∙ sym z)
      by (inr x) h (s, t) (inl z) = inl (s ∙ sym z)
      by (inr x) h (s, t) (inr z) = inr (t ∙ sym z)

  number-is : (i : ℕ) (v : MapVertex) → IsHighEnd u i v ⊎ IsLowEnd u i v → (i ≡ 0) ⊎ (i ≡ 1)
  number-is i v (inl e) = inr e.0
  number-is i v (inr e) = inl e.0

  around-near : (v : MapVertex) (i : ℕ) (m : Label) (e : Vector) → IsHighEnd u i v ⊎ IsLowEnd u i v → u.around ≡ Some m → IsDirection (cross v.dir e) → Near F v.dir e m
  around-near v i m e which r off = (0, λ n _. close n)
    where
      lone : HasArc V k → ⊥
      lone h = let z : None ≡ Some m = sym (A.valid.shaped.around_not k u A.listed h) ∙ r in none-some m z

      aside : IsHighEnd u i v ⊎ IsLowEnd u i v → (f : Vector) → IsDirection (cross v.dir f) → IsDirection (cross w f)
      aside (inl x) f h = subst (λ (d : Vector). IsDirection (cross d f)) x.1 h
      aside (inr x) f h = off-axis w f (subst (λ (d : Vector). IsDirection (cross d f)) x.1 h)

      close : (n : ℕ) → L V k u N A (blend n v.dir 1 e) ≡ m
      close n =
          let f = blend n v.dir 1 e in
          let h = cross-between v.dir e n 1 (omega arith) off in
          from-near V k u N A f m (cross-direction_right v.dir f h) (near-lone V A.valid k u A.listed lone m r f (aside which f h))

  -- ---- neither end is smooth
  -- what is close to an end is close to the svertex
  near-end : (v : MapVertex) (i : ℕ) (e : Vector) (m : Label) → IsHighEnd u i v ⊎ IsLowEnd u i v → IsDirection (cross w e) → Near F v.dir e m → NearLabel V w e m
  near-end v i e m (inl x) off (n, t) =
      let he = cross-direction_right w e off in
      let q = off-onward e w n in
      let d = blend n w 1 e in
      let hd = cross-direction_right w d (cross-between w e n 1 (omega arith) off) in
      to-near V k u N A e m he (subst (λ (y : Vector). L V k u N A y ≡ m) q (label-moved N A.along_valid w A.flat d (neg_ℤ (pos n)) m hd (subst IsDirection (sym q) he)
      (subst (λ (y : Vector). L V k u N A (blend n y 1 e) ≡ m) x.1 (t n (omega arith)))))
  near-end v i e m (inr x) off (n, t) =
      let he = cross-direction_right w e off in
      let q = off-backward e w n in
      let d = blend n (opposite w) 1 e in
      let turned = subst IsDirection (sym (cross-opposite w e)) (direction-opposite (cross w e) off) in
      let hd = cross-direction_right (opposite w) d (cross-between (opposite w) e n 1 (omega arith) turned) in
      to-near V k u N A e m he (subst (λ (y : Vector). L V k u N A y ≡ m) q (label-moved N A.along_valid w A.flat d (pos n) m hd (subst IsDirection (sym q) he)
      (subst (λ (y : Vector). L V k u N A (blend n y 1 e) ≡ m) x.1 (t n (omega arith)))))

  end-level : (n : Vector) (v : MapVertex) (i : ℕ) → IsHighEnd u i v ⊎ IsLowEnd u i v → dot n v.dir ≡ pos 0 → dot n w ≡ pos 0
  end-level n v i (inl x) z = subst (λ (d : Vector). dot n d ≡ pos 0) x.1 z
  end-level n v i (inr x) z = neg-zero (dot n w) (sym (dot-opposite n w) ∙ subst (λ (d : Vector). dot n d ≡ pos 0) x.1 z)

  own-there : (m : Label) → m ≡ u.mark → MapLabel V w m
  own-there m e = at_svertex k u A.listed (dir-self w hw) (sym e)

  needed : (i : ℕ) (v : MapVertex) → IsHighEnd u i v ⊎ IsLowEnd u i v → IsSmooth F v.dir → ⊥
  needed i v which (plain m p) = A.least.no_plain k u A.listed (record {
    label = m;
    at_d = own-there m (sym p.at_d ∙ end-label i v which);
    near = λ e f. near-end v i e m which f (p.near e);
  })
  needed i v which (straight n a m b h p) = A.least.no_straight k u A.listed (record {
    normal = n;
    direction = h;
    level = end-level n v i which p.level;
    pos = a;
    label = m;
    neg = b;
    at_d = own-there m (sym p.at_d ∙ end-label i v which);
    near = λ e f. near-end v i e (by_side a m b (sign (dot n e))) which f (p.near e);
  })

  -- ---- the map
  -- what holds of half circles holds of the items
  of-items : (P : Item → Type 0) → ((q : ArcRay V k) (h : Arc) → IsHalfOf q h → P (arc_item h)) → (i : ℕ) (x : Item) → IsAt (items M) i x → P x
  of-items P f i (arc_item h) l = let r = H.each i h (arc-at hs None i h l) in f r.0 h r.1
  of-items P f i (sloop_item c) l = none-some c (sloop-at hs None i c l)

  is-end : (i : ℕ) (v : MapVertex) → IsAt (two_ends u) i v → IsHighEnd u i v ⊎ IsLowEnd u i v
  is-end i v h = let e = end-is u i v h in e.which

  no-sloop : (n y : Vector) (a m b : Label) → IsDirection y → ((i : ℕ) (v : MapVertex) → IsAt (two_ends u) i v → dot n v.dir ≡ pos 0 → ⊥) → Proper a m b → StraightAt F n a m b y → ⊥
  no-sloop n y a m b h bare proper st =
      let q = off-plane N A.along_valid w A.flat (flat-opposite N A.along_valid w hw A.flat) n y a m b h st (bare 1 u refl) in
      proper q.0 q.1

  built : IsBuilt M F
  built = record {
    svertex_dirs = λ i v h. end-direction i v (is-end i v h);
    svertices_apart = λ i j v x g h s. ends-apart i j v x (is-end i v g) (is-end j x h) s;
    svertex_marks = λ i v h. let e = end-is u i v h in end-label i v e.which ∙ sym e.mark;
    smooth = smooth;
    normals = of-items (λ x. IsNormal (item_normal x)) half-normal;
    arcs_between = λ i h l. let r = H.each i h l in let I = r.1 in between-by h _ _ r.0.end I.ends (half-level r.0 h I);
    no_svertex_on_item = λ i j v x g l o. of-items (λ x. OnItem M x v.dir → ⊥) (λ q h I p. passes-none h _ _ q.end I.ends i v (is-end i v g) p) j x l o;
    arc_labels = λ i h l. let r = H.each i h l in half-after r.0 h r.1;
    arc_proper = λ i h l. let r = H.each i h l in half-proper r.0 h r.1;
    arcs_apart = halves-apart;
    arcs_all = λ j v n a m b h hn z proper after. arcs-all j v n a m b (is-end j v h) hn z proper after;
    sloop_labels = λ l e. none-some l e;
    sloop_proper = λ l e. none-some l e;
    sloop_all = λ n y a m b hn hy bare proper st. absurd (no-sloop n y a m b hy bare proper st);
    around_lone = λ i v h none.
        let e = end-is u i v h in
        let r = A.valid.shaped.around_lone k u A.listed (λ x. none (to-arc i (number-is i v e.which) x)) in
        (r.0, e.around ∙ r.1);
    around_not = λ i v h x. let e = end-is u i v h in e.around ∙ A.valid.shaped.around_not k u A.listed (arc-of i x);
    around_near = λ i v m e h r off. let x = end-is u i v h in around-near v i m e x.which (sym x.around ∙ r) off;
    ground_alone = λ e. let z : two_ends u ≡ [] = e in cc;
    ground_not = λ m e. none-some m e;
    ground_label = λ m d e. none-some m e;
  }

  kept : NoneSmooth M F
  kept i v h = needed i v (is-end i v h)

  pub edge-built : Valid M × Least M × ((d : Vector) → IsDirection d → MapLabel M d (L V k u N A d))
  edge-built = labels-build (forms N) (L V k u N A) M (are-labelling N A.along_valid) built kept

  low-primitive : IsPrimitive (opposite w)
  low-primitive = let p = A.ordered.dirs_lowest k u A.listed in record { by = opposite p.by; one = both p.by ∙ p.one }
    where
      both : (v : Vector) → dot (opposite v) (opposite w) ≡ dot v w
      both v = ring (v.x ∷ v.y ∷ v.z ∷ w.x ∷ w.y ∷ w.z ∷ []) (neg (at 0) ⊗ neg (at 3) ⊕ neg (at 1) ⊗ neg (at 4) ⊕ neg (at 2) ⊗ neg (at 5)) (at 0 ⊗ at 3 ⊕ at 1 ⊗ at 4 ⊕ at 2 ⊗ at 5) tt

  primitive-by : (i : ℕ) (v : MapVertex) → IsHighEnd u i v ⊎ IsLowEnd u i v → IsPrimitive v.dir
  primitive-by i v (inl e) = subst IsPrimitive (sym e.1) (A.ordered.dirs_lowest k u A.listed)
  primitive-by i v (inr e) = subst IsPrimitive (sym e.1) low-primitive

  in-order : (i j : ℕ) (v x : MapVertex) → i < j → IsHighEnd u i v ⊎ IsLowEnd u i v → IsHighEnd u j x ⊎ IsLowEnd u j x → VectorBelow v.dir x.dir
  in-order i j v x l (inr e) (inl f) = rw (e.1, f.1) (opposite-below w (opposite w) A.normal (opposite-itself w hw))
  in-order i j v x l (inl e) (inl f) = absurd (let a = e.0 in let b = f.0 in omega arith)
  in-order i j v x l (inl e) (inr f) = absurd (let a = e.0 in let b = f.0 in omega arith)
  in-order i j v x l (inr e) (inr f) = absurd (let a = e.0 in let b = f.0 in omega arith)

  pub edge-ordered : Ordered M
  edge-ordered = record {
    dirs_lowest = λ i v h. primitive-by i v (is-end i v h);
    normals_lowest = of-items (λ x. IsPrimitive (item_normal x)) half-lowest;
    svertices = λ i j v x l g h. in-order i j v x l (is-end i v g) (is-end j x h);
    arcs = H.ordered;
  }
