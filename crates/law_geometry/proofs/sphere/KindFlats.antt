-- Maps of volume, facet and edge points stay the same along the directions that their kind names.
use Rattle.law_geometry.proofs.sphere.Prelude.{◌≡◌, ℕ, zero, suc, ◌<◌, ℤ, pos, ◌+ℤ◌, ◌-ℤ◌, ◌*ℤ◌, ◌<ℤ◌, arith, refl, ap, sym, ◌∙◌, ◌⊎◌, inl, inr, ⊎_elim, List, ◌∷◌, subst, Some, [], ints, ring, at, num, ◌⊕◌, ◌⊖◌, ◌⊗◌, Sign, sign, sign-plus, sign-minus, by_order, mul_pos, sign-scaled, Vector, IsDirection, cross, triple, dot, IsZero, SameDirection, IsOpposite, blend, Label, combination, IsAt, MapVertex, Arc, MapSloop, Map, Item, arc_item, sloop_item, items, item_normal, dir_of, OnItem, IsFree, pos_item, neg_item, IsClear, directly, MapLabel, at_svertex, on_item, seen, Valid, IsOnCircle, by_side, Least, Full, FlatMap, IsInVolume, IsInFacet, IsOnEdge, zero-decided, dot-zero, triple-dot, cross-turned, opposites, SameDirection-turned, dir-self, in-span, apart, parallel-trans, is-at_first, is-at_none}
use Rattle.law_geometry.proofs.sphere.Vectors.{normal-is, dot-comb, direction-by}
use Rattle.law_geometry.proofs.sphere.Forms.{on-level}
use Rattle.law_geometry.proofs.sphere.Parallel.{circle-point}
use Rattle.law_geometry.proofs.sphere.Shot.{arc-at}
use Rattle.law_geometry.proofs.sphere.Direct.{between-off_target, IsZero-times}
use Rattle.law_geometry.proofs.sphere.Labels.{label-direction, label-unique, dir-joined}
use Rattle.law_geometry.proofs.sphere.Around.{Beside, same_way, other_way, beside}
use Rattle.law_geometry.proofs.sphere.Arcs.{Ends, ends-of, sloop-at, at-sloop}
use Rattle.law_geometry.proofs.sphere.Unique.{ground-label}
use Rattle.law_geometry.proofs.sphere.Kind.{flat-sloop}
use Rattle.law_geometry.proofs.sphere.Turn.{whole-passes}
use Rattle.law_geometry.proofs.sphere.Walk.{cross-direction_right}
use Rattle.law_geometry.proofs.sphere.Lists.{none-at}
use Rattle.std.proofs.lemmas.Option.{same_Some}

-- ---- volumes
pub volume-flat : (M : Map) → Valid M → IsInVolume M → (d : Vector) → FlatMap M d
volume-flat M V K d e b a sb m = (λ f. all (combination (pos b) e a d) (is_mark e f), λ f. all e (is_mark (combination (pos b) e a d) f))
  where
    is_mark : (u : Vector) → Full M u m → M.mark ≡ m
    is_mark u (inl z) = z.1
    is_mark u (inr l) = label-unique M V u M.mark m (ground-label M V M.mark K.same_mark u (label-direction M u m l)) l

    all : (u : Vector) → M.mark ≡ m → Full M u m
    all u q = ⊎_elim (λ z. inl (z, q)) (λ f. inr (subst (λ (r : Label). MapLabel M u r) q (ground-label M V M.mark K.same_mark u f))) (zero-decided u)

-- ---- facets
module _ (M : Map) (V : Valid M) (l : MapSloop) (bare : M.svertices ≡ []) (has : M.sloop ≡ Some l) where
  sloop-number : (i : ℕ) × IsAt (items M) i (sloop_item l)
  sloop-number = at-sloop M.arcs M.sloop l has

  only-sloop : (k : ℕ) (x : Item) → IsAt (items M) k x → x ≡ sloop_item l
  only-sloop k (arc_item a) h = let r = ends-of M V.shaped k a (arc-at M.arcs M.sloop k a h) in absurd (none-at M.svertices a.source r.source bare r.has_source)
  only-sloop k (sloop_item c) h = ap sloop_item (same_Some c l (sym (sloop-at M.arcs M.sloop k c h) ∙ has))

  off-sloop_free : (w : Vector) → (dot l.normal w ≡ pos 0 → ⊥) → IsFree M w
  off-sloop_free w f = record {
    direction = direction-by l.normal w f;
    off_svertices = λ k v a s. none-at M.svertices k v bare a;
    off_items = λ k x a o. f (subst (λ (r : Item). dot (item_normal r) w ≡ pos 0) (only-sloop k x a) (on-level M x w o));
  }

  pub sloop-label : (e : Vector) → IsDirection e → MapLabel M e (by_side l.pos l.mark l.neg (sign (dot l.normal e)))
  sloop-label e h = by (circle-point l.normal (normal-is V.shaped sloop-number.0 (sloop_item l) sloop-number.1)) sloop-number
    where
      side : Sign → Label
      side s = by_side l.pos l.mark l.neg s

      by : (y : Vector) × IsOnCircle l.normal y → (i : ℕ) × IsAt (items M) i (sloop_item l) → MapLabel M e (by_side l.pos l.mark l.neg (sign (dot l.normal e)))
      by (y, o) (i, a) = by_order (dot l.normal e) (pos 0)
          (λ g. subst (λ (s : Sign). MapLabel M e (by_side l.pos l.mark l.neg s)) (sym (sign-minus (dot l.normal e) g))
          (seen (record { side = neg_item i; has = (sloop_item l, a, refl); sees = directly y (clear (λ z. omega (arith, ints))) (sloop_item l, a, o, g) })))
          (λ z. subst (λ (s : Sign). MapLabel M e (by_side l.pos l.mark l.neg s)) (sym (ap sign z))
          (on_item i (sloop_item l) a (record { direction = h; level = z }) refl))
          (λ g. subst (λ (s : Sign). MapLabel M e (by_side l.pos l.mark l.neg s)) (sym (sign-plus (dot l.normal e) g))
          (seen (record { side = pos_item i; has = (sloop_item l, a, refl); sees = directly y (clear (λ z. omega (arith, ints))) (sloop_item l, a, o, g) })))
        where
          clear : (dot l.normal e ≡ pos 0 → ⊥) → IsClear M e y
          clear f = record {
            start = off-sloop_free e f;
            direction = o.direction;
            short = λ q. apart l.normal e y f o.level o.direction q.parallel;
            between = λ p q sp sq. off-sloop_free (blend p e q y) (between-off_target l.normal e y p q sp o.level f);
          }

pub facet-flat : (M : Map) → Valid M → (n : Vector) → IsInFacet M n → (d : Vector) → dot n d ≡ pos 0 → FlatMap M d
facet-flat M V n K d level e b a sb m = (λ f. all (combination (pos b) e a d) (sym (is_side e f) ∙ ap side (sym same)), λ f. all e (sym (is_side (combination (pos b) e a d) f) ∙ ap side same))
  where
    side : Sign → Label
    side s = by_side K.sloop.pos K.sloop.mark K.sloop.neg s

    flat : dot K.sloop.normal d ≡ pos 0
    flat = ap (λ r. dot r d) K.normal ∙ level

    same : sign (dot K.sloop.normal (combination (pos b) e a d)) ≡ sign (dot K.sloop.normal e)
    same = ap sign (dot-comb K.sloop.normal (pos b) e a d ∙ ap (λ r. pos b *ℤ dot K.sloop.normal e +ℤ a *ℤ r) flat ∙ ring (pos b ∷ dot K.sloop.normal e ∷ a ∷ []) (at 0 ⊗ at 1 ⊕ at 2 ⊗ num (pos 0)) (at 0 ⊗ at 1) tt)
        ∙ sign-scaled (pos b) (dot K.sloop.normal e) (omega (arith, ints))

    is_side : (u : Vector) → Full M u m → side (sign (dot K.sloop.normal u)) ≡ m
    is_side u (inl z) = ap side (ap sign (dot-zero K.sloop.normal u z.0)) ∙ K.same_mark ∙ z.1
    is_side u (inr l) = label-unique M V u _ m (sloop-label M V K.sloop K.no_svertex K.has_sloop u (label-direction M u m l)) l

    all : (u : Vector) → m ≡ side (sign (dot K.sloop.normal u)) → Full M u m
    all u q = ⊎_elim
        (λ z. inl (z, sym K.same_mark ∙ ap side (sym (ap sign (dot-zero K.sloop.normal u z))) ∙ sym q))
        (λ f. inr (subst (λ (r : Label). MapLabel M u r) (sym q) (sloop-label M V K.sloop K.no_svertex K.has_sloop u f))) (zero-decided u)

pub facet-only : (M : Map) → Valid M → Least M → (n : Vector) → IsInFacet M n → (d : Vector) → FlatMap M d → dot n d ≡ pos 0
facet-only M V L n K d F = ap (λ r. dot r d) (sym K.normal) ∙ flat-sloop M V L d F K.sloop K.has_sloop

-- ---- edges
pub at-first : {A : Type 0} (xs : List A) (x y : A) → xs ≡ x ∷ y ∷ [] → IsAt xs zero x
at-first {A} xs x y e = subst (λ (r : List A). IsAt r zero x) (sym e) refl

pub at-second : {A : Type 0} (xs : List A) (x y : A) → xs ≡ x ∷ y ∷ [] → IsAt xs (suc zero) y
at-second {A} xs x y e = subst (λ (r : List A). IsAt r (suc zero) y) (sym e) refl

one-of-two : {A : Type 0} (x y : A) (k : ℕ) (z : A) → IsAt (x ∷ y ∷ []) k z → (x ≡ z) ⊎ (y ≡ z)
one-of-two x y zero z e = inl (is-at_first e)
one-of-two x y (suc zero) z e = inr (is-at_first e)
one-of-two x y (suc (suc k)) z e = absurd (is-at_none e)

module _ (M : Map) (V : Valid M) (d : Vector) (K : IsOnEdge M d) where
  abbrev u : Vector
  u = K.first.dir

  at-two : (k : ℕ) (v : MapVertex) → IsAt M.svertices k v → (K.first ≡ v) ⊎ (K.second ≡ v)
  at-two k v a = one-of-two K.first K.second k v (subst (λ (r : List MapVertex). IsAt r k v) K.two_svertices a)

  has_first : IsAt M.svertices zero K.first
  has_first = at-first M.svertices K.first K.second K.two_svertices

  has_second : IsAt M.svertices (suc zero) K.second
  has_second = at-second M.svertices K.first K.second K.two_svertices

  pub hu : IsDirection u
  hu = V.shaped.svertex_dirs zero K.first has_first

  hw : IsDirection K.second.dir
  hw = V.shaped.svertex_dirs (suc zero) K.second has_second

  -- every svertex is parallel to the first
  pub svertex-parallel : (k : ℕ) (v : MapVertex) → IsAt M.svertices k v → IsZero (cross u v.dir)
  svertex-parallel k v a = ⊎_elim (λ e. subst (λ (r : MapVertex). IsZero (cross u r.dir)) e (let w = dir-self u hu in w.parallel))
      (λ e. subst (λ (r : MapVertex). IsZero (cross u r.dir)) e (let o = K.opposite in o.parallel)) (at-two k v a)

  -- along the axis there is the mark
  pub axis-label : (e : Vector) → IsDirection e → IsZero (cross u e) → MapLabel M e M.mark
  axis-label e h p = by (beside u e hu h p)
    where
      by : Beside u e → MapLabel M e M.mark
      by (same_way w) = at_svertex zero K.first has_first w K.first_mark
      by (other_way o) = at_svertex (suc zero) K.second has_second (opposites u K.second.dir e hu K.opposite o) K.second_mark

  -- the arcs are half circles from one to the other
  pub arc-ends_opposite : (k : ℕ) (a : Arc) → IsAt (items M) k (arc_item a) → IsOpposite (dir_of M.svertices a.source) (dir_of M.svertices a.target)
  arc-ends_opposite k a h = by (ends-of M V.shaped k a (arc-at M.arcs M.sloop k a h))
    where
      by : Ends M a → IsOpposite (dir_of M.svertices a.source) (dir_of M.svertices a.target)
      by r = at_both (beside (dir_of M.svertices a.source) (dir_of M.svertices a.target) r.source_direction r.target_direction
          (parallel-trans (dir_of M.svertices a.source) u (dir_of M.svertices a.target) hu (cross-turned u (dir_of M.svertices a.source) (subst (λ (q : Vector). IsZero (cross u q)) (sym r.source_is) (svertex-parallel a.source r.source r.has_source)))
          (subst (λ (q : Vector). IsZero (cross u q)) (sym r.target_is) (svertex-parallel a.target r.target r.has_target))))
        where
          -- a whole circle would pass the other svertex
          whole : SameDirection (dir_of M.svertices a.source) (dir_of M.svertices a.target) → (j : ℕ) (v : MapVertex) → IsAt M.svertices j v → (SameDirection (dir_of M.svertices a.target) v.dir → ⊥) → ⊥
          whole w j v b off = V.shaped.no_svertex_on_item j k v (arc_item a) b h
              (whole-passes a.normal (dir_of M.svertices a.source) (dir_of M.svertices a.target) v.dir (normal-is V.shaped k (arc_item a) h) r.source_direction r.target_direction (V.shaped.svertex_dirs j v b)
              r.source_level r.target_level (level-parallel v.dir (parallel-trans (dir_of M.svertices a.source) u v.dir hu (cross-turned u (dir_of M.svertices a.source) (subst (λ (q : Vector). IsZero (cross u q)) (sym r.source_is) (svertex-parallel a.source r.source r.has_source))) (svertex-parallel j v b))) w off)
            where
              level-parallel : (q : Vector) → IsZero (cross (dir_of M.svertices a.source) q) → dot a.normal q ≡ pos 0
              level-parallel q p = in-span a.normal (dir_of M.svertices a.source) q r.source_direction p r.source_level

          at_both : Beside (dir_of M.svertices a.source) (dir_of M.svertices a.target) → IsOpposite (dir_of M.svertices a.source) (dir_of M.svertices a.target)
          at_both (other_way o) = o
          at_both (same_way w) = absurd (whole w zero K.first has_first (λ z. whole w (suc zero) K.second has_second (λ y. let o = K.opposite in
              let c = dir-joined u K.second.dir (dir_of M.svertices a.target) (SameDirection-turned (dir_of M.svertices a.target) u z) (SameDirection-turned (dir_of M.svertices a.target) K.second.dir y) in
              let f = c.forward in let g = o.backward in omega (arith, ints))))

  -- off the axis, a direction goes with all that differ by multiples of the axis
  module _ (e : Vector) (off : IsDirection (cross u e)) (b : ℕ) (a : ℤ) (sb : 0 < b) where
    abbrev moved : Vector
    moved = combination (pos b) e a u

    pub off-moved : IsDirection (cross u moved)
    off-moved z = off (IsZero-times (pos b) (cross u e) (omega (arith, ints)) (one u.y u.z e.y e.z z.0) (one u.z u.x e.z e.x z.1) (one u.x u.y e.x e.y z.2))
      where
        one : (p q x y : ℤ) → p *ℤ (pos b *ℤ y +ℤ a *ℤ q) -ℤ q *ℤ (pos b *ℤ x +ℤ a *ℤ p) ≡ pos 0 → pos b *ℤ (p *ℤ y -ℤ q *ℤ x) ≡ pos 0
        one p q x y f = ring (p ∷ q ∷ x ∷ y ∷ pos b ∷ a ∷ []) (at 4 ⊗ (at 0 ⊗ at 3 ⊖ at 1 ⊗ at 2)) (at 0 ⊗ (at 4 ⊗ at 3 ⊕ at 5 ⊗ at 1) ⊖ at 1 ⊗ (at 4 ⊗ at 2 ⊕ at 5 ⊗ at 0)) tt ∙ f

    -- an arc goes on
    pub arc-moved : (k : ℕ) (x : Item) → IsAt (items M) k x → OnItem M x e → OnItem M x moved
    arc-moved k (sloop_item l) h o = let i = sloop-at M.arcs M.sloop k l h in let j = K.no_sloop in cc
    arc-moved k (arc_item c) h o = by (ends-of M V.shaped k c (arc-at M.arcs M.sloop k c h)) (arc-ends_opposite k c h)
      where
        by : Ends M c → IsOpposite (dir_of M.svertices c.source) (dir_of M.svertices c.target) → OnItem M (arc_item c) moved
        by r q = record {
          on_circle = record { direction = cross-direction_right u moved off-moved; level = level };
          not_source = λ w. off-moved (parallel-trans u (dir_of M.svertices c.source) moved r.source_direction us w.parallel);
          not_target = λ w. off-moved (parallel-trans u (dir_of M.svertices c.target) moved r.target_direction ut w.parallel);
          less_than_half = λ g. let z = dot-zero c.normal (cross (dir_of M.svertices c.source) (dir_of M.svertices c.target)) q.parallel in absurd (omega (arith, ints));
          more_than_half = λ g. let z = dot-zero c.normal (cross (dir_of M.svertices c.source) (dir_of M.svertices c.target)) q.parallel in absurd (omega (arith, ints));
          just_half = λ g. half (o.just_half g);
        }
          where
            us : IsZero (cross u (dir_of M.svertices c.source))
            us = subst (λ (q : Vector). IsZero (cross u q)) (sym r.source_is) (svertex-parallel c.source r.source r.has_source)

            ut : IsZero (cross u (dir_of M.svertices c.target))
            ut = subst (λ (q : Vector). IsZero (cross u q)) (sym r.target_is) (svertex-parallel c.target r.target r.has_target)

            nu : dot c.normal u ≡ pos 0
            nu = in-span c.normal (dir_of M.svertices c.source) u r.source_direction (cross-turned u (dir_of M.svertices c.source) us) r.source_level

            level : dot c.normal moved ≡ pos 0
            level = let p = o.on_circle.level in dot-comb c.normal (pos b) e a u ∙ ap (λ r. pos b *ℤ r +ℤ a *ℤ dot c.normal u) p ∙ ap (λ r. pos b *ℤ pos 0 +ℤ a *ℤ r) nu ∙ ring (pos b ∷ a ∷ []) (at 0 ⊗ num (pos 0) ⊕ at 1 ⊗ num (pos 0)) (num (pos 0)) tt

            -- n.(s x moved) = b n.(s x e)
            half : pos 0 <ℤ triple c.normal (dir_of M.svertices c.source) e → pos 0 <ℤ triple c.normal (dir_of M.svertices c.source) moved
            half g =
                let t = cross c.normal (dir_of M.svertices c.source) in
                let z : dot t u ≡ pos 0 = sym (triple-dot c.normal (dir_of M.svertices c.source) u) ∙ dot-zero c.normal (cross (dir_of M.svertices c.source) u) (cross-turned u (dir_of M.svertices c.source) us) in
                let k = triple-dot c.normal (dir_of M.svertices c.source) moved ∙ dot-comb t (pos b) e a u ∙ ap (λ r. pos b *ℤ dot t e +ℤ a *ℤ r) z ∙ ring (pos b ∷ a ∷ dot t e ∷ []) (at 0 ⊗ at 2 ⊕ at 1 ⊗ num (pos 0)) (at 0 ⊗ at 2) tt ∙ ap (λ r. pos b *ℤ r) (sym (triple-dot c.normal (dir_of M.svertices c.source) e)) in
                subst (λ (r : ℤ). pos 0 <ℤ r) (sym k) (mul_pos (pos b) (triple c.normal (dir_of M.svertices c.source) e) (omega (arith, ints)) g)

    pub off-svertices : (k : ℕ) (v : MapVertex) → IsAt M.svertices k v → SameDirection v.dir moved → ⊥
    off-svertices k v h w = off-moved (parallel-trans u v.dir moved (V.shaped.svertex_dirs k v h) (svertex-parallel k v h) w.parallel)
