-- The star of a direction in which two lines cross.
use Rattle.nef_star.proofs.Prelude.{◌≡◌, ℕ, ℤ, pos, neg_ℤ, ◌<ℤ◌, ◌*ℤ◌, List, [], ◌∷◌, length, Bool, true, false, not, IsTrue, ◌↔◌, arith, refl, sym, ap, subst, ◌∙◌, inl, inr, ◌⊎◌, All, ints, All-cons, All-nil, by_order, mul_pos, plus-is, minus-is, nought-is, ring, at, num, neg, ◌⊕◌, ◌⊖◌, ◌⊗◌, normal_limit, svertex_limit, Vector, dot, cross, triple, opposite, IsDirection, IsParallel, IsAtMost, IsNormal, SameDirection, Label, vector_of, Dir, IsOnCircle, Passes, turn_from_parallel, parallel_from_turn, by_side, StarLabel, Op, Ray, Star, op_label, IsTurning, Gives, on_ray, in_sector, star_of, left_at, mark_at, sector_at, sector_count, IsRay, BeginsAnywhere, KeepsLabels, LeftGives, dot-comm, triple-back, cross-turned, self-pos, triple_poly, numbers, same_or_opposite, square-cross, dir-self}
use Rattle.nef_space.specs.Signs.{Sign, minus, nought, plus, sign}
use Rattle.nef_star.specs.declared.rounds.CircleLabels.{CircleLabels}
use Rattle.nef_star.specs.Lines.{IsOnAxis, circle_label, past_of, before_of, IsCrossed, IsFourRays}
use Rattle.nef_star.proofs.Labelled.{to-star, each_has_one_label}
use Rattle.nef_star.proofs.Counted.{renamed}
use Rattle.nef_star.proofs.Needed.{true_or_false}
use Rattle.nef_star.proofs.Straight.{plane-turning}
use Rattle.nef_star.proofs.Alternating.{four-turning, both-gives}
use Rattle.law_geometry.proofs.sphere.SectorSees.{turn-from_left as turn-to}
use Rattle.nef_space.proofs.Vectors.{back-triple, right-turn}

-- ---- turns
turn-self : (a u : Vector) → IsDirection u → triple a u u ≡ pos 0
turn-self a u h = turn_from_parallel a u u ((dir-self u h).parallel)

-- from u to v and on to w, which is opposite to u, it is less than half a turn each
half : (a u v w : Vector) → IsOnCircle a v → pos 0 <ℤ triple a u v → triple a u w ≡ pos 0 → pos 0 <ℤ triple a v w → Passes a u v w
half a u v w o p z q = record {
  on_circle = o;
  not_source = λ s. let e = turn_from_parallel a u v s.parallel in omega (arith, ints, e, p);
  not_target = λ s. let e = turn_from_parallel a v w (cross-turned w v s.parallel) in omega (arith, ints, e, q);
  less_than_half = λ h. absurd (omega (arith, ints, h, z));
  more_than_half = λ h. absurd (omega (arith, ints, h, z));
  just_half = λ h. p;
}

-- ---- a line
abbrev ahead_ray : CircleLabels → Ray
ahead_ray x = record { normal = x.normal; ahead = true; mark = x.mark }

abbrev back_ray : CircleLabels → Ray
back_ray x = record { normal = x.normal; ahead = false; mark = x.mark }

abbrev lefts : CircleLabels → ℕ → Vector
lefts x = left_at (ahead_ray x ∷ back_ray x ∷ [])

abbrev marks : CircleLabels → ℕ → Label
marks x = mark_at (ahead_ray x ∷ back_ray x ∷ [])

abbrev sectors : CircleLabels → ℕ → Label
sectors x = sector_at (x.pos ∷ x.neg ∷ [])

line-ray : (a : Vector) (x : CircleLabels) → IsOnAxis a x → (r : Ray) → r.normal ≡ x.normal → IsRay a r
line-ray a x X r e = record {
  level = subst (λ (d : Dir). dot (vector_of d) a ≡ pos 0) (sym e) X.level;
  small = subst (λ (d : Dir). IsAtMost normal_limit (vector_of d)) (sym e) X.small;
  normal = subst (λ (d : Dir). IsNormal (vector_of d)) (sym e) X.normal;
}

line-turning : (a : Vector) → IsDirection a → (x : CircleLabels) → IsOnAxis a x → IsTurning a 2 (lefts x)
line-turning a axis x X = plane-turning a axis (ahead_ray x) (back_ray x) (line-ray a x X (ahead_ray x) refl) (line-ray a x X (back_ray x) refl) refl refl refl

-- a line gives each direction its label on it or on one of its sides
module _ (a : Vector) (axis : IsDirection a) (x : CircleLabels) (X : IsOnAxis a x) (e : Vector) (off : IsDirection (cross a e)) where
  abbrev n : Vector
  n = vector_of x.normal

  abbrev d : Vector
  d = cross a e

  on : IsOnCircle a d
  on = record { direction = off; level = square-cross a e }

  square : pos 0 <ℤ dot a a
  square = self-pos a axis

  self : triple a n n ≡ pos 0
  self = turn-self a n x.normal.some

  label : (s : Sign) → sign (dot n e) ≡ s → by_side x.pos x.mark x.neg s ≡ circle_label x e
  label s h = ap (by_side x.pos x.mark x.neg) (sym h)

  on_line : IsParallel n d → sign (dot n e) ≡ nought → SameDirection n d ⊎ SameDirection (opposite n) d → Gives a 2 (lefts x) (marks x) (sectors x) d (circle_label x e)
  on_line p h (inl s) = on_ray 0 (omega arith) s (label nought h)
  on_line p h (inr s) = on_ray 1 (omega arith) s (label nought h)

  by : (s : Sign) → sign (dot n e) ≡ s → Gives a 2 (lefts x) (marks x) (sectors x) d (circle_label x e)
  by plus h =
      let p = mul_pos (dot a a) (dot n e) square (plus-is (dot n e) h) in let t = turn-to a n e X.level in
      let z = right-turn a n n in let q = right-turn a d n in let r = triple-back a n d in
      in_sector 0 1 (omega arith) (inl (refl, omega arith)) (half a n d (opposite n) on (omega (arith, ints, p, t)) (omega (arith, ints, z, self)) (omega (arith, ints, p, t, q, r))) (label plus h)
  by nought h =
      let z = nought-is (dot n e) h in let t = turn-to a n e X.level ∙ ap (λ (i : ℤ). dot a a *ℤ i) z in
      let flat : triple a n d ≡ pos 0 = t ∙ ring (dot a a ∷ []) (at 0 ⊗ num (pos 0)) (num (pos 0)) tt in
      let p = parallel_from_turn a n d square (dot-comm a n ∙ X.level) on.level flat in
      on_line p h (same_or_opposite n d x.normal.some off p)
  by minus h =
      let m = minus-is (dot n e) h in let back : pos 0 <ℤ neg_ℤ (dot n e) = omega (arith, ints, m) in
      let p = mul_pos (dot a a) (neg_ℤ (dot n e)) square back in let t = turn-to a n e X.level in
      let f = ring (dot a a ∷ dot n e ∷ []) (at 0 ⊗ neg (at 1)) (neg (at 0 ⊗ at 1)) tt in
      let z = back-triple a n n in let q = back-triple a n d in let r = triple-back a n d in
      in_sector 1 0 (omega arith) (inr (refl, refl)) (half a (opposite n) d n on (omega (arith, ints, p, t, f, q)) (omega (arith, ints, z, self)) (omega (arith, ints, p, t, f, r))) (label minus h)

  line-gives : Gives a 2 (lefts x) (marks x) (sectors x) d (circle_label x e)
  line-gives = by (sign (dot n e)) refl

-- ---- two lines
module _ (op : Op) (axis : Dir) (small : IsAtMost svertex_limit (vector_of axis)) (x y : CircleLabels) (X : IsOnAxis (vector_of axis) x) (Y : IsOnAxis (vector_of axis) y) (s : Star) where
  abbrev a : Vector
  a = vector_of axis

  abbrev first : Vector
  first = vector_of x.normal

  abbrev second : Vector
  second = vector_of y.normal

  f : IsTurning a 2 (lefts x)
  f = line-turning a axis.some x X

  h : IsTurning a 2 (lefts y)
  h = line-turning a axis.some y Y

  flat : triple a first first ≡ pos 0
  flat = turn-self a first x.normal.some

  -- which way the second line crosses the first
  abbrev pub IsToSide : Bool → Type 0
  IsToSide true = pos 0 <ℤ triple a first second
  IsToSide false = triple a first second <ℤ pos 0

  pub to-side : (b : Bool) → IsTrue b ↔ (pos 0 <ℤ triple a first second) → (IsParallel first second → ⊥) → IsToSide b
  to-side true w apart = w.0 refl
  to-side false w apart =
      by_order (triple a first second) (pos 0) (λ z. z)
      (λ z. absurd (apart (parallel_from_turn a first second (self-pos a axis.some) (dot-comm a first ∙ X.level) (dot-comm a second ∙ Y.level) z))) (λ z. absurd (true_or_false (sym (w.1 z))))

  left-past : IsToSide true → Passes a first second (opposite first)
  left-past p =
      let z = right-turn a first first in let q = right-turn a second first in let r = triple-back a first second in
      half a first second (opposite first) (h.circle 0 (omega arith)) p (omega (arith, ints, z, flat)) (omega (arith, ints, p, q, r))

  left-back : IsToSide true → Passes a (opposite first) (opposite second) first
  left-back p =
      let z = back-triple a first first in let u = right-turn a (opposite first) second in let v = back-triple a first second in let q = back-triple a second first in let r = triple-back a first second in
      half a (opposite first) (opposite second) first (h.circle 1 (omega arith)) (omega (arith, ints, p, u, v)) (omega (arith, ints, z, flat)) (omega (arith, ints, p, q, r))

  right-past : IsToSide false → Passes a first (opposite second) (opposite first)
  right-past p =
      let z = right-turn a first first in let u = right-turn a first second in let v = right-turn a (opposite second) first in let q = back-triple a second first in let r = triple-back a first second in
      half a first (opposite second) (opposite first) (h.circle 1 (omega arith)) (omega (arith, ints, p, u)) (omega (arith, ints, z, flat)) (omega (arith, ints, p, v, q, r))

  right-back : IsToSide false → Passes a (opposite first) second first
  right-back p =
      let z = back-triple a first first in let u = back-triple a first second in let r = triple-back a first second in
      half a (opposite first) second first (h.circle 0 (omega arith)) (omega (arith, ints, p, u)) (omega (arith, ints, z, flat)) (omega (arith, ints, p, r))

  lefts_turn : (b : Bool) → IsToSide b → IsFourRays op axis x y b s → IsTurning a 4 (left_at s.rays.items)
  lefts_turn true p F = four-turning a axis.some (lefts x) f (lefts y) h 0 1 (inl (refl, refl)) (left-past p) (left-back p) (left_at s.rays.items)
      (ap (λ (l : List Ray). left_at l 0) F.rays) (ap (λ (l : List Ray). left_at l 1) F.rays) (ap (λ (l : List Ray). left_at l 2) F.rays) (ap (λ (l : List Ray). left_at l 3) F.rays)
  lefts_turn false p F = four-turning a axis.some (lefts x) f (lefts y) h 1 0 (inr (refl, refl)) (right-past p) (right-back p) (left_at s.rays.items)
      (ap (λ (l : List Ray). left_at l 0) F.rays) (ap (λ (l : List Ray). left_at l 1) F.rays) (ap (λ (l : List Ray). left_at l 2) F.rays) (ap (λ (l : List Ray). left_at l 3) F.rays)

  gives : (b : Bool) → IsToSide b → IsFourRays op axis x y b s → (d : Vector) (k l : Label) → IsOnCircle a d → Gives a 2 (lefts x) (marks x) (sectors x) d k → Gives a 2 (lefts y) (marks y) (sectors y) d l
      → Gives a 4 (left_at s.rays.items) (mark_at s.rays.items) (sector_at s.sectors.items) d (op_label op k l)
  gives true p F = both-gives a axis.some (lefts x) f (lefts y) h 0 1 (inl (refl, refl)) (left-past p) (left-back p) (left_at s.rays.items)
      (ap (λ (l : List Ray). left_at l 0) F.rays) (ap (λ (l : List Ray). left_at l 1) F.rays) (ap (λ (l : List Ray). left_at l 2) F.rays) (ap (λ (l : List Ray). left_at l 3) F.rays)
      op (marks x) (sectors x) (marks y) (sectors y) (mark_at s.rays.items) (sector_at s.sectors.items)
      (ap (λ (l : List Ray). mark_at l 0) F.rays) (ap (λ (l : List Ray). mark_at l 1) F.rays) (ap (λ (l : List Ray). mark_at l 2) F.rays) (ap (λ (l : List Ray). mark_at l 3) F.rays)
      (ap (λ (l : List Label). sector_at l 0) F.sectors) (ap (λ (l : List Label). sector_at l 1) F.sectors) (ap (λ (l : List Label). sector_at l 2) F.sectors) (ap (λ (l : List Label). sector_at l 3) F.sectors)
  gives false p F = both-gives a axis.some (lefts x) f (lefts y) h 1 0 (inr (refl, refl)) (right-past p) (right-back p) (left_at s.rays.items)
      (ap (λ (l : List Ray). left_at l 0) F.rays) (ap (λ (l : List Ray). left_at l 1) F.rays) (ap (λ (l : List Ray). left_at l 2) F.rays) (ap (λ (l : List Ray). left_at l 3) F.rays)
      op (marks x) (sectors x) (marks y) (sectors y) (mark_at s.rays.items) (sector_at s.sectors.items)
      (ap (λ (l : List Ray). mark_at l 0) F.rays) (ap (λ (l : List Ray). mark_at l 1) F.rays) (ap (λ (l : List Ray). mark_at l 2) F.rays) (ap (λ (l : List Ray). mark_at l 3) F.rays)
      (ap (λ (l : List Label). sector_at l 0) F.sectors) (ap (λ (l : List Label). sector_at l 1) F.sectors) (ap (λ (l : List Label). sector_at l 2) F.sectors) (ap (λ (l : List Label). sector_at l 3) F.sectors)

  module _ (b : Bool) (p : IsToSide b) (F : IsFourRays op axis x y b s) where
    abbrev r0 : Ray
    r0 = record { normal = x.normal; ahead = true; mark = op_label op x.mark (before_of b y) }

    abbrev r1 : Ray
    r1 = record { normal = y.normal; ahead = b; mark = op_label op x.pos y.mark }

    abbrev r2 : Ray
    r2 = record { normal = x.normal; ahead = false; mark = op_label op x.mark (past_of b y) }

    abbrev r3 : Ray
    r3 = record { normal = y.normal; ahead = not b; mark = op_label op x.neg y.mark }

    pub four-turned : BeginsAnywhere s
    four-turned = record {
      axis_small = subst (λ (d : Dir). IsAtMost svertex_limit (vector_of d)) (sym F.axis) small;
      rays = subst (λ (d : Dir). All (IsRay (vector_of d)) s.rays.items) (sym F.axis) (subst (All (IsRay a)) (sym F.rays)
          (All-cons (IsRay a) r0 (r1 ∷ r2 ∷ r3 ∷ []) (line-ray a x X r0 refl) (All-cons (IsRay a) r1 (r2 ∷ r3 ∷ []) (line-ray a y Y r1 refl) (All-cons (IsRay a) r2 (r3 ∷ []) (line-ray a x X r2 refl) (All-cons (IsRay a) r3 [] (line-ray a y Y r3 refl) (All-nil (IsRay a)))))));
      counterclockwise = subst (λ (d : Dir). IsTurning (vector_of d) (length s.rays.items) (left_at s.rays.items)) (sym F.axis) (subst (λ (k : ℕ). IsTurning a k (left_at s.rays.items)) (sym (ap length F.rays)) (lefts_turn b p F));
      sectors = ap length F.sectors ∙ sym (ap sector_count F.rays);
    }

    four-label : (e : Vector) → IsDirection (cross a e) → StarLabel (star_of s) e (op_label op (circle_label x e) (circle_label y e))
    four-label e off =
        let o : IsOnCircle a (cross a e) = record { direction = off; level = square-cross a e } in
        let g = renamed s axis 4 (cross a e) (op_label op (circle_label x e) (circle_label y e)) F.axis (ap length F.rays)
        (gives b p F (cross a e) (circle_label x e) (circle_label y e) o (line-gives a axis.some x X e off) (line-gives a axis.some y Y e off)) in
        to-star s four-turned e (subst (λ (d : Dir). IsDirection (cross (vector_of d) e)) (sym F.axis) off) (op_label op (circle_label x e) (circle_label y e))
        (subst (λ (d : Dir). LeftGives s (cross (vector_of d) e) (op_label op (circle_label x e) (circle_label y e))) (sym F.axis) g)

    -- counted from another ray on
    pub four-crossed : (u : Star) → BeginsAnywhere u → KeepsLabels s u → IsCrossed op axis x y u
    four-crossed u U K e l off q =
        let to_s = subst (λ (d : Dir). IsDirection (cross (vector_of d) e)) (sym F.axis) off in
        let to_u = subst (λ (d : Dir). IsDirection (cross (vector_of d) e)) (sym K.axis) to_s in
        let one = each_has_one_label u U e to_u in
        one.2 l q ∙ sym (one.2 (op_label op (circle_label x e) (circle_label y e)) (K.labels e (op_label op (circle_label x e) (circle_label y e)) to_s (four-label e off)))
