-- What a star gives a direction e is what its left directions give axis x e.
use Rattle.nef_star.proofs.Prelude.{◌≡◌, ℕ, zero, suc, ◌<◌, neg_ℤ, ◌*ℤ◌, ◌-ℤ◌, List, [], ◌∷◌, length, map, true, false, cond, arith, refl, sym, ap, subst, ◌∙◌, inl, inr, length-map, ring, at, neg, ◌⊖◌, ◌⊗◌, Vector, cross, opposite, IsDirection, ℤ, Bool, Label, vector_of, IsOnCircle, IsStrictlyOn, Passes, IsAt, ray_dir, NextRay, StarLabel, Ray, Star, IsNext, on_ray as at_ray, in_sector as of_sector, in_only_sector as of_only_sector, ray_of, star_of, left_of, left_at, mark_of, mark_at, sector_at, sector_count, BeginsAnywhere, LeftGives, vector-same, square-cross, is-at_none, is-at_first}
use Rattle.law_geometry.specs.sphere.Stars.{Ray as PlainRay, on_ray, in_sector, in_only_sector}
use Rattle.nef_star.specs.Laws.{EachHasOneLabel}
use Rattle.nef_star.proofs.Turns.{next_in, some_label, one_label}
use Rattle.nef_star.proofs.Lefts.{way, way-same, same-way, way-passes, passes-way}

-- ---- rays by their places
pub record IsRayAt (rays : List Ray) (k : ℕ) (p : PlainRay) : Type 0 where
  pub ray : Ray
  pub is : ray_of ray ≡ p
  pub left : left_of ray ≡ left_at rays k
  pub mark : mark_of ray ≡ mark_at rays k

pub ray-at : (rays : List Ray) (k : ℕ) → k < length rays → (p : PlainRay) × IsAt (map ray_of rays) k p × IsRayAt rays k p
ray-at [] k h = absurd (omega arith)
ray-at (r ∷ rs) zero h = (ray_of r, refl, record { ray = r; is = refl; left = refl; mark = refl })
ray-at (r ∷ rs) (suc k) h = let q = ray-at rs k (omega arith) in (q.0, q.1, record { ray = q.2.ray; is = q.2.is; left = q.2.left; mark = q.2.mark })

pub at-ray : (rays : List Ray) (k : ℕ) (p : PlainRay) → IsAt (map ray_of rays) k p → (k < length rays) × IsRayAt rays k p
at-ray [] k p h = absurd (is-at_none h)
at-ray (r ∷ rs) zero p h = (omega arith, record { ray = r; is = is-at_first h; left = refl; mark = refl })
at-ray (r ∷ rs) (suc k) p h = let q = at-ray rs k p h in (omega (arith, q.0), record { ray = q.1.ray; is = q.1.is; left = q.1.left; mark = q.1.mark })

pub sector-at : (ls : List Label) (k : ℕ) → k < length ls → IsAt ls k (sector_at ls k)
sector-at [] k h = absurd (omega arith)
sector-at (l ∷ ls) zero h = refl
sector-at (l ∷ ls) (suc k) h = sector-at ls k (omega arith)

pub at-sector : (ls : List Label) (k : ℕ) (l : Label) → IsAt ls k l → sector_at ls k ≡ l
at-sector [] k l h = absurd (is-at_none h)
at-sector (m ∷ ls) zero l h = is-at_first h
at-sector (m ∷ ls) (suc k) l h = at-sector ls k l h

pub no-rays : (rays : List Ray) → length rays ≡ 0 → map ray_of rays ≡ []
no-rays [] e = refl
no-rays (r ∷ rs) e = absurd (omega (arith, e))

pub rays-none : (rays : List Ray) → map ray_of rays ≡ [] → length rays ≡ 0
rays-none [] e = refl
rays-none (r ∷ rs) e = absurd (subst IsFilled e tt)
  where
    IsFilled : List PlainRay → Type 0
    IsFilled [] = ⊥
    IsFilled (p ∷ ps) = Unit {0}

pub sectors-fill : (rays : List Ray) (n k : ℕ) → n ≡ sector_count rays → k < length rays → k < n
sectors-fill [] n k e h = absurd (omega arith)
sectors-fill (r ∷ rs) n k e h = omega (arith, e)

pub sectors-none : (rays : List Ray) (n : ℕ) → n ≡ sector_count rays → length rays ≡ 0 → 0 < n
sectors-none [] n e h = omega (arith, e)
sectors-none (r ∷ rs) n e h = absurd (omega (arith, h))

-- ---- ways
turned : (n a : Vector) → cross a n ≡ way a (opposite n)
turned n a = vector-same (cross a n) (way a (opposite n)) (one a.y n.z a.z n.y) (one a.z n.x a.x n.z) (one a.x n.y a.y n.x)
  where
    one : (p q r s : ℤ) → p *ℤ q -ℤ r *ℤ s ≡ neg_ℤ s *ℤ r -ℤ neg_ℤ q *ℤ p
    one p q r s = ring (p ∷ q ∷ r ∷ s ∷ []) (at 0 ⊗ at 1 ⊖ at 2 ⊗ at 3) (neg (at 3) ⊗ at 2 ⊖ neg (at 1) ⊗ at 0) tt

way-of : (t : Star) (r : Ray) → ray_dir (star_of t) (ray_of r) ≡ way (vector_of t.axis) (left_of r)
way-of t r = by r.ahead
  where
    by : (b : Bool) → cond b (cross (vector_of r.normal) (vector_of t.axis)) (cross (vector_of t.axis) (vector_of r.normal)) ≡ way (vector_of t.axis) (cond b (vector_of r.normal) (opposite (vector_of r.normal)))
    by true = refl
    by false = turned (vector_of r.normal) (vector_of t.axis)

pub strictly : (n s t d : Vector) → Passes n s d t → IsStrictlyOn n s t d
strictly n s t d h = record {
  on_circle = record { direction = h.on_circle.direction; level = h.on_circle.level };
  not_source = h.not_source;
  not_target = h.not_target;
  less_than_half = h.less_than_half;
  more_than_half = h.more_than_half;
  just_half = h.just_half;
}

pub passes : (n s t d : Vector) → IsStrictlyOn n s t d → Passes n s d t
passes n s t d h = record {
  on_circle = record { direction = h.on_circle.direction; level = h.on_circle.level };
  not_source = h.not_source;
  not_target = h.not_target;
  less_than_half = h.less_than_half;
  more_than_half = h.more_than_half;
  just_half = h.just_half;
}

-- ---- labels
module _ (t : Star) (T : BeginsAnywhere t) (e : Vector) (off : IsDirection (cross (vector_of t.axis) e)) where
  axis : IsDirection (vector_of t.axis)
  axis = t.axis.some

  pub left-on : IsOnCircle (vector_of t.axis) (cross (vector_of t.axis) e)
  left-on = record { direction = off; level = square-cross (vector_of t.axis) e }

  at-way : (k : ℕ) (p : PlainRay) (r : IsRayAt t.rays.items k p) → ray_dir (star_of t) p ≡ way (vector_of t.axis) (left_at t.rays.items k)
  at-way k p r = ap (ray_dir (star_of t)) (sym r.is) ∙ way-of t r.ray ∙ ap (way (vector_of t.axis)) r.left

  on-left : (k : ℕ) → k < length t.rays.items → IsOnCircle (vector_of t.axis) (left_at t.rays.items k)
  on-left k h = T.counterclockwise.circle k h

  length-rays : length (map ray_of t.rays.items) ≡ length t.rays.items
  length-rays = length-map t.rays.items ray_of

  from-sector : (k j : ℕ) (q r : PlainRay) (l : Label) → k < length t.rays.items → IsRayAt t.rays.items k q → IsNext (length t.rays.items) k j → j < length t.rays.items → IsRayAt t.rays.items j r
      → IsStrictlyOn (vector_of t.axis) (ray_dir (star_of t) q) (ray_dir (star_of t) r) (way (vector_of t.axis) (cross (vector_of t.axis) e)) → IsAt t.sectors.items k l → LeftGives t (cross (vector_of t.axis) e) l
  from-sector k j q r l h qk x i rj p s =
      of_sector k j h x
      (passes-way (vector_of t.axis) axis _ _ _ (on-left k h) left-on (on-left j i) (rw (← at-way k q qk, ← at-way j r rj) (passes _ _ _ _ p)))
      (at-sector t.sectors.items k l s)

  pub to-left : (l : Label) → StarLabel (star_of t) e l → LeftGives t (cross (vector_of t.axis) e) l
  to-left l (on_ray k p here o m) =
      let q = at-ray t.rays.items k p here in
      at_ray k q.0 (same-way (vector_of t.axis) axis _ _ (on-left k q.0) left-on (rw (← at-way k p q.1) o)) (sym q.1.mark ∙ ap (λ (r : PlainRay). r.mark) q.1.is ∙ m)
  to-left l (in_sector k q r here (inl next) p s) =
      let u = at-ray t.rays.items k q here in let v = at-ray t.rays.items (suc k) r next in
      from-sector k (suc k) q r l u.0 u.1 (inl (refl, v.0)) v.0 v.1 p s
  to-left l (in_sector k q r here (inr (last, next)) p s) =
      let u = at-ray t.rays.items k q here in let v = at-ray t.rays.items 0 r next in
      from-sector k 0 q r l u.0 u.1 (inr (last ∙ length-rays, refl)) v.0 v.1 p s
  to-left l (in_only_sector none s) = of_only_sector (rays-none t.rays.items none) (at-sector t.sectors.items 0 l s)

  next-ray : (k j : ℕ) (r : PlainRay) → IsNext (length t.rays.items) k j → IsAt (map ray_of t.rays.items) j r → NextRay (map ray_of t.rays.items) k r
  next-ray k j r (inl (x, i)) here = inl (subst (λ (m : ℕ). IsAt (map ray_of t.rays.items) m r) (sym x) here)
  next-ray k j r (inr (x, z)) here = inr (x ∙ sym length-rays, subst (λ (m : ℕ). IsAt (map ray_of t.rays.items) m r) z here)

  label-at : (k : ℕ) (l : Label) → k < length t.sectors.items → sector_at t.sectors.items k ≡ l → IsAt t.sectors.items k l
  label-at k l h s = subst (IsAt t.sectors.items k) s (sector-at t.sectors.items k h)

  pub to-star : (l : Label) → LeftGives t (cross (vector_of t.axis) e) l → StarLabel (star_of t) e l
  to-star l (at_ray k h o m) =
      let q = ray-at t.rays.items k h in
      on_ray k q.0 q.1 (rw (at-way k q.0 q.2) (way-same (vector_of t.axis) axis _ _ (on-left k h) left-on o)) (sym (ap (λ (r : PlainRay). r.mark) q.2.is) ∙ q.2.mark ∙ m)
  to-star l (of_sector k j h x p s) =
      let i = next_in (length t.rays.items) k j h x in
      let q = ray-at t.rays.items k h in let r = ray-at t.rays.items j i in
      in_sector k q.0 r.0 q.1 (next-ray k j r.0 x r.1)
      (rw (at-way k q.0 q.2, at-way j r.0 r.2) (strictly _ _ _ _ (way-passes (vector_of t.axis) axis _ _ _ (on-left k h) left-on (on-left j i) p)))
      (label-at k l (sectors-fill t.rays.items (length t.sectors.items) k T.sectors h) s)
  to-star l (of_only_sector none s) = in_only_sector (no-rays t.rays.items none) (label-at 0 l (sectors-none t.rays.items (length t.sectors.items) T.sectors none) s)

pub each_has_one_label : EachHasOneLabel
each_has_one_label t T e off =
    let o = left-on t T e off in
    let found = some_label (vector_of t.axis) t.axis.some (length t.rays.items) (left_at t.rays.items) T.counterclockwise (mark_at t.rays.items) (sector_at t.sectors.items) (cross (vector_of t.axis) e) o in (
      found.0,
      to-star t T e off found.0 found.1,
      λ m s. one_label (vector_of t.axis) t.axis.some (length t.rays.items) (left_at t.rays.items) T.counterclockwise (mark_at t.rays.items) (sector_at t.sectors.items) (cross (vector_of t.axis) e) m found.0 o (to-left t T e off m s) found.1,
    )
