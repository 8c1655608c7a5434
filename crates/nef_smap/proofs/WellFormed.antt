-- The program's stars are well formed.
use Rattle.nef_smap.proofs.Prelude.{◌≡◌, ℕ, zero, suc, List, [], ◌∷◌, length, map, arith, refl, sym, ap, subst, ◌∙◌, inl, inr, IsBelow, Vector, direction_numbers, IsDirection, SameDirection, vector_of, IsPrimitive, VectorBelow, IsAt, Ray, Star, ray_of, star_of, left_of, left_at, IsRay, IsStar, each_has_one_label, is-at_none, is-at_first}
use Rattle.law_geometry.specs.sphere.Stars.{Ray as PlainRay, LeavesAxis as IsPlainRay}
use Rattle.law_geometry.specs.sphere.Raw.{IsWellFormed, RayBelow, sector_count as plain_count}
use Rattle.nef_star.specs.Stars.{sector_count}
use Rattle.nef_smap.proofs.Primitive.{dir-primitive}
use Rattle.nef_space.proofs.Lists.{is-at_is, is-at_map, is-at_within}
use Rattle.law_geometry.proofs.sphere.cones.Lowest.{below-either}
use Rattle.nef_star.proofs.RoundStars.{same-dirs}
use Rattle.nef_star.proofs.Straight.{ahead_first}

-- ---- the order of directions
pub below-vectors : (u v : Vector) → IsBelow (direction_numbers u) (direction_numbers v) → VectorBelow u v
below-vectors u v (inl h) = inl h
below-vectors u v (inr (e, inl h)) = inr (inl (e, h))
below-vectors u v (inr (e, inr (f, inl h))) = inr (inr (e, f, h))
below-vectors u v (inr (e, inr (f, inr (g, h)))) = absurd h

pub vectors-below : (u v : Vector) → VectorBelow u v → IsBelow (direction_numbers u) (direction_numbers v)
vectors-below u v (inl h) = inl h
vectors-below u v (inr (inl (e, h))) = inr (e, inl h)
vectors-below u v (inr (inr (e, f, h))) = inr (e, inr (f, inl h))

-- ---- rays
plain-counts : (rays : List Ray) → sector_count rays ≡ plain_count (map ray_of rays)
plain-counts [] = refl
plain-counts (r ∷ rs) = lengths (r ∷ rs)
  where
    lengths : (rs : List Ray) → length rs ≡ length (map ray_of rs)
    lengths [] = refl
    lengths (r ∷ rs) = ap suc (lengths rs)

pub left-at : (rays : List Ray) (k : ℕ) (r : Ray) → IsAt rays k r → left_at rays k ≡ left_of r
left-at [] k r h = absurd (is-at_none h)
left-at (q ∷ qs) zero r h = ap left_of (is-at_first h)
left-at (q ∷ qs) (suc k) r h = left-at qs k r h

module _ (t : Star) (T : IsStar t) where
  rays : List Ray
  rays = t.rays.items

  leaves : (k : ℕ) (r : Ray) → IsAt t.rays.items k r → IsRay (vector_of t.axis) r
  leaves k r h = subst (IsRay (vector_of t.axis)) (is-at_is t.rays.items k r r h) (T.turned.rays k r (is-at_within t.rays.items k r h))

  pub star-ray : (k : ℕ) (r : Ray) → IsAt t.rays.items k r → IsPlainRay (star_of t) (ray_of r)
  star-ray k r h = let i = leaves k r h in record { level = i.level; normal = i.normal }

  first-below : (k : ℕ) (q r : Ray) → IsAt t.rays.items 0 q → IsAt t.rays.items (suc k) r → RayBelow (ray_of q) (ray_of r)
  first-below k q r h i =
      let within = is-at_within t.rays.items (suc k) r i in let turning = T.turned.counterclockwise in
      let least = T.least_first (suc k) q r within (is-at_is t.rays.items 0 q q h) (is-at_is t.rays.items (suc k) r r i) in
      let l0 = left-at t.rays.items 0 q h in let l1 = left-at t.rays.items (suc k) r i in
      let direction : IsDirection (left_of q) = subst IsDirection l0 (turning.circle 0 (omega (arith, within))).direction in
      let apart : SameDirection (left_of q) (left_of r) → ⊥ = λ s. turning.apart (suc k) (omega arith) within (rw (l0, l1) s) in
      elim (below-either (vector_of q.normal) (vector_of r.normal)) [
        | inl b ↦ inl b
        | inr s ↦ elim s [
          | inl e ↦ let a = ahead_first q r direction apart least (same-dirs q.normal r.normal e) in inr (e, a.0, a.1)
          | inr b ↦ absurd (least (inl (vectors-below (vector_of r.normal) (vector_of q.normal) b)))
        ]
      ]

  pub star-well_formed : IsWellFormed (star_of t)
  star-well_formed = record {
    axis = t.axis.some;
    axis_lowest = dir-primitive t.axis;
    rays = λ k p h. let r = is-at_map ray_of t.rays.items k p h in subst (IsPlainRay (star_of t)) r.2 (star-ray k r.0 r.1);
    rays_lowest = λ k p h. let r = is-at_map ray_of t.rays.items k p h in subst (λ (p : PlainRay). IsPrimitive p.normal) r.2 (dir-primitive r.0.normal);
    least_first = λ k p s h i.
        let q = is-at_map ray_of t.rays.items 0 p h in let r = is-at_map ray_of t.rays.items (suc k) s i in
        subst (λ (p : PlainRay). RayBelow p s) q.2 (subst (λ (s : PlainRay). RayBelow (ray_of q.0) s) r.2 (first-below k q.0 r.0 q.1 r.1));
    as_many = T.turned.sectors ∙ plain-counts t.rays.items;
    each = λ e off. let l = each_has_one_label t T.turned e off in (l.0, l.1);
    one = λ e l m off p q. let w = each_has_one_label t T.turned e off in w.2 l p ∙ sym (w.2 m q);
  }
