-- A star with other marks is a star; and with what its marks and sectors become it is remarked.
use Rattle.nef_stopo.proofs.Prelude.{◌≡◌, ℕ, zero, suc, ◌-◌, ◌<◌, List, [], ◌∷◌, length, map, get_or, Bool, cond, arith, refl, sym, ap, subst, ◌∙◌, sector_count, inl, inr, length-map, normal_limit, svertex_limit, IsBelow, Vector, zero_vector, opposite, dot, direction_numbers, IsAtMost, IsNormal, Label, Out, vector_of, Dir, IsAt, Follows, Topology, label_from, face_label, star_labels, marked, IsRemarked, Ray, Star, ray_of, star_of, left_of, left_at, IsRay, IsRayBelow, BeginsAnywhere, IsStar, IsTurning, IsNext, sectors-fill, map-is_at, is-at_map, is-at_within, is-at_get, IsRayMarked, AreRaysMarked}
use Rattle.law_geometry.specs.sphere.Stars.{Ray as PlainRay}
use Rattle.nef_star.proofs.RayOrder.{one-value}

-- the same ray but for the mark
pub record IsAlike (r u : Ray) : Type 0 where
  pub normal : u.normal ≡ r.normal
  pub ahead : u.ahead ≡ r.ahead

abbrev pub AreLikeRays : List Ray → List Ray → Type 0
AreLikeRays ts us = (k : ℕ) (d : Ray) → k < length us → IsAlike (get_or ts k d) (get_or us k d)

left-alike : (r u : Ray) → IsAlike r u → left_of u ≡ left_of r
left-alike r u a = ap (λ (n : Dir). cond u.ahead (vector_of n) (opposite (vector_of n))) a.normal ∙ ap (λ (b : Bool). cond b (vector_of r.normal) (opposite (vector_of r.normal))) a.ahead

lefts-alike : (ts us : List Ray) → length us ≡ length ts → AreLikeRays ts us → map left_of us ≡ map left_of ts
lefts-alike [] [] e a = refl
lefts-alike [] (u ∷ us) e a = absurd (omega (arith, e))
lefts-alike (t ∷ ts) [] e a = absurd (omega (arith, e))
lefts-alike (t ∷ ts) (u ∷ us) e a =
    ap (λ (v : Vector). v ∷ map left_of us) (left-alike t u (a 0 u (omega arith)))
    ∙ ap (λ (l : List Vector). left_of t ∷ l) (lefts-alike ts us (omega (arith, e)) (λ k d h. a (suc k) d (omega (arith, h))))

counts-alike : (ts us : List Ray) → length us ≡ length ts → sector_count us ≡ sector_count ts
counts-alike [] [] e = refl
counts-alike [] (u ∷ us) e = absurd (omega (arith, e))
counts-alike (t ∷ ts) [] e = absurd (omega (arith, e))
counts-alike (t ∷ ts) (u ∷ us) e = e

ray-alike : (a : Vector) (r u : Ray) → IsAlike r u → IsRay a r → IsRay a u
ray-alike a r u l R = record {
  level = ap (λ (n : Dir). dot (vector_of n) a) l.normal ∙ R.level;
  small = subst (λ (n : Dir). IsAtMost normal_limit (vector_of n)) (sym l.normal) R.small;
  normal = subst (λ (n : Dir). IsNormal (vector_of n)) (sym l.normal) R.normal;
}

below-alike : (q r p u : Ray) → IsAlike q p → IsAlike r u → IsRayBelow u p → IsRayBelow r q
below-alike q r p u a b (inl h) =
    inl (subst (λ (n : Dir). IsBelow (direction_numbers (vector_of n)) (direction_numbers (vector_of q.normal))) b.normal
    (subst (λ (n : Dir). IsBelow (direction_numbers (vector_of u.normal)) (direction_numbers (vector_of n))) a.normal h))
below-alike q r p u a b (inr (e, f, g)) = inr (sym b.normal ∙ e ∙ a.normal, sym b.ahead ∙ f, sym a.ahead ∙ g)

-- ---- the star
module _ (t u : Star) (T : IsStar t) (axis : u.axis ≡ t.axis) (many : length u.rays.items ≡ length t.rays.items) (alike : AreLikeRays t.rays.items u.rays.items) (sectors : length u.sectors.items ≡ length t.sectors.items) where
  abbrev ts : List Ray
  ts = t.rays.items

  abbrev us : List Ray
  us = u.rays.items

  turned-alike : BeginsAnywhere u
  turned-alike = record {
    axis_small = subst (λ (x : Dir). IsAtMost svertex_limit (vector_of x)) (sym axis) T.turned.axis_small;
    rays = λ k d h. subst (λ (x : Dir). IsRay (vector_of x) (get_or us k d)) (sym axis) (ray-alike (vector_of t.axis) (get_or ts k d) (get_or us k d) (alike k d h) (T.turned.rays k d (omega (arith, h, many))));
    counterclockwise =
        subst (λ (x : Dir). IsTurning (vector_of x) (length us) (left_at us)) (sym axis)
        (subst (λ (n : ℕ). IsTurning (vector_of t.axis) n (left_at us)) (sym many)
        (subst (λ (ls : List Vector). IsTurning (vector_of t.axis) (length ts) (λ k. get_or ls k zero_vector)) (sym (lefts-alike ts us many alike)) T.turned.counterclockwise));
    sectors = sectors ∙ T.turned.sectors ∙ sym (counts-alike ts us many);
  }

  pub star-alike : IsStar u
  star-alike = record {
    turned = turned-alike;
    least_first = λ k q r h e f b.
        let first : 0 < length us = omega (arith, h) in
        let q' = get_or ts 0 q in let r' = get_or ts k r in
        let a = subst (λ (x : Ray). IsAlike q' x) e (alike 0 q first) in
        let c = subst (λ (x : Ray). IsAlike r' x) f (alike k r h) in
        T.least_first k q' r' (omega (arith, h, many)) (one-value ts 0 q' q (omega (arith, first, many))) (one-value ts k r' r (omega (arith, h, many))) (below-alike q' r' q r a c b);
  }

-- ---- its labels
before-of : (n k : ℕ) → k < n → (i : ℕ) × (i < n) × IsNext n i k
before-of n zero h = (n - 1, omega (arith, h), inr (omega (arith, h), refl))
before-of n (suc k) h = (k, omega (arith, h), inl (refl, h))

module _ (k : Topology) (t u : Star) (T : IsStar t) (axis : u.axis ≡ t.axis) (M : AreRaysMarked k t (length t.rays.items) u.rays.items) (sectors : u.sectors.items ≡ map (face_label k) t.sectors.items) where
  sector-of : (n : ℕ) → n < length t.rays.items → (l : Label) × IsAt t.sectors.items n l
  sector-of n h = let w = sectors-fill t.rays.items (length t.sectors.items) n T.turned.sectors h in (get_or t.sectors.items n Out, is-at_get t.sectors.items n Out w)

  are-alike : AreLikeRays t.rays.items u.rays.items
  are-alike n d h =
      let w : n < length t.rays.items = omega (arith, h, M.as_many) in
      let i = before-of (length t.rays.items) n w in
      let l = sector-of i.0 i.1 in let m = sector-of n w in
      let r = M.rays i.0 n (get_or t.rays.items n d) (get_or u.rays.items n d) l.0 m.0 (is-at_get t.rays.items n d w) (is-at_get u.rays.items n d h) i.2 l.1 m.1 in
      record { normal = r.normal; ahead = r.ahead }

  as-many : length u.sectors.items ≡ length t.sectors.items
  as-many = ap length sectors ∙ length-map t.sectors.items (face_label k)

  pub star-remarked : IsStar u
  star-remarked = star-alike t u T axis M.as_many are-alike as-many

  marked-ray : (r v : Ray) (l m : Label) → IsRayMarked k l m r v → ray_of v ≡ marked (ray_of r) (label_from k r.mark (l ∷ m ∷ []))
  marked-ray r v l m R =
      ap (λ (n : Dir). record { normal = vector_of n; ahead = v.ahead; mark = v.mark }) R.normal
      ∙ ap (λ (b : Bool). record { normal = vector_of r.normal; ahead = b; mark = v.mark }) R.ahead
      ∙ ap (λ (x : Label). record { normal = vector_of r.normal; ahead = r.ahead; mark = x }) R.mark

  rays-remarked : (i j : ℕ) (r : PlainRay) (l m : Label) → IsAt (map ray_of t.rays.items) j r → Follows (map ray_of t.rays.items) i j → IsAt t.sectors.items i l → IsAt t.sectors.items j m
      → IsAt (map ray_of u.rays.items) j (marked r (label_from k r.mark (l ∷ m ∷ [])))
  rays-remarked i j r l m a f b c =
      let q = is-at_map ray_of t.rays.items j r a in
      let w = is-at_within t.rays.items j q.0 q.1 in
      let h : j < length u.rays.items = omega (arith, w, M.as_many) in
      let v = get_or u.rays.items j q.0 in
      let R = M.rays i j q.0 v l m q.1 (is-at_get u.rays.items j q.0 h) (next f w) b c in
      subst (λ (x : PlainRay). IsAt (map ray_of u.rays.items) j (marked x (label_from k x.mark (l ∷ m ∷ [])))) q.2
      (subst (IsAt (map ray_of u.rays.items) j) (marked-ray q.0 v l m R) (map-is_at ray_of u.rays.items j v (is-at_get u.rays.items j q.0 h)))
    where
      next : Follows (map ray_of t.rays.items) i j → j < length t.rays.items → IsNext (length t.rays.items) i j
      next (inl e) w = inl (e, w)
      next (inr e) w = inr (e.0 ∙ length-map t.rays.items ray_of, e.1)

  pub labels-remarked : u.mark ≡ label_from k t.mark (star_labels (star_of t)) → IsRemarked k (star_of t) (star_of u)
  labels-remarked e = record {
    axis = ap vector_of axis;
    mark = e;
    as_many_rays = length-map u.rays.items ray_of ∙ M.as_many ∙ sym (length-map t.rays.items ray_of);
    as_many_sectors = as-many;
    rays = rays-remarked;
    sectors = λ j l a. subst (λ (ls : List Label). IsAt ls j (face_label k l)) (sym sectors) (map-is_at (face_label k) t.sectors.items j l a);
  }
