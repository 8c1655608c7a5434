-- A star with the marks that it gets shows the labels that directions get.
use Rattle.law_geometry.proofs.sphere.border.Prelude.{◌≡◌, ℕ, zero, suc, ◌+◌, ◌≤◌, arith, refl, ap, sym, ◌∙◌, inl, inr, ◌∷◌, subst, [], Vector, IsDirection, cross, blend, Label, IsPrimitive, IsAt, Map, Valid, forms, Ray, Star, OnRay, PastRay, NextRay, StarLabel, on_ray, in_sector, in_only_sector, LeavesAxis, StarShows, Near, amount, is-at_one, axes-forms, far_directed-by, Of, RayBelow, IsWellFormed, ShowsLabels, Topology, TopologyLabel, label_from, face_label, marked, IsRemarked, at-other, none-left}
use Rattle.law_geometry.proofs.sphere.border.Listed.{count-same, sector-one}
use Rattle.law_geometry.proofs.sphere.border.PlaceLabels.{topology-one}
use Rattle.law_geometry.proofs.sphere.border.StarMade.{Sides, sides-of, ray-made, sector-made, only-made, axis-made}

-- u at the axis of t
abbrev pub moved : Star → Star → Star
moved t u = record { axis = t.axis; rays = u.rays; sectors = u.sectors; mark = u.mark }

with_axis : Star → Vector → Star
with_axis u d = record { axis = d; rays = u.rays; sectors = u.sectors; mark = u.mark }

moved-is : (t u : Star) → u.axis ≡ t.axis → moved t u ≡ u
unfolding with_axis
moved-is t u e = ap (with_axis u) (sym e)

module _ (K : Topology) (M : Map) (V : Valid M) (L : Vector → Label) (top : (d : Vector) → IsDirection d → TopologyLabel K M d (L d)) where
  pub is-by : (d : Vector) → IsDirection d → (m : Label) → TopologyLabel K M d m → L d ≡ m
  is-by d h m x = topology-one M V K d (L d) m (top d h) x

  -- what directions close to d get
  pub near-by : (d e : Vector) (m : Label) → IsDirection d → ((i : ℕ) → amount (forms M) e ≤ i → TopologyLabel K M (blend i d 1 e) m) → Near (Of L) d e m
  near-by d e m h f = (amount (forms M) e, λ i l. is-by (blend i d 1 e) (far_directed-by (forms M) (axes-forms M) d e i l h) m (f i l))

  module _ (t u : Star) (W : IsWellFormed t) (S : StarShows t M) (R : IsRemarked K t u) where
    abbrev d : Vector
    d = t.axis

    abbrev v : Star
    v = moved t u

    -- the ray that a ray was
    record Was (j : ℕ) (r : Ray) : Type 0 where
      ray : Ray
      has_ray : IsAt t.rays j ray
      sides : Sides t M V W S j ray
      same : r ≡ marked ray (label_from K ray.mark (sides.before ∷ sides.after ∷ []))

    was : (j : ℕ) (r : Ray) → IsAt u.rays j r → Was j r
    was j r a =
        let x = at-other u.rays t.rays j r R.as_many_rays a in
        let D = sides-of t M V W S j x.0 x.1 in
        record {
          ray = x.0;
          has_ray = x.1;
          sides = D;
          same = is-at_one u.rays j r (marked x.0 (label_from K x.0.mark (D.before ∷ D.after ∷ []))) a (R.rays D.last_number j x.0 D.before D.after x.1 D.follows D.has_before D.has_after);
        }

    -- and what a ray of t is now
    becomes : (j : ℕ) (r : Ray) → IsAt t.rays j r → (c : Label) × IsAt u.rays j (marked r c)
    becomes j r a = let D = sides-of t M V W S j r a in (label_from K r.mark (D.before ∷ D.after ∷ []), R.rays D.last_number j r D.before D.after a D.follows D.has_before D.has_after)

    next-was : (j : ℕ) (r : Ray) → NextRay u.rays j r → (q : Ray) × NextRay t.rays j q × ((c : Label) × (r ≡ marked q c))
    next-was j r (inl a) = let w = was (suc j) r a in (w.ray, inl w.has_ray, (label_from K w.ray.mark (w.sides.before ∷ w.sides.after ∷ []), w.same))
    next-was j r (inr x) = let w = was zero r x.1 in (w.ray, inr (x.0 ∙ R.as_many_rays, w.has_ray), (label_from K w.ray.mark (w.sides.before ∷ w.sides.after ∷ []), w.same))

    next-becomes : (j : ℕ) (r : Ray) → NextRay t.rays j r → (c : Label) × NextRay u.rays j (marked r c)
    next-becomes j r (inl a) = let b = becomes (suc j) r a in (b.0, inl b.1)
    next-becomes j r (inr x) = let b = becomes zero r x.1 in (b.0, inr (x.0 ∙ sym R.as_many_rays, b.1))

    -- ---- the labels
    star-labels : (e : Vector) (l : Label) → IsDirection (cross d e) → StarLabel v e l → Near (Of L) d e l
    star-labels e l f (on_ray j r a o q) =
        let w = was j r a in
        let D = w.sides in
        let c = label_from K w.ray.mark (D.before ∷ D.after ∷ []) in
        let p : OnRay t w.ray e = subst (λ (z : Ray). OnRay v z e) w.same o in
        subst (Near (Of L) d e) (sym (ap (λ (z : Ray). z.mark) w.same) ∙ q) (near-by d e c W.axis (λ i h. ray-made t M V W S j w.ray w.has_ray D e p i h K))
    star-labels e l f (in_sector j q r a n o s) =
        let w = was j q a in
        let x = next-was j r n in
        let D = w.sides in
        let p : PastRay t w.ray x.0 e = subst (λ (z : Ray). PastRay v w.ray z e) x.2.1 (subst (λ (z : Ray). PastRay v z r e) w.same o) in
        subst (Near (Of L) d e) (is-at_one u.sectors j (face_label K D.after) l (R.sectors j D.after D.has_after) s)
        (near-by d e (face_label K D.after) W.axis (λ i h. sector-made t M V W S K j w.ray x.0 D.after e w.has_ray x.1 p D.has_after f i h))
    star-labels e l f (in_only_sector z s) =
        let y = none-left u.rays t.rays R.as_many_rays z in
        let b = sector-one t.rays t.sectors y W.as_many in
        subst (Near (Of L) d e) (is-at_one u.sectors zero (face_label K b.0) l (R.sectors zero b.0 b.1) s)
        (near-by d e (face_label K b.0) W.axis (λ i h. only-made t M V W S K b.0 e y b.1 f i h))

    -- ---- the star
    star-each : (e : Vector) → (l : Label) × StarLabel t e l → (l : Label) × StarLabel v e l
    star-each e (l, on_ray j r a o q) = let b = becomes j r a in (b.0, on_ray j (marked r b.0) b.1 o refl)
    star-each e (l, in_sector j q r a n o s) = let b = becomes j q a in let c = next-becomes j r n in (face_label K l, in_sector j (marked q b.0) (marked r c.0) b.1 c.1 o (R.sectors j l s))
    star-each e (l, in_only_sector z s) = (face_label K l, in_only_sector (none-left t.rays u.rays (sym R.as_many_rays) z) (R.sectors zero l s))

    star-formed : IsWellFormed v
    star-formed = record {
      axis = W.axis;
      axis_lowest = W.axis_lowest;
      rays = λ j r a. let w = was j r a in let q = W.rays j w.ray w.has_ray in subst (LeavesAxis v) (sym w.same) (record { level = q.level; normal = q.normal });
      rays_lowest = λ j r a. let w = was j r a in subst (λ (z : Ray). IsPrimitive z.normal) (sym w.same) (W.rays_lowest j w.ray w.has_ray);
      least_first = λ j q r a b. let w = was 0 q a in let x = was (suc j) r b in
          subst (λ (z : Ray). RayBelow z r) (sym w.same) (subst (λ (z : Ray). RayBelow w.ray z) (sym x.same) (W.least_first j w.ray x.ray w.has_ray x.has_ray));
      as_many = R.as_many_sectors ∙ W.as_many ∙ sym (count-same t.rays u.rays R.as_many_rays);
      each = λ e f. star-each e (W.each e f);
      one = λ e l m f x y. one-near e l m (star-labels e l f x) (star-labels e m f y);
    }
      where
        one-near : (e : Vector) (l m : Label) → Near (Of L) d e l → Near (Of L) d e m → l ≡ m
        one-near e l m (i, f) (j, g) = sym (f (i + j) (omega arith)) ∙ g (i + j) (omega arith)

    moved-shows : ShowsLabels v L
    moved-shows = record {
      star = star-formed;
      mark = is-by d W.axis u.mark (subst (TopologyLabel K M d) (sym R.mark) (axis-made t M V W S K));
      labels = star-labels;
    }

    pub remarked-shows : ShowsLabels u L
    remarked-shows = subst (λ (z : Star). ShowsLabels z L) (moved-is t u R.axis) moved-shows
