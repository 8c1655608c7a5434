-- The labels that directions close to the axis of a star get: on the axis by all rays and sectors, on a ray by the two sectors beside it, in a sector by the sector alone.
use Rattle.law_geometry.proofs.sphere.border.Prelude.{◌≡◌, ℕ, zero, suc, ◌+◌, ◌≤◌, ℤ, pos, ◌<ℤ◌, arith, refl, ap, sym, ◌∙◌, ◌⊎◌, inl, inr, ⊎_elim, List, ◌∷◌, subst, length, map, [], ints, Lies, lies-left, lies-right, lies-append, Sign, minus, nought, plus, sign, sign-plus, sign-minus, sign-scaled, nought-or, Vector, IsDirection, triple, cross, dot, IsZero, blend, opposite, Label, IsAt, Map, NearLabel, Valid, SameSigns, axes, forms, arc_forms, by_side, Ray, Star, ray_dir, across, OnRay, PastRay, NextRay, StarLabel, on_ray, in_sector, in_only_sector, StarShows, Follows, axes-forms, across-side, across-same, next-ray, previous, amount, far-keeps, far-level, IsStrictlyOn-stays, past_source, arc-point, circle-point, label-by_signs, near-from_far, far-from_near, IsStrictlyOn-same, far_directed-by, sector_count, IsWellFormed, at-other, is-at_map, map-is_at, Topology, TopologyLabel, label_from, face_label, ray_mark, star_labels, zero-decided, self-pos, triple-dot, dir-self, dir-signs, in-span, dot-opposite, cross-blend, lies-at, at-lies, is-at_none}
use Rattle.law_geometry.proofs.sphere.building.BuiltAround.{sector-there}
use Rattle.law_geometry.proofs.sphere.Simplified.{made-level, off-axis, ray-label}
use Rattle.law_geometry.proofs.sphere.building.RayClose.{across-level, ray-close}
use Rattle.law_geometry.proofs.sphere.border.PlaceLabels.{near-onward, made-at, even-made, topology-labels}
use Rattle.law_geometry.proofs.sphere.border.Across.{across-blend}

module _ (t : Star) (M : Map) (V : Valid M) (W : IsWellFormed t) (S : StarShows t M) where
  abbrev d : Vector
  d = t.axis

  -- ---- near what is near the axis
  far-off_axis : (e c : Vector) (i : ℕ) → amount axes (cross d c) ≤ i → IsDirection (cross d e) → IsDirection (cross d (blend i e 1 c))
  far-off_axis e c i h f = subst IsDirection (sym (cross-blend d e c i 1)) (far_directed-by axes (λ g l. l) (cross d e) (cross d c) i h f)

  star-near : (e c : Vector) (l : Label) (low : ℕ) → IsDirection (cross d e) → ((i : ℕ) → low ≤ i → StarLabel t (blend i e 1 c) l) → (k : ℕ) → amount (forms M) e ≤ k → NearLabel M (blend k d 1 e) c l
  star-near e c l low f g k hk =
      near-onward M V d e c l k (low + amount axes (cross d c)) W.axis hk (λ i h. S.labels (blend i e 1 c) l (far-off_axis e c i (omega arith) f) (g i (omega arith)))

  -- ---- a ray and the sectors beside it
  pub record Sides (k : ℕ) (r : Ray) : Type 0 where
    pub last_number : ℕ
    pub follows : Follows t.rays last_number k
    pub before : Label
    pub has_before : IsAt t.sectors last_number before
    pub after : Label
    pub has_after : IsAt t.sectors k after

  pub sides-of : (k : ℕ) (r : Ray) → IsAt t.rays k r → Sides k r
  sides-of k r a =
      let p = previous t.rays k r a in
      let b = sector-there t W.as_many p.0 p.1 p.2 in
      let c = sector-there t W.as_many k r a in
      record { last_number = p.0; follows = p.3; before = b.0; has_before = b.1; after = c.0; has_after = c.1 }

  module _ (k : ℕ) (r : Ray) (a : IsAt t.rays k r) (D : Sides k r) where
    abbrev s : Vector
    s = ray_dir t r

    abbrev sides : List Label
    sides = D.before ∷ D.after ∷ []

    abbrev side : Sign → Label
    side = by_side D.after r.mark D.before

    s-off : IsDirection (cross d s)
    s-off = let w = made-level t W k r a in off-axis d s W.axis w.1 w.0

    -- close to the axis along the ray, whatever the side
    near-side : (i : ℕ) → amount (forms M) s ≤ i → (c : Vector) → NearLabel M (blend i d 1 s) c (side (sign (triple d s c)))
    near-side i h c = let x = ray-close t W D.last_number k r a D.follows D.after D.before D.has_after D.has_before c in star-near s c (side (sign (triple d s c))) x.0 s-off x.1 i h

    side-listed : (x : Sign) → (r.mark ≡ side x) ⊎ Lies sides (side x)
    side-listed minus = inr (inl refl)
    side-listed nought = inl refl
    side-listed plus = inr (inr (inl refl))

    up : pos 0 <ℤ triple d s (cross d s)
    up = subst (λ (x : ℤ). pos 0 <ℤ x) (sym (triple-dot d s (cross d s))) (self-pos (cross d s) s-off)

    down : triple d s (opposite (cross d s)) <ℤ pos 0
    down = let p = self-pos (cross d s) s-off in let e = triple-dot d s (opposite (cross d s)) ∙ dot-opposite (cross d s) (cross d s) in omega (arith, ints)

    side-found : (i : ℕ) → amount (forms M) s ≤ i → (l : Label) → Lies sides l → (c : Vector) × NearLabel M (blend i d 1 s) c l
    side-found i h l (inl q) = (opposite (cross d s), subst (NearLabel M (blend i d 1 s) (opposite (cross d s))) (ap side (sign-minus (triple d s (opposite (cross d s))) down) ∙ q) (near-side i h (opposite (cross d s))))
    side-found i h l (inr (inl q)) = (cross d s, subst (NearLabel M (blend i d 1 s) (cross d s)) (ap side (sign-plus (triple d s (cross d s)) up) ∙ q) (near-side i h (cross d s)))
    side-found i h l (inr (inr q)) = absurd q

    way-made : (K : Topology) (i : ℕ) → amount (forms M) s ≤ i → TopologyLabel K M (blend i d 1 s) (label_from K r.mark sides)
    way-made K i h = made-at M V K (blend i d 1 s) r.mark sides (far-from_near M V d s i h r.mark (ray-label t M S k r a))
        (λ c. (side (sign (triple d s c)), near-side i h c, side-listed (sign (triple d s c)))) (side-found i h)

    -- the signs close to the axis are the same for all directions on the ray
    on-signs : (e : Vector) → OnRay t r e → (j i : ℕ) → amount (forms M) s ≤ j → amount (forms M) e ≤ i → SameSigns (forms M) (blend j d 1 s) (blend i d 1 e)
    on-signs e o j i hj hi g m = ⊎_elim
        (λ z. far-level (forms M) d e i hi g z ∙ sym (sign-scaled (dot d d) (dot g e) (self-pos d W.axis)) ∙ ap sign (sym (across-side g d e z)) ∙ dir-signs s (across d e) g (let w = made-level t W k r a in w.1) o ∙ sym (far-level (forms M) d s j hj g z))
        (λ f. far-keeps (forms M) d e i hi g m f ∙ sym (far-keeps (forms M) d s j hj g m f)) (nought-or (dot g d))

    pub ray-made : (e : Vector) → OnRay t r e → (i : ℕ) → amount (forms M) e ≤ i → (K : Topology) → TopologyLabel K M (blend i d 1 e) (label_from K r.mark sides)
    ray-made e o i h K =
        let j = amount (forms M) s in
        let far = far_directed-by (forms M) (axes-forms M) in
        let N = topology-labels M V K in
        N.cells (blend j d 1 s) (blend i d 1 e) (label_from K r.mark sides) (far d s j (omega arith) W.axis) (far d e i h W.axis) (on-signs e o j i (omega arith) h) (way-made K j (omega arith))

  -- ---- in a sector
  pub sector-made : (K : Topology) (k : ℕ) (q r : Ray) (l : Label) (e : Vector) → IsAt t.rays k q → NextRay t.rays k r → PastRay t q r e → IsAt t.sectors k l → IsDirection (cross d e)
      → (i : ℕ) → amount (forms M) e ≤ i → TopologyLabel K M (blend i d 1 e) (face_label K l)
  sector-made K k q r l e a n o b f i h = even-made M V K (blend i d 1 e) l
      (far-from_near M V d e i h l (S.labels e l f (in_sector k q r a n o b)))
      (λ c. star-near e c l (amount (arc_forms d (ray_dir t q) (ray_dir t r)) (across d c)) f (λ j s. in_sector k q r a n (stays c j s) b) i h)
    where
      stays : (c : Vector) (j : ℕ) → amount (arc_forms d (ray_dir t q) (ray_dir t r)) (across d c) ≤ j → PastRay t q r (blend j e 1 c)
      stays c j s = IsStrictlyOn-stays d (ray_dir t q) (ray_dir t r) (across d e) (across d (blend j e 1 c))
          (λ g m z. ap (λ (v : Vector). sign (dot g v)) (across-blend d e c j) ∙ far-keeps (arc_forms d (ray_dir t q) (ray_dir t r)) (across d e) (across d c) j s g m z) (across-level d (blend j e 1 c)) o

  pub only-made : (K : Topology) (l : Label) (e : Vector) → t.rays ≡ [] → IsAt t.sectors zero l → IsDirection (cross d e) → (i : ℕ) → amount (forms M) e ≤ i → TopologyLabel K M (blend i d 1 e) (face_label K l)
  only-made K l e z b f i h = even-made M V K (blend i d 1 e) l (far-from_near M V d e i h l (S.labels e l f (in_only_sector z b))) (λ c. star-near e c l 0 f (λ j s. in_only_sector z b) i h)

  -- ---- on the axis
  along-axis : (e : Vector) → IsZero (cross d e) → NearLabel M d e t.mark
  along-axis e z =
      let k = amount (forms M) e in
      near-from_far M V d e k (omega arith) t.mark (label-by_signs M V d (blend k d 1 e) (same k (omega arith)) t.mark S.mark)
    where
      same : (k : ℕ) → amount (forms M) e ≤ k → SameSigns (forms M) d (blend k d 1 e)
      same k l g i = ⊎_elim
          (λ y. far-level (forms M) d e k l g y ∙ ap sign (in-span g d e W.axis z y) ∙ sym (ap sign y))
          (λ f. far-keeps (forms M) d e k l g i f) (nought-or (dot g d))

  label-listed : (e : Vector) (l : Label) → StarLabel t e l → Lies (star_labels t) l
  label-listed e l (on_ray k r a o q) = lies-left (map ray_mark t.rays) t.sectors l (subst (Lies (map ray_mark t.rays)) q (at-lies (map ray_mark t.rays) k r.mark (map-is_at ray_mark t.rays k r a)))
  label-listed e l (in_sector k q r a n o s) = lies-right (map ray_mark t.rays) t.sectors l (at-lies t.sectors k l s)
  label-listed e l (in_only_sector z s) = lies-right (map ray_mark t.rays) t.sectors l (at-lies t.sectors zero l s)

  sector-found : (k : ℕ) (q : Ray) (l : Label) → IsAt t.rays k q → IsAt t.sectors k l → (e : Vector) × NearLabel M d e l
  sector-found k q l a b =
      let n = next-ray t.rays k q a in
      let w = made-level t W k q a in
      let v = made-level t W n.1 n.0 n.2 in
      let s = ray_dir t q in
      let p = ray_dir t n.0 in
      let K = amount (cross p d ∷ []) (cross d s) in
      let y = past_source d s K in
      let o = arc-point d s p W.axis w.1 v.1 w.0 v.0 K (omega arith) in
      let h = o.on_circle.direction in
      let z = o.on_circle.level in
      (y, S.labels y l (off-axis d y W.axis h z) (in_sector k q n.0 a n.3 (IsStrictlyOn-same d d s s p p y (across d y) (dir-self d W.axis) (dir-self s w.1) (dir-self p v.1) (across-same d y W.axis h z) o) b))

  only-found : (l : Label) → t.rays ≡ [] → IsAt t.sectors zero l → (e : Vector) × NearLabel M d e l
  only-found l z b = let y = circle-point d W.axis in let o = y.1 in (y.0, S.labels y.0 l (off-axis d y.0 W.axis o.direction o.level) (in_only_sector z b))

  sectors-found : (k : ℕ) (l : Label) → IsAt t.sectors k l → (e : Vector) × NearLabel M d e l
  sectors-found k l b = by t.rays refl
    where
      alone : (ls : List Label) → length ls ≡ 1 → (k : ℕ) → IsAt ls k l → k ≡ zero
      alone [] e k a = absurd (is-at_none a)
      alone (m ∷ ls) e zero a = refl
      alone (m ∷ []) e (suc k) a = absurd (is-at_none a)
      alone (m ∷ n ∷ ls) e (suc k) a = absurd (omega arith)

      by : (rs : List Ray) → t.rays ≡ rs → (e : Vector) × NearLabel M d e l
      by [] z = only-found l z (subst (λ (j : ℕ). IsAt t.sectors j l) (alone t.sectors (W.as_many ∙ ap sector_count z) k b) b)
      by (r ∷ rs) z =
          let q = at-other t.sectors t.rays k l (W.as_many ∙ ap sector_count z ∙ sym (ap (length {A = Ray}) z)) b in
          sector-found k q.0 l q.1 b

  pub axis-made : (K : Topology) → TopologyLabel K M d (label_from K t.mark (star_labels t))
  axis-made K = made-at M V K d t.mark (star_labels t) S.mark near found
    where
      near : (e : Vector) → (l : Label) × NearLabel M d e l × ((t.mark ≡ l) ⊎ Lies (star_labels t) l)
      near e = ⊎_elim
          (λ z. (t.mark, along-axis e z, inl refl))
          (λ f. let x = W.each e f in (x.0, S.labels e x.0 f x.1, inr (label-listed e x.0 x.1)))
          (zero-decided (cross d e))

      found : (l : Label) → Lies (star_labels t) l → (e : Vector) × NearLabel M d e l
      found l x = ⊎_elim
          (λ y. let k = lies-at (map ray_mark t.rays) l y in let r = is-at_map ray_mark t.rays k.0 l k.1 in (ray_dir t r.0, subst (NearLabel M d (ray_dir t r.0)) r.2 (ray-label t M S k.0 r.0 r.1)))
          (λ y. let k = lies-at t.sectors l y in sectors-found k.0 l k.1)
          (lies-append (map ray_mark t.rays) t.sectors l x)
