-- Close to a ray of a star that shows labels they are straight; where labels are straight close to an axis there is a ray.
use Rattle.law_geometry.proofs.sphere.building.Prelude.{◌≡◌, ℕ, ◌+◌, ◌≤◌, pos, arith, ap, sym, ◌∙◌, ◌⊎◌, inl, inr, ⊎_elim, List, ◌∷◌, subst, [], ring, at, ◌⊕◌, ◌⊖◌, ◌⊗◌, each, lies-each, sign, sign-scaled, Vector, IsDirection, cross, triple, dot, SameDirection, blend, Label, IsAt, Keeps, point_forms, arc_forms, by_side, Near, StraightAfter, Proper, Ray, Star, ray_dir, across, OnRay, StarLabel, on_ray, in_sector, in_only_sector, Follows, amount, far-keeps, parallel-back, IsStrictlyOn-stays, near-near, not-even, directed-by, far_directed-by, turn-ahead, across-same, Of, IsLabelling, ShowsLabels, self-pos, square-cross, nought-if, SameDirection-turned, SameDirection-trans, level_cross_second, level-blend}
use Rattle.law_geometry.proofs.sphere.Simplified.{off-axis}
use Rattle.law_geometry.proofs.sphere.building.BuiltLabels.{with_axes, labelling, axial}
use Rattle.law_geometry.proofs.sphere.building.RayClose.{Close, across-level, ray-close}

-- what is at right angles to a direction isn't parallel to it
-- ---- sectors go on close to a direction
across-swap : (d g y : Vector) → dot g (across d y) ≡ dot (across d g) y
across-swap d g y =
    let dx = at 0 in let dy = at 1 in let dz = at 2 in let gx = at 3 in let gy = at 4 in let gz = at 5 in let yx = at 6 in let yy = at 7 in let yz = at 8 in
    let cx = dy ⊗ yz ⊖ dz ⊗ yy in let cy = dz ⊗ yx ⊖ dx ⊗ yz in let cz = dx ⊗ yy ⊖ dy ⊗ yx in
    let bx = dy ⊗ gz ⊖ dz ⊗ gy in let by = dz ⊗ gx ⊖ dx ⊗ gz in let bz = dx ⊗ gy ⊖ dy ⊗ gx in
    ring (d.x ∷ d.y ∷ d.z ∷ g.x ∷ g.y ∷ g.z ∷ y.x ∷ y.y ∷ y.z ∷ [])
    (gx ⊗ (cy ⊗ dz ⊖ cz ⊗ dy) ⊕ gy ⊗ (cz ⊗ dx ⊖ cx ⊗ dz) ⊕ gz ⊗ (cx ⊗ dy ⊖ cy ⊗ dx))
    ((by ⊗ dz ⊖ bz ⊗ dy) ⊗ yx ⊕ (bz ⊗ dx ⊖ bx ⊗ dz) ⊗ yy ⊕ (bx ⊗ dy ⊖ by ⊗ dx) ⊗ yz) tt

across-keeps : (gs : List Vector) (d w e : Vector) (i : ℕ) → amount (each (across d) gs) e ≤ i → Keeps gs (across d w) (across d (blend i w 1 e))
across-keeps gs d w e i h g l f =
    ap sign (across-swap d g (blend i w 1 e))
    ∙ far-keeps (each (across d) gs) w e i h (across d g) (lies-each (across d) gs g l) (λ z. f (across-swap d g w ∙ z))
    ∙ ap sign (sym (across-swap d g w))

-- a direction lies on a ray, or it has the label of all directions close to it
star-or : (t : Star) (w : Vector) (l : Label) → StarLabel t w l → ((k : ℕ) × (r : Ray) × IsAt t.rays k r × OnRay t r w) ⊎ ((e : Vector) → Close t w e l)
star-or t w l (on_ray k r a o m) = inl (k, r, a, o)
star-or t w l (in_sector k q r a n o s) = inr (λ e.
    let forms = arc_forms t.axis (ray_dir t q) (ray_dir t r) in (
      amount (each (across t.axis) forms) e,
      λ i h. in_sector k q r a n (IsStrictlyOn-stays t.axis (ray_dir t q) (ray_dir t r) (across t.axis w) (across t.axis (blend i w 1 e)) (across-keeps forms t.axis w e i h) (across-level t.axis (blend i w 1 e)) o) s,
    ))
star-or t w l (in_only_sector n s) = inr (λ e. (0, λ i h. in_only_sector n s))

-- ---- labels
module _ (gs : List Vector) (L : Vector → Label) (I : IsLabelling gs L) (t : Star) (S : ShowsLabels t L) (n : Vector) (a m b : Label) (proper : Proper a m b) where
  abbrev F : Vector → Label → Type 0
  F = Of L

  abbrev hs : List Vector
  hs = with_axes gs

  abbrev d : Vector
  d = t.axis

  -- what the star gives close to w toward e is close to the axis toward w, and then toward e
  close-near : (w e : Vector) (l : Label) → IsDirection (cross d w) → Close t w e l → (i : ℕ) → amount hs w ≤ i → Near F (blend i d 1 w) e l
  close-near w e l off c i h = near-near hs F (labelling gs L I) (directed-by hs (axial gs)) (far_directed-by hs (axial gs)) n a m b proper d w e i S.star.axis h l
      (c.0 + amount (point_forms d) e) (λ j k. S.labels (blend j w 1 e) l (still j (omega arith)) (c.1 j (omega arith)))
    where
      still : (j : ℕ) → amount (point_forms d) e ≤ j → IsDirection (cross d (blend j w 1 e))
      still j k z = off (parallel-back d w (blend j w 1 e) (far-keeps (point_forms d) w e j k) z)

  -- at the axis, straight in the plane of the form u that has the ray on it
  pub ray-after : (u : Vector) → dot u d ≡ pos 0 → (j k : ℕ) (r : Ray) → IsAt t.rays k r → ray_dir t r ≡ cross u d → IsDirection (cross u d) → Follows t.rays j k → IsAt t.sectors k a → IsAt t.sectors j b → r.mark ≡ m
      → StraightAfter F u a m b d
  ray-after u lu j k r h way hw f above below e = (x.0 + amount hs w, λ i l. record { level = level-blend u d w i 1 lu (square-cross u d); at_d = x.1 i (omega arith); near = λ v. close v i (omega arith) })
    where
      w : Vector
      w = cross u d

      off : IsDirection (cross d (cross u d))
      off = off-axis d (cross u d) S.star.axis hw (level_cross_second u d)

      x : Near F d (cross u d) m
      x = S.labels (cross u d) m off (on_ray k r h (subst (λ (v : Vector). SameDirection v (across d (cross u d))) (sym way) (across-same d (cross u d) S.star.axis hw (level_cross_second u d))) e)

      side : (v : Vector) → by_side a r.mark b (sign (triple d (ray_dir t r) v)) ≡ by_side a m b (sign (dot u v))
      side v = ap (λ l. by_side a l b (sign (triple d (ray_dir t r) v))) e
          ∙ ap (by_side a m b) (ap (λ q. sign (triple d q v)) way ∙ ap sign (turn-ahead u d v lu) ∙ sign-scaled (dot d d) (dot u v) (self-pos d S.star.axis))

      close : (v : Vector) (i : ℕ) → amount hs (cross u d) ≤ i → Near F (blend i d 1 (cross u d)) v (by_side a m b (sign (dot u v)))
      close v i h' = close-near (cross u d) v (by_side a m b (sign (dot u v))) off
          (subst (λ (q : Vector). Close t q v (by_side a m b (sign (dot u v)))) way (subst (Close t (ray_dir t r) v) (side v) (ray-close t S.star j k r h f a b above below v))) i h'

  -- where the labels are straight close after the axis in the plane of n, a ray leaves along it
  pub ray-there : IsDirection n → dot n d ≡ pos 0 → StraightAfter F n a m b d → (k : ℕ) × (r : Ray) × IsAt t.rays k r × SameDirection (ray_dir t r) (cross n d)
  ray-there hn ln after = ⊎_elim
      (λ x. (x.0, x.1, x.2, SameDirection-trans (ray_dir t x.1) (across d w) w x.3 (SameDirection-turned w (across d w) (across-same d w S.star.axis hw lw))))
      (λ c. absurd (even c))
      (star-or t w y.0 y.1)
    where
      w : Vector
      w = cross n d

      hw : IsDirection (cross n d)
      hw z = S.star.axis (nought-if n d hn z ln)

      lw : dot d (cross n d) ≡ pos 0
      lw = level_cross_second n d

      off : IsDirection (cross d (cross n d))
      off = off-axis d (cross n d) S.star.axis hw lw

      y : (l : Label) × StarLabel t (cross n d) l
      y = S.star.each (cross n d) off

      even : ((e : Vector) → Close t (cross n d) e y.0) → ⊥
      even c =
          let x = S.labels (cross n d) y.0 off y.1 in
          let i = after.0 + x.0 + amount hs (cross n d) in
          let z = blend i d 1 (cross n d) in
          not-even hs F (labelling gs L I) (directed-by hs (axial gs)) (far_directed-by hs (axial gs)) n a m b proper hn z (far_directed-by hs (axial gs) d (cross n d) i (omega arith) S.star.axis)
          (after.1 i (omega arith)) y.0 (x.1 i (omega arith)) (λ e. close-near (cross n d) e y.0 off (c e) i (omega arith))
