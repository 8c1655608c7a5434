-- The side of a ray of a svertex sees each free direction that has a clear way to the svertex in the sector after the ray.
use Rattle.law_geometry.proofs.sphere.Prelude.{◌≡◌, ℕ, ◌+◌, ◌<◌, ◌≤◌, pos, negsuc, ◌*ℤ◌, ◌-ℤ◌, ◌<ℤ◌, arith, ap, sym, ◌∙◌, ◌⊎◌, inl, inr, ◌∷◌, subst, [], ints, ring, at, num, ◌⊕◌, ◌⊖◌, ◌⊗◌, neg, follows, given, none, sign, by_order, mul_pos, mul_neg, sign-scaled, Vector, IsDirection, triple, cross, dot, opposite, SameDirection, blend, IsOnCircle, IsStrictlyOn, IsAt, MapVertex, Map, arc_item, items, dir_of, OnItem, IsClear, Reaches, Sees, directly, by_way_of, Shaped, ArcRay, end_left, end_side, ray_left, ray_side, Unrayed, forms, combination, dot-comm, dot-zero, zero-dot, self-pos, triple-dot, cross-turned, cross-none, opposite-dot, direction-opposite, level-opposite, square-cross, triple-turned, SameDirection-turned, dir-self, parallel-in_plane, blend_of, cross_of, dot_poly, numbers, poly_triple, triple_poly, vec}
use Rattle.law_geometry.proofs.sphere.cyclic.Directions.{way_back_passes_the_same, arcs_are_of_directions}
use Rattle.law_geometry.proofs.sphere.Vectors.{dot-comb, normal-is, same-plus}
use Rattle.law_geometry.proofs.sphere.Generic.{amount, far-keeps}
use Rattle.law_geometry.proofs.sphere.Parallel.{past_source, arc-point}
use Rattle.law_geometry.proofs.sphere.Shot.{product-off, dir-at}
use Rattle.law_geometry.proofs.sphere.Around.{Beside, same_way, other_way, beside}
use Rattle.law_geometry.proofs.sphere.Arcs.{Ends, ends-of, at-arc}
use Rattle.law_geometry.proofs.sphere.Turn.{turn-last, turn-same}
use Rattle.law_geometry.proofs.sphere.NearSvertex.{near-clear}
use Rattle.law_geometry.proofs.sphere.FarWay.{far-way}

-- ---- products
-- v.(m x (v x w)) = (v.v) (m.w)
pub turn-from_left : (v m w : Vector) → dot m v ≡ pos 0 → triple v m (cross v w) ≡ dot v v *ℤ dot m w
turn-from_left v m w z = follows (numbers v m w w) (poly_triple (vec 0) (vec 3) (cross_of (vec 0) (vec 6))) (dot_poly 0 0 ⊗ dot_poly 3 6) (given (neg (dot_poly 0 6)) (dot_poly 3 0) (num (pos 0)) z none) tt

-- v.((v x w) x (v x e)) = (v.v) v.(w x e)
pub turn-of_crosses : (v w e : Vector) → triple v (cross v w) (cross v e) ≡ dot v v *ℤ triple v w e
turn-of_crosses v w e = ring (numbers v w e e) (poly_triple (vec 0) (cross_of (vec 0) (vec 3)) (cross_of (vec 0) (vec 6))) (dot_poly 0 0 ⊗ triple_poly 0 3 6) tt

-- v.(w x (m x v)) = - (v.v) (m.w)
pub turn-to_ray : (v m w : Vector) → dot m v ≡ pos 0 → triple v w (cross m v) ≡ pos 0 -ℤ dot v v *ℤ dot m w
turn-to_ray v m w z = follows (numbers v m w w) (poly_triple (vec 0) (vec 6) (cross_of (vec 3) (vec 0))) (num (pos 0) ⊖ dot_poly 0 0 ⊗ dot_poly 3 6) (given (dot_poly 0 6) (dot_poly 3 0) (num (pos 0)) z none) tt

-- ---- a sector, by left directions
module _ (v m e : Vector) (hv : IsDirection v) (level : dot m v ≡ pos 0) where
  square : pos 0 <ℤ dot v v
  square = self-pos v hv

  ahead-of : (w : Vector) → pos 0 <ℤ dot m w → pos 0 <ℤ triple v m (cross v w)
  ahead-of w p = let s = mul_pos (dot v v) (dot m w) square p in let t = turn-from_left v m w level in omega (arith, ints)

  ahead-is : (w : Vector) → pos 0 <ℤ triple v m (cross v w) → pos 0 <ℤ dot m w
  ahead-is w p = same-plus (dot v v *ℤ dot m w) (dot m w) (sym (sign-scaled (dot v v) (dot m w) square)) (let t = turn-from_left v m w level in omega (arith, ints))

  turn-plus : (w : Vector) → pos 0 <ℤ triple v w e → pos 0 <ℤ triple v (cross v w) (cross v e)
  turn-plus w p = let s = mul_pos (dot v v) (triple v w e) square p in let t = turn-of_crosses v w e in omega (arith, ints)

  -- w lies less than half a turn past m, and before e where e lies so too
  pub past-left : (w : Vector) → IsDirection (cross v w) → pos 0 <ℤ dot m w → (pos 0 <ℤ dot m e → pos 0 <ℤ triple v w e) → IsStrictlyOn v m (cross v e) (cross v w)
  past-left w h p q = record {
    on_circle = record { direction = h; level = square-cross v w };
    not_source = λ s. let z = dot-zero v (cross m (cross v w)) s.parallel in let b = ahead-of w p in omega (arith, ints);
    not_target = λ s.
        let z = dot-zero v (cross (cross v w) (cross v e)) (cross-turned (cross v e) (cross v w) s.parallel) in
        let b = turn-plus w (q (ahead-is e (same-plus (triple v m (cross v w)) (triple v m (cross v e)) (turn-last v m (cross v w) (cross v e) (SameDirection-turned (cross v e) (cross v w) s)) (ahead-of w p)))) in
        omega (arith, ints);
    less_than_half = λ l. (ahead-of w p, turn-plus w (q (ahead-is e l)));
    more_than_half = λ l. inl (ahead-of w p);
    just_half = λ o. ahead-of w p;
  }

  -- w lies less than half a turn before e, which lies more than half a turn past m
  pub before-past : (w : Vector) → IsDirection (cross v w) → dot m e <ℤ pos 0 → pos 0 <ℤ triple v w e → IsStrictlyOn v m (cross v e) (cross v w)
  before-past w h n p = record {
    on_circle = record { direction = h; level = square-cross v w };
    not_source = λ s. let b = turn-plus w p in let c : pos 0 <ℤ triple v m (cross v e) = same-plus (triple v (cross v w) (cross v e)) (triple v m (cross v e)) (sym (turn-first s)) b in let d = behind in omega (arith, ints);
    not_target = λ s. let z = dot-zero v (cross (cross v w) (cross v e)) (cross-turned (cross v e) (cross v w) s.parallel) in let b = turn-plus w p in omega (arith, ints);
    less_than_half = λ l. let d = behind in absurd (omega (arith, ints));
    more_than_half = λ l. inr (turn-plus w p);
    just_half = λ o. let z = dot-zero v (cross m (cross v e)) o.parallel in let d = behind in absurd (omega (arith, ints));
  }
    where
      behind : triple v m (cross v e) <ℤ pos 0
      behind = let s = mul_neg (dot v v) (dot m e) square n in let t = turn-from_left v m e level in omega (arith, ints)

      some : IsDirection (cross v e)
      some z = let y = dot-zero v (cross m (cross v e)) (cross-none m (cross v e) z) in let d = behind in omega (arith, ints)

      turn-first : SameDirection m (cross v w) → sign (triple v (cross v w) (cross v e)) ≡ sign (triple v m (cross v e))
      turn-first s = turn-same v v m (cross v w) (cross v e) (cross v e) (dir-self v hv) s (dir-self (cross v e) some)

-- v.((i e + j f) x e) = j v.(f x e), and v.(e x (k v + f)) = v.(e x f)
turn-between : (v e f : Vector) (i j : ℕ) → triple v (blend i e j f) e ≡ pos j *ℤ triple v f e
turn-between v e f i j = ring (pos i ∷ pos j ∷ numbers v e f f) (poly_triple (vec 2) (blend_of (at 0) (vec 5) (at 1) (vec 8)) (vec 5)) (at 1 ⊗ triple_poly 2 8 5) tt

turn-near : (v e f : Vector) (k : ℕ) → triple v (blend k v 1 f) e ≡ triple v f e
turn-near v e f k = ring (pos k ∷ numbers v e f f) (poly_triple (vec 1) (blend_of (at 0) (vec 1) (num (pos 1)) (vec 7)) (vec 4)) (triple_poly 1 7 4) tt

turned-off : (v w e : Vector) → (triple v w e ≡ pos 0 → ⊥) → IsDirection (cross v w)
turned-off v w e n z = n (triple-dot v w e ∙ zero-dot (cross v w) e z)

-- ---- the rays of a svertex
module _ (M : Map) (V : Shaped M) (k : ℕ) (v : MapVertex) (a : IsAt M.svertices k v) where
  abbrev p : Vector
  p = v.dir

  hp : IsDirection p
  hp = V.svertex_dirs k v a

  here : (j : ℕ) → j ≡ k → dir_of M.svertices j ≡ p
  here j e = ap (dir_of M.svertices) e ∙ dir-at M.svertices k v a

  -- what holds of the direction to the left of a ray
  left-level : (r : ArcRay M k) → dot (ray_left r) p ≡ pos 0
  left-level r = by r.end
    where
      b : Ends M r.arc
      b = ends-of M V r.number r.arc r.listed

      by : (q : (r.arc.source ≡ k) ⊎ (r.arc.target ≡ k)) → dot (end_left r.arc q) p ≡ pos 0
      by (inl e) = subst (λ (x : Vector). dot r.arc.normal x ≡ pos 0) (here r.arc.source e) b.source_level
      by (inr e) = level-opposite r.arc.normal p (subst (λ (x : Vector). dot r.arc.normal x ≡ pos 0) (here r.arc.target e) b.target_level)

  left-direction : (r : ArcRay M k) → IsDirection (ray_left r)
  left-direction r = by r.end
    where
      hn : IsDirection r.arc.normal
      hn = normal-is V r.number (arc_item r.arc) (at-arc M.arcs M.sloop r.number r.arc r.listed)

      by : (q : (r.arc.source ≡ k) ⊎ (r.arc.target ≡ k)) → IsDirection (end_left r.arc q)
      by (inl e) = hn
      by (inr e) = direction-opposite r.arc.normal hn

  pub left-on : (r : ArcRay M k) → IsOnCircle p (ray_left r)
  left-on r = record { direction = left-direction r; level = dot-comm p (ray_left r) ∙ left-level r }

  -- close to the svertex the arc goes along its ray
  pub on-end : (r : ArcRay M k) → (n : ℕ) × ((number : ℕ) → n ≤ number → OnItem M (arc_item r.arc) (blend number p 1 (cross (ray_left r) p)))
  on-end r = by r.end
    where
      n : Vector
      n = r.arc.normal

      s : Vector
      s = dir_of M.svertices r.arc.source

      t : Vector
      t = dir_of M.svertices r.arc.target

      b : Ends M r.arc
      b = ends-of M V r.number r.arc r.listed

      hn : IsDirection n
      hn = normal-is V r.number (arc_item r.arc) (at-arc M.arcs M.sloop r.number r.arc r.listed)

      by : (q : (r.arc.source ≡ k) ⊎ (r.arc.target ≡ k)) → (n : ℕ) × ((number : ℕ) → n ≤ number → OnItem M (arc_item r.arc) (blend number p 1 (cross (end_left r.arc q) p)))
      by (inl e) = (
        amount (cross t n ∷ []) (cross n s),
        λ number large. subst (λ (x : Vector). IsStrictlyOn n s t (past_source n x number)) (here r.arc.source e) (arc-point n s t hn b.source_direction b.target_direction b.source_level b.target_level number large),
      )
      by (inr e) = (
        amount (cross s (opposite n) ∷ []) (cross (opposite n) t),
        λ number large.
            (way_back_passes_the_same n s t (past_source (opposite n) p number) hn (record { direction = b.source_direction; level = b.source_level }) (record { direction = b.target_direction; level = b.target_level })).0
            (subst (λ (x : Vector). IsStrictlyOn (opposite n) t s (past_source (opposite n) x number)) (here r.arc.target e)
            (arc-point (opposite n) t s (direction-opposite n hn) b.target_direction b.source_direction (level-opposite n t b.target_level) (level-opposite n s b.source_level) number large)),
      )

  -- and its points there are reached from the left on its side
  at_end : (r : ArcRay M k) (d : Vector) → pos 0 <ℤ dot (ray_left r) d → (n : ℕ) × ((number : ℕ) → n ≤ number → Reaches M (ray_side r) d (blend number p 1 (cross (ray_left r) p)))
  at_end r d h = let f = on-end r in (f.0, λ number large. by r.end h (blend number p 1 (cross (ray_left r) p)) (f.1 number large))
    where
      listed : IsAt (items M) r.number (arc_item r.arc)
      listed = at-arc M.arcs M.sloop r.number r.arc r.listed

      by : (q : (r.arc.source ≡ k) ⊎ (r.arc.target ≡ k)) → pos 0 <ℤ dot (end_left r.arc q) d → (y : Vector) → OnItem M (arc_item r.arc) y → Reaches M (end_side r.number q) d y
      by (inl e) l y o = (arc_item r.arc, listed, o, l)
      by (inr e) l y o = (arc_item r.arc, listed, o, let f = opposite-dot r.arc.normal d in omega (arith, ints))

  module _ (r : ArcRay M k) where
    abbrev m : Vector
    m = ray_left r

    -- from less than half a turn past the ray, with no other ray between
    near-sees : (e : Vector) → IsClear M e p → pos 0 <ℤ dot m e → ((w : Vector) → IsDirection (cross p w) → pos 0 <ℤ dot m w → pos 0 <ℤ triple p w e → Unrayed M k p w)
        → (y : Vector) × IsClear M e y × Reaches M (ray_side r) e y
    near-sees e way h free =
        let f = far-way M V k v a e ray way wide between in
        let g = at_end r e h in
        let number = f.0 + g.0 in
        (blend number p 1 ray, f.1 number (omega arith), g.1 number (omega arith))
      where
        ray : Vector
        ray = cross m p

        turn-is : triple p e ray ≡ pos 0 -ℤ dot p p *ℤ dot m e
        turn-is = turn-to_ray p m e (left-level r)

        some : pos 0 <ℤ (dot p p *ℤ dot m e)
        some = mul_pos (dot p p) (dot m e) (self-pos p hp) h

        wide : triple p e ray ≡ pos 0 → ⊥
        wide z = let t = turn-is in let s = some in omega (arith, ints)

        between : (i j : ℕ) → 0 < i → 0 < j → Unrayed M k p (blend i e j ray)
        between i j si sj =
            let w = blend i e j ray in
            let t = turn-between p e ray i j in
            let s = some in
            let c = triple-turned p ray e in
            let u = turn-is in
            let q = mul_pos (pos j) (triple p ray e) (omega (arith, ints)) (omega (arith, ints)) in
            let after : pos 0 <ℤ triple p w e = omega (arith, ints) in
            let l = dot-comb m (pos i) e (pos j) ray in
            let z : pos j *ℤ dot m ray ≡ pos 0 = ap (λ x. pos j *ℤ x) (square-cross m p) ∙ ring (pos j ∷ []) (at 0 ⊗ num (pos 0)) (num (pos 0)) tt in
            let g = mul_pos (pos i) (dot m e) (omega (arith, ints)) h in
            free w (turned-off p w e (λ z. omega (arith, ints))) (omega (arith, ints)) after

    module _ (e : Vector) (way : IsClear M e p) (none-between : (q : ArcRay M k) → IsStrictlyOn p m (cross p e) (ray_left q) → ⊥) where
      apart : IsDirection (cross p e)
      apart z = by (beside p e hp way.start.direction z)
        where
          by : Beside p e → ⊥
          by (same_way w) = way.start.off_svertices k v a w
          by (other_way w) = way.short (record { parallel = cross-turned p e w.parallel; backward = let c = dot-comm e p in let b = w.backward in omega (arith, ints) })

      in_sector : (w : Vector) → IsStrictlyOn p m (cross p e) (cross p w) → Unrayed M k p w
      in_sector w o q s = none-between q (arcs_are_of_directions p m (cross p e) (cross p w) (ray_left q) hp (left-on r) (record { direction = apart; level = square-cross p e }) (SameDirection-turned (ray_left q) (cross p w) s) o)

      -- by a turn at a direction close to the svertex
      turning : (f : Vector) → (pos 0 <ℤ dot m e → ⊥) → pos 0 <ℤ dot m f → (triple p e f ≡ pos 0 → ⊥) → ((i j : ℕ) → 0 < i → 0 < j → Unrayed M k p (blend i e j f)) → Sees M (ray_side r) e
      turning f back ahead wide between =
          let far = far-way M V k v a e f way wide between in
          let number = far.0 + amount (forms M) f in
          let c = blend number p 1 f in
          let l = dot-comb m (pos number) p (pos 1) f in
          let z : pos number *ℤ dot m p ≡ pos 0 = ap (λ x. pos number *ℤ x) (left-level r) ∙ ring (pos number ∷ []) (at 0 ⊗ num (pos 0)) (num (pos 0)) tt in
          let up : pos 0 <ℤ dot m c = omega (arith, ints) in
          let t = turn-near p e f number in
          let u = triple-turned p e f in
          let off = turned-off p c e (λ y. wide (omega (arith, ints))) in
          let past = λ (w : Vector) (h : IsDirection (cross p w)) (q : pos 0 <ℤ dot m w). in_sector w (past-left p m e hp (left-level r) w h q (λ x. absurd (back x))) in
          let home = near-clear M V k v a c (far-keeps (forms M) p f number (omega arith)) off (past c off up) in
          let y = near-sees c home up (λ w h q x. past w h q) in
          by_way_of c y.0 (far.1 number (omega arith)) y.1 y.2

      -- half a turn past the ray
      at_half : dot m e ≡ pos 0 → Sees M (ray_side r) e
      at_half z = turning m (λ h. omega (arith, ints)) (self-pos m (left-direction r)) wide between
        where
          cyclic : triple m p e ≡ triple p e m
          cyclic = ring (m.x ∷ m.y ∷ m.z ∷ p.x ∷ p.y ∷ p.z ∷ e.x ∷ e.y ∷ e.z ∷ [])
              (at 0 ⊗ (at 4 ⊗ at 8 ⊖ at 5 ⊗ at 7) ⊕ at 1 ⊗ (at 5 ⊗ at 6 ⊖ at 3 ⊗ at 8) ⊕ at 2 ⊗ (at 3 ⊗ at 7 ⊖ at 4 ⊗ at 6))
              (at 3 ⊗ (at 7 ⊗ at 2 ⊖ at 8 ⊗ at 1) ⊕ at 4 ⊗ (at 8 ⊗ at 0 ⊖ at 6 ⊗ at 2) ⊕ at 5 ⊗ (at 6 ⊗ at 1 ⊖ at 7 ⊗ at 0)) tt

          wide : triple p e m ≡ pos 0 → ⊥
          wide y = apart (parallel-in_plane m p e (left-direction r) (left-level r) z (cyclic ∙ y))

          between : (i j : ℕ) → 0 < i → 0 < j → Unrayed M k p (blend i e j m)
          between i j si sj =
              let w = blend i e j m in
              let t = turn-between p e m i j in
              let u = triple-turned p e m in
              let off = turned-off p w e (λ y. product-off (pos j) (triple p m e) (omega (arith, ints)) (λ x. wide (omega (arith, ints))) (sym t ∙ y)) in
              let l = dot-comb m (pos i) e (pos j) m in
              let o : pos i *ℤ dot m e ≡ pos 0 = ap (λ x. pos i *ℤ x) z ∙ ring (pos i ∷ []) (at 0 ⊗ num (pos 0)) (num (pos 0)) tt in
              let g = mul_pos (pos j) (dot m m) (omega (arith, ints)) (self-pos m (left-direction r)) in
              in_sector w (past-left p m e hp (left-level r) w off (omega (arith, ints)) (λ x. absurd (omega (arith, ints))))

      -- more than half a turn past the ray
      past_half : dot m e <ℤ pos 0 → Sees M (ray_side r) e
      past_half n = turning back (λ h. omega (arith, ints)) ahead wide between
        where
          ray : Vector
          ray = cross m p

          back : Vector
          back = combination (negsuc 0) e (negsuc 0) ray

          ahead : pos 0 <ℤ dot m back
          ahead = let l = dot-comb m (negsuc 0) e (negsuc 0) ray in let z = square-cross m p in omega (arith, ints)

          turn-back : triple p back e ≡ triple p e ray
          turn-back = ring (p.x ∷ p.y ∷ p.z ∷ e.x ∷ e.y ∷ e.z ∷ ray.x ∷ ray.y ∷ ray.z ∷ [])
              (let u = num (negsuc 0) in let x = u ⊗ at 3 ⊕ u ⊗ at 6 in let y = u ⊗ at 4 ⊕ u ⊗ at 7 in let z = u ⊗ at 5 ⊕ u ⊗ at 8 in
              at 0 ⊗ (y ⊗ at 5 ⊖ z ⊗ at 4) ⊕ at 1 ⊗ (z ⊗ at 3 ⊖ x ⊗ at 5) ⊕ at 2 ⊗ (x ⊗ at 4 ⊖ y ⊗ at 3))
              (at 0 ⊗ (at 4 ⊗ at 8 ⊖ at 5 ⊗ at 7) ⊕ at 1 ⊗ (at 5 ⊗ at 6 ⊖ at 3 ⊗ at 8) ⊕ at 2 ⊗ (at 3 ⊗ at 7 ⊖ at 4 ⊗ at 6)) tt

          after : pos 0 <ℤ triple p back e
          after = let t = turn-back in let u = turn-to_ray p m e (left-level r) in let s = mul_neg (dot p p) (dot m e) (self-pos p hp) n in omega (arith, ints)

          wide : triple p e back ≡ pos 0 → ⊥
          wide z = let b = after in let t = triple-turned p e back in omega (arith, ints)

          between : (i j : ℕ) → 0 < i → 0 < j → Unrayed M k p (blend i e j back)
          between i j si sj =
              let w = blend i e j back in
              let t = turn-between p e back i j in
              let q = mul_pos (pos j) (triple p back e) (omega (arith, ints)) after in
              let later : pos 0 <ℤ triple p w e = omega (arith, ints) in
              in_sector w (before-past p m e hp (left-level r) w (turned-off p w e (λ z. omega (arith, ints))) n later)

      -- the ray's side sees e
      pub sector-sees : Sees M (ray_side r) e
      sector-sees = by_order (dot m e) (pos 0) past_half at_half
          (λ h. let y = near-sees e way h (λ w o q t. in_sector w (past-left p m e hp (left-level r) w o q (λ x. t))) in directly y.0 y.1 y.2)
