-- Where a builder makes neither svertex nor sloop, all directions have one label.
use Rattle.law_geometry.proofs.sphere.building.Prelude.{◌≡◌, ℕ, ◌<◌, pos, arith, refl, ap, sym, ◌∙◌, inl, inr, ⊎_elim, List, map, subst, Some, None, [], ints, Sign, sign, mul_pos, Vector, IsDirection, cross, dot, IsOpposite, blend, opposite, Label, Decided, IsAt, MapVertex, MapSloop, Map, by_side, Near, Plain, StraightAt, IsSmooth, plain, straight, Proper, Star, normal-direction, dot-comb, even-side, IsOpposite-decided, circle-point, Beside, same_way, other_way, beside, flipped, RawMap, Of, svertex_at, IsRawLabel, dot-comm, zero-decided, dot-zero, self-pos, in-span, is-at_first, is-at_none}
use Rattle.law_geometry.proofs.sphere.Walk.{between-direction, carried}
use Rattle.law_geometry.proofs.sphere.Builder.{normal-either}
use Rattle.law_geometry.proofs.sphere.building.BuiltLabels.{with_axes, labelling}
use Rattle.law_geometry.proofs.sphere.building.BuiltAxes.{IsMadeOfStars, map-empty, smooth-off}
use Rattle.law_geometry.proofs.sphere.building.BuiltSloops.{sloop-all}
use Rattle.law_geometry.proofs.near.Decisions.{same-label_or}
use Rattle.law_geometry.proofs.sphere.building.RawGround.{not-both}
use Rattle.std.proofs.lemmas.Option.{same_Some}

module _ (gs : List Vector) (L : Vector → Label) (R : RawMap) (M : Map) (C : IsMadeOfStars gs L R M) where
  abbrev F : Vector → Label → Type 0
  F = Of L

  abbrev hs : List Vector
  hs = with_axes gs

  abbrev kept : List Star
  kept = C.built.kept

  -- ---- neither svertex nor sloop
  module _ (no_star : kept ≡ []) (no_sloop : M.sloop ≡ None) where
    nothing : {X : Type 0} (k : ℕ) (t : Star) → IsAt kept k t → X
    nothing k t a = absurd (is-at_none (subst (λ (ts : List Star). IsAt ts k t) no_star a))

    no-svertex : (k : ℕ) (v : MapVertex) → IsAt M.svertices k v → ⊥
    no-svertex k v a = is-at_none (subst (λ (vs : List MapVertex). IsAt vs k v) (C.built.svertices ∙ ap (map svertex_at) no_star) a)

    never-proper : (n : Vector) (a m b : Label) (d : Vector) → IsDirection n → IsDirection d → StraightAt F n a m b d → Proper a m b → ⊥
    never-proper n a m b d hn hd p q = ⊎_elim
        (λ x. found (sloop-all gs L R M C n d a m b x hd (λ k v c z. no-svertex k v c) q p))
        (λ x. found (sloop-all gs L R M C (opposite n) d b m a x hd (λ k v c z. no-svertex k v c) (λ u v. q v u) (flipped F n a m b d p))) (normal-either n hn)
      where
        found : {P : MapSloop → Type 0} → (l : MapSloop) × (M.sloop ≡ Some l) × P l → ⊥
        found x = not-both M.sloop x.0 no_sloop x.1

    plain-everywhere : (d : Vector) → IsDirection d → Plain F d
    plain-everywhere d hd m f e h = by (smooth-off gs L R M C d hd (λ k t a w. nothing k t a))
      where
        by : IsSmooth F d → Near F d e m
        by (plain l p) = subst (Near F d e) (sym p.at_d ∙ f) (p.near e)
        by (straight n a c b hn p) = cases (same-label_or a c) (same-label_or b c)
          where
            flat : a ≡ c → b ≡ c → (s : Sign) → by_side a c b s ≡ c
            flat x y s = ap (λ r. by_side r c b s) x ∙ ap (λ r. by_side c c r s) y ∙ even-side c s

            cases : Decided (a ≡ c) → Decided (b ≡ c) → Near F d e m
            cases (inl x) (inl y) = subst (Near F d e) (flat x y (sign (dot n e)) ∙ sym p.at_d ∙ f) (p.near e)
            cases (inr x) y = absurd (never-proper n a c b d hn hd p (λ u v. x u))
            cases (inl x) (inr y) = absurd (never-proper n a c b d hn hd p (λ u v. y v))

    -- from one direction to another that isn't opposite
    short-way : (d e : Vector) → IsDirection d → IsDirection e → (IsOpposite d e → ⊥) → L e ≡ L d
    short-way d e hd he off = carried hs F (labelling gs L C.labelling) d e hd he off (plain-everywhere d hd) (plain-everywhere e he) way (L d) refl
      where
        way : (i j : ℕ) → 0 < i → 0 < j → Plain F (blend i d j e)
        way i j si sj = plain-everywhere (blend i d j e) (⊎_elim (λ z. on-way (beside d e hd he z)) (λ f. between-direction d e i j sj f) (zero-decided (cross d e)))
          where
            on-way : Beside d e → IsDirection (blend i d j e)
            on-way (other_way o) = absurd (off o)
            on-way (same_way w) = λ z.
                let p = mul_pos (pos i) (dot d d) (omega (arith, ints)) (self-pos d hd) in
                let q = mul_pos (pos j) (dot d e) (omega (arith, ints)) w.forward in
                let r = dot-comb d (pos i) d (pos j) e in
                let s = dot-zero d (blend i d j e) z in
                omega (arith, ints)

    pub one-label : (d e : Vector) → IsDirection d → IsDirection e → L e ≡ L d
    one-label d e hd he = by (IsOpposite-decided d e)
      where
        by : Decided (IsOpposite d e) → L e ≡ L d
        by (inr off) = short-way d e hd he off
        by (inl o) =
            let c = circle-point d hd in
            let x = c.0 in
            let hx = c.1.direction in
            let z = c.1.level in
            let y = in-span x d e hd o.parallel (dot-comm x d ∙ z) in
            short-way x e hx he (λ q. let b = q.backward in omega (arith, ints)) ∙ short-way d x hd hx (λ q. let b = q.backward in omega (arith, ints))

  -- ---- the one face
  pub ground-label : (m : Label) (d : Vector) → M.ground ≡ Some m → IsDirection d → F d m
  ground-label m d e hd = by (subst (IsRawLabel R) (same_Some g.0 m (sym g.1 ∙ e)) g.2)
    where
      n : (kept ≡ []) × (M.sloop ≡ None)
      n = C.built.ground_not m e

      g : (l : Label) × (M.ground ≡ Some l) × IsRawLabel R l
      g = C.built.ground_alone n.0 n.1

      by : IsRawLabel R m → F d m
      by (inl q) = C.raw.ground_label m d q hd
      by (inr (inl (k, t, a, q))) = let S = C.raw.stars k t a in one-label n.0 n.1 t.axis d S.star.axis hd ∙ S.mark ∙ q
      by (inr (inr (l, f, q))) =
          let y = circle-point l.normal (normal-direction l.normal (C.raw.sloop_normal l f)) in
          let s = C.raw.sloop_labels l y.0 f y.1 in
          one-label n.0 n.1 y.0 d y.1.direction hd ∙ s.at_d ∙ q

  pub ground-alone : M.svertices ≡ [] → M.sloop ≡ None → (m : Label) × (M.ground ≡ Some m)
  ground-alone v l = let x = C.built.ground_alone (map-empty svertex_at kept (sym C.built.svertices ∙ v)) l in (x.0, x.1)

  pub ground-not : (m : Label) → M.ground ≡ Some m → (M.svertices ≡ []) × (M.sloop ≡ None)
  ground-not m e = let x = C.built.ground_not m e in (C.built.svertices ∙ ap (map svertex_at) x.0, x.1)
