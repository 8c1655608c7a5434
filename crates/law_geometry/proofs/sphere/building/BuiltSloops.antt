-- The sloop that a builder makes: a circle with other labels beside it that no kept axis lies on.
use Rattle.law_geometry.proofs.sphere.building.Prelude.{◌≡◌, ℕ, zero, pos, arith, refl, ap, sym, ◌∙◌, ◌⊎◌, inl, inr, ⊎_elim, List, subst, Some, ints, sign, sign-plus, sign-minus, nought-or, Vector, IsDirection, cross, dot, IsZero, SameDirection, IsNormal, opposite, Label, IsOnCircle, IsPrimitive, IsAt, MapVertex, MapSloop, Map, by_side, Near, StraightAt, IsSmooth, Proper, Star, IsPlain, IsStraight, normal-direction, Found, search_list, circle-point, normals-same, level-same, near-one, not-even, directed-by, far_directed-by, straight-same_way, planes-parallel, sloop-along, RawMap, Of, ShowsLabels, IsBare, svertex_at, sloop_at, IsSloopFrom, raw_sloop, straight_sloop, zero-decided, self-pos, square-cross, SameDirection-turned, dir-self, level_cross_second, dot-opposite}
use Rattle.law_geometry.proofs.sphere.building.BuiltLabels.{with_axes, labelling, axial}
use Rattle.law_geometry.proofs.sphere.building.StarSmooth.{star-plain, star-straight, star-normal, straight-first, straight-proper}
use Rattle.law_geometry.proofs.sphere.building.BuiltAxes.{IsMadeOfStars, star-svertex, smooth-off}

-- what holds of a circle that may become the sloop
pub record IsSloopNeeded (F : Vector → Label → Type 0) (kept : List Star) (l : MapSloop) : Type 0 where
  pub normal : IsNormal l.normal
  pub lowest : IsPrimitive l.normal
  pub bare : IsBare kept l.normal
  pub point : Vector
  pub direction : IsDirection point
  pub labels : StraightAt F l.normal l.pos l.mark l.neg point
  pub proper : Proper l.pos l.mark l.neg

module _ (gs : List Vector) (L : Vector → Label) (R : RawMap) (M : Map) (C : IsMadeOfStars gs L R M) where
  abbrev F : Vector → Label → Type 0
  F = Of L

  abbrev hs : List Vector
  hs = with_axes gs

  abbrev kept : List Star
  kept = C.built.kept

  pub sloop-needed : (l : MapSloop) → IsSloopFrom R kept l → IsSloopNeeded F kept l
  sloop-needed l (raw_sloop e p) =
      let hn = normal-direction l.normal (C.raw.sloop_normal l e) in
      let y = circle-point l.normal hn in record {
        normal = C.raw.sloop_normal l e;
        lowest = C.raw.sloop_lowest l e;
        bare = λ k t a z. let x = C.built.kept_from k t a in C.raw.sloop_bare l e x.0 t x.1 z;
        point = y.0;
        direction = y.1.direction;
        labels = C.raw.sloop_labels l y.0 e y.1;
        proper = p;
      }
  sloop-needed l (straight_sloop k t a K bare e) = subst (IsSloopNeeded F kept) (sym e) (record {
    normal = star-normal gs L C.labelling t S K;
    lowest = S.star.rays_lowest zero K.first (straight-first t K);
    bare = bare;
    point = t.axis;
    direction = S.star.axis;
    labels = star-straight gs L C.labelling t S K;
    proper = straight-proper t K (C.simple k t a);
  })
    where
      S : ShowsLabels t L
      S = C.raw.stars k t a

  -- ---- one circle
  module _ (n : Vector) (a m b : Label) (normal : IsNormal n) (bare : IsBare kept n) (proper : Proper a m b) (y : Vector) (hy : IsDirection y) (p : StraightAt F n a m b y) where
    hn : IsDirection n
    hn = normal-direction n normal

    -- all round the circle the labels are the same
    round : (d : Vector) → IsOnCircle n d → StraightAt F n a m b d
    round d o = sloop-along hs F (labelling gs L C.labelling) (axial gs) n a m b proper hn smooth y hy p d o
      where
        smooth : (d : Vector) → IsOnCircle n d → IsSmooth F d
        smooth d o = smooth-off gs L R M C d o.direction (λ k t c w. bare k t c (level-same n n d t.axis (dir-self n hn) (SameDirection-turned t.axis d w) o.level))

    parallel-at : (u : Vector) (c l g : Label) (d : Vector) → IsOnCircle n d → StraightAt F u c l g d → IsZero (cross n u)
    parallel-at u c l g d o q = planes-parallel hs F (labelling gs L C.labelling) (axial gs) n a m b proper hn u c l g d o.direction (round d o) q

    same-normal : (u : Vector) → IsNormal u → IsZero (cross n u) → SameDirection n u
    same-normal u hu z = normals-same n u normal hu z

    straight-one : (c l g : Label) → StraightAt F n c l g y → Proper c l g
    straight-one c l g q e f = proper (above ∙ e ∙ sym mark) (below ∙ f ∙ sym mark)
      where
        one : (e : Vector) (i k : Label) → Near F y e i → Near F y e k → i ≡ k
        one e i k u v = near-one hs F (labelling gs L C.labelling) (directed-by hs (axial gs)) (far_directed-by hs (axial gs)) n a m b proper y e i k hy u v

        mark : m ≡ l
        mark = sym p.at_d ∙ q.at_d

        plus-side : (i j k : Label) → by_side i j k (sign (dot n n)) ≡ i
        plus-side i j k = ap (by_side i j k) (sign-plus (dot n n) (self-pos n hn))

        minus-side : (i j k : Label) → by_side i j k (sign (dot n (opposite n))) ≡ k
        minus-side i j k = ap (by_side i j k) (sign-minus (dot n (opposite n)) (let e = dot-opposite n n in let h = self-pos n hn in omega (arith, ints)))

        above : a ≡ c
        above = one n a c (subst (Near F y n) (plus-side a m b) (p.near n)) (subst (Near F y n) (plus-side c l g) (q.near n))

        below : b ≡ g
        below = one (opposite n) b g (subst (Near F y (opposite n)) (minus-side a m b) (p.near (opposite n))) (subst (Near F y (opposite n)) (minus-side c l g) (q.near (opposite n)))

  -- two circles meet, and where both are needed they are the same
  one-circle : (n : Vector) (a m b : Label) → IsNormal n → IsBare kept n → Proper a m b → (y : Vector) → IsDirection y → StraightAt F n a m b y → (l : MapSloop) → IsSloopNeeded F kept l → SameDirection n l.normal
  one-circle n a m b normal bare proper y hy p l N = same-normal n a m b normal bare proper y hy p l.normal N.normal (⊎_elim (λ z. z) (λ f. met f) (zero-decided (cross n l.normal)))
    where
      met : IsDirection (cross n l.normal) → IsZero (cross n l.normal)
      met f = parallel-at n a m b normal bare proper y hy p l.normal l.pos l.mark l.neg (cross n l.normal) (record { direction = f; level = square-cross n l.normal })
          (round l.normal l.pos l.mark l.neg N.normal N.bare N.proper N.point N.direction N.labels (cross n l.normal) (record { direction = f; level = level_cross_second n l.normal }))

  pub sloop-all : (n y : Vector) (a m b : Label) → IsNormal n → IsDirection y → ((k : ℕ) (v : MapVertex) → IsAt M.svertices k v → dot n v.dir ≡ pos 0 → ⊥) → Proper a m b → StraightAt F n a m b y
      → (l : MapSloop) × (M.sloop ≡ Some l) × SameDirection n l.normal
  sloop-all n y a m b normal hy off proper p = by (search_list R.stars (λ k t. dot n t.axis ≡ pos 0) (λ k t. nought-or (dot n t.axis)))
    where
      bare : IsBare kept n
      bare k t h z = off k (svertex_at t) (star-svertex gs L R M C k t h) z

      hn : IsDirection n
      hn = normal-direction n normal

      listed : (l : MapSloop) → IsSloopFrom R kept l → (k : MapSloop) × (M.sloop ≡ Some k) × SameDirection n k.normal
      listed l f = let x = C.built.sloop_all l f in (x.0, x.1, one-circle n a m b normal bare proper y hy p x.0 (sloop-needed x.0 (C.built.sloop_from x.0 x.1)))

      at-star : (k : ℕ) (t : Star) (h : IsAt R.stars k t) → dot n t.axis ≡ pos 0 → IsPlain t ⊎ IsStraight t ⊎ ((j : ℕ) × IsAt kept j t) → (l : MapSloop) × (M.sloop ≡ Some l) × SameDirection n l.normal
      at-star k t h z (inl P) =
          let S = C.raw.stars k t h in
          let q = star-plain gs L C.labelling t S P in
          absurd (not-even hs F (labelling gs L C.labelling) (directed-by hs (axial gs)) (far_directed-by hs (axial gs)) n a m b proper hn t.axis S.star.axis
          (round n a m b normal bare proper y hy p t.axis (record { direction = S.star.axis; level = z })) t.mark q.at_d q.near)
      at-star k t h z (inr (inl K)) =
          let S = C.raw.stars k t h in
          let u = K.first.normal in
          let w = same-normal n a m b normal bare proper y hy p u (star-normal gs L C.labelling t S K)
          (parallel-at n a m b normal bare proper y hy p u K.pos t.mark K.neg t.axis (record { direction = S.star.axis; level = z }) (star-straight gs L C.labelling t S K)) in
          listed (sloop_at t K) (straight_sloop k t h K (λ i v c x. bare i v c (level-same u n v.axis v.axis (SameDirection-turned n u w) (dir-self v.axis (let T = C.built.kept_from i v c in let V = C.raw.stars T.0 v T.1 in V.star.axis)) x)) refl)
      at-star k t h z (inr (inr j)) = absurd (bare j.0 t j.1 z)

      by : Found R.stars (λ k t. dot n t.axis ≡ pos 0) ⊎ ((k : ℕ) (t : Star) → IsAt R.stars k t → dot n t.axis ≡ pos 0 → ⊥) → (l : MapSloop) × (M.sloop ≡ Some l) × SameDirection n l.normal
      by (inl f) = at-star f.number f.element f.listed f.holds (C.built.kept_all f.number f.element f.listed)
      by (inr none) =
          let x = C.raw.sloop_all n y a m b normal none (record { direction = hy; level = p.level }) proper p in
          let l = x.0 in
          let q = C.raw.sloop_labels l y x.1 (record { direction = hy; level = level-same n l.normal y y x.2 (dir-self y hy) p.level }) in
          let back = straight-same_way F l.normal n l.pos l.mark l.neg y (normal-direction l.normal (C.raw.sloop_normal l x.1)) (SameDirection-turned n l.normal x.2) q in
          listed l (raw_sloop x.1 (straight-one n a m b normal bare proper y hy p l.pos l.mark l.neg back))
