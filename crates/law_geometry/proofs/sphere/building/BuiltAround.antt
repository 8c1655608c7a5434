-- A ray that goes back is the end of an arc; so a svertex without arcs has no ray, and one label round it.
use Rattle.law_geometry.proofs.sphere.building.Prelude.{◌≡◌, ℕ, zero, ◌+◌, pos, arith, refl, ap, sym, ◌∙◌, inl, inr, ⊎_elim, List, ◌∷◌, map, length, subst, Some, None, Bool, true, false, cond, [], ints, Vector, IsDirection, cross, dot, IsZero, SameDirection, IsNormal, opposite, Label, IsStrictlyOn, IsAt, MapVertex, Arc, Map, HasArc, Near, StraightAt, IsSmooth, StraightAfter, Proper, Ray, Star, ray_dir, in_only_sector, normal-direction, amount, is-at_one, past_source, arc-point, IsStrictlyOn-same, ends-together, level-same, reversed, flipped, unflipped, directed-by, far_directed-by, previous, RawMap, Of, sector_count, ShowsLabels, around_of, IsArcFrom, nought-if, SameDirection-turned, dir-self, direction-opposite, level-opposite, opposite-dot, opposite-twice, is-at_none}
use Rattle.law_geometry.proofs.sphere.ArcLabels.{arc-along}
use Rattle.law_geometry.proofs.sphere.Firsts.{First, first-after}
use Rattle.law_geometry.proofs.sphere.building.BuiltLabels.{with_axes, labelling, axial}
use Rattle.law_geometry.proofs.sphere.building.KeptStars.{at-other}
use Rattle.law_geometry.proofs.sphere.building.RayStraight.{ray-after, ray-there}
use Rattle.law_geometry.proofs.sphere.building.StarSmooth.{cross-away}
use Rattle.law_geometry.proofs.sphere.building.BuiltAxes.{IsMadeOfStars, kept-shows, kept-simple, kept-axis, kept-apart, svertex-star, smooth-off}
use Rattle.law_geometry.proofs.sphere.building.BuiltArcs.{arc-from, arc-direction, arc-level, arc-proper, arc-after, kept-arc}
use Rattle.nef_space.proofs.Lists.{is-at_map, map-is_at}

abbrev axis_of : Star → Vector
axis_of t = t.axis

-- ---- sectors and the label round a star
pub sector-there : (t : Star) → length t.sectors ≡ sector_count t.rays → (k : ℕ) (r : Ray) → IsAt t.rays k r → (l : Label) × IsAt t.sectors k l
sector-there t e k r a = by t.rays e a
  where
    by : (rs : List Ray) → length t.sectors ≡ sector_count rs → IsAt rs k r → (l : Label) × IsAt t.sectors k l
    by [] f b = absurd (is-at_none b)
    by (q ∷ rs) f b = at-other (q ∷ rs) t.sectors k r (sym f) b

lone-around : (rs : List Ray) (ls : List Label) → length ls ≡ sector_count rs → ((j : ℕ) (r : Ray) → IsAt rs j r → ⊥) → (m : Label) × (around_of rs ls ≡ Some m)
lone-around [] [] e none = absurd (omega arith)
lone-around [] (l ∷ ls) e none = (l, refl)
lone-around (r ∷ rs) ls e none = absurd (none zero r refl)

ray-around : (rs : List Ray) (ls : List Label) (j : ℕ) (r : Ray) → IsAt rs j r → around_of rs ls ≡ None
ray-around [] ls j r a = absurd (is-at_none a)
ray-around (q ∷ rs) ls j r a = refl

around-some : (rs : List Ray) (ls : List Label) (m : Label) → around_of rs ls ≡ Some m → (rs ≡ []) × IsAt ls zero m
around-some [] [] m e = absurd cc
around-some [] (l ∷ ls) m e = (refl, cc)
around-some (r ∷ rs) ls m e = absurd cc

module _ (gs : List Vector) (L : Vector → Label) (R : RawMap) (M : Map) (C : IsMadeOfStars gs L R M) where
  abbrev F : Vector → Label → Type 0
  F = Of L

  abbrev hs : List Vector
  hs = with_axes gs

  abbrev kept : List Star
  kept = C.built.kept

  -- labels close after s in the plane of n go on up to t, where no kept axis lies between
  pub labels-on : (n : Vector) (a m b : Label) → Proper a m b → IsDirection n → (s t : Vector) → IsDirection s → IsDirection t → dot n s ≡ pos 0 → dot n t ≡ pos 0
      → ((k : ℕ) (u : Star) → IsAt kept k u → IsStrictlyOn n s t u.axis → ⊥) → StraightAfter F n a m b s → (w : Vector) → IsStrictlyOn n s t w → StraightAt F n a m b w
  labels-on n a m b proper hn s t hs' ht ls lt clear after w o =
      let K = amount (cross t n ∷ []) (cross n s) + after.0 in
      arc-along hs F (labelling gs L C.labelling) (directed-by hs (axial gs)) (far_directed-by hs (axial gs)) n a m b proper hn s t hs' ht ls lt smooth K (omega arith) (after.1 K (omega arith)) w o
    where
      smooth : (w : Vector) → IsStrictlyOn n s t w → IsSmooth F w
      smooth w p = smooth-off gs L R M C w p.on_circle.direction (λ k u c q. clear k u c
          (IsStrictlyOn-same n n s s t t w u.axis (dir-self n hn) (dir-self s hs') (dir-self t ht) (SameDirection-turned u.axis w q) p))

  -- ---- back along the circle of n from the kept star t to the kept star v, with none between
  module _ (k : ℕ) (t : Star) (h : IsAt kept k t) (n : Vector) (a m b : Label) (normal : IsNormal n) (lt : dot n t.axis ≡ pos 0) (proper : Proper a m b) (after : StraightAfter F (opposite n) b m a t.axis) where
    abbrev s : Vector
    s = t.axis

    hn : IsDirection n
    hn = normal-direction n normal

    hs' : IsDirection s
    hs' = kept-axis gs L R M C k t h

    module _ (j : ℕ) (v : Star) (g : IsAt kept j v) (lv : dot n v.axis ≡ pos 0) (clear : (i : ℕ) (u : Star) → IsAt kept i u → IsStrictlyOn (opposite n) s v.axis u.axis → ⊥) where
      hv : IsDirection v.axis
      hv = kept-axis gs L R M C j v g

      after-v : StraightAfter F n a m b v.axis
      after-v = (
        amount (cross s n ∷ []) (cross n v.axis),
        λ i l.
            let y = past_source n v.axis i in
            unflipped F n a m b y (labels-on (opposite n) b m a (λ p q. proper q p) (direction-opposite n hn) s v.axis hs' hv (level-opposite n s lt) (level-opposite n v.axis lv) clear after y
            (reversed n v.axis s y hv (arc-point n v.axis s hn hv hs' lv lt i l))),
      )

      back-to : (i : ℕ) × (c : Arc) × IsAt M.arcs i c × (c.target ≡ k)
      back-to = by (kept-arc gs L R M C j v n a m b g normal lv proper after-v)
        where
          by : (i : ℕ) × (c : Arc) × IsAt M.arcs i c × (c.source ≡ j) × SameDirection n c.normal → (i : ℕ) × (c : Arc) × IsAt M.arcs i c × (c.target ≡ k)
          by (i, c, ic, src, w) = (
            i,
            c,
            ic,
            kept-apart gs L R M C c.target k A.target.first t A.target.listed h
                (ends-together n v.axis A.target.first.axis s hn hv hf hs' lv lf lt
                (λ o. A.target.none_before k t h (IsStrictlyOn-same n c.normal v.axis A.star.axis A.target.first.axis A.target.first.axis s s w star-is (dir-self A.target.first.axis hf) (dir-self s hs') o))
                (λ o. clear c.target A.target.first A.target.listed (reversed n v.axis s A.target.first.axis hv o))),
          )
            where
              A : IsArcFrom kept c
              A = arc-from gs L R M C i c ic

              hf : IsDirection A.target.first.axis
              hf = kept-axis gs L R M C c.target A.target.first A.target.listed

              lf : dot n A.target.first.axis ≡ pos 0
              lf = level-same c.normal n A.target.first.axis A.target.first.axis (SameDirection-turned n c.normal w) (dir-self A.target.first.axis hf) A.target.level

              star-is : SameDirection v.axis A.star.axis
              star-is = subst (λ (r : Star). SameDirection v.axis r.axis) (is-at_one kept j v A.star g (subst (λ (q : ℕ). IsAt kept q A.star) src A.has_star)) (dir-self v.axis hv)

    -- an arc ends at t
    pub back-arc : (i : ℕ) × (c : Arc) × IsAt M.arcs i c × (c.target ≡ k)
    back-arc = by (first-after (opposite n) s (direction-opposite n hn) hs' (level-opposite n s lt) (map axis_of kept))
      where
        back-level : (u : Vector) → dot (opposite n) u ≡ pos 0 → dot n u ≡ pos 0
        back-level u z = let e = opposite-dot n u in omega (arith, ints)

        by : First (opposite n) s (map axis_of kept) → (i : ℕ) × (c : Arc) × IsAt M.arcs i c × (c.target ≡ k)
        by f = ⊎_elim (λ e. at-star k t h (sym e)) (λ x. let y = is-at_map axis_of kept x.0 f.target x.1 in at-star x.0 y.0 y.1 (sym y.2)) f.listed
          where
            at-star : (j : ℕ) (v : Star) → IsAt kept j v → f.target ≡ v.axis → (i : ℕ) × (c : Arc) × IsAt M.arcs i c × (c.target ≡ k)
            at-star j v g e = back-to j v g (subst (λ (r : Vector). dot n r ≡ pos 0) e (back-level f.target f.level))
                (λ i u q o. f.none_before i u.axis (map-is_at axis_of kept i u q) (subst (λ (r : Vector). IsStrictlyOn (opposite n) s r u.axis) (sym e) o))

  -- ---- arcs and rays
  -- each ray of a kept star is on an arc from it or to it
  ray-arc : (k : ℕ) (t : Star) (h : IsAt kept k t) (j : ℕ) (r : Ray) → IsAt t.rays j r → HasArc M k
  ray-arc k t h j r x = by r.ahead refl
    where
      S : ShowsLabels t L
      S = kept-shows gs L R M C k t h

      by : (b : Bool) → r.ahead ≡ b → HasArc M k
      by true e = let y = C.built.arcs_all k j t r h x e in (y.0, y.1, y.2, inl y.3)
      by false e =
          let ray = S.star.rays j r x in
          let u = opposite r.normal in
          let lu = level-opposite r.normal t.axis ray.level in
          let y = previous t.rays j r x in
          let p = sector-there t S.star.as_many j r x in
          let q = sector-there t S.star.as_many y.0 y.1 y.2 in
          let proper = λ (c : p.0 ≡ r.mark) (d : q.0 ≡ r.mark). kept-simple gs L R M C k t h y.0 j y.1 r q.0 p.0 y.2 x y.3 q.1 p.1 (sym d) (sym c) in
          let way = ap (λ b. cond b (cross r.normal t.axis) (cross t.axis r.normal)) e ∙ cross-away r.normal t.axis in
          let side = λ (z : IsZero (cross u t.axis)). S.star.axis (nought-if u t.axis (direction-opposite r.normal (normal-direction r.normal ray.normal)) z lu) in
          let after = ray-after gs L C.labelling t S u p.0 r.mark q.0 proper u lu y.0 j r x way side y.3 p.1 q.1 refl in
          let z = back-arc k t h r.normal q.0 r.mark p.0 ray.normal ray.level (λ c d. proper d c) after in
          (z.0, z.1, z.2, inr z.3)

  -- and a kept star with an arc has a ray
  arc-ray : (k : ℕ) (t : Star) → IsAt kept k t → HasArc M k → (j : ℕ) × (r : Ray) × IsAt t.rays j r
  arc-ray k t h (i, c, ic, e) = ⊎_elim from-source from-target e
    where
      A : IsArcFrom kept c
      A = arc-from gs L R M C i c ic

      from-source : c.source ≡ k → (j : ℕ) × (r : Ray) × IsAt t.rays j r
      from-source q = subst (λ (u : Star). (j : ℕ) × (r : Ray) × IsAt u.rays j r) (is-at_one kept k A.star t (subst (λ (l : ℕ). IsAt kept l A.star) q A.has_star) h) (A.number, A.ray, A.has_ray)

      from-target : c.target ≡ k → (j : ℕ) × (r : Ray) × IsAt t.rays j r
      from-target q = subst (λ (u : Star). (j : ℕ) × (r : Ray) × IsAt u.rays j r) (is-at_one kept k A.target.first t (subst (λ (l : ℕ). IsAt kept l A.target.first) q A.target.listed) h) (let x = end in (x.0, x.1, x.2))
        where
          n : Vector
          n = c.normal

          s : Vector
          s = A.star.axis

          u : Vector
          u = A.target.first.axis

          hn : IsDirection c.normal
          hn = arc-direction gs L R M C i c ic

          hs' : IsDirection A.star.axis
          hs' = kept-axis gs L R M C c.source A.star A.has_star

          hu : IsDirection A.target.first.axis
          hu = kept-axis gs L R M C c.target A.target.first A.target.listed

          proper : Proper c.pos c.mark c.neg
          proper = arc-proper gs L R M C i c ic

          labels : (w : Vector) → IsStrictlyOn c.normal A.star.axis A.target.first.axis w → StraightAt F c.normal c.pos c.mark c.neg w
          labels = labels-on c.normal c.pos c.mark c.neg proper hn A.star.axis A.target.first.axis hs' hu (arc-level gs L R M C i c ic) A.target.level A.target.none_before (arc-after gs L R M C i c ic)

          close : StraightAfter F (opposite c.normal) c.neg c.mark c.pos A.target.first.axis
          close = (
            amount (cross s (opposite n) ∷ []) (cross (opposite n) u),
            λ l g.
                let y = past_source (opposite n) u l in
                let o = reversed (opposite n) u s y hu (arc-point (opposite n) u s (direction-opposite n hn) hu hs' (level-opposite n u A.target.level) (level-opposite n s (arc-level gs L R M C i c ic)) l g) in
                flipped F n c.pos c.mark c.neg y (labels y (subst (λ (r : Vector). IsStrictlyOn r s u y) (opposite-twice n) o)),
          )

          end : (j : ℕ) × (r : Ray) × IsAt A.target.first.rays j r × SameDirection (ray_dir A.target.first r) (cross (opposite c.normal) A.target.first.axis)
          end = ray-there gs L C.labelling A.target.first (kept-shows gs L R M C c.target A.target.first A.target.listed) (opposite c.normal) c.neg c.mark c.pos (λ x y. proper y x)
              (direction-opposite c.normal hn) (level-opposite c.normal A.target.first.axis A.target.level) close

  -- ---- the label round a svertex
  pub around-lone : (k : ℕ) (v : MapVertex) → IsAt M.svertices k v → (HasArc M k → ⊥) → (m : Label) × (v.around ≡ Some m)
  around-lone k v h none =
      let x = svertex-star gs L R M C k v h in
      let S = kept-shows gs L R M C k x.0 x.1 in
      let y = lone-around x.0.rays x.0.sectors S.star.as_many (λ j r a. none (ray-arc k x.0 x.1 j r a)) in
      (y.0, sym (ap (λ (r : MapVertex). r.around) x.2) ∙ y.1)

  pub around-not : (k : ℕ) (v : MapVertex) → IsAt M.svertices k v → HasArc M k → v.around ≡ None
  around-not k v h arc =
      let x = svertex-star gs L R M C k v h in
      let y = arc-ray k x.0 x.1 arc in
      sym (ap (λ (r : MapVertex). r.around) x.2) ∙ ray-around x.0.rays x.0.sectors y.0 y.1 y.2

  pub around-near : (k : ℕ) (v : MapVertex) (m : Label) (e : Vector) → IsAt M.svertices k v → v.around ≡ Some m → IsDirection (cross v.dir e) → Near F v.dir e m
  around-near k v m e h q f =
      let x = svertex-star gs L R M C k v h in
      let S = kept-shows gs L R M C k x.0 x.1 in
      let way = ap (λ (r : MapVertex). r.dir) x.2 in
      let y = around-some x.0.rays x.0.sectors m (ap (λ (r : MapVertex). r.around) x.2 ∙ q) in
      subst (λ (r : Vector). Near F r e m) way (S.labels e m (subst (λ (r : Vector). IsDirection (cross r e)) (sym way) f) (in_only_sector y.0 y.1))
