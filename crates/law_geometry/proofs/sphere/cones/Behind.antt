-- A circle that is needed close before a svertex has an arc to it; so a svertex without arcs has one label all around it.
use Rattle.law_geometry.proofs.sphere.cones.Prelude.{◌≡◌, ℕ, ◌+◌, pos, arith, sym, ◌⊎◌, inl, inr, ⊎_elim, List, ◌∷◌, subst, [], ints, Vector, IsDirection, cross, dot, SameDirection, IsNormal, opposite, Label, IsStrictlyOn, IsAt, Arc, Labelling, Near, StraightAt, IsSmooth, StraightAfter, Proper, normal-direction, is-at_one, amount, past_source, arc-point, level-same, First, first-after, reversed, unflipped, Axial, directed-by, far_directed-by, SameDirection-turned, dir-self, direction-opposite, level-opposite, level-opposite-back, opposite-dot, opposite-twice, normal-either}
use Rattle.law_geometry.proofs.sphere.Turn.{IsStrictlyOn-same, ends-together}
use Rattle.law_geometry.proofs.sphere.ArcLabels.{arc-along}
use Rattle.law_geometry.proofs.sphere.cones.Smooth.{even-or}
use Rattle.law_geometry.proofs.sphere.cones.SmoothDecided.{smooth-decided}
use Rattle.law_geometry.proofs.sphere.cones.Lone.{lone-near}
use Rattle.law_geometry.proofs.sphere.cones.Dirs.{Dirs, dirs-one}
use Rattle.law_geometry.proofs.sphere.cones.Rays.{IsArc, Arcs}

-- an arc of the list begins or ends at svertex k
abbrev pub Arrives : List Arc → ℕ → Type 0
Arrives as' k = (i : ℕ) × (a : Arc) × IsAt as' i a × ((a.source ≡ k) ⊎ (a.target ≡ k))

module _ (gs : List Vector) (F : Vector → Label → Type 0) (L : Labelling gs F) (axial : Axial gs) (W : Dirs gs F L axial) (A : Arcs gs F L axial W) where
  -- w is svertex k, and the labels close before it on the circle of n are a, m and b
  module _ (n : Vector) (normal : IsNormal n) (k : ℕ) (w : Vector) (h : IsAt W.list k w) (lw : dot n w ≡ pos 0) (a m b : Label) (proper : Proper a m b) (before : StraightAfter F (opposite n) b m a w) where
    hn : IsDirection n
    hn = normal-direction n normal

    ha : IsDirection (opposite n)
    ha = direction-opposite n hn

    hw : IsDirection w
    hw = W.direction k w h

    proper_turned : Proper b m a
    proper_turned x y = proper y x

    -- s is the last svertex before w
    module _ (j : ℕ) (s : Vector) (g : IsAt W.list j s) (ls : dot n s ≡ pos 0) (clear : (i : ℕ) (x : Vector) → IsAt W.list i x → IsStrictlyOn (opposite n) w s x → ⊥) where
      hs : IsDirection s
      hs = W.direction j s g

      back-smooth : (y : Vector) → IsStrictlyOn (opposite n) w s y → IsSmooth F y
      back-smooth y o = ⊎_elim (λ r. r) (λ f.
          let v = W.all y o.on_circle.direction f in
          absurd (clear v.0 v.1 v.2 (IsStrictlyOn-same (opposite n) (opposite n) w w s s y v.1 (dir-self (opposite n) ha) (dir-self w hw) (dir-self s hs) v.3 o)))
          (smooth-decided gs F L axial y o.on_circle.direction)

      back-labels : (y : Vector) → IsStrictlyOn (opposite n) w s y → StraightAt F (opposite n) b m a y
      back-labels y o =
          let K = amount (cross s (opposite n) ∷ []) (cross (opposite n) w) + before.0 in
          arc-along gs F L (directed-by gs axial) (far_directed-by gs axial) (opposite n) b m a proper_turned ha w s hw hs (level-opposite n w lw) (level-opposite n s ls) back-smooth K (omega arith) (before.1 K (omega arith)) y o

      after : StraightAfter F n a m b s
      after = (
        amount (cross w n ∷ []) (cross n s),
        λ i l.
            let y = past_source n s i in
            unflipped F n a m b y (back-labels y (reversed n s w y hs (arc-point n s w hn hs hw ls lw i l))),
      )

      arrives : (i : ℕ) × (c : Arc) × IsAt A.list i c × (c.target ≡ k)
      arrives = by (A.all n j normal (record { dir = s; listed = g; level = ls; pos = a; mark = m; neg = b; labels = after; proper = proper }))
        where
          by : (i : ℕ) × (c : Arc) × IsAt A.list i c × (c.source ≡ j) × SameDirection n c.normal → (i : ℕ) × (c : Arc) × IsAt A.list i c × (c.target ≡ k)
          by (i, c, ic, src, q) = (i, c, ic, dirs-one gs F L axial W c.target k (A.each i c ic).target w (A.each i c ic).has_target h together)
            where
              e : IsArc gs F L axial W c
              e = A.each i c ic

              source-is : e.source ≡ s
              source-is = is-at_one W.list j e.source s (subst (λ (r : ℕ). IsAt W.list r e.source) src e.has_source) g

              qt : SameDirection c.normal n
              qt = SameDirection-turned n c.normal q

              ht : IsDirection e.target
              ht = W.direction c.target e.target e.has_target

              lt : dot n e.target ≡ pos 0
              lt = level-same c.normal n e.target e.target qt (dir-self e.target ht) e.level_target

              together : SameDirection (A.each i c ic).target w
              together = ends-together n s e.target w hn hs ht hw ls lt lw
                  (λ o. e.clear k w h (IsStrictlyOn-same n c.normal s e.source e.target e.target w w q (subst (SameDirection s) (sym source-is) (dir-self s hs)) (dir-self e.target ht) (dir-self w hw) o))
                  (λ o. clear c.target e.target e.has_target (reversed n s w e.target hs o))

    pub behind : (i : ℕ) × (c : Arc) × IsAt A.list i c × (c.target ≡ k)
    behind = by (first-after (opposite n) w ha hw (level-opposite n w lw) W.list)
      where
        by : First (opposite n) w W.list → (i : ℕ) × (c : Arc) × IsAt A.list i c × (c.target ≡ k)
        by f = ⊎_elim (λ e. arrives k f.target (subst (IsAt W.list k) e h) (level-opposite-back n f.target f.level) f.none_before) (λ j. arrives j.0 f.target j.1 (level-opposite-back n f.target f.level) f.none_before) f.listed

  -- no circle is needed close to a svertex without arcs
  module _ (k : ℕ) (w : Vector) (h : IsAt W.list k w) (lone : Arrives A.list k → ⊥) where
    even : (n : Vector) (a m b : Label) → IsDirection n → dot n w ≡ pos 0 → StraightAfter F n a m b w → (a ≡ m) × (b ≡ m)
    even n a m b hn q f = even-or a m b (λ p. ⊎_elim
        (λ x. let r = A.all n k x (record { dir = w; listed = h; level = q; pos = a; mark = m; neg = b; labels = f; proper = p }) in lone (r.0, r.1, r.2, inl r.3))
        (λ x.
        let r = behind (opposite n) x k w h (let e = opposite-dot n w in omega (arith, ints)) b m a (λ u v. p v u) (subst (λ (u : Vector). StraightAfter F u a m b w) (sym (opposite-twice n)) f) in
        lone (r.0, r.1, r.2, inr r.3))
        (normal-either n hn))

    pub lone-around : (e u : Vector) → IsDirection (cross w e) → IsDirection (cross w u) → (m : Label) → Near F w e m → Near F w u m
    lone-around = lone-near gs F L axial w (W.direction k w h) even
