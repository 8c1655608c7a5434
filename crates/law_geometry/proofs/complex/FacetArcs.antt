-- An arc that is met close to a svertex ends there, on the side on which it is met; and each arc that ends there is met close to it on its side.
use Rattle.law_geometry.proofs.complex.Prelude.{◌≡◌, ℕ, ◌≤◌, ℤ, pos, ◌<ℤ◌, arith, refl, ap, sym, ◌∙◌, inl, inr, ⊎_elim, ◌∷◌, subst, [], ints, sign, ring, at, num, ◌⊕◌, ◌⊖◌, ◌⊗◌, by_order, Vector, blend, dot, cross, triple, IsDirection, SameDirection, IsOnCircle, IsStrictlyOn, same-nought, Keeps, arc_forms, forms, IsAt, MapVertex, Arc, Map, arc_item, items, dir_of, Shaped, normal-is, same-plus, same-minus, amount, far-keeps, kept-plus, kept-minus, SameDirection-decided, item-forms, dir-at, arc-at, opposite-triple, turn-plus, Beside, same_way, other_way, beside, IsStrictlyOn-back, direction-around, svertex-around, after-target, Ends, ends-of, dot-comm, dot-zero, self-pos, triple-dot, cross-turned, triple-middle, triple-turned, SameDirection-turned, SameDirection-trans, dir-signs, parallel-in_plane}
use Rattle.law_geometry.proofs.sphere.Turn.{turn-middle}

-- ---- close before its source an arc isn't met, unless it ends there too
module _ (n s t y : Vector) (hs : IsDirection s) (ht : IsDirection t) (ls : dot n s ≡ pos 0) (lt : dot n t ≡ pos 0) (hn : IsDirection n)
    (k : Keeps (arc_forms n s t) s y) (before : triple n s y <ℤ pos 0) (o : IsStrictlyOn n s t y) where
  before-source : SameDirection s t
  before-source = by_order (triple n s t) (pos 0)
      (λ l. absurd (⊎_elim (λ h. omega (arith, ints)) (λ h. let m = past l in omega (arith, ints)) (o.more_than_half l)))
      (λ z. by (beside s t hs ht (parallel-in_plane n s t hn ls lt z)))
      (λ l. absurd (let h = o.less_than_half l in let p = h.0 in omega (arith, ints)))
    where
      past : triple n s t <ℤ pos 0 → triple n y t <ℤ pos 0
      past l = subst (λ (r : ℤ). r <ℤ pos 0) (sym (triple-middle n y t)) (kept-minus (cross t n) s y (k (cross t n) (inr (inr (inl refl)))) (subst (λ (r : ℤ). r <ℤ pos 0) (triple-middle n s t) l))

      by : Beside s t → SameDirection s t
      by (same_way w) = w
      by (other_way w) = let h = o.just_half w in absurd (omega (arith, ints))

-- ---- close to the way of a svertex
module _ (M : Map) (V : Shaped M) (j : ℕ) (u : MapVertex) (b : IsAt M.svertices j u) (f : Vector) (K : ℕ) (large : amount (forms M) f ≤ K) where
  abbrev w : Vector
  w = u.dir

  abbrev c : Vector
  c = blend K w 1 f

  hw : IsDirection w
  hw = V.svertex_dirs j u b

  keeps : Keeps (forms M) w c
  keeps = far-keeps (forms M) w f K large

  hc : IsDirection c
  hc = direction-around M V w c keeps hw

  -- the turn from w to c is that to f
  turn : (n : Vector) → triple n w c ≡ triple n w f
  turn n = ring (n.x ∷ n.y ∷ n.z ∷ w.x ∷ w.y ∷ w.z ∷ f.x ∷ f.y ∷ f.z ∷ pos K ∷ [])
      (at 0 ⊗ (at 4 ⊗ (at 9 ⊗ at 5 ⊕ num (pos 1) ⊗ at 8) ⊖ at 5 ⊗ (at 9 ⊗ at 4 ⊕ num (pos 1) ⊗ at 7))
      ⊕ at 1 ⊗ (at 5 ⊗ (at 9 ⊗ at 3 ⊕ num (pos 1) ⊗ at 6) ⊖ at 3 ⊗ (at 9 ⊗ at 5 ⊕ num (pos 1) ⊗ at 8))
      ⊕ at 2 ⊗ (at 3 ⊗ (at 9 ⊗ at 4 ⊕ num (pos 1) ⊗ at 7) ⊖ at 4 ⊗ (at 9 ⊗ at 3 ⊕ num (pos 1) ⊗ at 6)))
      (at 0 ⊗ (at 4 ⊗ at 8 ⊖ at 5 ⊗ at 7) ⊕ at 1 ⊗ (at 5 ⊗ at 6 ⊖ at 3 ⊗ at 8) ⊕ at 2 ⊗ (at 3 ⊗ at 7 ⊖ at 4 ⊗ at 6)) tt

  apart : (n : Vector) → (triple n w f ≡ pos 0 → ⊥) → SameDirection w c → ⊥
  apart n o q = o (sym (turn n) ∙ dot-zero n (cross w c) q.parallel)

  module _ (i : ℕ) (a : Arc) (d : IsAt (items M) i (arc_item a)) where
    abbrev n : Vector
    n = a.normal

    abbrev s : Vector
    s = dir_of M.svertices a.source

    abbrev t : Vector
    t = dir_of M.svertices a.target

    ends : Ends M a
    ends = ends-of M V i a (arc-at M.arcs M.sloop i a d)

    hn : IsDirection n
    hn = normal-is V i (arc_item a) d

    arc-keeps : Keeps (arc_forms n s t) w c
    arc-keeps g l = keeps g (item-forms M i (arc_item a) g d l)

    -- an end that goes the way of the svertex is the svertex
    source-is : SameDirection s w → a.source ≡ j
    source-is q = V.svertices_apart a.source j ends.source u ends.has_source b (subst (λ (r : Vector). SameDirection r w) ends.source_is q)

    target-is : SameDirection t w → a.target ≡ j
    target-is q = V.svertices_apart a.target j ends.target u ends.has_target b (subst (λ (r : Vector). SameDirection r w) ends.target_is q)

    -- the signs at an end that goes the way of w
    keeps-at : (e : Vector) → SameDirection e w → Keeps (arc_forms n s t) e c
    keeps-at e q g l o =
        let same = dir-signs w e g hw (SameDirection-turned e w q) in
        arc-keeps g l (λ z. o (same-nought (dot g w) (dot g e) same z)) ∙ sym same

    turn-at : (e : Vector) → SameDirection e w → sign (triple n e c) ≡ sign (triple n w f)
    turn-at e q = turn-middle n c w e (SameDirection-turned e w q) ∙ ap sign (turn n)

    -- where the arc is met close to w, it ends there, on this side
    module _ (o : IsStrictlyOn n s t c) where
      met-between : (SameDirection s w → ⊥) → (SameDirection t w → ⊥) → ⊥
      met-between p q = V.no_svertex_on_item j i u (arc_item a) b d
          (IsStrictlyOn-back n s t w c hn ends.source_direction ends.target_direction ends.source_level ends.target_level arc-keeps hw p q o)

      pub source-met : pos 0 <ℤ triple n w f → a.source ≡ j
      source-met h = ⊎_elim (λ p. source-is p) (λ p. ⊎_elim (λ q. source-is (SameDirection-trans s t w (after q) q)) (λ q. absurd (met-between p q)) (SameDirection-decided t w)) (SameDirection-decided s w)
        where
          after : SameDirection t w → SameDirection s t
          after q = after-target n s t c ends.source_direction ends.target_direction ends.source_level ends.target_level hn (keeps-at t q) (same-plus (triple n w f) (triple n t c) (turn-at t q) h) o

      pub target-met : triple n w f <ℤ pos 0 → a.target ≡ j
      target-met h = ⊎_elim (λ q. target-is q) (λ q. ⊎_elim (λ p. target-is (SameDirection-trans t s w (SameDirection-turned s t (before p)) p)) (λ p. absurd (met-between p q)) (SameDirection-decided s w)) (SameDirection-decided t w)
        where
          before : SameDirection s w → SameDirection s t
          before p = before-source n s t c ends.source_direction ends.target_direction ends.source_level ends.target_level hn (keeps-at s p) (same-minus (triple n w f) (triple n s c) (turn-at s p) h) o

    -- an arc that ends at w is met close to w, on its side
    module _ (level : dot n c ≡ pos 0) where
      on-circle : IsOnCircle n c
      on-circle = record { direction = hc; level = level }

      pub source-meets : a.source ≡ j → pos 0 <ℤ triple n w f → IsStrictlyOn n s t c
      source-meets e h =
          let is : s ≡ w = dir-at M.svertices a.source u (subst (λ (r : ℕ). IsAt M.svertices r u) (sym e) b) in
          subst (λ (r : Vector). IsStrictlyOn n r t c) (sym is) (record {
            on_circle = on-circle;
            not_source = off;
            not_target = λ q. off (SameDirection-trans w t c (SameDirection-turned t w (back q)) q);
            less_than_half = λ l. (ahead, subst (λ (r : ℤ). pos 0 <ℤ r) (sym (triple-middle n c t)) (kept-plus (cross t n) w c (arc-keeps (cross t n) (inr (inr (inl refl)))) (subst (λ (r : ℤ). pos 0 <ℤ r) (triple-middle n w t) l)));
            more_than_half = λ l. inl ahead;
            just_half = λ l. ahead;
          })
        where
          off : SameDirection w c → ⊥
          off = apart n (λ z. omega (arith, ints))

          ahead : pos 0 <ℤ triple n w c
          ahead = subst (λ (r : ℤ). pos 0 <ℤ r) (sym (turn n)) h

          back : SameDirection t c → SameDirection t w
          back q = subst (λ (r : Vector). SameDirection r w) (sym ends.target_is) (svertex-around M V w c keeps a.target ends.target ends.has_target hw (subst (λ (r : Vector). SameDirection r c) ends.target_is q))

      pub target-meets : a.target ≡ j → triple n w f <ℤ pos 0 → IsStrictlyOn n s t c
      target-meets e h =
          let is : t ≡ w = dir-at M.svertices a.target u (subst (λ (r : ℕ). IsAt M.svertices r u) (sym e) b) in
          subst (λ (r : Vector). IsStrictlyOn n s r c) (sym is) (record {
            on_circle = on-circle;
            not_source = λ q. off (SameDirection-trans w s c (SameDirection-turned s w (back q)) q);
            not_target = off;
            less_than_half = λ l. (past l, ahead);
            more_than_half = λ l. inr ahead;
            just_half = λ q. turn-plus (dot w w) (dot w s) (triple n s c) (triple n w c) (self-pos w hw) (opposite-triple n w c s hw (cross-turned s w q.parallel)) (let k = q.backward in let g = dot-comm w s in omega (arith, ints)) behind;
          })
        where
          off : SameDirection w c → ⊥
          off = apart n (λ z. omega (arith, ints))

          behind : triple n w c <ℤ pos 0
          behind = subst (λ (r : ℤ). r <ℤ pos 0) (sym (turn n)) h

          ahead : pos 0 <ℤ triple n c w
          ahead = let k = behind in let g = triple-turned n c w in omega (arith, ints)

          past : pos 0 <ℤ triple n s w → pos 0 <ℤ triple n s c
          past l = subst (λ (r : ℤ). pos 0 <ℤ r) (sym (triple-dot n s c)) (kept-plus (cross n s) w c (arc-keeps (cross n s) (inr (inl refl))) (subst (λ (r : ℤ). pos 0 <ℤ r) (triple-dot n s w) l))

          back : SameDirection s c → SameDirection s w
          back q = subst (λ (r : Vector). SameDirection r w) (sym ends.source_is) (svertex-around M V w c keeps a.source ends.source ends.has_source hw (subst (λ (r : Vector). SameDirection r c) ends.source_is q))
