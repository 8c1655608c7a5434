-- The other side of a plane: arcs the other way round, and labels with above and below exchanged; loops.
use Rattle.law_geometry.proofs.sphere.Prelude.{◌≡◌, ℕ, ◌+◌, ◌≤◌, ℤ, pos, ◌+ℤ◌, ◌-ℤ◌, ◌*ℤ◌, ◌<ℤ◌, arith, ap, sym, ◌∙◌, inl, inr, ⊎_elim, List, ◌∷◌, subst, neg_ℤ, [], ints, ring, at, num, ◌⊕◌, ◌⊖◌, ◌⊗◌, sign, sign-plus, sign-minus, by_order, Lies, Vector, IsDirection, cross, triple, dot, IsZero, SameDirection, IsOpposite, blend, opposite, Label, combination, IsOnCircle, IsStrictlyOn, SameSigns, axes, by_side, Labelling, Near, StraightAt, IsSmooth, same-nought, dot-comm, zero-decided, self-pos, cross-turned, nought-if, triple-turned, dir-signs, apart, parallel-trans, dot-opposite, opposite-dot, triple-opposite, level-blend}
use Rattle.law_geometry.proofs.sphere.Vectors.{dot-comb}
use Rattle.law_geometry.proofs.sphere.Generic.{amount, far-keeps}
use Rattle.law_geometry.proofs.sphere.Places.{direction-stays}
use Rattle.law_geometry.proofs.sphere.Around.{Beside, same_way, other_way, beside, opposite-triple, turn-minus}
use Rattle.law_geometry.proofs.sphere.Walk.{crossings, between-direction}
use Rattle.law_geometry.proofs.sphere.Along.{along, cells, near-one}

-- ---- the other way round
pub reversed : (n s t w : Vector) → IsDirection s → IsStrictlyOn n s t w → IsStrictlyOn (opposite n) t s w
reversed n s t w hs o = record {
  on_circle = record { direction = o.on_circle.direction; level = let e = opposite-dot n w in let l = o.on_circle.level in omega (arith, ints) };
  not_source = o.not_target;
  not_target = o.not_source;
  less_than_half = λ h. let r = o.less_than_half (subst (λ (x : ℤ). pos 0 <ℤ x) (triple-opposite n t s) h) in
      (subst (λ (x : ℤ). pos 0 <ℤ x) (sym (triple-opposite n t w)) r.1, subst (λ (x : ℤ). pos 0 <ℤ x) (sym (triple-opposite n w s)) r.0);
  more_than_half = λ h. ⊎_elim (λ x. inr (subst (λ (x : ℤ). pos 0 <ℤ x) (sym (triple-opposite n w s)) x)) (λ x. inl (subst (λ (x : ℤ). pos 0 <ℤ x) (sym (triple-opposite n t w)) x))
      (o.more_than_half (subst (λ (x : ℤ). x <ℤ pos 0) (triple-opposite n t s) h));
  just_half = λ q.
      let p : IsOpposite s t = record { parallel = cross-turned t s q.parallel; backward = let e = dot-comm s t in let b = q.backward in omega (arith, ints) } in
      let x = o.just_half p in
      let y = turn-minus (dot s s) (dot s t) (triple n t w) (triple n s w) (self-pos s hs) (opposite-triple n s w t hs p.parallel) p.backward x in
      let e = triple-opposite n t w in let f = triple-turned n w t in omega (arith, ints);
}

side-flip : (a m b : Label) (x y : ℤ) → y ≡ neg_ℤ x → by_side b m a (sign y) ≡ by_side a m b (sign x)
side-flip a m b x y e = by_order x (pos 0)
    (λ l. ap (by_side b m a) (sign-plus y (omega (arith, ints))) ∙ ap (by_side a m b) (sym (sign-minus x l)))
    (λ z. let w : y ≡ pos 0 = omega (arith, ints) in ap (by_side b m a) (ap sign w) ∙ ap (by_side a m b) (sym (ap sign z)))
    (λ l. ap (by_side b m a) (sign-minus y (omega (arith, ints))) ∙ ap (by_side a m b) (sym (sign-plus x l)))

pub flipped : (F : Vector → Label → Type 0) (n : Vector) (a m b : Label) (d : Vector) → StraightAt F n a m b d → StraightAt F (opposite n) b m a d
flipped F n a m b d p = record {
  level = let e = opposite-dot n d in let l = p.level in omega (arith, ints);
  at_d = p.at_d;
  near = λ e. subst (Near F d e) (sym (side-flip a m b (dot n e) (dot (opposite n) e) (opposite-dot n e))) (p.near e);
}

pub unflipped : (F : Vector → Label → Type 0) (n : Vector) (a m b : Label) (d : Vector) → StraightAt F (opposite n) b m a d → StraightAt F n a m b d
unflipped F n a m b d p = record {
  level = let e = opposite-dot n d in let l = p.level in omega (arith, ints);
  at_d = p.at_d;
  near = λ e. subst (Near F d e) (side-flip a m b (dot n e) (dot (opposite n) e) (opposite-dot n e)) (p.near e);
}

-- the same plane
pub straight-same_way : (F : Vector → Label → Type 0) (n u : Vector) (a m b : Label) (d : Vector) → IsDirection n → SameDirection n u → StraightAt F n a m b d → StraightAt F u a m b d
straight-same_way F n u a m b d hn w p = record {
  level = same-nought (dot n d) (dot u d) (same d) p.level;
  at_d = p.at_d;
  near = λ e. subst (Near F d e) (ap (by_side a m b) (sym (same e))) (p.near e);
}
  where
    same : (e : Vector) → sign (dot u e) ≡ sign (dot n e)
    same e = ap sign (dot-comm u e) ∙ dir-signs n u e hn w ∙ ap sign (dot-comm e n)

-- ---- forms that hold the axes
abbrev pub Axial : List Vector → Type 0
Axial gs = (g : Vector) → Lies axes g → Lies gs g

module _ (gs : List Vector) (axial : Axial gs) where
  pub directed-by : (d e : Vector) → SameSigns gs d e → IsDirection d → IsDirection e
  directed-by d e s h = direction-stays d e (λ g l f. s g (axial g l)) h

  pub far_directed-by : (d e : Vector) (k : ℕ) → amount gs e ≤ k → IsDirection d → IsDirection (blend k d 1 e)
  far_directed-by d e k l h = direction-stays d (blend k d 1 e) (λ g i f. far-keeps gs d e k l g (axial g i) f) h

module _ (gs : List Vector) (F : Vector → Label → Type 0) (L : Labelling gs F) (axial : Axial gs) (n : Vector) (a m b : Label) (proper : a ≡ m → b ≡ m → ⊥) (hn : IsDirection n) where
  -- two planes through d, of which one is needed, are parallel
  pub planes-parallel : (u : Vector) (c l g : Label) (d : Vector) → IsDirection d → StraightAt F n a m b d → StraightAt F u c l g d → IsZero (cross n u)
  planes-parallel u c l g d hd p q = ⊎_elim (λ z. z) (λ f. absurd (by f)) (zero-decided (cross n u))
    where
      level : dot u (combination (dot u u) n (pos 0 -ℤ dot n u) u) ≡ pos 0
      level = dot-comb u (dot u u) n (pos 0 -ℤ dot n u) u ∙ ap (λ r. dot u u *ℤ r +ℤ (pos 0 -ℤ dot n u) *ℤ dot u u) (dot-comm u n) ∙ ring (dot u u ∷ dot n u ∷ []) (at 0 ⊗ at 1 ⊕ (num (pos 0) ⊖ at 1) ⊗ at 0) (num (pos 0)) tt

      eq : dot (cross n u) (cross n u) ≡ dot n (combination (dot u u) n (pos 0 -ℤ dot n u) u)
      eq = let nx = at 0 in let ny = at 1 in let nz = at 2 in let mx = at 3 in let my = at 4 in let mz = at 5 in
          ring (n.x ∷ n.y ∷ n.z ∷ u.x ∷ u.y ∷ u.z ∷ [])
          ((ny ⊗ mz ⊖ nz ⊗ my) ⊗ (ny ⊗ mz ⊖ nz ⊗ my) ⊕ (nz ⊗ mx ⊖ nx ⊗ mz) ⊗ (nz ⊗ mx ⊖ nx ⊗ mz) ⊕ (nx ⊗ my ⊖ ny ⊗ mx) ⊗ (nx ⊗ my ⊖ ny ⊗ mx))
          ((mx ⊗ mx ⊕ my ⊗ my ⊕ mz ⊗ mz) ⊗ (nx ⊗ nx ⊕ ny ⊗ ny ⊕ nz ⊗ nz) ⊕ (num (pos 0) ⊖ (nx ⊗ mx ⊕ ny ⊗ my ⊕ nz ⊗ mz)) ⊗ (nx ⊗ mx ⊕ ny ⊗ my ⊕ nz ⊗ mz)) tt
          ∙ sym (dot-comb n (dot u u) n (pos 0 -ℤ dot n u) u)

      one : (e : Vector) (k l : Label) → Near F d e k → Near F d e l → k ≡ l
      one e k l x y = near-one gs F L (directed-by gs axial) (far_directed-by gs axial) n a m b proper d e k l hd x y

      by : IsDirection (cross n u) → ⊥
      by f =
          let w = combination (dot u u) n (pos 0 -ℤ dot n u) u in
          let h = self-pos (cross n u) f in
          let e = eq in
          let z = level in
          let x = dot-opposite n w in
          let y = dot-opposite u w in
          let y' : dot u (opposite w) ≡ pos 0 = omega (arith, ints) in
          let ml = L.one d m l hd p.at_d q.at_d in
          let al = one w a l (subst (Near F d w) (ap (by_side a m b) (sign-plus (dot n w) (omega (arith, ints)))) (p.near w)) (subst (Near F d w) (ap (by_side c l g) (ap sign z)) (q.near w)) in
          let bl = one (opposite w) b l (subst (Near F d (opposite w)) (ap (by_side a m b) (sign-minus (dot n (opposite w)) (omega (arith, ints)))) (p.near (opposite w))) (subst (Near F d (opposite w)) (ap (by_side c l g) (ap sign y')) (q.near (opposite w))) in
          proper (al ∙ sym ml) (bl ∙ sym ml)

  -- round a circle that is plain or straight everywhere
  pub sloop-along : ((d : Vector) → IsOnCircle n d → IsSmooth F d) → (y : Vector) → IsDirection y → StraightAt F n a m b y → (d : Vector) → IsOnCircle n d → StraightAt F n a m b d
  sloop-along smooth y hy p d o = ⊎_elim
      (λ z. by (beside y d hy o.direction z))
      (λ f. go y d f o p) (zero-decided (cross y d))
    where
      go : (d e : Vector) → IsDirection (cross d e) → IsOnCircle n e → StraightAt F n a m b d → StraightAt F n a m b e
      go d e f o p = along gs F L (directed-by gs axial) (far_directed-by gs axial) n a m b proper hn (crossings gs d e + 1) d e (omega arith) f o.level (smooth e o)
          (λ i j si sj. smooth (blend i d j e) (record { direction = between-direction d e i j sj f; level = level-blend n d e i j p.level o.level })) p

      by : Beside y d → StraightAt F n a m b d
      by (same_way w) = cells gs F L (directed-by gs axial) (far_directed-by gs axial) n a m b proper y d hy o.direction (λ g l. dir-signs y d g hy w) o.level p
      by (other_way w) =
          let q = cross n y in
          let hq : IsDirection q = λ z. hy (nought-if n y hn z p.level) in
          let lq : dot n q ≡ pos 0 = ring (n.x ∷ n.y ∷ n.z ∷ y.x ∷ y.y ∷ y.z ∷ []) (at 0 ⊗ (at 1 ⊗ at 5 ⊖ at 2 ⊗ at 4) ⊕ at 1 ⊗ (at 2 ⊗ at 3 ⊖ at 0 ⊗ at 5) ⊕ at 2 ⊗ (at 0 ⊗ at 4 ⊖ at 1 ⊗ at 3)) (num (pos 0)) tt in
          let yq : dot y q ≡ pos 0 = ring (n.x ∷ n.y ∷ n.z ∷ y.x ∷ y.y ∷ y.z ∷ []) (at 3 ⊗ (at 1 ⊗ at 5 ⊖ at 2 ⊗ at 4) ⊕ at 4 ⊗ (at 2 ⊗ at 3 ⊖ at 0 ⊗ at 5) ⊕ at 5 ⊗ (at 0 ⊗ at 4 ⊖ at 1 ⊗ at 3)) (num (pos 0)) tt in
          let f = apart y y q (λ z. let h = self-pos y hy in omega (arith, ints)) yq hq in
          let r = go y q f (record { direction = hq; level = lq }) p in
          go q d (λ z. f (parallel-trans y d q o.direction w.parallel (cross-turned q d z))) o r
