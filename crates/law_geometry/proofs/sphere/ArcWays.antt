-- Directions on an arc, and that what short ways along an arc carry on holds all along it.
use Rattle.law_geometry.proofs.sphere.Prelude.{◌≡◌, ℕ, ◌<◌, ◌≤◌, ℤ, pos, ◌+ℤ◌, ◌*ℤ◌, ◌<ℤ◌, arith, ap, sym, ◌∙◌, inl, inr, ⊎_elim, ◌∷◌, subst, neg_ℤ, [], ints, ring, at, num, ◌⊕◌, ◌⊖◌, ◌⊗◌, by_order, mul_pos, Vector, IsDirection, cross, triple, dot, SameDirection, IsOpposite, blend, opposite, IsStrictlyOn, dot-comm, zero-decided, dot-zero, self-pos, triple-dot, cross-turned, triple-middle, nought-if, triple-turned, opposites, SameDirection-trans, parallel-trans, parallel-in_plane, dot-opposite, opposite-itself, level-blend}
use Rattle.law_geometry.proofs.sphere.Vectors.{dot-comb, direction-by, same-plus}
use Rattle.law_geometry.proofs.sphere.Generic.{amount}
use Rattle.law_geometry.proofs.sphere.Parallel.{past_source, arc-point, there-ahead}
use Rattle.law_geometry.proofs.sphere.Shot.{product-off}
use Rattle.law_geometry.proofs.sphere.Around.{Beside, same_way, other_way, beside, opposite-triple, turn-plus}
use Rattle.law_geometry.proofs.sphere.Turn.{turn-last}

pub triple-blend : (n s d e : Vector) (i j : ℕ) → triple n s (blend i d j e) ≡ pos i *ℤ triple n s d +ℤ pos j *ℤ triple n s e
triple-blend n s d e i j = triple-dot n s (blend i d j e) ∙ dot-comb (cross n s) (pos i) d (pos j) e ∙ ap (λ r. pos i *ℤ r +ℤ pos j *ℤ dot (cross n s) e) (sym (triple-dot n s d)) ∙ ap (λ r. pos i *ℤ triple n s d +ℤ pos j *ℤ r) (sym (triple-dot n s e))

pub blend-triple : (n t d e : Vector) (i j : ℕ) → triple n (blend i d j e) t ≡ pos i *ℤ triple n d t +ℤ pos j *ℤ triple n e t
blend-triple n t d e i j = triple-middle n (blend i d j e) t ∙ dot-comb (cross t n) (pos i) d (pos j) e ∙ ap (λ r. pos i *ℤ r +ℤ pos j *ℤ dot (cross t n) e) (sym (triple-middle n d t)) ∙ ap (λ r. pos i *ℤ triple n d t +ℤ pos j *ℤ r) (sym (triple-middle n e t))

plus-plus : (a b : ℤ) (i j : ℕ) → 0 < i → 0 < j → pos 0 <ℤ a → pos 0 <ℤ b → pos 0 <ℤ (pos i *ℤ a +ℤ pos j *ℤ b)
plus-plus a b i j si sj h k = let p = mul_pos (pos i) a (omega (arith, ints)) h in let q = mul_pos (pos j) b (omega (arith, ints)) k in omega (arith, ints)

plus-nought : (a b : ℤ) (i j : ℕ) → 0 < i → pos 0 <ℤ a → b ≡ pos 0 → pos 0 <ℤ (pos i *ℤ a +ℤ pos j *ℤ b)
plus-nought a b i j si h z = let p = mul_pos (pos i) a (omega (arith, ints)) h in let q = ap (λ r. pos j *ℤ r) z in let e = ring (pos j ∷ []) (at 0 ⊗ num (pos 0)) (num (pos 0)) tt in omega (arith, ints)

module _ (n s t : Vector) (hn : IsDirection n) (hs : IsDirection s) (ht : IsDirection t) (ls : dot n s ≡ pos 0) (lt : dot n t ≡ pos 0) where
  -- on the first half
  pub on-ahead : (w : Vector) → dot n w ≡ pos 0 → pos 0 <ℤ triple n s w → (pos 0 <ℤ triple n s t → pos 0 <ℤ triple n w t) → IsStrictlyOn n s t w
  on-ahead w l h g = record {
    on_circle = record { direction = direction-by (cross n s) w (λ z. let e = triple-dot n s w in omega (arith, ints)); level = l };
    not_source = λ x. let e = dot-zero n (cross s w) x.parallel in omega (arith, ints);
    not_target = λ x. let p = g (same-plus (triple n s w) (triple n s t) (sym (turn-last n s t w x)) h) in let e = dot-zero n (cross w t) (cross-turned t w x.parallel) in omega (arith, ints);
    less_than_half = λ p. (h, g p);
    more_than_half = λ p. inl h;
    just_half = λ o. h;
  }

  -- beyond the first half
  on-behind : (w : Vector) → IsDirection w → dot n w ≡ pos 0 → (pos 0 <ℤ triple n s t → ⊥) → (IsOpposite s t → ⊥) → (SameDirection s w → ⊥) → (triple n s t <ℤ pos 0 → pos 0 <ℤ triple n w t) → IsStrictlyOn n s t w
  on-behind w h l p o x g = record {
    on_circle = record { direction = h; level = l };
    not_source = x;
    not_target = λ y. by_order (triple n s t) (pos 0)
        (λ m. let q = g m in let e = dot-zero n (cross w t) (cross-turned t w y.parallel) in omega (arith, ints))
        (λ z. by y (beside s t hs ht (parallel-in_plane n s t hn ls lt z)))
        p;
    less_than_half = λ q. absurd (p q);
    more_than_half = λ m. inr (g m);
    just_half = λ q. absurd (o q);
  }
    where
      by : SameDirection t w → Beside s t → ⊥
      by y (same_way q) = x (SameDirection-trans s t w q y)
      by y (other_way q) = o q

module _ (n s t : Vector) (hn : IsDirection n) (hs : IsDirection s) (ht : IsDirection t) (ls : dot n s ≡ pos 0) (lt : dot n t ≡ pos 0) (P : Vector → Type 0)
    (carry : (d e : Vector) → IsStrictlyOn n s t d → IsStrictlyOn n s t e → SameDirection d e → P d → P e)
    (short : (d e : Vector) → IsStrictlyOn n s t d → IsStrictlyOn n s t e → IsDirection (cross d e) → ((i j : ℕ) → 0 < i → 0 < j → IsStrictlyOn n s t (blend i d j e)) → P d → P e)
    (K : ℕ) (large : amount (cross t n ∷ []) (cross n s) ≤ K) (start : P (past_source n s K)) where
  segment : (d e : Vector) → IsStrictlyOn n s t d → (IsOpposite d e → ⊥) → IsStrictlyOn n s t e → (IsDirection (cross d e) → (i j : ℕ) → 0 < i → 0 < j → IsStrictlyOn n s t (blend i d j e)) → P d → P e
  segment d e a off o between p = ⊎_elim
      (λ z. same (beside d e a.on_circle.direction o.on_circle.direction z))
      (λ f. short d e a o f (between f) p) (zero-decided (cross d e))
    where
      same : Beside d e → P e
      same (same_way w) = carry d e a o w p
      same (other_way w) = absurd (off w)

  abbrev y : Vector
  y = past_source n s K

  on-y : IsStrictlyOn n s t y
  on-y = arc-point n s t hn hs ht ls lt K large

  y-ahead : pos 0 <ℤ triple n s y
  y-ahead = there-ahead n s t hn hs ht ls lt K large

  -- two directions ahead of the source aren't opposite
  ahead-not_opposite : (d e : Vector) → IsDirection d → pos 0 <ℤ triple n s d → pos 0 <ℤ triple n s e → IsOpposite d e → ⊥
  ahead-not_opposite d e hd h k o =
      let q = opposite-triple n d s e hd o.parallel in
      let x = triple-turned n e s in
      let z = triple-turned n d s in
      let r = turn-plus (dot d d) (dot d e) (triple n e s) (triple n d s) (self-pos d hd) q o.backward (omega (arith, ints)) in
      omega (arith, ints)

  -- ahead of the source, on the first half
  first-half : (d : Vector) → IsStrictlyOn n s t d → pos 0 <ℤ triple n s d → P d
  first-half d o h = segment y d on-y (ahead-not_opposite y d on-y.on_circle.direction y-ahead h) o
      (λ f i j si sj. on-ahead n s t hn hs ht ls lt (blend i y j d) (level-blend n y d i j on-y.on_circle.level o.on_circle.level)
      (subst (λ (r : ℤ). pos 0 <ℤ r) (sym (triple-blend n s y d i j)) (plus-plus (triple n s y) (triple n s d) i j si sj y-ahead h))
      (λ p. subst (λ (r : ℤ). pos 0 <ℤ r) (sym (blend-triple n t y d i j)) (plus-plus (triple n y t) (triple n d t) i j si sj (let q = on-y.less_than_half p in q.1) (let q = o.less_than_half p in q.1)))) start

  abbrev quarter : Vector
  quarter = cross n s

  abbrev half : Vector
  half = opposite s

  module _ (d : Vector) (o : IsStrictlyOn n s t d) (h : pos 0 <ℤ triple n s d → ⊥) where
    not-less : pos 0 <ℤ triple n s t → ⊥
    not-less p = let q = o.less_than_half p in h q.0

    not-half : IsOpposite s t → ⊥
    not-half p = h (o.just_half p)

    far-side : triple n s t <ℤ pos 0 → pos 0 <ℤ triple n d t
    far-side p = ⊎_elim (λ q. absurd (h q)) (λ q. q) (o.more_than_half p)

    quarter-level : dot n quarter ≡ pos 0
    quarter-level = ring (n.x ∷ n.y ∷ n.z ∷ s.x ∷ s.y ∷ s.z ∷ []) (at 0 ⊗ (at 1 ⊗ at 5 ⊖ at 2 ⊗ at 4) ⊕ at 1 ⊗ (at 2 ⊗ at 3 ⊖ at 0 ⊗ at 5) ⊕ at 2 ⊗ (at 0 ⊗ at 4 ⊖ at 1 ⊗ at 3)) (num (pos 0)) tt

    quarter-direction : IsDirection quarter
    quarter-direction z = hs (nought-if n s hn z ls)

    quarter-ahead : pos 0 <ℤ triple n s quarter
    quarter-ahead = subst (λ (r : ℤ). pos 0 <ℤ r) (sym (triple-dot n s quarter)) (self-pos quarter quarter-direction)

    on-quarter : IsStrictlyOn n s t quarter
    on-quarter = on-ahead n s t hn hs ht ls lt quarter quarter-level quarter-ahead (λ p. absurd (not-less p))

    at-quarter : P quarter
    at-quarter = first-half quarter on-quarter quarter-ahead

    half-opposite : IsOpposite s half
    half-opposite = opposite-itself s hs

    half-direction : IsDirection half
    half-direction z = let q = half-opposite in let e = dot-zero s half z in let k = q.backward in omega (arith, ints)

    half-level : dot n half ≡ pos 0
    half-level = let e = dot-opposite n s in omega (arith, ints)

    half-turn : triple n half t ≡ neg_ℤ (triple n s t)
    half-turn = triple-middle n half t ∙ dot-opposite (cross t n) s ∙ ap neg_ℤ (sym (triple-middle n s t))

    on-half : IsStrictlyOn n s t half
    on-half = on-behind n s t hn hs ht ls lt half half-direction half-level not-less not-half (λ w. let q = half-opposite in let k = q.backward in let j = w.forward in omega (arith, ints)) (λ p. let e = half-turn in omega (arith, ints))

    at-half : P half
    at-half = segment quarter half on-quarter square-not on-half
        (λ f i j si sj. on-ahead n s t hn hs ht ls lt (blend i quarter j half) (level-blend n quarter half i j quarter-level half-level)
        (subst (λ (r : ℤ). pos 0 <ℤ r) (sym (triple-blend n s quarter half i j)) (plus-nought (triple n s quarter) (triple n s half) i j si quarter-ahead (let q = half-opposite in dot-zero n (cross s half) q.parallel)))
        (λ p. absurd (not-less p))) at-quarter
      where
        -- quarter and half are at right angles
        square-not : IsOpposite quarter half → ⊥
        square-not q =
            let k = q.backward in
            let e = dot-opposite quarter s in
            let z : dot quarter s ≡ pos 0 = ring (n.x ∷ n.y ∷ n.z ∷ s.x ∷ s.y ∷ s.z ∷ []) ((at 1 ⊗ at 5 ⊖ at 2 ⊗ at 4) ⊗ at 3 ⊕ (at 2 ⊗ at 3 ⊖ at 0 ⊗ at 5) ⊗ at 4 ⊕ (at 0 ⊗ at 4 ⊖ at 1 ⊗ at 3) ⊗ at 5) (num (pos 0)) tt in
            omega (arith, ints)

    second-half : P d
    second-half = segment half d on-half not-opposite o between at-half
      where
        not-opposite : IsOpposite half d → ⊥
        not-opposite q = o.not_source (opposites half s d half-direction (record { parallel = cross-turned s half (let w = half-opposite in w.parallel); backward = let e = dot-comm half s in let w = half-opposite in let k = w.backward in omega (arith, ints) }) q)

        between : IsDirection (cross half d) → (i j : ℕ) → 0 < i → 0 < j → IsStrictlyOn n s t (blend i half j d)
        between f i j si sj = on-behind n s t hn hs ht ls lt (blend i half j d) (direction-by (cross n s) (blend i half j d) (λ z. off (triple-dot n s (blend i half j d) ∙ z)))
            (level-blend n half d i j half-level o.on_circle.level) not-less not-half (λ w. off (dot-zero n (cross s (blend i half j d)) w.parallel))
            (λ p. subst (λ (r : ℤ). pos 0 <ℤ r) (sym (blend-triple n t half d i j)) (plus-plus (triple n half t) (triple n d t) i j si sj (let e = half-turn in omega (arith, ints)) (far-side p)))
          where
            off : triple n s (blend i half j d) ≡ pos 0 → ⊥
            off z =
                let e = triple-blend n s half d i j in
                let q = half-opposite in
                let u = ap (λ r. pos i *ℤ r) (dot-zero n (cross s half) q.parallel) in
                product-off (pos j) (triple n s d) (omega (arith, ints)) (λ x. f (parallel-trans half s d hs (cross-turned s half q.parallel) (parallel-in_plane n s d hn ls o.on_circle.level x))) (omega (arith, ints))

  -- from just after the source everywhere on the arc
  pub arc-all : (d : Vector) → IsStrictlyOn n s t d → P d
  arc-all d o = by_order (triple n s d) (pos 0) (λ l. second-half d o (λ h. omega (arith, ints))) (λ z. second-half d o (λ h. omega (arith, ints))) (λ l. first-half d o l)
