-- A direction is plain or straight about it, or not: it is decided, and a plane that is needed there is that of a form.
use Rattle.law_geometry.proofs.sphere.cones.Prelude.{◌≡◌, ℕ, ◌≤◌, ◌⊎◌, pos, ◌+ℤ◌, ◌*ℤ◌, arith, refl, ap, sym, ◌∙◌, inl, inr, ⊎_elim, List, ◌∷◌, subst, ◌-ℤ◌, [], ints, ring, at, num, ◌⊕◌, ◌⊗◌, Sign, minus, nought, plus, sign, sign-plus, sign-minus, by_order, nought-or, Lies, Vector, IsDirection, cross, dot, IsZero, blend, opposite, Label, Decided, decided-both, IsAt, by_side, Labelling, Near, StraightAt, IsSmooth, plain, straight, Proper, dot-comb, amount, Found, search_list, lies-at, at-lies, direction-decided, Axial, zero-decided, zero-dot, self-pos, square-cross, nought-if, dot-comm, dot-opposite, level-both, triple-cycle, triple-turned, same-label_or}
use Rattle.law_geometry.proofs.sphere.cones.Signs.{leading, leading-self, leading-same, leading-off, far-leading, parallel-signs, near-of, near-at, near-by_signs, straight-pos, straight-neg}

-- where two planes meet in a line and a form is nought both there and across, it is a multiple of the first plane's
pub parallel-by : (n d g : Vector) → IsDirection d → dot n d ≡ pos 0 → dot g d ≡ pos 0 → dot g (cross n d) ≡ pos 0 → IsZero (cross n g)
parallel-by n d g h a b c = nought-if d (cross n g) h (level-both d n g (dot-comm d n ∙ a) (dot-comm d g ∙ b)) (triple-cycle d n g ∙ triple-turned n g d ∙ ap (λ r. pos 0 -ℤ r) (triple-cycle n d g ∙ triple-cycle d g n) ∙ omega (arith, ints))

pub proper-decided : (a m b : Label) → Decided (Proper a m b)
proper-decided a m b = by (same-label_or a m) (same-label_or b m)
  where
    by : Decided (a ≡ m) → Decided (b ≡ m) → Decided (Proper a m b)
    by (inl x) (inl y) = inr (λ p. p x y)
    by (inl x) (inr n) = inl (λ u v. n v)
    by (inr n) y = inl (λ u v. n u)

pub even-side : (a m b : Label) (s : Sign) → a ≡ m → b ≡ m → by_side a m b s ≡ m
even-side a m b minus x y = y
even-side a m b nought x y = refl
even-side a m b plus x y = x

pub even-or : (a m b : Label) → (Proper a m b → ⊥) → (a ≡ m) × (b ≡ m)
even-or a m b f = by (same-label_or a m) (same-label_or b m)
  where
    by : Decided (a ≡ m) → Decided (b ≡ m) → (a ≡ m) × (b ≡ m)
    by (inl x) (inl y) = (x, y)
    by (inl x) (inr n) = absurd (f (λ u v. n v))
    by (inr n) y = absurd (f (λ u v. n u))

module _ (gs : List Vector) (F : Vector → Label → Type 0) (L : Labelling gs F) (axial : Axial gs) where
  -- ---- planes that are needed
  pub record FormOf (n : Vector) : Type 0 where
    pub form : Vector
    pub listed : Lies gs form
    pub direction : IsDirection form
    pub parallel : IsZero (cross n form)

  module _ (n : Vector) (a m b : Label) (d : Vector) (hn : IsDirection n) (hd : IsDirection d) (proper : Proper a m b) (p : StraightAt F n a m b d) where
    abbrev c : Vector
    c = cross n d

    level : dot n c ≡ pos 0
    level = square-cross n d

    module _ (off : (g : Vector) → Lies gs g → IsDirection g → IsZero (cross n g) → ⊥) where
      -- no form sees the turn from the plane to u
      same : (u : Vector) (k : ℕ) → amount gs u ≤ k → (g : Vector) → Lies gs g → leading (sign (dot g d)) (sign (dot g (blend k c 1 u))) ≡ leading (sign (dot g d)) (sign (dot g c))
      same u k l g i = leading-same (dot g d) (sign (dot g (blend k c 1 u))) (sign (dot g c)) (λ z. far-leading gs c u k l g i ∙ ⊎_elim
          (λ w. ⊎_elim
          (λ x. ap (λ r. leading (sign r) (sign (dot g u))) (zero-dot g c x) ∙ ap sign (zero-dot g u x) ∙ sym (ap sign (zero-dot g c x)))
          (λ f. absurd (off g i f (parallel-by n d g hd p.level z w))) (zero-decided g))
          (λ f. leading-off (dot g c) (sign (dot g u)) f) (nought-or (dot g c)))

      flat : (u : Vector) (k : ℕ) → amount gs u ≤ k → Near F d (blend k c 1 u) m
      flat u k l = near-by_signs gs F L axial d c d (blend k c 1 u) m hd hd (same u k l) (subst (Near F d c) (ap (by_side a m b) (ap sign level)) (p.near c))

      turned : (u : Vector) (k : ℕ) → dot n (blend k c 1 u) ≡ dot n u
      turned u k = dot-comb n (pos k) c (pos 1) u ∙ ap (λ r. pos k *ℤ r +ℤ pos 1 *ℤ dot n u) level ∙ ring (pos k ∷ dot n u ∷ []) (at 0 ⊗ num (pos 0) ⊕ num (pos 1) ⊗ at 1) (at 1) tt

      needless : ⊥
      needless =
          let h = self-pos n hn in
          let k = amount gs n in
          let j = amount gs (opposite n) in
          let x = turned n k in
          let y = turned (opposite n) j in
          let w = dot-opposite n n in
          proper (straight-pos gs F L axial n a m b d (blend k c 1 n) m hd p (omega (arith, ints)) (flat n k (omega arith)))
          (straight-neg gs F L axial n a m b d (blend j c 1 (opposite n)) m hd p (omega (arith, ints)) (flat (opposite n) j (omega arith)))

    pub proper-form : FormOf n
    proper-form = by (search_list gs (λ k g. IsDirection g × IsZero (cross n g)) (λ k g. decided-both (direction-decided g) (zero-decided (cross n g))))
      where
        by : Found gs (λ k g. IsDirection g × IsZero (cross n g)) ⊎ ((k : ℕ) (g : Vector) → IsAt gs k g → IsDirection g × IsZero (cross n g) → ⊥) → FormOf n
        by (inl f) = record { form = f.element; listed = at-lies gs f.number f.element f.listed; direction = f.holds.0; parallel = f.holds.1 }
        by (inr never) = absurd (needless (λ g i h z. let r = lies-at gs g i in never r.0 g r.1 (h, z)))

  -- ---- straight where all forms that are nought lie in one plane
  abbrev pub label : (z : Vector) → IsDirection z → Label
  label z h = (L.exists z h).0

  abbrev pub beyond : (z e : Vector) → IsDirection z → Label
  beyond z e h = (near-of gs F L axial z e h).0

  pub straight-if : (n z : Vector) → IsDirection n → (h : IsDirection z) → dot n z ≡ pos 0 → ((g : Vector) → Lies gs g → dot g z ≡ pos 0 → IsZero (cross n g))
      → StraightAt F n (beyond z n h) (label z h) (beyond z (opposite n) h) z
  straight-if n z hn h q one = record { level = q; at_d = (L.exists z h).1; near = near }
    where
      side : Sign → Label
      side = by_side (beyond z n h) (label z h) (beyond z (opposite n) h)

      like : (e u : Vector) → sign (dot n e) ≡ sign (dot n u) → (g : Vector) → Lies gs g → leading (sign (dot g z)) (sign (dot g e)) ≡ leading (sign (dot g z)) (sign (dot g u))
      like e u s g l = leading-same (dot g z) (sign (dot g e)) (sign (dot g u)) (λ w. parallel-signs n g e u hn (one g l w) s)

      near : (e : Vector) → Near F z e (side (sign (dot n e)))
      near e = by_order (dot n e) (pos 0)
          (λ l. let w = dot-opposite n n in let p = self-pos n hn in
          subst (Near F z e) (ap side (sym (sign-minus (dot n e) l)))
          (near-by_signs gs F L axial z (opposite n) z e (beyond z (opposite n) h) h h (like e (opposite n) (sign-minus (dot n e) l ∙ sym (sign-minus (dot n (opposite n)) (omega (arith, ints))))) (near-of gs F L axial z (opposite n) h).1))
          (λ w. subst (Near F z e) (ap side (sym (ap sign w)))
          (near-at gs F L axial z e z (label z h) h h (λ g l. sym (like e z (ap sign w ∙ sym (ap sign q)) g l ∙ leading-self (sign (dot g z)))) (L.exists z h).1))
          (λ l. let p = self-pos n hn in
          subst (Near F z e) (ap side (sym (sign-plus (dot n e) l)))
          (near-by_signs gs F L axial z n z e (beyond z n h) h h (like e n (sign-plus (dot n e) l ∙ sym (sign-plus (dot n n) p))) (near-of gs F L axial z n h).1))

  -- off the axes, where at most one plane of forms holds z
  pub smooth-off : (z : Vector) → IsDirection z → ((g h : Vector) → Lies gs g → Lies gs h → dot g z ≡ pos 0 → dot h z ≡ pos 0 → IsDirection (cross g h) → ⊥) → IsSmooth F z
  smooth-off z h off = by (search_list gs (λ k g. IsDirection g × (dot g z ≡ pos 0)) (λ k g. decided-both (direction-decided g) (nought-or (dot g z))))
    where
      by : Found gs (λ k g. IsDirection g × (dot g z ≡ pos 0)) ⊎ ((k : ℕ) (g : Vector) → IsAt gs k g → IsDirection g × (dot g z ≡ pos 0) → ⊥) → IsSmooth F z
      by (inl f) =
          let g = f.element in
          straight g _ _ _ f.holds.0 (straight-if g z f.holds.0 h f.holds.1 (λ k l w. ⊎_elim (λ x. x) (λ i. absurd (off g k (at-lies gs f.number g f.listed) l f.holds.1 w i)) (zero-decided (cross g k))))
      by (inr never) = plain (label z h) (record {
        at_d = (L.exists z h).1;
        near = λ e. near-at gs F L axial z e z (label z h) h h (λ g l. sym (⊎_elim
            (λ x. ap (λ r. leading (sign r) (sign (dot g e))) (zero-dot g z x) ∙ ap sign (zero-dot g e x) ∙ sym (ap sign (zero-dot g z x)))
            (λ i. leading-off (dot g z) (sign (dot g e)) (λ w. let r = lies-at gs g l in never r.0 g r.1 (i, w)))
            (zero-decided g))) (L.exists z h).1;
      })
