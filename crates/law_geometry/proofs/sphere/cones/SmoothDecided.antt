-- It is decided whether a direction is plain or straight about it, and the same for all vectors of its way.
use Rattle.law_geometry.proofs.sphere.cones.Prelude.{◌≡◌, ℕ, pos, arith, refl, ap, sym, ◌∙◌, ◌⊎◌, inl, inr, ⊎_elim, List, ◌∷◌, subst, ints, sign, nought-or, Lies, Vector, IsDirection, dot, SameDirection, opposite, Label, Decided, every, decided-both, same-nought, IsAt, SameSigns, by_side, Labelling, Near, PlainAt, StraightAt, IsSmooth, plain, straight, Proper, Found, search_list, lies-at, direction-decided, Beside, same_way, other_way, beside, flipped, straight-same_way, Axial, self-pos, dir-self, dir-signs, direction-right, parallel-opposite, direction-opposite, dot-opposite, opposite-dot, same-label_or}
use Rattle.law_geometry.proofs.near.Representatives.{representative_directions, representative}
use Rattle.law_geometry.proofs.sphere.cones.Signs.{leading, near-of, near-by_signs, near-one, straight-carried, straight-pos, straight-neg}
use Rattle.law_geometry.proofs.sphere.cones.Smooth.{FormOf, proper-form, proper-decided, even-side, even-or, label, beyond}

module _ (gs : List Vector) (F : Vector → Label → Type 0) (L : Labelling gs F) (axial : Axial gs) where
  module _ (d : Vector) (h : IsDirection d) where
    abbrev pub m : Label
    m = label gs F L axial d h

    plain-decided : Decided (PlainAt F d m)
    plain-decided = ⊎_elim
        (λ c. inr (λ p. c.2 (near-one gs F L axial d c.0 _ m h (near-of gs F L axial d c.0 h).1 (p.near c.0))))
        (λ f. inl (record {
          at_d = (L.exists d h).1;
          near = λ e.
              let v = representative gs e in
              near-by_signs gs F L axial d v.direction d e m h h (λ g l. ap (leading (sign (dot g d))) (v.same g l)) (subst (Near F d v.direction) (f v.direction v.listed) (near-of gs F L axial d v.direction h).1);
        }))
        (every (representative_directions gs) (λ v. beyond gs F L axial d v h ≡ m) (λ v. same-label_or (beyond gs F L axial d v h) m))

    pub straight-decided : (n : Vector) (a b : Label) → Decided (StraightAt F n a m b d)
    straight-decided n a b = by (nought-or (dot n d))
      where
        by : Decided (dot n d ≡ pos 0) → Decided (StraightAt F n a m b d)
        by (inr f) = inr (λ p. f p.level)
        by (inl z) = ⊎_elim
            (λ c. inr (λ p. c.2 (near-one gs F L axial d c.0 _ _ h (near-of gs F L axial d c.0 h).1 (p.near c.0))))
            (λ f. inl (record {
              level = z;
              at_d = (L.exists d h).1;
              near = λ e.
                  let v = representative (n ∷ gs) e in
                  subst (Near F d e) (ap (by_side a m b) (sym (v.same n (inl refl))))
                  (near-by_signs gs F L axial d v.direction d e _ h h (λ g l. ap (leading (sign (dot g d))) (v.same g (inr l)))
                  (subst (Near F d v.direction) (f v.direction v.listed) (near-of gs F L axial d v.direction h).1));
            }))
            (every (representative_directions (n ∷ gs)) (λ v. beyond gs F L axial d v h ≡ by_side a m b (sign (dot n v))) (λ v. same-label_or (beyond gs F L axial d v h) (by_side a m b (sign (dot n v)))))

    -- straight about a plane, with the labels that there are
    abbrev pub Straight : Vector → Type 0
    Straight n = StraightAt F n (beyond gs F L axial d n h) m (beyond gs F L axial d (opposite n) h) d

    pub straight-named : (n : Vector) (a c b : Label) → IsDirection n → StraightAt F n a c b d → (a ≡ beyond gs F L axial d n h) × (c ≡ m) × (b ≡ beyond gs F L axial d (opposite n) h)
    straight-named n a c b hn p =
        let q = self-pos n hn in
        let w = dot-opposite n n in (
          straight-pos gs F L axial n a c b d n _ h p q (near-of gs F L axial d n h).1,
          L.one d c m h p.at_d (L.exists d h).1,
          straight-neg gs F L axial n a c b d (opposite n) _ h p (omega (arith, ints)) (near-of gs F L axial d (opposite n) h).1,
        )

    pub named : (n : Vector) (a c b : Label) → IsDirection n → StraightAt F n a c b d → Straight n
    named n a c b hn p =
        let e = straight-named n a c b hn p in
        subst (λ r. StraightAt F n r m (beyond gs F L axial d (opposite n) h) d) e.0 (subst (λ r. StraightAt F n a m r d) e.2 (subst (λ r. StraightAt F n a r b d) e.1 p))

    flat-plain : (n : Vector) (a c b : Label) → a ≡ c → b ≡ c → StraightAt F n a c b d → PlainAt F d m
    flat-plain n a c b x y p =
        let z = L.one d c m h p.at_d (L.exists d h).1 in
        record { at_d = (L.exists d h).1; near = λ e. subst (Near F d e) (even-side a c b (sign (dot n e)) x y ∙ z) (p.near e) }

    -- a plane that is needed is that of a form
    by_form : (n : Vector) (a c b : Label) → IsDirection n → Proper a c b → StraightAt F n a c b d → (g : Vector) × Lies gs g × IsDirection g × Straight g
    by_form n a c b hn q p = by (proper-form gs F L axial n a c b d hn h q p)
      where
        by : FormOf gs F L axial n → (g : Vector) × Lies gs g × IsDirection g × Straight g
        by f = (f.form, f.listed, f.direction, cases (beside n f.form hn f.direction f.parallel))
          where
            cases : Beside n f.form → Straight f.form
            cases (same_way w) = named f.form a c b f.direction (straight-same_way F n f.form a c b d hn w p)
            cases (other_way o) = named f.form b c a f.direction (straight-same_way F (opposite n) f.form b c a d (direction-opposite n hn)
                (record { parallel = parallel-opposite n f.form o.parallel; forward = let e = opposite-dot n f.form in let k = o.backward in omega (arith, ints) }) (flipped F n a c b d p))

    pub smooth-decided : Decided (IsSmooth F d)
    smooth-decided = by plain-decided (search_list gs (λ k g. IsDirection g × Straight g) (λ k g. decided-both (direction-decided g) (straight-decided g (beyond gs F L axial d g h) (beyond gs F L axial d (opposite g) h))))
      where
        never : (PlainAt F d m → ⊥) → ((k : ℕ) (g : Vector) → IsAt gs k g → IsDirection g × Straight g → ⊥) → IsSmooth F d → ⊥
        never f g (plain l p) = f (subst (PlainAt F d) (L.one d l m h p.at_d (L.exists d h).1) p)
        never f g (straight n a c b hn p) = ⊎_elim
            (λ q. let r = by_form n a c b hn q p in let k = lies-at gs r.0 r.1 in g k.0 r.0 k.1 (r.2, r.3))
            (λ q. let e = even-or a c b q in f (flat-plain n a c b e.0 e.1 p)) (proper-decided a c b)

        by : Decided (PlainAt F d m) → Found gs (λ k g. IsDirection g × Straight g) ⊎ ((k : ℕ) (g : Vector) → IsAt gs k g → IsDirection g × Straight g → ⊥) → Decided (IsSmooth F d)
        by (inl p) r = inl (plain m p)
        by (inr f) (inl r) = inl (straight r.element _ _ _ r.holds.0 r.holds.1)
        by (inr f) (inr g) = inr (never f g)

  pub smooth-same : (d e : Vector) → IsDirection d → SameDirection d e → IsSmooth F d → IsSmooth F e
  smooth-same d e h w s = by s
    where
      he : IsDirection e
      he = direction-right d e w

      same : SameSigns gs d e
      same g l = dir-signs d e g h w

      by : IsSmooth F d → IsSmooth F e
      by (plain m p) = plain m (record {
        at_d = L.cells d e m h he same p.at_d;
        near = λ u. near-by_signs gs F L axial d u e u m h he (λ g l. ap (λ r. leading r (sign (dot g u))) (same g l)) (p.near u);
      })
      by (straight n a m b hn p) = straight n a m b hn (straight-carried gs F L axial n n a m b d e h he (dir-self n hn) (same-nought (dot n d) (dot n e) (dir-signs d e n h w) p.level) same p)
