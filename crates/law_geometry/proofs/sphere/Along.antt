-- Along a circle, between directions that are neither plain nor straight, the labels beside the circle stay.
use Rattle.law_geometry.proofs.sphere.Prelude.{◌≡◌, ℕ, zero, suc, ◌+◌, ◌*◌, ◌<◌, ◌≤◌, pos, ◌+ℤ◌, ◌*ℤ◌, arith, refl, ap, sym, ◌∙◌, ◌⊎◌, inl, inr, ⊎_elim, List, ◌∷◌, subst, true, false, [], ints, mul-pos, ring, at, num, ◌⊕◌, ◌⊗◌, Sign, sign, sign-plus, sign-minus, nought-or, Lies, Vector, IsDirection, cross, dot, blend, opposite, Label, SameSigns, by_side, Labelling, Near, StraightAt, IsSmooth, plain, straight, Decided, same-off, same-nought, self-pos, blend-turned, left-of, right-of, dot-opposite}
use Rattle.law_geometry.proofs.sphere.Vectors.{dot-comb}
use Rattle.law_geometry.proofs.sphere.Generic.{amount, far-keeps, far-level}
use Rattle.law_geometry.proofs.sphere.Direct.{cross-between}
use Rattle.law_geometry.proofs.sphere.Walk.{between-direction, cross-direction_left, cross-direction_right, crosses, crossings, find-crossing, uncrossed-same, cut, cross-onward}

-- z, then w, then e: the two ways to write it have the same signs
far-far : (gs : List Vector) (z w e : Vector) (k j i l : ℕ) → amount gs w ≤ k → amount gs e ≤ j → amount gs e ≤ i → amount gs (blend i w 1 e) ≤ l
    → SameSigns gs (blend l z 1 (blend i w 1 e)) (blend j (blend k z 1 w) 1 e)
far-far gs z w e k j i l hk hj hi hl g m = ⊎_elim
    (λ a. ⊎_elim
    (λ b. far-level gs (blend k z 1 w) e j hj g (same-nought (dot g w) (dot g (blend k z 1 w)) (far-level gs z w k hk g a) b)
    ∙ sym (far-level gs w e i hi g b) ∙ sym (far-level gs z (blend i w 1 e) l hl g a))
    (λ f. let s = far-level gs z w k hk g a in
    far-keeps gs (blend k z 1 w) e j hj g m (same-off (dot g w) (dot g (blend k z 1 w)) s f) ∙ s ∙ sym (far-keeps gs w e i hi g m f) ∙ sym (far-level gs z (blend i w 1 e) l hl g a))
    (nought-or (dot g w)))
    (λ f. let s = far-keeps gs z w k hk g m f in
    far-keeps gs (blend k z 1 w) e j hj g m (same-off (dot g z) (dot g (blend k z 1 w)) s f) ∙ s ∙ sym (far-keeps gs z (blend i w 1 e) l hl g m f))
    (nought-or (dot g z))

pub near-same_cell : (gs : List Vector) (d c e : Vector) (k : ℕ) → amount gs e ≤ k → SameSigns gs d c → SameSigns gs (blend k d 1 e) (blend k c 1 e)
near-same_cell gs d c e k h s g m = ⊎_elim
    (λ z. far-level gs c e k h g (same-nought (dot g d) (dot g c) (s g m) z) ∙ sym (far-level gs d e k h g z))
    (λ f. far-keeps gs c e k h g m (same-off (dot g d) (dot g c) (s g m) f) ∙ s g m ∙ sym (far-keeps gs d e k h g m f)) (nought-or (dot g d))

-- a labelling whose cells need no directions: one that looks at the axes too
module _ (gs : List Vector) (F : Vector → Label → Type 0) (L : Labelling gs F) (directed : (d e : Vector) → SameSigns gs d e → IsDirection d → IsDirection e)
    (far_directed : (d e : Vector) (k : ℕ) → amount gs e ≤ k → IsDirection d → IsDirection (blend k d 1 e))
    (n : Vector) (a m b : Label) (proper : a ≡ m → b ≡ m → ⊥) where
  abbrev P : Vector → Type 0
  P z = StraightAt F n a m b z

  abbrev side : Sign → Label
  side = by_side a m b

  one-of : (d : Vector) (k l : Label) → IsDirection d → F d k → F d l → k ≡ l
  one-of d k l h f g = L.one d k l h f g

  -- what is near z toward w, and from there toward e
  pub near-near : (z w e : Vector) (k : ℕ) → IsDirection z → amount gs w ≤ k → (l : Label) (low : ℕ) → ((i : ℕ) → low ≤ i → Near F z (blend i w 1 e) l) → Near F (blend k z 1 w) e l
  near-near z w e k h hk l low f = (
    amount gs e,
    λ j hj.
        let i = amount gs e + low in
        let r = f i (omega arith) in
        let t = r.0 + amount gs (blend i w 1 e) in
        let u = blend t z 1 (blend i w 1 e) in
        let s = far-far gs z w e k j i t hk hj (omega arith) (omega arith) in
        let hu = far_directed z (blend i w 1 e) t (omega arith) h in
        L.cells u (blend j (blend k z 1 w) 1 e) l hu (directed u (blend j (blend k z 1 w) 1 e) s hu) s (r.1 t (omega arith)),
  )

  pub cells : (d e : Vector) → IsDirection d → IsDirection e → SameSigns gs d e → dot n e ≡ pos 0 → P d → P e
  cells d e hd he s z p = record {
    level = z;
    at_d = L.cells d e m hd he s p.at_d;
    near = λ w. let r = p.near w in (
      r.0 + amount gs w,
      λ k l.
          L.cells (blend k d 1 w) (blend k e 1 w) (side (sign (dot n w))) (far_directed d w k (omega arith) hd) (far_directed e w k (omega arith) he) (near-same_cell gs d e w k (omega arith) s) (r.1 k (omega arith)),
    );
  }

  level-between : (z w : Vector) (i j : ℕ) → dot n z ≡ pos 0 → dot n w ≡ pos 0 → dot n (blend i z j w) ≡ pos 0
  level-between z w i j p q = dot-comb n (pos i) z (pos j) w ∙ ap (λ r. pos i *ℤ r +ℤ pos j *ℤ dot n w) p ∙ ap (λ r. pos i *ℤ pos 0 +ℤ pos j *ℤ r) q ∙ ring (pos i ∷ pos j ∷ []) (at 0 ⊗ num (pos 0) ⊕ at 1 ⊗ num (pos 0)) (num (pos 0)) tt

  -- straight at z, then straight close to z along the circle
  pub onward : (z w : Vector) → IsDirection z → dot n w ≡ pos 0 → P z → (k : ℕ) × ((i : ℕ) → k ≤ i → P (blend i z 1 w))
  onward z w h q p =
      let r = p.near w in (
        r.0 + amount gs w,
        λ i l. record {
          level = level-between z w i 1 p.level q;
          at_d = subst (F (blend i z 1 w)) (ap side (ap sign q)) (r.1 i (omega arith));
          near = λ e. near-near z w e i h (omega arith) (side (sign (dot n e))) 0 (λ j s. subst (Near F z (blend j w 1 e)) (ap side (same e j)) (p.near (blend j w 1 e)));
        },
      )
    where
      same : (e : Vector) (j : ℕ) → sign (dot n (blend j w 1 e)) ≡ sign (dot n e)
      same e j = ap sign (dot-comb n (pos j) w (pos 1) e ∙ ap (λ r. pos j *ℤ r +ℤ pos 1 *ℤ dot n e) q ∙ ring (pos j ∷ dot n e ∷ []) (at 0 ⊗ num (pos 0) ⊕ num (pos 1) ⊗ at 1) (at 1) tt)

  abbrev down : Vector
  down = opposite n

  pub near-one : (y e : Vector) (k l : Label) → IsDirection y → Near F y e k → Near F y e l → k ≡ l
  near-one y e k l hy (i, f) (j, g) = let t = i + j + amount gs e in one-of (blend t y 1 e) k l (far_directed y e t (omega arith) hy) (f t (omega arith)) (g t (omega arith))

  -- one label all around a straight direction: then it isn't proper
  pub not-even : IsDirection n → (y : Vector) → IsDirection y → P y → (l : Label) → F y l → ((e : Vector) → Near F y e l) → ⊥
  not-even hn y hy p l f g =
      let h = self-pos n hn in
      let o = one-of y m l hy p.at_d f in
      let e = dot-opposite n n in
      proper (ap side (sym (sign-plus (dot n n) h)) ∙ near-one y n _ l hy (p.near n) (g n) ∙ sym o)
      (ap side (sym (sign-minus (dot n down) (omega (arith, ints)))) ∙ near-one y down _ l hy (p.near down) (g down) ∙ sym o)

  -- straight close to z along the circle, then straight at z
  back : IsDirection n → (z w : Vector) → IsDirection z → dot n z ≡ pos 0 → dot n w ≡ pos 0 → IsSmooth F z → (k : ℕ) × ((i : ℕ) → k ≤ i → P (blend i z 1 w)) → P z
  back hn z w h lz lw (plain l p) (k, f) =
      let r = p.near w in
      let i = k + r.0 + amount gs w in
      let y = blend i z 1 w in
      absurd (not-even hn y (far_directed z w i (omega arith) h) (f i (omega arith)) l (r.1 i (omega arith)) (λ e. near-near z w e i h (omega arith) l 0 (λ j s. p.near (blend j w 1 e))))
  back hn z w h lz lw (straight u c l g hu p) (k, f) = by (nought-or (dot u w))
    where
      hy : IsDirection (blend (k + (let r = p.near w in r.0) + amount gs w) z 1 w)
      hy = far_directed z w (k + (let r = p.near w in r.0) + amount gs w) (omega arith) h

      by : Decided (dot u w ≡ pos 0) → P z
      by (inl q) =
          let r = p.near w in
          let t = k + r.0 + amount gs w in
          let y = blend t z 1 w in
          let o = f t (omega arith) in
          let x = one-of y m l hy o.at_d (subst (F y) (ap (by_side c l g) (ap sign q)) (r.1 t (omega arith))) in
          record {
            level = lz;
            at_d = subst (F z) (sym x) p.at_d;
            near = λ e.
                let v = near-near z w e t h (omega arith) (by_side c l g (sign (dot u e))) 0 (λ j s. subst (Near F z (blend j w 1 e)) (ap (by_side c l g) (flat q e j)) (p.near (blend j w 1 e))) in
                subst (Near F z e) (sym (near-one y e _ _ hy (o.near e) v)) (p.near e);
          }
        where
          flat : dot u w ≡ pos 0 → (e : Vector) (j : ℕ) → sign (dot u (blend j w 1 e)) ≡ sign (dot u e)
          flat q e j = ap sign (dot-comb u (pos j) w (pos 1) e ∙ ap (λ r. pos j *ℤ r +ℤ pos 1 *ℤ dot u e) q ∙ ring (pos j ∷ dot u e ∷ []) (at 0 ⊗ num (pos 0) ⊕ num (pos 1) ⊗ at 1) (at 1) tt)
      by (inr q) =
          let r = p.near w in
          let t = k + r.0 + amount gs w in
          let y = blend t z 1 w in
          absurd (not-even hn y hy (f t (omega arith)) (by_side c l g (sign (dot u w))) (r.1 t (omega arith)) (λ e. near-near' e))
        where
          -- the form u keeps its sign at j w + e for large j
          near-near' : (e : Vector) → Near F (blend (k + (let r = p.near w in r.0) + amount gs w) z 1 w) e (by_side c l g (sign (dot u w)))
          near-near' e = near-near z w e (k + (let r = p.near w in r.0) + amount gs w) h (omega arith) (by_side c l g (sign (dot u w))) (amount (u ∷ []) e)
              (λ j s. subst (Near F z (blend j w 1 e)) (ap (by_side c l g) (far-keeps (u ∷ []) w e j s u (inl refl) q)) (p.near (blend j w 1 e)))

  module _ (hn : IsDirection n) where
    -- no form changes sign
    on-cell : (d e : Vector) → IsDirection (cross d e) → ((g : Vector) → Lies gs g → crosses g d e ≡ false) → dot n e ≡ pos 0 → IsSmooth F e → P d → P e
    on-cell d e f none le se p =
        let r = onward d e (cross-direction_left d e f) le p in
        let k = r.0 + 1 in
        back hn e d (cross-direction_right d e f) le p.level se (
          1,
          λ l sl. subst P (blend-turned 1 l d e)
              (cells (blend k d 1 e) (blend 1 d l e) (between-direction d e k 1 (omega arith) f) (between-direction d e 1 l sl f) (uncrossed-same gs d e none k l (omega arith) sl) (level-between d e 1 l p.level le) (r.1 k (omega arith))),
        )

    -- along the circle of n from d to e, over plain and straight directions alone
    pub along : (f : ℕ) (d e : Vector) → crossings gs d e < f → IsDirection (cross d e) → dot n e ≡ pos 0 → IsSmooth F e → ((i j : ℕ) → 0 < i → 0 < j → IsSmooth F (blend i d j e)) → P d → P e
    along zero d e h f le se W p = absurd (omega arith)
    along (suc fuel) d e h f le se W p = by (λ d' e' h' f' l' s' W' p'. along fuel d' e' h' f' l' s' W' p') (find-crossing gs d e)
      where
        by : ((d e : Vector) → crossings gs d e < fuel → IsDirection (cross d e) → dot n e ≡ pos 0 → IsSmooth F e → ((i j : ℕ) → 0 < i → 0 < j → IsSmooth F (blend i d j e)) → P d → P e)
            → ((g : Vector) → Lies gs g → crosses g d e ≡ false) ⊎ ((g : Vector) × Lies gs g × (crosses g d e ≡ true)) → P e
        by go (inl none) = on-cell d e f none le se p
        by go (inr (g, l, c)) =
            let s = cut gs d e g l c in
            let x = s.i in
            let y = s.j in
            let z = blend x d y e in
            let lz = level-between d e x y p.level le in
            let left = go d z (let q = s.fewer_left in omega arith) (cross-between d e x y s.some_j f) lz (W x y s.some_i s.some_j)
            (λ i j si sj. let u = mul-pos sj s.some_i in subst (IsSmooth F) (left-of i j x y d e) (W (i + j * x) (j * y) (omega arith) (mul-pos sj s.some_j))) p in
            go z e (let q = s.fewer_right in omega arith) (cross-onward d e x y s.some_i f) le se
            (λ i j si sj. subst (IsSmooth F) (right-of i j x y d e) (W (i * x) (i * y + j) (mul-pos si s.some_i) (omega arith))) left
