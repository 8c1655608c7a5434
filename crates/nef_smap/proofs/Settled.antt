-- By what lies over directions, free directions are plain and directions on items straight, and round a svertex without arcs there is one label.
use Rattle.nef_smap.proofs.Prelude.{◌≡◌, ℕ, ◌+◌, ◌<◌, ◌≤◌, pos, ◌+ℤ◌, ◌*ℤ◌, ◌<ℤ◌, nat_abs, arith, refl, ap, sym, ◌∙◌, inl, inr, ◌∷◌, subst, Some, ints, Sign, sign, sign-plus, sign-minus, by_order, nought-is, Lies, Vector, IsDirection, IsZero, cross, dot, SameDirection, blend, Label, Out, same-off, sign-large, IsAt, MapVertex, Map, Item, items, item_normal, OnItem, IsFree, Side, neg_item, HasArc, Shaped, Keeps, by_side, Near, PlainAt, StraightAt, dot-comb, same-plus, same-minus, is-at_one, item-forms, normal-form, on-level, amount, far-keeps, far-level, cross-between, direction-around, svertex-around, free-around, item-stays, free-beside, over_forms, first_sign, Stands, met, BelowFirsts, self-pos}
use Rattle.nef_smap.proofs.Rise.{form-over, keeps-then, forms-kept}
use Rattle.nef_smap.proofs.Over.{touches-back, first-one}
use Rattle.nef_smap.proofs.Stands.{first-none, stand, stands, stands-keeps}
use Rattle.nef_smap.proofs.Close.{Clean}
use Rattle.nef_smap.proofs.Common.{all-meet, AllMeet}
use Rattle.nef_smap.proofs.Labelled.{turned-form, LabelAbove, by_one, not_free}
use Rattle.nef_smap.proofs.Clean.{free-clean, item-clean, lone-clean, lone-untouched, lower-first}

module _ (M : Map) (V : Shaped M) (u : Vector) (ahead : (k : ℕ) (x : Item) → IsAt (items M) k x → pos 0 <ℤ dot (item_normal x) u)
    (G : Side → Label) (top : Label) (firsts : (k : ℕ) (v : MapVertex) → IsAt M.svertices k v → BelowFirsts M u v.dir) (joins : (k : ℕ) (v : MapVertex) (a : IsAt M.svertices k v) → (let j = firsts k v a in met G top j.left ≡ met G top j.right)) (e : Vector) where
  abbrev F : Vector → Label → Type 0
  F = LabelAbove M u e G top

  module _ (d : Vector) (f : IsDirection (cross u d)) where
    abbrev l : Vector
    l = cross u d

    -- what is over all directions close to d
    abbrev over_label : Label
    over_label = let c = all-meet M V u ahead d f G top firsts joins in c.0

    over-all : AllMeet M V u ahead d f G top firsts joins over_label
    over-all = let c = all-meet M V u ahead d f G top firsts joins in c.1

    -- a direction close to z, to one side of the meridian of z, and off that of d
    abbrev viewer : Vector → Vector
    viewer z = stand (l ∷ over_forms M u) z (cross u z) e

    viewer-stands : (z : Vector) → Stands (over_forms M u) z (cross u z) e (viewer z)
    viewer-stands z g i = stands (l ∷ over_forms M u) z (cross u z) e g (inr i)

    viewer-keeps : (z : Vector) → Keeps (over_forms M u) z (viewer z)
    viewer-keeps z = stands-keeps (over_forms M u) z (cross u z) e (viewer z) (viewer-stands z)

    viewer-off : (z : Vector) → (dot l (cross u z) ≡ pos 0 → ⊥) → dot l (viewer z) ≡ pos 0 → ⊥
    viewer-off z n q =
        let a = sym (stands (l ∷ over_forms M u) z (cross u z) e l (inl refl)) ∙ ap sign q in
        let b = first-none (sign (dot l z)) (first_sign (sign (dot l (cross u z))) (sign (dot l e))) a in
        let c = first-none (sign (dot l (cross u z))) (sign (dot l e)) b.1 in
        n (nought-is (dot l (cross u z)) c.0)

    close : (z : Vector) → Keeps (over_forms M u) d z → (dot l (cross u z) ≡ pos 0 → ⊥) → IsFree M z → ((y : Vector) → Keeps (over_forms M u) d y → Keeps (over_forms M u) z y → Clean M V u ahead d f y) → F z over_label
    close z k n Z clean =
        let y = viewer z in
        let near = keeps-then (over_forms M u) d z y k (viewer-keeps z) in
        by_one M u e G top V ahead z y over_label Z (viewer-stands z) (λ r x. over-all y near (clean y near (viewer-keeps z)) (viewer-off z n) r x)

    abbrev bound : Vector → ℕ
    bound w = amount (over_forms M u) w + nat_abs (dot l (cross u w)) + 1

    turning : (w : Vector) (k : ℕ) → nat_abs (dot l (cross u w)) < k → dot l (cross u (blend k d 1 w)) ≡ pos 0 → ⊥
    turning w k h =
        let p = self-pos l f in
        let q = turned-form l u (blend k d 1 w) ∙ dot-comb (cross l u) (pos k) d (pos 1) w ∙ ap (λ r. pos k *ℤ r +ℤ pos 1 *ℤ dot (cross l u) w) (sym (turned-form l u d)) ∙ ap (λ r. pos k *ℤ dot l l +ℤ pos 1 *ℤ r) (sym (turned-form l u w)) in
        same-off (dot l l) (dot l (cross u (blend k d 1 w))) (ap sign q ∙ sign-large k (dot l l) (dot l (cross u w)) h (λ z. omega (arith, ints))) (λ z. omega (arith, ints))

    near-keeps : (w : Vector) (k : ℕ) → bound w ≤ k → Keeps (over_forms M u) d (blend k d 1 w)
    near-keeps w k h = far-keeps (over_forms M u) d w k (omega arith)

    near : (w : Vector) (k : ℕ) → bound w ≤ k → IsFree M (blend k d 1 w) → ((y : Vector) → Keeps (over_forms M u) d y → Keeps (over_forms M u) (blend k d 1 w) y → Clean M V u ahead d f y) → F (blend k d 1 w) over_label
    near w k h Z clean = close (blend k d 1 w) (near-keeps w k h) (turning w k (omega arith)) Z clean

    -- ---- free directions
    pub plain-free : IsFree M d → PlainAt F d over_label
    plain-free D = record {
      at_d = close d (λ g i n. refl) (λ z. let p = self-pos l f in omega (arith, ints)) D (λ y k j. free-clean M V u ahead d y k f D);
      near = λ w. (bound w, λ k h. near w k h (free-around M V d (blend k d 1 w) (forms-kept M u d (blend k d 1 w) (near-keeps w k h)) D) (λ y i j. free-clean M V u ahead d y i f D));
    }

    -- ---- directions on items
    module _ (i : ℕ) (x : Item) (a : IsAt (items M) i x) (o : OnItem M x d) where
      abbrev n : Vector
      n = item_normal x

      normal-in : Lies (over_forms M u) n
      normal-in = form-over M u n (item-forms M i x n a (normal-form M x))

      on-it : (z : Vector) → OnItem M x z → F z Out
      on-it z p = not_free M u e G top V ahead z (λ Z. Z.off_items i x a p)

      above : (w : Vector) (k : ℕ) → bound w ≤ k → pos 0 <ℤ dot n (blend k d 1 w) → F (blend k d 1 w) over_label
      above w k h p =
          let z = blend k d 1 w in
          near w k h (free-beside M V d z (forms-kept M u d z (near-keeps w k h)) i x a o (λ q. omega (arith, ints)))
          (λ y s t. item-clean M V u ahead d y s f i x a o (same-plus (dot n z) (dot n y) (t n normal-in (λ q. omega (arith, ints))) p))

      below : (w : Vector) (k : ℕ) → bound w ≤ k → dot n (blend k d 1 w) <ℤ pos 0 → F (blend k d 1 w) (G (neg_item i))
      below w k h p =
          let z = blend k d 1 w in
          let y = viewer z in
          let s = near-keeps w k h in
          let t = keeps-then (over_forms M u) d z y s (viewer-keeps z) in
          let q = same-minus (dot n z) (dot n y) (viewer-keeps z n normal-in (λ q. omega (arith, ints))) p in
          by_one M u e G top V ahead z y (G (neg_item i)) (free-beside M V d z (forms-kept M u d z s) i x a o (λ q. omega (arith, ints))) (viewer-stands z)
          (λ r g. ap (met G top) (first-one M V u ahead y r (Some i) g (lower-first M V u ahead d y t i x a o q)))

      pub straight-on : StraightAt F n over_label Out (G (neg_item i)) d
      straight-on = record { level = on-level M x d o; at_d = on-it d o; near = λ w. (bound w, λ k h. by w k h) }
        where
          by : (w : Vector) (k : ℕ) → bound w ≤ k → F (blend k d 1 w) (by_side over_label Out (G (neg_item i)) (sign (dot n w)))
          by w k h =
              let z = blend k d 1 w in
              let s = far-level (over_forms M u) d w k (omega arith) n (on-level M x d o) in
              subst (λ (t : Sign). F z (by_side over_label Out (G (neg_item i)) t)) s
              (by_order (dot n z) (pos 0)
              (λ p. subst (λ (t : Sign). F z (by_side over_label Out (G (neg_item i)) t)) (sym (sign-minus (dot n z) p)) (below w k h p))
              (λ p. subst (λ (t : Sign). F z (by_side over_label Out (G (neg_item i)) t)) (sym (ap sign p)) (on-it z (item-stays M V d z (forms-kept M u d z (near-keeps w k h)) i x a p o)))
              (λ p. subst (λ (t : Sign). F z (by_side over_label Out (G (neg_item i)) t)) (sym (sign-plus (dot n z) p)) (above w k h p)))

    -- ---- svertices without arcs
    module _ (i : ℕ) (v : MapVertex) (a : IsAt M.svertices i v) (q : v.dir ≡ d) (n : HasArc M i → ⊥) where
      lone-free : (w z : Vector) → Keeps (over_forms M u) d z → IsDirection (cross d z) → IsFree M z
      lone-free w z k h = record {
        direction = direction-around M V d z (forms-kept M u d z k) hd;
        off_svertices = λ j y b s.
            let t = svertex-around M V d z (forms-kept M u d z k) j y b hd s in
            let m = V.svertices_apart j i y v b a (subst (SameDirection y.dir) (sym q) t) in
            apart-from j y b s m;
        off_items = λ j y b s. lone-untouched M V d i v a q n j y b (touches-back M V d z (forms-kept M u d z k) j y b hd s);
      }
        where
          hd : IsDirection d
          hd = subst IsDirection q (V.svertex_dirs i v a)

          apart-from : (j : ℕ) (y : MapVertex) → IsAt M.svertices j y → SameDirection y.dir z → j ≡ i → ⊥
          apart-from j y b s m = h (subst (λ (r : Vector). IsZero (cross r z)) (ap (λ (r : MapVertex). r.dir) (is-at_one M.svertices i y v (subst (λ (r : ℕ). IsAt M.svertices r y) m b) a) ∙ q) s.parallel)

      pub round-lone : (w : Vector) → IsDirection (cross d w) → Near F d w over_label
      round-lone w h = (
        bound w,
        λ k s.
            let z = blend k d 1 w in
            near w k s (lone-free w z (near-keeps w k s) (cross-between d w k 1 (omega arith) h)) (λ y t g. lone-clean M V u ahead d y t f i v a q n),
      )
