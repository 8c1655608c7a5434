-- Close to a direction that is free, on an item, or on a svertex without arcs: what lies over close directions lies over it, but for its item seen from below.
use Rattle.nef_smap.proofs.Prelude.{◌≡◌, ℕ, pos, ◌+ℤ◌, ◌-ℤ◌, ◌*ℤ◌, ◌≤ℤ◌, ◌<ℤ◌, arith, ap, sym, ◌∙◌, inl, inr, ⊎_elim, [], ◌∷◌, subst, ints, ring, at, num, ◌⊕◌, ◌⊖◌, ◌⊗◌, sign, by_order, mul_pos, sign-scaled, Vector, IsDirection, cross, dot, SameDirection, IsAt, MapVertex, Map, Item, items, item_normal, OnItem, IsFree, HasArc, Shaped, Keeps, forms, is-at_one, kept-plus, item-forms, normal-form, on-direction, on-level, OnItem-stays, product-off, arc-at, rise, rise_form, over_forms, IsOver, IsFirstItem}
use Rattle.nef_smap.proofs.Rise.{rise-is, rise-level, rise_form-value, rise-meridian, form-over, meridian-over}
use Rattle.nef_smap.proofs.Over.{Touches, meets, ends, touches-back, touches-on}
use Rattle.nef_smap.proofs.Close.{Clean}

-- no item touches a svertex without arcs
pub lone-untouched : (M : Map) (V : Shaped M) (d : Vector) (i : ℕ) (v : MapVertex) → IsAt M.svertices i v → v.dir ≡ d → (HasArc M i → ⊥) → (k : ℕ) (y : Item) → IsAt (items M) k y → Touches M y d → ⊥
lone-untouched M V d i v a e n k y b (meets p) = V.no_svertex_on_item i k v y a b (subst (OnItem M y) (sym e) p)
lone-untouched M V d i v a e n k y b (ends j w r c s t x) =
    let m = V.svertices_apart j i w v c a (subst (SameDirection w.dir) (sym e) x) in
    n (k, r, arc-at M.arcs M.sloop k r (subst (IsAt (items M) k) s b), ⊎_elim (λ p. inl (p ∙ m)) (λ p. inr (p ∙ m)) t)

module _ (M : Map) (V : Shaped M) (u : Vector) (ahead : (k : ℕ) (x : Item) → IsAt (items M) k x → pos 0 <ℤ dot (item_normal x) u) (d z : Vector) (near : Keeps (over_forms M u) d z) where
  -- the meet with a plane that holds d keeps the signs of d
  rise-near : (k : ℕ) (y : Item) → IsAt (items M) k y → dot (item_normal y) d ≡ pos 0 → Keeps (forms M) d (rise u (item_normal y) z)
  rise-near k y a q g l f =
      let n = item_normal y in
      let v : dot (rise_form u n g) d ≡ dot n u *ℤ dot g d = rise_form-value u n g d ∙ ap (λ r. dot n u *ℤ dot g d +ℤ (pos 0 -ℤ dot g u) *ℤ r) q ∙ ring (dot n u ∷ dot g d ∷ dot g u ∷ []) (at 0 ⊗ at 1 ⊕ (num (pos 0) ⊖ at 2) ⊗ num (pos 0)) (at 0 ⊗ at 1) tt in
      ap sign (rise-is u n g z) ∙ near (rise_form u n g) (meridian-over M u (rise_form u n g) (rise-meridian M u k y g a l)) (λ w. product-off (dot n u) (dot g d) (ahead k y a) f (sym v ∙ w))
      ∙ ap sign v ∙ sign-scaled (dot n u) (dot g d) (ahead k y a)

  -- an item over z whose plane holds d touches d
  pub over-at : IsDirection d → (k : ℕ) (y : Item) → IsAt (items M) k y → dot (item_normal y) d ≡ pos 0 → IsOver M u y z → Touches M y d
  over-at h k y a q o = touches-back M V d (rise u (item_normal y) z) (rise-near k y a q) k y a h o.on

  module _ (f : IsDirection (cross u d)) where
    pub free-clean : IsFree M d → Clean M V u ahead d f z
    free-clean F k y a q o = by (over-at F.direction k y a q o)
      where
        by : Touches M y d → ⊥
        by (meets p) = F.off_items k y a p
        by (ends j v r b e t w) = F.off_svertices j v b w

    pub item-clean : (i : ℕ) (x : Item) → IsAt (items M) i x → OnItem M x d → pos 0 <ℤ dot (item_normal x) z → Clean M V u ahead d f z
    item-clean i x a p h k y b q o =
        let e = touches-on M V i k x y d a b p (over-at (on-direction M x d p) k y b q o) in
        let w = is-at_one (items M) k x y (subst (λ (j : ℕ). IsAt (items M) j x) e a) b in
        let c = subst (λ (r : Item). pos 0 <ℤ dot (item_normal r) z) w h in
        let l = o.below in omega (arith, ints)

    pub lone-clean : (i : ℕ) (v : MapVertex) → IsAt M.svertices i v → v.dir ≡ d → (HasArc M i → ⊥) → Clean M V u ahead d f z
    lone-clean i v a e n k y b q o = lone-untouched M V d i v a e n k y b (over-at (subst IsDirection e (V.svertex_dirs i v a)) k y b q o)

  -- below a direction on an item that item is first
  pub lower-first : (i : ℕ) (x : Item) → IsAt (items M) i x → OnItem M x d → dot (item_normal x) z <ℤ pos 0 → IsFirstItem M u z i
  lower-first i x a p h = record {
    item = x;
    listed = a;
    over = record { below = h; on = OnItem-stays M x d (rise u m z) (λ g l. rise-near i x a (on-level M x d p) g (item-forms M i x g a l)) (rise-level u m z) p };
    first = λ k y b o. by_order (dot (item_normal y) d) (pos 0) (λ l. farther k y b l) (λ q. at-x k y b (over-at (on-direction M x d p) k y b q o)) (λ l. over-none k y b o l);
  }
    where
      m : Vector
      m = item_normal x

      farther : (k : ℕ) (y : Item) → IsAt (items M) k y → dot (item_normal y) d <ℤ pos 0 → pos 0 ≤ℤ dot (item_normal x) (rise u (item_normal y) z)
      farther k y b l =
          let n = item_normal y in
          let n' = item_normal x in
          let g = rise_form u n n' in
          let e = rise_form-value u n n' d ∙ ap (λ r. dot n u *ℤ r +ℤ (pos 0 -ℤ dot n' u) *ℤ dot n d) (on-level M x d p) ∙ ring (dot n u ∷ dot n' u ∷ dot n d ∷ []) (at 0 ⊗ num (pos 0) ⊕ (num (pos 0) ⊖ at 1) ⊗ at 2) (at 1 ⊗ (num (pos 0) ⊖ at 2)) tt in
          let q = mul_pos (dot n' u) (pos 0 -ℤ dot n d) (ahead i x a) (omega (arith, ints)) in
          let c = kept-plus g d z (near g (meridian-over M u g (rise-meridian M u k y n' b (item-forms M i x n' a (normal-form M x))))) (omega (arith, ints)) in
          let r = rise-is u n n' z in
          omega (arith, ints)

      at-x : (k : ℕ) (y : Item) → IsAt (items M) k y → Touches M y d → pos 0 ≤ℤ dot (item_normal x) (rise u (item_normal y) z)
      at-x k y b t =
          let e = touches-on M V i k x y d a b p t in
          let w = is-at_one (items M) k x y (subst (λ (j : ℕ). IsAt (items M) j x) e a) b in
          let c = rise-level u (item_normal x) z in
          subst (λ (r : Item). pos 0 ≤ℤ dot (item_normal x) (rise u (item_normal r) z)) w (omega (arith, ints))

      over-none : (k : ℕ) (y : Item) → IsAt (items M) k y → IsOver M u y z → pos 0 <ℤ dot (item_normal y) d → pos 0 ≤ℤ dot (item_normal x) (rise u (item_normal y) z)
      over-none k y b o l =
          let n = item_normal y in
          let c = kept-plus n d z (near n (form-over M u n (item-forms M k y n b (normal-form M y)))) l in
          let q = o.below in absurd (omega (arith, ints))
