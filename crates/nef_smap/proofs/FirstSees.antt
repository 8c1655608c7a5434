-- What is met first over a free direction sees it: the lower side of an item, or u.
use Rattle.nef_smap.proofs.Prelude.{◌≡◌, ℕ, ◌+◌, ◌*◌, ◌<◌, ℤ, pos, ◌+ℤ◌, ◌-ℤ◌, ◌*ℤ◌, ◌<ℤ◌, nat_abs, arith, ap, sym, ◌∙◌, [], ◌∷◌, subst, None, ints, mul-pos, ring, at, num, ◌⊕◌, ◌⊖◌, ◌⊗◌, follows, given, none, sign, mul_pos, mul_neg, sign-scaled, nought-is, Vector, IsDirection, cross, dot, SameDirection, blend, IsAt, MapVertex, Map, Item, items, item_normal, OnItem, IsFree, neg_item, IsClear, Sees, directly, Shaped, dot-comb, same-minus, on-direction, on-level, OnItem-by_signs, cross-self, IsZero-times, product-off, rise, IsOver, IsFirst, IsFirstItem, vector-same, cross-turned, dir-signs, apart}
use Rattle.nef_smap.proofs.Rise.{rise-is, rise-level, rise_form-value}
use Rattle.law_geometry.proofs.sphere.building.RayClose.{cross-last}

-- no svertex lies over d or under it
pub record Generic (M : Map) (u d : Vector) : Type 0 where
  pub apart : IsDirection (cross u d)
  pub off : (k : ℕ) (v : MapVertex) → IsAt M.svertices k v → dot (cross u v.dir) d ≡ pos 0 → ⊥

module _ (M : Map) (V : Shaped M) (u : Vector) (ahead : (k : ℕ) (x : Item) → IsAt (items M) k x → pos 0 <ℤ dot (item_normal x) u) (hu : IsDirection u) (d : Vector) (D : IsFree M d) (H : Generic M u d) where
  value : (g : Vector) (i j : ℕ) → dot g (blend i d j u) ≡ pos i *ℤ dot g d +ℤ pos j *ℤ dot g u
  value g i j = dot-comb g (pos i) d (pos j) u

  -- an item on the way is over d, at the same place
  module _ (k : ℕ) (z : Item) (a : IsAt (items M) k z) (i j : ℕ) (si : 0 < i) (sj : 0 < j) (o : OnItem M z (blend i d j u)) where
    abbrev n : Vector
    n = item_normal z

    balance : pos i *ℤ dot n d +ℤ pos j *ℤ dot n u ≡ pos 0
    balance = sym (value n i j) ∙ on-level M z (blend i d j u) o

    -- i rise = (n.u) (i d + j u)
    pub at_rise : (g : Vector) → pos i *ℤ dot g (rise u n d) ≡ dot n u *ℤ dot g (blend i d j u)
    at_rise g = ap (λ r. pos i *ℤ r) (rise-is u n g d ∙ rise_form-value u n g d)
        ∙ follows (pos i ∷ pos j ∷ dot n u ∷ dot n d ∷ dot g u ∷ dot g d ∷ []) (at 0 ⊗ (at 2 ⊗ at 5 ⊕ (num (pos 0) ⊖ at 4) ⊗ at 3)) (at 2 ⊗ (at 0 ⊗ at 5 ⊕ at 1 ⊗ at 4))
        (given (num (pos 0) ⊖ at 4) (at 0 ⊗ at 3 ⊕ at 1 ⊗ at 2) (num (pos 0)) balance none) tt
        ∙ ap (λ r. dot n u *ℤ r) (sym (value g i j))

    pub at_rise-sign : (g : Vector) → sign (dot g (rise u n d)) ≡ sign (dot g (blend i d j u))
    at_rise-sign g = sym (sign-scaled (pos i) (dot g (rise u n d)) (omega (arith, ints))) ∙ ap sign (at_rise g) ∙ sign-scaled (dot n u) (dot g (blend i d j u)) (ahead k z a)

    pub on_way-over : IsOver M u z d
    on_way-over = record {
      below = let p = mul_pos (pos j) (dot n u) (omega (arith, ints)) (ahead k z a) in let q = balance in
          same-minus (pos i *ℤ dot n d) (dot n d) (sym (sign-scaled (pos i) (dot n d) (omega (arith, ints)))) (omega (arith, ints));
      on = OnItem-by_signs M z (blend i d j u) (rise u n d) (λ g l. at_rise-sign g) o;
    }

  dir-direction : (i j : ℕ) → 0 < i → IsDirection (blend i d j u)
  dir-direction i j si z = H.apart (IsZero-times (pos i) (cross u d) (omega (arith, ints))
      (one u.y u.z d.y d.z z.1 z.2) (one u.z u.x d.z d.x z.2 z.0) (one u.x u.y d.x d.y z.0 z.1))
    where
      one : (a b x y : ℤ) → pos i *ℤ x +ℤ pos j *ℤ a ≡ pos 0 → pos i *ℤ y +ℤ pos j *ℤ b ≡ pos 0 → pos i *ℤ (a *ℤ y -ℤ b *ℤ x) ≡ pos 0
      one a b x y p q = let o = num (pos 0) in follows (pos i ∷ pos j ∷ a ∷ b ∷ x ∷ y ∷ []) (at 0 ⊗ (at 2 ⊗ at 5 ⊖ at 3 ⊗ at 4)) o
          (given (at 2) (at 0 ⊗ at 5 ⊕ at 1 ⊗ at 3) o q (given (o ⊖ at 3) (at 0 ⊗ at 4 ⊕ at 1 ⊗ at 2) o p none)) tt

  way-off : (i j : ℕ) → 0 < i → (k : ℕ) (v : MapVertex) → IsAt M.svertices k v → SameDirection v.dir (blend i d j u) → ⊥
  way-off i j si k v a w =
      let m = cross u v.dir in
      let s = dir-signs v.dir (blend i d j u) m (V.svertex_dirs k v a) w in
      let z = nought-is (dot m (blend i d j u)) (s ∙ ap sign (cross-last u v.dir)) in
      let e = sym (value m i j) ∙ z in
      let q = ap (λ r. pos j *ℤ r) (cross-self u v.dir) in
      let o = ring (pos j ∷ []) (at 0 ⊗ num (pos 0)) (num (pos 0)) tt in
      product-off (pos i) (dot m d) (omega (arith, ints)) (H.off k v a) (omega (arith, ints))

  -- the whole way to u
  pub none-clear : IsFirst M u d None → IsClear M d u
  none-clear f = record {
    start = D;
    direction = hu;
    short = λ o. H.apart (cross-turned d u o.parallel);
    between = λ i j si sj. record {
      direction = dir-direction i j si;
      off_svertices = λ k v a w. way-off i j si k v a w;
      off_items = λ k x a o. f k x a (on_way-over k x a i j si sj o);
    };
  }

  -- the way to the first item
  pub first-sees : (k : ℕ) → IsFirstItem M u d k → Sees M (neg_item k) d
  first-sees k F = directly y clear (F.item, F.listed, F.over.on, F.over.below)
    where
      n : Vector
      n = item_normal F.item

      y : Vector
      y = rise u (item_normal F.item) d

      p : ℕ
      p = nat_abs (dot (item_normal F.item) u)

      q : ℕ
      q = nat_abs (dot (item_normal F.item) d)

      p-is : pos p ≡ dot n u
      p-is = let h = ahead k F.item F.listed in omega (arith, ints)

      q-is : pos q ≡ pos 0 -ℤ dot n d
      q-is = let h = F.over.below in omega (arith, ints)

      same : (i j : ℕ) → blend i d j y ≡ blend (i + j * p) d (j * q) u
      same i j = vector-same (blend i d j y) (blend (i + j * p) d (j * q) u) (one d.x u.x) (one d.y u.y) (one d.z u.z)
        where
          one : (a b : ℤ) → pos i *ℤ a +ℤ pos j *ℤ (dot n u *ℤ a +ℤ (pos 0 -ℤ dot n d) *ℤ b) ≡ pos (i + j * p) *ℤ a +ℤ pos (j * q) *ℤ b
          one a b = ap (λ r. pos i *ℤ a +ℤ pos j *ℤ (r *ℤ a +ℤ (pos 0 -ℤ dot n d) *ℤ b)) (sym p-is) ∙ ap (λ r. pos i *ℤ a +ℤ pos j *ℤ (pos p *ℤ a +ℤ r *ℤ b)) (sym q-is)
              ∙ ring (pos i ∷ pos j ∷ pos p ∷ pos q ∷ a ∷ b ∷ []) (at 0 ⊗ at 4 ⊕ at 1 ⊗ (at 2 ⊗ at 4 ⊕ at 3 ⊗ at 5)) ((at 0 ⊕ at 1 ⊗ at 2) ⊗ at 4 ⊕ (at 1 ⊗ at 3) ⊗ at 5) tt

      some-q : 0 < q
      some-q = let h = F.over.below in omega (arith, ints)

      unmet : (i j : ℕ) → 0 < i → 0 < j → (l : ℕ) (z : Item) → IsAt (items M) l z → OnItem M z (blend (i + j * p) d (j * q) u) → ⊥
      unmet i j si sj l z a o =
          let sjq = mul-pos sj some-q in
          let c = F.first l z a (on_way-over l z a (i + j * p) (j * q) (omega arith) sjq o) in
          let e = at_rise l z a (i + j * p) (j * q) (omega arith) sjq o n in
          -- the way there is still below the plane
          let v = value n (i + j * p) (j * q) in
          let w : pos (i + j * p) *ℤ dot n d +ℤ pos (j * q) *ℤ dot n u ≡ pos i *ℤ dot n d =
          ap (λ r. (pos i +ℤ pos j *ℤ r) *ℤ dot n d +ℤ pos j *ℤ pos q *ℤ dot n u) p-is ∙ ap (λ r. (pos i +ℤ pos j *ℤ dot n u) *ℤ dot n d +ℤ pos j *ℤ r *ℤ dot n u) q-is
          ∙ ring (pos i ∷ pos j ∷ dot n u ∷ dot n d ∷ []) ((at 0 ⊕ at 1 ⊗ at 2) ⊗ at 3 ⊕ at 1 ⊗ (num (pos 0) ⊖ at 3) ⊗ at 2) (at 0 ⊗ at 3) tt in
          let m = mul_neg (pos i) (dot n d) (omega (arith, ints)) F.over.below in
          let b = mul_neg (dot (item_normal z) u) (dot n (blend (i + j * p) d (j * q) u)) (ahead l z a) (omega (arith, ints)) in
          let t = same-minus (pos (i + j * p) *ℤ dot n (rise u (item_normal z) d)) (dot n (rise u (item_normal z) d)) (sym (sign-scaled (pos (i + j * p)) (dot n (rise u (item_normal z) d)) (omega (arith, ints)))) (omega (arith, ints)) in
          omega (arith, ints)

      clear : IsClear M d y
      clear = record {
        start = D;
        direction = on-direction M F.item y F.over.on;
        short = λ o. apart n d y (λ z. let h = F.over.below in omega (arith, ints)) (rise-level u n d) (on-direction M F.item y F.over.on) o.parallel;
        between = λ i j si sj. subst (IsFree M) (sym (same i j)) (record {
          direction = dir-direction (i + j * p) (j * q) (omega arith);
          off_svertices = λ l v a w. way-off (i + j * p) (j * q) (omega arith) l v a w;
          off_items = λ l z a o. unmet i j si sj l z a o;
        });
      }
