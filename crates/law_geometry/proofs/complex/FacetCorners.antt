-- Where the labels near a direction of a least map are the germs of a facet point, an item of the facet's plane lies at that direction.
use Rattle.law_geometry.proofs.complex.Prelude.{◌≡◌, ℕ, ◌+◌, ◌≤◌, pos, ◌+ℤ◌, ◌*ℤ◌, arith, refl, ap, sym, ◌∙◌, inr, ⊎_elim, ◌∷◌, subst, [], ints, sign, ring, at, num, ◌⊕◌, ◌⊗◌, sign-scaled, nought-or, HasLabel, Germ, FlatDim, SpacePoint, Set, Vector, zero_vector, opposite, blend, dot, IsDirection, IsNormal, SameDirection, Label, label_of, germ_of, Germ-zero, same-nought, same-off, SameSigns, forms, by_side, NearStraight, Least, IsAt, Map, Item, items, item_normal, item_pos, item_mark, item_neg, OnItem, MapLabel, NearLabel, Valid, normal-direction, normal-is, dot-comb, amount, far-keeps, far-level, PlaceOf, svertex_place, item_place, free_place, place_of, label-by_signs, near-from_far, far-from_near, near-unique, near-free, near-item, svertex-neither, dot-zero}
use Rattle.law_geometry.proofs.complex.Cones.{FlatAre, plane-sides}
use Rattle.law_geometry.proofs.complex.FacetSides.{IsSided, one-label-not_two, sided-flats, flats-one}

-- ---- labels near a direction that is close to another
module _ (M : Map) (V : Valid M) where
  -- near d toward the zero vector is d itself
  pub label-zero : (d : Vector) (m : Label) → NearLabel M d zero_vector m → MapLabel M d m
  label-zero d m (n, f) = label-by_signs M V (blend (n + 1) d 1 zero_vector) d (λ g l. sym (ap sign (one g) ∙ sign-scaled (pos (n + 1)) (dot g d) (omega (arith, ints)))) m (f (n + 1) (omega arith))
    where
      one : (g : Vector) → dot g (blend (n + 1) d 1 zero_vector) ≡ pos (n + 1) *ℤ dot g d
      one g = dot-comb g (pos (n + 1)) d (pos 1) zero_vector ∙ ap (λ r. pos (n + 1) *ℤ dot g d +ℤ pos 1 *ℤ r) (dot-zero g zero_vector (refl, refl, refl))
          ∙ ring (pos (n + 1) ∷ dot g d ∷ []) (at 0 ⊗ at 1 ⊕ num (pos 1) ⊗ num (pos 0)) (at 0 ⊗ at 1) tt

  -- the labels near K w + f are those near w toward k f + e
  module _ (w f e : Vector) (K : ℕ) (large : amount (forms M) f ≤ K) where
    abbrev c : Vector
    c = blend K w 1 f

    same-far : (k : ℕ) → amount (forms M) e ≤ k → (n : ℕ) → amount (forms M) (blend k f 1 e) ≤ n → (j : ℕ) → amount (forms M) e ≤ j → SameSigns (forms M) (blend n w 1 (blend k f 1 e)) (blend j c 1 e)
    same-far k hk n hn j hj g l = ⊎_elim (λ z. level z) (λ o. off o) (nought-or (dot g w))
      where
        off : (dot g w ≡ pos 0 → ⊥) → sign (dot g (blend j c 1 e)) ≡ sign (dot g (blend n w 1 (blend k f 1 e)))
        off o =
            let a = far-keeps (forms M) w f K large g l o in
            far-keeps (forms M) c e j hj g l (same-off (dot g w) (dot g c) a o) ∙ a ∙ sym (far-keeps (forms M) w (blend k f 1 e) n hn g l o)

        level : dot g w ≡ pos 0 → sign (dot g (blend j c 1 e)) ≡ sign (dot g (blend n w 1 (blend k f 1 e)))
        level z = at-c ∙ sym (far-level (forms M) w (blend k f 1 e) n hn g z)
          where
            a : sign (dot g c) ≡ sign (dot g f)
            a = far-level (forms M) w f K large g z

            at-c : sign (dot g (blend j c 1 e)) ≡ sign (dot g (blend k f 1 e))
            at-c = ⊎_elim
                (λ y. far-level (forms M) c e j hj g (same-nought (dot g f) (dot g c) a y) ∙ sym (far-level (forms M) f e k hk g y))
                (λ o. far-keeps (forms M) c e j hj g l (same-off (dot g f) (dot g c) a o) ∙ a ∙ sym (far-keeps (forms M) f e k hk g l o))
                (nought-or (dot g f))

    pub near-near : (m : Label) (i : ℕ) → ((k : ℕ) → i ≤ k → NearLabel M w (blend k f 1 e) m) → NearLabel M c e m
    near-near m i h =
        let k = i + amount (forms M) e in
        let n = amount (forms M) (blend k f 1 e) in
        let j = amount (forms M) e in
        let there = far-from_near M V w (blend k f 1 e) n (omega arith) m (h k (omega arith)) in
        near-from_far M V c e j (omega arith) m (label-by_signs M V (blend n w 1 (blend k f 1 e)) (blend j c 1 e) (same-far k (omega arith) n (omega arith) j (omega arith)) m there)

-- ---- the item at a direction
-- an item of the plane of n at the direction c, with the labels of the point q
pub record ItemAt (s : Set) (M : Map) (c : Vector) (q : SpacePoint) (n : Vector) : Type 0 where
  pub number : ℕ
  pub item : Item
  pub listed : IsAt (items M) number item
  pub on : OnItem M item c
  pub same : SameDirection (item_normal item) n
  pub sided : IsSided s q (item_normal item) (item_pos item) (item_mark item) (item_neg item)

module _ (s : Set) (M : Map) (V : Valid M) (L : Least M) (c : Vector) (q : SpacePoint) (near : (e : Vector) (l : Label) → Germ s q e l → NearLabel M c e l) where
  pub germ-there : (e : Vector) (l : Label) → NearLabel M c e l → Germ s q e l
  germ-there e l a = let g = germ_of s q e in subst (Germ s q e) (near-unique M V c e g.0 l (near e g.0 g.1) a) g.1

  pub item-sided : (k : ℕ) (x : Item) → IsAt (items M) k x → OnItem M x c → IsSided s q (item_normal x) (item_pos x) (item_mark x) (item_neg x)
  item-sided k x a o e = germ-there e (by_side (item_pos x) (item_mark x) (item_neg x) (sign (dot (item_normal x) e))) (near-item M V c k x a o e)

  module _ (some : IsDirection c) (n : Vector) (normal : IsNormal n) (flat : FlatAre s q n) (dim : FlatDim s q 2) (level : dot n c ≡ pos 0) where
    abbrev mark : (m : Label) × HasLabel s q m
    mark = label_of s q

    at-c : MapLabel M c mark.0
    at-c = label-zero M V c mark.0 (near zero_vector mark.0 ((Germ-zero s q zero_vector mark.0 (refl, refl, refl)).1 mark.1))

    straight : NearStraight M c
    straight =
        let i = normal-direction n normal in
        let a = germ_of s q n in
        let b = germ_of s q (opposite n) in
        record {
          normal = n;
          direction = i;
          level = level;
          pos = a.0;
          label = mark.0;
          neg = b.0;
          at_d = at-c;
          near = λ e _. near e (by_side a.0 mark.0 b.0 (sign (dot n e))) (plane-sides s q n flat a.0 mark.0 b.0 a.1 mark.1 b.1 i e);
        }

    pub item-at : ItemAt s M c q n
    item-at = by (place_of M c some)
      where
        by : PlaceOf M c → ItemAt s M c q n
        by (svertex_place k v a w) = absurd (svertex-neither M V L c k v a w (inr straight))
        by (free_place F) = absurd (one-label-not_two s q mark.0 (λ e. germ-there e mark.0 (near-free M V c F mark.0 at-c e)) dim)
        by (item_place k x a o) =
            let all = item-sided k x a o in
            record {
              number = k;
              item = x;
              listed = a;
              on = o;
              same = flats-one s q (item_normal x) n (V.shaped.normals k x a) normal
                  (sided-flats s q (item_normal x) (item_pos x) (item_mark x) (item_neg x) all (normal-is V.shaped k x a) (L.items_differ k x a)) flat;
              sided = all;
            }
