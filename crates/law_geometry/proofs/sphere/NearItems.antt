-- The labels near a free direction and near a direction on an item.
use Rattle.law_geometry.proofs.sphere.Prelude.{◌≡◌, ℕ, ◌<◌, pos, ◌*ℤ◌, ◌≤ℤ◌, arith, refl, ap, sym, ◌∙◌, inl, inr, ⊎_elim, List, ◌∷◌, subst, [], ints, ring, at, num, ◌⊗◌, Sign, sign, sign-plus, sign-minus, by_order, nought-or, Vector, dot, IsOpposite, blend, Label, IsAt, Map, Item, items, item_normal, item_pos, item_mark, item_neg, OnItem, IsFree, pos_item, neg_item, IsClear, directly, MapLabel, on_item, seen, NearLabel, Shaped, Valid, Keeps, axes, forms, by_side, NearPlain, NearStraight, opposite-turned, blend-turned}
use Rattle.law_geometry.proofs.sphere.Vectors.{normal-is, dot-comb}
use Rattle.law_geometry.proofs.sphere.Generic.{amount, far-keeps, far-level}
use Rattle.law_geometry.proofs.sphere.Places.{axis_x, axis_y, axis_z, axis_x-is, axis_y-is, axis_z-is}
use Rattle.law_geometry.proofs.sphere.Forms.{axes-forms, on-direction, on-level}
use Rattle.law_geometry.proofs.sphere.Direct.{between-off_target}
use Rattle.law_geometry.proofs.sphere.Labels.{mixed-sign, same-product, label-exists, clear-label, near-from_far}
use Rattle.law_geometry.proofs.sphere.Around.{direction-around, free-around, item-stays, free-beside}

-- ---- what keeps signs
pub keeps-between : (gs : List Vector) (d w : Vector) (i j : ℕ) → 0 < i → 0 < j → Keeps gs d w → Keeps gs d (blend i d j w)
keeps-between gs d w i j si sj k g l f = ap sign (dot-comb g (pos i) d (pos j) w) ∙ mixed-sign (dot g d) (dot g w) i j si sj (k g l f)

kept-product : (g d w : Vector) → ((dot g d ≡ pos 0 → ⊥) → sign (dot g w) ≡ sign (dot g d)) → pos 0 ≤ℤ (dot g d *ℤ dot g w)
kept-product g d w k = ⊎_elim (λ z. let p = ap (λ r. r *ℤ dot g w) z in let q = ring (dot g w ∷ []) (num (pos 0) ⊗ at 0) (num (pos 0)) tt in omega (arith, ints)) (λ f. same-product (dot g d) (dot g w) (k f)) (nought-or (dot g d))

pub kept-not_opposite : (d w : Vector) → Keeps axes d w → IsOpposite d w → ⊥
kept-not_opposite d w k o =
    let x = kept-product axis_x d w (k axis_x (inl refl)) in
    let y = kept-product axis_y d w (k axis_y (inr (inl refl))) in
    let z = kept-product axis_z d w (k axis_z (inr (inr (inl refl)))) in
    let a = ap (λ r. r *ℤ dot axis_x w) (axis_x-is d) ∙ ap (λ r. d.x *ℤ r) (axis_x-is w) in
    let b = ap (λ r. r *ℤ dot axis_y w) (axis_y-is d) ∙ ap (λ r. d.y *ℤ r) (axis_y-is w) in
    let c = ap (λ r. r *ℤ dot axis_z w) (axis_z-is d) ∙ ap (λ r. d.z *ℤ r) (axis_z-is w) in
    let h = o.backward in omega (arith, ints)

module _ (M : Map) (V : Shaped M) (d w : Vector) (k : Keeps (forms M) d w) where
  axes-kept : Keeps axes d w
  axes-kept g l = k g (axes-forms M g l)

  pub clear-around : IsFree M d → IsClear M d w
  clear-around F = record {
    start = F;
    direction = direction-around M V d w k F.direction;
    short = kept-not_opposite d w axes-kept;
    between = λ i j si sj. free-around M V d (blend i d j w) (keeps-between (forms M) d w i j si sj k) F;
  }

  -- close to an item
  module _ (i : ℕ) (x : Item) (a : IsAt (items M) i x) (o : OnItem M x d) where
    clear-beside : (dot (item_normal x) w ≡ pos 0 → ⊥) → IsClear M w d
    clear-beside f = record {
      start = free-beside M V d w k i x a o f;
      direction = on-direction M x d o;
      short = λ q. kept-not_opposite d w axes-kept (opposite-turned w d q);
      between = λ p q sp sq. free-beside M V d (blend p w q d) (subst (Keeps (forms M) d) (blend-turned q p d w) (keeps-between (forms M) d w q p sq sp k)) i x a o
          (between-off_target (item_normal x) w d p q sp (on-level M x d o) f);
    }

    pub label-beside : MapLabel M w (by_side (item_pos x) (item_mark x) (item_neg x) (sign (dot (item_normal x) w)))
    label-beside = by_order (dot (item_normal x) w) (pos 0)
        (λ l. subst (λ (s : Sign). MapLabel M w (by_side (item_pos x) (item_mark x) (item_neg x) s)) (sym (sign-minus (dot (item_normal x) w) l))
        (seen (record { side = neg_item i; has = (x, a, refl); sees = directly d (clear-beside (λ z. omega (arith, ints))) (x, a, o, l) })))
        (λ z. subst (λ (s : Sign). MapLabel M w (by_side (item_pos x) (item_mark x) (item_neg x) s)) (sym (ap sign z))
        (on_item i x a (item-stays M V d w k i x a z o) refl))
        (λ l. subst (λ (s : Sign). MapLabel M w (by_side (item_pos x) (item_mark x) (item_neg x) s)) (sym (sign-plus (dot (item_normal x) w) l))
        (seen (record { side = pos_item i; has = (x, a, refl); sees = directly d (clear-beside (λ z. omega (arith, ints))) (x, a, o, l) })))

module _ (M : Map) (V : Valid M) (d w : Vector) (k : Keeps (forms M) d w) where
  -- close to a free direction
  pub label-around : IsFree M d → (m : Label) → MapLabel M d m → MapLabel M w m
  label-around F m a =
      let G = free-around M V.shaped d w k F in
      let b = label-exists M V w G.direction in
      subst (λ (r : Label). MapLabel M w r) (sym (clear-label M V d w (clear-around M V.shaped d w k F) G m b.0 a b.1)) b.1

module _ (M : Map) (V : Valid M) (d : Vector) where
  -- near a free direction there is its label
  pub near-free : IsFree M d → (m : Label) → MapLabel M d m → (e : Vector) → NearLabel M d e m
  near-free F m a e =
      let k = amount (forms M) e in
      near-from_far M V d e k (omega arith) m (label-around M V d (blend k d 1 e) (far-keeps (forms M) d e k (omega arith)) F m a)

  -- near a direction on an item there are the item's labels
  pub near-item : (i : ℕ) (x : Item) → IsAt (items M) i x → OnItem M x d → (e : Vector) → NearLabel M d e (by_side (item_pos x) (item_mark x) (item_neg x) (sign (dot (item_normal x) e)))
  near-item i x a o e =
      let k = amount (forms M) e in
      let w = blend k d 1 e in
      near-from_far M V d e k (omega arith) _ (subst (λ (s : Sign). MapLabel M w (by_side (item_pos x) (item_mark x) (item_neg x) s))
      (far-level (forms M) d e k (omega arith) (item_normal x) (on-level M x d o)) (label-beside M V.shaped d w (far-keeps (forms M) d e k (omega arith)) i x a o))

  pub free-plain : IsFree M d → NearPlain M d
  free-plain F = let a = label-exists M V d F.direction in record { label = a.0; at_d = a.1; near = λ e f. near-free F a.0 a.1 e }

  pub item-straight : (i : ℕ) (x : Item) → IsAt (items M) i x → OnItem M x d → NearStraight M d
  item-straight i x a o = record {
    normal = item_normal x;
    direction = normal-is V.shaped i x a;
    level = on-level M x d o;
    pos = item_pos x;
    label = item_mark x;
    neg = item_neg x;
    at_d = on_item i x a o refl;
    near = λ e f. near-item i x a o e;
  }
