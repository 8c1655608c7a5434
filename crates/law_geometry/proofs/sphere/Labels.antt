-- Each direction has one label, which the signs of the map's forms determine; so has each direction near a direction.
use Rattle.law_geometry.proofs.sphere.Prelude.{◌≡◌, ℕ, ◌+◌, ◌<◌, ◌≤◌, ℤ, pos, ◌+ℤ◌, ◌-ℤ◌, ◌*ℤ◌, ◌≤ℤ◌, arith, refl, ap, sym, ◌∙◌, inl, inr, List, ◌∷◌, subst, [], ints, ring, at, num, ◌⊕◌, ◌⊖◌, ◌⊗◌, sign, sign-plus, sign-minus, by_order, mul_pos, mul_neg, Lies, Vector, IsDirection, dot, SameDirection, IsOpposite, blend, Label, IsAt, MapVertex, Map, Item, items, item_mark, OnItem, IsFree, IsClear, Sees, directly, by_way_of, SeenAs, MapLabel, at_svertex, on_item, seen, NearLabel, Valid, same-nought, dir-signs, direction-right, SameDirection-trans, SameDirection-turned}
use Rattle.law_geometry.proofs.sphere.Vectors.{dot-comb, same-plus, same-minus}
use Rattle.law_geometry.proofs.sphere.Generic.{SameSigns, amount, far-keeps, far-same}
use Rattle.law_geometry.proofs.sphere.Places.{axes, axis_x, axis_y, axis_z, axis_x-is, axis_y-is, axis_z-is, direction-stays}
use Rattle.law_geometry.proofs.sphere.Forms.{forms, axes-forms, on-direction, direction-by_signs, at_svertex-by_signs, on_item-by_signs, free-by_signs, OnItem-by_signs, PlaceOf, svertex_place, item_place, free_place, place_of}
use Rattle.law_geometry.proofs.sphere.Sight.{free-seen, clear-one_label, free-one_label}
use Rattle.nef_space.proofs.Lists.{is-at_one}

-- ---- the same way
-- two that go the way of d
pub dir-joined : (v u d : Vector) → SameDirection v d → SameDirection u d → SameDirection v u
dir-joined v u d a b = SameDirection-trans v d u a (SameDirection-turned u d b)

-- ---- same signs
pub mixed-sign : (a b : ℤ) (i j : ℕ) → 0 < i → 0 < j → sign b ≡ sign a → sign (pos i *ℤ a +ℤ pos j *ℤ b) ≡ sign a
mixed-sign a b i j si sj e = by_order a (pos 0)
    (λ l. let m = same-minus a b e l in let p = mul_neg (pos i) a (omega (arith, ints)) l in let q = mul_neg (pos j) b (omega (arith, ints)) m in
    sign-minus (pos i *ℤ a +ℤ pos j *ℤ b) (omega (arith, ints)) ∙ sym (sign-minus a l))
    (λ z. let w = same-nought a b e z in ap (λ r. sign (pos i *ℤ r +ℤ pos j *ℤ b)) z ∙ ap (λ r. sign (pos i *ℤ pos 0 +ℤ pos j *ℤ r)) w
    ∙ ap sign (ring (pos i ∷ pos j ∷ []) (at 0 ⊗ num (pos 0) ⊕ at 1 ⊗ num (pos 0)) (num (pos 0)) tt) ∙ sym (ap sign z))
    (λ l. let m = same-plus a b e l in let p = mul_pos (pos i) a (omega (arith, ints)) l in let q = mul_pos (pos j) b (omega (arith, ints)) m in
    sign-plus (pos i *ℤ a +ℤ pos j *ℤ b) (omega (arith, ints)) ∙ sym (sign-plus a l))

pub same-product : (a b : ℤ) → sign b ≡ sign a → pos 0 ≤ℤ (a *ℤ b)
same-product a b e = by_order a (pos 0)
    (λ l. let m = same-minus a b e l in let p = mul_pos (pos 0 -ℤ a) (pos 0 -ℤ b) (omega (arith, ints)) (omega (arith, ints)) in let q = ring (a ∷ b ∷ []) ((num (pos 0) ⊖ at 0) ⊗ (num (pos 0) ⊖ at 1)) (at 0 ⊗ at 1) tt in omega (arith, ints))
    (λ z. let p = ap (λ r. r *ℤ b) z in let q = ring (b ∷ []) (num (pos 0) ⊗ at 0) (num (pos 0)) tt in omega (arith, ints))
    (λ l. let m = same-plus a b e l in let p = mul_pos a b l m in omega (arith, ints))

pub same-not_opposite : (gs : List Vector) (d e : Vector) → ((g : Vector) → Lies axes g → Lies gs g) → SameSigns gs d e → IsOpposite d e → ⊥
same-not_opposite gs d e sub s o =
    let x = same-product d.x e.x (ap sign (sym (axis_x-is e)) ∙ s axis_x (sub axis_x (inl refl)) ∙ ap sign (axis_x-is d)) in
    let y = same-product d.y e.y (ap sign (sym (axis_y-is e)) ∙ s axis_y (sub axis_y (inr (inl refl))) ∙ ap sign (axis_y-is d)) in
    let z = same-product d.z e.z (ap sign (sym (axis_z-is e)) ∙ s axis_z (sub axis_z (inr (inr (inl refl)))) ∙ ap sign (axis_z-is d)) in
    let h = o.backward in omega (arith, ints)

-- the way between free directions with the same signs is clear
pub same-clear : (M : Map) (d e : Vector) → SameSigns (forms M) d e → IsFree M d → IsClear M d e
same-clear M d e s F = record {
  start = F;
  direction = direction-by_signs M d e s F.direction;
  short = same-not_opposite (forms M) d e (axes-forms M) s;
  between = λ i j si sj. free-by_signs M d (blend i d j e) (λ g l. ap sign (dot-comb g (pos i) d (pos j) e) ∙ mixed-sign (dot g d) (dot g e) i j si sj (s g l)) F;
}

-- ---- the label
pub sees-free : (M : Map) (d : Vector) (m : Label) → SeenAs M d m → IsFree M d
sees-free M d m s = by s.sees
  where
    by : Sees M s.side d → IsFree M d
    by (directly y c r) = c.start
    by (by_way_of c y a b r) = a.start

pub label-direction : (M : Map) (d : Vector) (m : Label) → MapLabel M d m → IsDirection d
label-direction M d m (at_svertex k v a w e) = direction-right v.dir d w
label-direction M d m (on_item k x a o e) = on-direction M x d o
label-direction M d m (seen s) = (sees-free M d m s).direction

module _ (M : Map) (V : Valid M) where
  pub label-exists : (d : Vector) → IsDirection d → (m : Label) × MapLabel M d m
  label-exists d f = by (place_of M d f)
    where
      by : PlaceOf M d → (m : Label) × MapLabel M d m
      by (svertex_place k v a w) = (v.mark, at_svertex k v a w refl)
      by (item_place k x a o) = (item_mark x, on_item k x a o refl)
      by (free_place F) = let s = free-seen M V.shaped d F in (s.0, seen s.1)

  on-svertex : (k l : ℕ) (v : MapVertex) (x : Item) (d : Vector) → IsAt M.svertices k v → IsAt (items M) l x → SameDirection v.dir d → OnItem M x d → ⊥
  on-svertex k l v x d a b w o = V.shaped.no_svertex_on_item k l v x a b (OnItem-by_signs M x d v.dir (λ g i. sym (dir-signs v.dir d g (V.shaped.svertex_dirs k v a) w)) o)

  pub label-unique : (d : Vector) (m n : Label) → MapLabel M d m → MapLabel M d n → m ≡ n
  label-unique d m n (at_svertex k v a w e) (at_svertex l u b x f) =
      let i = V.shaped.svertices_apart k l v u a b (dir-joined v.dir u.dir d w x) in
      sym e ∙ ap (λ (r : MapVertex). r.mark) (is-at_one M.svertices l v u (subst (λ (r : ℕ). IsAt M.svertices r v) i a) b) ∙ f
  label-unique d m n (at_svertex k v a w e) (on_item l x b o f) = absurd (on-svertex k l v x d a b w o)
  label-unique d m n (at_svertex k v a w e) (seen s) = absurd ((sees-free M d n s).off_svertices k v a w)
  label-unique d m n (on_item k x a o e) (at_svertex l u b w f) = absurd (on-svertex l k u x d b a w o)
  label-unique d m n (on_item k x a o e) (on_item l y b p f) =
      let i = V.shaped.no_items_meet k l x y d a b o p in
      sym e ∙ ap item_mark (is-at_one (items M) l x y (subst (λ (r : ℕ). IsAt (items M) r x) i a) b) ∙ f
  label-unique d m n (on_item k x a o e) (seen s) = absurd ((sees-free M d n s).off_items k x a o)
  label-unique d m n (seen s) (at_svertex k v a w e) = absurd ((sees-free M d m s).off_svertices k v a w)
  label-unique d m n (seen s) (on_item k x a o e) = absurd ((sees-free M d m s).off_items k x a o)
  label-unique d m n (seen s) (seen t) = free-one_label M V d (sees-free M d m s) m n s t

  -- the signs of the forms determine the label
  pub label-by_signs : (d e : Vector) → SameSigns (forms M) d e → (m : Label) → MapLabel M d m → MapLabel M e m
  label-by_signs d e s m (at_svertex k v a w q) = at_svertex k v a (at_svertex-by_signs M d e s k v a (direction-by_signs M d e s (direction-right v.dir d w)) w) q
  label-by_signs d e s m (on_item k x a o q) = on_item k x a (on_item-by_signs M d e s k x a o) q
  label-by_signs d e s m (seen t) =
      let F = sees-free M d m t in
      let G = free-by_signs M d e s F in
      let u = free-seen M V.shaped e G in
      let q = clear-one_label M V d e (same-clear M d e s F) G m u.0 t u.1 in
      subst (λ (r : Label). MapLabel M e r) (sym q) (seen u.1)

  -- two free directions with a clear way between them have one label
  pub clear-label : (d e : Vector) → IsClear M d e → IsFree M e → (m n : Label) → MapLabel M d m → MapLabel M e n → m ≡ n
  clear-label d e c G m n a b =
      let s = free-seen M V.shaped d c.start in
      let t = free-seen M V.shaped e G in
      label-unique d m s.0 a (seen s.1) ∙ clear-one_label M V d e c G s.0 t.0 s.1 t.1 ∙ label-unique e t.0 n (seen t.1) b

  -- ---- near a direction
  pub near-direction : (d e : Vector) (k : ℕ) → amount (forms M) e ≤ k → IsDirection d → IsDirection (blend k d 1 e)
  near-direction d e k l f = direction-stays d (blend k d 1 e) (λ g i. far-keeps (forms M) d e k l g (axes-forms M g i)) f

  pub near-from_far : (d e : Vector) (k : ℕ) → amount (forms M) e ≤ k → (m : Label) → MapLabel M (blend k d 1 e) m → NearLabel M d e m
  near-from_far d e k l m a = (amount (forms M) e, λ n h. label-by_signs (blend k d 1 e) (blend n d 1 e) (far-same (forms M) d e k n l h) m a)

  pub far-from_near : (d e : Vector) (k : ℕ) → amount (forms M) e ≤ k → (m : Label) → NearLabel M d e m → MapLabel M (blend k d 1 e) m
  far-from_near d e k l m (n, f) = label-by_signs (blend (n + k) d 1 e) (blend k d 1 e) (far-same (forms M) d e (n + k) k (omega arith) l) m (f (n + k) (omega arith))

  pub near-exists : (d e : Vector) → IsDirection d → (m : Label) × NearLabel M d e m
  near-exists d e f =
      let k = amount (forms M) e in
      let a = label-exists (blend k d 1 e) (near-direction d e k (omega arith) f) in
      (a.0, near-from_far d e k (omega arith) a.0 a.1)

  pub near-unique : (d e : Vector) (m n : Label) → NearLabel M d e m → NearLabel M d e n → m ≡ n
  near-unique d e m n (i, f) (j, g) = label-unique (blend (i + j) d 1 e) m n (f (i + j) (omega arith)) (g (i + j) (omega arith))
