-- Overlaid stars: what op of two maps' labels says of a label function with them; the axes, and the lone circle.
use Rattle.law_geometry.proofs.sphere.building.Prelude.{◌≡◌, ℕ, ◌+◌, ℤ, pos, ◌+ℤ◌, ◌-ℤ◌, ◌*ℤ◌, ◌<ℤ◌, neg_ℤ, arith, ap, sym, ◌∙◌, inl, inr, ⊎_elim, ◌∷◌, subst, [], ints, ring, at, num, ◌⊕◌, ◌⊖◌, ◌⊗◌, sign-plus, sign-minus, Vector, IsDirection, cross, dot, IsZero, SameDirection, opposite, blend, Label, IsOnCircle, IsAt, MapVertex, Map, Item, items, item_normal, OnItem, Valid, by_side, Star, Near, StraightAt, IsSmooth, plain, straight, ByOp, label-direction, level-same, op-labelling, RawMap, Of, ShowsLabels, IsBare, IsAxis, NearByOp, Raw, zero-decided, self-pos, SameDirection-turned, dir-self}
use Rattle.law_geometry.proofs.sphere.Smooth.{op-smooth}

-- the opposite of a direction lies behind it
pub opposite-behind : (n : Vector) → IsDirection n → dot n (opposite n) <ℤ pos 0
opposite-behind n h = let e = self-pos n h in let f = turned in omega (arith, ints)
  where
    neg-is : (z : ℤ) → neg_ℤ z ≡ pos 0 -ℤ z
    neg-is z = omega (arith, ints)

    turned : dot n (opposite n) ≡ pos 0 -ℤ dot n n
    turned =
        ap (λ r. n.x *ℤ r +ℤ n.y *ℤ neg_ℤ n.y +ℤ n.z *ℤ neg_ℤ n.z) (neg-is n.x)
        ∙ ap (λ r. n.x *ℤ (pos 0 -ℤ n.x) +ℤ n.y *ℤ r +ℤ n.z *ℤ neg_ℤ n.z) (neg-is n.y)
        ∙ ap (λ r. n.x *ℤ (pos 0 -ℤ n.x) +ℤ n.y *ℤ (pos 0 -ℤ n.y) +ℤ n.z *ℤ r) (neg-is n.z)
        ∙ ring (n.x ∷ n.y ∷ n.z ∷ []) (at 0 ⊗ (num (pos 0) ⊖ at 0) ⊕ at 1 ⊗ (num (pos 0) ⊖ at 1) ⊕ at 2 ⊗ (num (pos 0) ⊖ at 2)) (num (pos 0) ⊖ (at 0 ⊗ at 0 ⊕ at 1 ⊗ at 1 ⊕ at 2 ⊗ at 2)) tt

module _ (A B : Map) (op : Label → Label → Label) (R : RawMap) (L : Vector → Label) (V : Valid A) (W : Valid B) (raw : Raw R A B op)
    (labels : (d : Vector) → IsDirection d → ByOp A B op d (L d)) where
  abbrev F : Vector → Label → Type 0
  F = ByOp A B op

  -- ---- L has the labels that op has
  pub is-of : (d : Vector) (m : Label) → F d m → L d ≡ m
  is-of d m f =
      let h = label-direction A d f.0 f.2 in
      let N = op-labelling A B op V W in
      N.one d (L d) m h (labels d h) f

  pub near-of : (d e : Vector) (m : Label) → Near F d e m → Near (Of L) d e m
  near-of d e m (k, f) = (k, λ i l. is-of (blend i d 1 e) m (f i l))

  pub near-merged : (d e : Vector) (m : Label) → NearByOp A B op d e m → Near (Of L) d e m
  near-merged d e m (k, l, (i, f), (j, g), z) = (i + j, λ n s. is-of (blend n d 1 e) m (k, l, f n (omega arith), g n (omega arith), z))

  pub near-one_of : (d e : Vector) (k l : Label) → Near (Of L) d e k → Near (Of L) d e l → k ≡ l
  near-one_of d e k l (i, f) (j, g) = sym (f (i + j) (omega arith)) ∙ g (i + j) (omega arith)

  pub straight-of : (n : Vector) (a m b : Label) (d : Vector) → StraightAt F n a m b d → StraightAt (Of L) n a m b d
  straight-of n a m b d p = record { level = p.level; at_d = is-of d m p.at_d; near = λ e. near-of d e _ (p.near e) }

  pub smooth-of : (d : Vector) → IsSmooth F d → IsSmooth (Of L) d
  smooth-of d (plain m p) = plain m (record { at_d = is-of d m p.at_d; near = λ e. near-of d e m (p.near e) })
  smooth-of d (straight n a m b h p) = straight n a m b h (straight-of n a m b d p)

  -- labels about one plane are the same ones
  pub straight-one : (n : Vector) (a m b c o g : Label) (d : Vector) → IsDirection n → StraightAt (Of L) n a m b d → L d ≡ o → Near (Of L) d n c → Near (Of L) d (opposite n) g → (a ≡ c) × (m ≡ o) × (b ≡ g)
  straight-one n a m b c o g d h p q u v = (
    near-one_of d n a c (subst (Near (Of L) d n) (ap (by_side a m b) (sign-plus (dot n n) (self-pos n h))) (p.near n)) u,
    sym p.at_d ∙ q,
    near-one_of d (opposite n) b g (subst (Near (Of L) d (opposite n)) (ap (by_side a m b) (sign-minus (dot n (opposite n)) (opposite-behind n h))) (p.near (opposite n))) v,
  )

  pub straight-two : (n : Vector) (a m b c o g : Label) (d : Vector) → IsDirection n → StraightAt (Of L) n a m b d → StraightAt (Of L) n c o g d → (a ≡ c) × (m ≡ o) × (b ≡ g)
  straight-two n a m b c o g d h p q = straight-one n a m b c o g d h p q.at_d
      (subst (Near (Of L) d n) (ap (by_side c o g) (sign-plus (dot n n) (self-pos n h))) (q.near n))
      (subst (Near (Of L) d (opposite n)) (ap (by_side c o g) (sign-minus (dot n (opposite n)) (opposite-behind n h))) (q.near (opposite n)))

  -- ---- off the axes
  pub no-axis : (d : Vector) → ((k : ℕ) (t : Star) → IsAt R.stars k t → SameDirection t.axis d → ⊥) → IsAxis A B d → ⊥
  no-axis d none x = let c = raw.complete d x in none c.0 c.1 c.2 c.3

  module _ (d : Vector) (h : IsDirection d) (off : IsAxis A B d → ⊥) where
    pub off-first : (k : ℕ) (v : MapVertex) → IsAt A.svertices k v → SameDirection v.dir d → ⊥
    off-first k v a w = off (inl (k, v, a, w))

    pub off-second : (k : ℕ) (v : MapVertex) → IsAt B.svertices k v → SameDirection v.dir d → ⊥
    off-second k v a w = off (inr (inl (k, v, a, w)))

    -- items of the two that meet have one plane
    pub one-plane : (i j : ℕ) (x y : Item) → IsAt (items A) i x → IsAt (items B) j y → OnItem A x d → OnItem B y d → IsZero (cross (item_normal x) (item_normal y))
    one-plane i j x y a b o p = ⊎_elim (λ z. z) (λ f. absurd (off (inr (inr (record { i = i; k = j; x = x; y = y; of_a = a; of_b = b; apart = f; on_x = o; on_y = p })))))
        (zero-decided (cross (item_normal x) (item_normal y)))

    pub raw-smooth : IsSmooth (Of L) d
    raw-smooth = smooth-of d (op-smooth A B op V W d h off-first off-second one-plane)

  -- ---- stars
  pub raw-shows : (k : ℕ) (t : Star) → IsAt R.stars k t → ShowsLabels t L
  raw-shows k t a = let m = raw.merged k t a in record {
    star = m.star;
    mark = is-of t.axis t.mark m.mark;
    labels = λ e l h s. near-merged t.axis e l (m.labels e l h s);
  }

  -- no axis lies on a bare circle
  pub bare-off_axes : (n d : Vector) → IsDirection n → IsBare R.stars n → IsOnCircle n d → IsAxis A B d → ⊥
  bare-off_axes n d h bare o x = let c = raw.complete d x in bare c.0 c.1 c.2 (level-same n n d c.1.axis (dir-self n h) (SameDirection-turned c.1.axis d c.3) o.level)
