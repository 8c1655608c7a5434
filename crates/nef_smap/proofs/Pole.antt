-- The directions u and -u are plain by what lies over close directions.
use Rattle.nef_smap.proofs.Prelude.{◌≡◌, ℕ, ◌<◌, ◌≤◌, ℤ, pos, ◌+ℤ◌, ◌-ℤ◌, ◌*ℤ◌, ◌≤ℤ◌, ◌<ℤ◌, arith, refl, ap, sym, ◌∙◌, ⊎_elim, List, [], ◌∷◌, subst, None, ints, ring, at, num, neg, ◌⊕◌, ◌⊖◌, ◌⊗◌, follows, given, none, sign, by_order, mul_pos, mul_nonneg, mul_neg, nought-or, Lies, Vector, IsDirection, IsZero, cross, dot, SameDirection, IsOpposite, opposite, blend, Label, same-off, IsAt, MapVertex, Map, Item, items, item_normal, IsFree, Side, Shaped, Keeps, Labelling, Near, Plain, PlainAt, dot-comb, same-plus, item-forms, normal-form, amount, far-keeps, far-level, mixed-sign, free-around, carried, cross-direction_left, cross-self, over_forms, IsOver, first_sign, Stands, met, BelowFirsts, dot-comm, zero-decided, dot-zero, zero-dot, self-pos, nought-if, dir-signs}
use Rattle.nef_smap.proofs.Rise.{form-over, forms-kept}
use Rattle.nef_smap.proofs.Over.{first-one}
use Rattle.nef_smap.proofs.Stands.{far-first, stand, stands, stands-keeps}
use Rattle.nef_smap.proofs.Labelled.{above_forms, turned-form, LabelAbove, by_one, labelled, first-same}
use Rattle.nef_smap.proofs.Settled.{plain-free}
use Rattle.law_geometry.proofs.sphere.building.RayClose.{cross-last}

-- parallel vectors
pub parallel-value : (v d g : Vector) → IsZero (cross v d) → dot v v *ℤ dot g d ≡ dot v d *ℤ dot g v
parallel-value v d g p =
    let o = num (pos 0) in
    let gx = at 0 in let gy = at 1 in let gz = at 2 in
    let vx = at 3 in let vy = at 4 in let vz = at 5 in
    let dx = at 6 in let dy = at 7 in let dz = at 8 in
    follows (g.x ∷ g.y ∷ g.z ∷ v.x ∷ v.y ∷ v.z ∷ d.x ∷ d.y ∷ d.z ∷ [])
    ((vx ⊗ vx ⊕ vy ⊗ vy ⊕ vz ⊗ vz) ⊗ (gx ⊗ dx ⊕ gy ⊗ dy ⊕ gz ⊗ dz)) ((vx ⊗ dx ⊕ vy ⊗ dy ⊕ vz ⊗ dz) ⊗ (gx ⊗ vx ⊕ gy ⊗ vy ⊕ gz ⊗ vz))
    (given (gz ⊗ vy ⊖ gy ⊗ vz) (vy ⊗ dz ⊖ vz ⊗ dy) o p.0
    (given (gx ⊗ vz ⊖ gz ⊗ vx) (vz ⊗ dx ⊖ vx ⊗ dz) o p.1
    (given (gy ⊗ vx ⊖ gx ⊗ vy) (vx ⊗ dy ⊖ vy ⊗ dx) o p.2 none))) tt

keeps-mixed : (gs : List Vector) (d y z : Vector) (i j : ℕ) → 0 < i → 0 < j → Keeps gs d y → Keeps gs d z → Keeps gs d (blend i y j z)
keeps-mixed gs d y z i j si sj k h g l f = ap sign (dot-comb g (pos i) y (pos j) z) ∙ mixed-sign (dot g y) (dot g z) i j si sj (h g l f ∙ sym (k g l f)) ∙ k g l f

module _ (M : Map) (V : Shaped M) (u : Vector) (ahead : (k : ℕ) (x : Item) → IsAt (items M) k x → pos 0 <ℤ dot (item_normal x) u)
    (G : Side → Label) (top : Label) (firsts : (k : ℕ) (v : MapVertex) → IsAt M.svertices k v → BelowFirsts M u v.dir) (joins : (k : ℕ) (v : MapVertex) (a : IsAt M.svertices k v) → (let j = firsts k v a in met G top j.left ≡ met G top j.right))
    (e : Vector) (general : (g : Vector) → Lies (over_forms M u) g → IsDirection g → dot g e ≡ pos 0 → ⊥) (apart : IsDirection (cross u e)) where
  abbrev F : Vector → Label → Type 0
  F = LabelAbove M u e G top

  abbrev L : Labelling (above_forms M u e G top) F
  L = labelled M u e G top V ahead

  -- ---- at u nothing lies over close directions
  module _ (d : Vector) (D : IsFree M d) (w : SameDirection u d) (hu : IsDirection u) where
    top-at : (z : Vector) → Keeps (over_forms M u) d z → IsFree M z → F z top
    top-at z k Z =
        let y = stand (over_forms M u) z (cross u z) e in
        let s = stands (over_forms M u) z (cross u z) e in
        by_one M u e G top V ahead z y top Z s (λ r g. ap (met G top) (first-one M V u ahead y r None g (λ j x a o. none j x a y s o)))
      where
        none : (j : ℕ) (x : Item) → IsAt (items M) j x → (y : Vector) → Stands (over_forms M u) z (cross u z) e y → IsOver M u x y → ⊥
        none j x a y s o =
            let n = item_normal x in
            let i = form-over M u n (item-forms M j x n a (normal-form M x)) in
            let p = same-plus (dot n u) (dot n d) (dir-signs u d n hu w) (ahead j x a) in
            let q = same-plus (dot n d) (dot n z) (k n i (λ c. omega (arith, ints))) p in
            let r = same-plus (dot n z) (dot n y) (stands-keeps (over_forms M u) z (cross u z) e y s n i (λ c. omega (arith, ints))) q in
            let b = o.below in omega (arith, ints)

    pub plain-up : PlainAt F d top
    plain-up = record {
      at_d = top-at d (λ g l f. refl) D;
      near = λ w. (amount (over_forms M u) w, λ k h. let s = far-keeps (over_forms M u) d w k h in top-at (blend k d 1 w) s (free-around M V d (blend k d 1 w) (forms-kept M u d (blend k d 1 w) s) D));
    }

  -- ---- at -u
  module _ (d : Vector) (D : IsFree M d) (p : IsZero (cross u d)) where
    free-near : (z : Vector) → Keeps (over_forms M u) d z → IsFree M z
    free-near z k = free-around M V d z (forms-kept M u d z k) D

    plain-near : (z : Vector) → Keeps (over_forms M u) d z → IsDirection (cross u z) → Plain F z
    plain-near z k f m a w h =
        let q = plain-free M V u ahead G top firsts joins e z f (free-near z k) in
        subst (Near F z w) (L.one z _ m (let Z = free-near z k in Z.direction) q.at_d a) (q.near w)

    -- from one close direction to another
    module _ (x y : Vector) (hx : IsDirection (cross u x)) (hy : IsDirection (cross u y)) (right : pos 0 ≤ℤ dot (cross u x) (cross u y)) (i j : ℕ)
        (si : amount (over_forms M u) x ≤ i) (sj : amount (over_forms M u) y ≤ j) where
      abbrev h : Vector
      h = cross (cross u x) u

      abbrev X : Vector
      X = blend i d 1 x

      abbrev Y : Vector
      Y = blend j d 1 y

      h-d : dot h d ≡ pos 0
      h-d = sym (turned-form (cross u x) u d) ∙ dot-zero (cross u x) (cross u d) p

      h-x : pos 0 <ℤ dot h x
      h-x = subst (λ (r : ℤ). pos 0 <ℤ r) (turned-form (cross u x) u x) (self-pos (cross u x) hx)

      h-y : pos 0 ≤ℤ dot h y
      h-y = subst (λ (r : ℤ). pos 0 ≤ℤ r) (turned-form (cross u x) u y) right

      value : (k : ℕ) (w : Vector) → dot h (blend k d 1 w) ≡ dot h w
      value k w = dot-comb h (pos k) d (pos 1) w ∙ ap (λ r. pos k *ℤ r +ℤ pos 1 *ℤ dot h w) h-d ∙ ring (pos k ∷ dot h w ∷ []) (at 0 ⊗ num (pos 0) ⊕ num (pos 1) ⊗ at 1) (at 1) tt

      -- off the line of u
      off : (z : Vector) → pos 0 <ℤ dot h z → IsDirection (cross u z)
      off z l q = let c = sym (turned-form (cross u x) u z) ∙ dot-zero (cross u x) (cross u z) q in omega (arith, ints)

      off-sum : (k : ℕ) (w : Vector) → IsDirection (cross u w) → IsDirection (cross u (blend k d 1 w))
      off-sum k w f q = f (one u.y u.z d.y d.z w.y w.z p.0 q.0, one u.z u.x d.z d.x w.z w.x p.1 q.1, one u.x u.y d.x d.y w.x w.y p.2 q.2)
        where
          one : (a b s t v w : ℤ) → a *ℤ t -ℤ b *ℤ s ≡ pos 0 → a *ℤ (pos k *ℤ t +ℤ pos 1 *ℤ w) -ℤ b *ℤ (pos k *ℤ s +ℤ pos 1 *ℤ v) ≡ pos 0 → a *ℤ w -ℤ b *ℤ v ≡ pos 0
          one a b s t v w p q = let o = num (pos 0) in follows (a ∷ b ∷ s ∷ t ∷ v ∷ w ∷ pos k ∷ []) (at 0 ⊗ at 5 ⊖ at 1 ⊗ at 4) o
              (given (num (pos 1)) (at 0 ⊗ (at 6 ⊗ at 3 ⊕ num (pos 1) ⊗ at 5) ⊖ at 1 ⊗ (at 6 ⊗ at 2 ⊕ num (pos 1) ⊗ at 4)) o q (given (o ⊖ at 6) (at 0 ⊗ at 3 ⊖ at 1 ⊗ at 2) o p none)) tt

      X-keeps : Keeps (over_forms M u) d X
      X-keeps = far-keeps (over_forms M u) d x i si

      Y-keeps : Keeps (over_forms M u) d Y
      Y-keeps = far-keeps (over_forms M u) d y j sj

      X-free : IsFree M X
      X-free = free-near X X-keeps

      not-opposite : IsOpposite X Y → ⊥
      not-opposite o =
          let a = parallel-value X Y h o.parallel in
          let b = value i x in
          let c = value j y in
          let s = h-x in
          let t = h-y in
          let q = mul_neg (dot h X) (dot X Y) (omega (arith, ints)) o.backward in
          let r = mul_nonneg (dot X X) (dot h Y) (let w = self-pos X X-free.direction in omega (arith, ints)) (omega (arith, ints)) in
          let z = ring (dot h X ∷ dot X Y ∷ []) (at 0 ⊗ at 1) (at 1 ⊗ at 0) tt in
          omega (arith, ints)

      between : (a b : ℕ) → 0 < a → 0 < b → Plain F (blend a X b Y)
      between a b sa sb =
          let s = value i x in
          let t = value j y in
          let q = h-x in
          let r = h-y in
          let v = mul_pos (pos a) (dot h X) (omega (arith, ints)) (omega (arith, ints)) in
          let w = mul_nonneg (pos b) (dot h Y) (omega (arith, ints)) (omega (arith, ints)) in
          let c = dot-comb h (pos a) X (pos b) Y in
          plain-near (blend a X b Y) (keeps-mixed (over_forms M u) d X Y a b sa sb X-keeps Y-keeps) (off (blend a X b Y) (omega (arith, ints)))

      pub leg : (m : Label) → F X m → F Y m
      leg m a = carried (above_forms M u e G top) F L X Y X-free.direction (let Z = free-near Y Y-keeps in Z.direction) not-opposite
          (plain-near X X-keeps (off-sum i x hx)) (plain-near Y Y-keeps (off-sum j y hy)) between m a

    -- the label at d is that close to d toward e
    abbrev size : ℕ
    size = amount (over_forms M u) e

    start : (m : Label) → F d m → F (blend size d 1 e) m
    start m a =
        let z = blend size d 1 e in
        let y = stand (over_forms M u) z (cross u z) e in
        let s = stands (over_forms M u) z (cross u z) e in
        let Z = free-near z (far-keeps (over_forms M u) d e size (omega arith)) in
        by_one M u e G top V ahead z y m Z s (λ r g. a.free D z r aside (first-same M u e G top V ahead y z (λ g l. same g l y s) r g))
      where
        nothing : (g : Vector) → dot g (cross u d) ≡ pos 0
        nothing g = dot-zero g (cross u d) p

        aside : Stands (over_forms M u) d (cross u d) e (blend size d 1 e)
        aside g l = far-first (over_forms M u) d e size (omega arith) g l ∙ ap (first_sign (sign (dot g d))) (sym (ap (λ t. first_sign t (sign (dot g e))) (ap sign (nothing g))))

        same : (g : Vector) → Lies (over_forms M u) g → (y : Vector) → Stands (over_forms M u) (blend size d 1 e) (cross u (blend size d 1 e)) e y → sign (dot g (blend size d 1 e)) ≡ sign (dot g y)
        same g l y s = ⊎_elim
            (λ z. ap sign (zero-dot g (blend size d 1 e) z ∙ sym (zero-dot g y z)))
            (λ h. sym (stands-keeps (over_forms M u) (blend size d 1 e) (cross u (blend size d 1 e)) e y s g l (off g l h)))
            (zero-decided g)
          where
            off : (g : Vector) → Lies (over_forms M u) g → IsDirection g → dot g (blend size d 1 e) ≡ pos 0 → ⊥
            off g l h = ⊎_elim
                (λ z. same-off (dot g e) (dot g (blend size d 1 e)) (far-level (over_forms M u) d e size (omega arith) g z) (general g l h))
                (λ f. same-off (dot g d) (dot g (blend size d 1 e)) (far-keeps (over_forms M u) d e size (omega arith) g l f) f)
                (nought-or (dot g d))

    abbrev side : Vector
    side = cross u e

    side-direction : IsDirection (cross u side)
    side-direction z = apart (nought-if u side (cross-direction_left u e apart) z (sym (dot-comm side u) ∙ cross-self u e))

    opposite-product : (x v : Vector) → dot (cross u (opposite x)) v ≡ pos 0 -ℤ dot (cross u x) v
    opposite-product x v = ring (u.x ∷ u.y ∷ u.z ∷ x.x ∷ x.y ∷ x.z ∷ v.x ∷ v.y ∷ v.z ∷ [])
        ((at 1 ⊗ neg (at 5) ⊖ at 2 ⊗ neg (at 4)) ⊗ at 6 ⊕ (at 2 ⊗ neg (at 3) ⊖ at 0 ⊗ neg (at 5)) ⊗ at 7 ⊕ (at 0 ⊗ neg (at 4) ⊖ at 1 ⊗ neg (at 3)) ⊗ at 8)
        (num (pos 0) ⊖ ((at 1 ⊗ at 5 ⊖ at 2 ⊗ at 4) ⊗ at 6 ⊕ (at 2 ⊗ at 3 ⊖ at 0 ⊗ at 5) ⊗ at 7 ⊕ (at 0 ⊗ at 4 ⊖ at 1 ⊗ at 3) ⊗ at 8)) tt

    opposite-direction : IsDirection (cross u (opposite side))
    opposite-direction z =
        let a = opposite-product side (cross u side) in
        let b = zero-dot (cross u (opposite side)) (cross u side) z in
        let c = self-pos (cross u side) side-direction in
        omega (arith, ints)

    pub plain-down : (m : Label) → F d m → (w : Vector) → IsDirection (cross u w) → Near F d w m
    plain-down m a w h = (amount (over_forms M u) w, λ k s. by_order (dot (cross u side) (cross u w)) (pos 0) (λ l. back k s l) (λ l. ahead-of k s (omega (arith, ints))) (λ l. ahead-of k s (omega (arith, ints))))
      where
        at-right : dot side (cross u side) ≡ pos 0
        at-right = dot-comm side (cross u side) ∙ cross-last u side

        ahead-of : (k : ℕ) → amount (over_forms M u) w ≤ k → pos 0 ≤ℤ dot (cross u side) (cross u w) → F (blend k d 1 w) m
        ahead-of k s r =
            let j = amount (over_forms M u) side in
            let q = at-right in
            leg side w side-direction h r j k (omega arith) s m (leg e side apart side-direction (omega (arith, ints)) size j (omega arith) (omega arith) m (start m a))

        back : (k : ℕ) → amount (over_forms M u) w ≤ k → dot (cross u side) (cross u w) <ℤ pos 0 → F (blend k d 1 w) m
        back k s r =
            let j = amount (over_forms M u) (opposite side) in
            let q = at-right in
            let t = opposite-product side (cross u w) in
            let v = dot-comm side (cross u (opposite side)) ∙ opposite-product side side in
            let y = dot-comm (cross u side) side in
            leg (opposite side) w opposite-direction h (omega (arith, ints)) j k (omega arith) s m (leg e (opposite side) apart opposite-direction (omega (arith, ints)) size j (omega arith) (omega arith) m (start m a))
