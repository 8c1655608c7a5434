-- Where a plane parts two points, it crosses the segment between them.
use Rattle.nef_complex.proofs.Prelude.{◌≡◌, ◌<◌, ℤ, pos, ◌+ℤ◌, ◌-ℤ◌, ◌*ℤ◌, ◌<ℤ◌, arith, ap, sym, ◌∙◌, inl, inr, ⊎_elim, [], ◌∷◌, ints, ring, Poly, at, num, ◌⊕◌, ◌⊖◌, ◌⊗◌, given, none, follows, follows_times, mul_pos, mul_neg, by_order, SpacePoint, Form, form_at, slope, toward, IsBetween, Vector, dot, cross, triple, IsZero, IsDirection, HasOppositeSigns, IsMixed, of_point, form-sum, slope-toward, mixed-of, between-turned, slope-zero, HoldsBoth, cross-turned, in-span}
use Rattle.law_geometry.proofs.complex.FacetAngles.{cut-at}
use Rattle.nef_space.proofs.Order.{minus-of, plus-of}
use Rattle.nef_space.proofs.Elementary.{weight-positive, counted-positive, positive-factor}

-- ---- signs of products
times-none : (k c : ℤ) → c ≡ pos 0 → k *ℤ c ≡ pos 0
times-none k c o = ap (λ r. k *ℤ r) o ∙ ring (k ∷ []) (at 0 ⊗ num (pos 0)) (num (pos 0)) tt

-- ---- the sides of the two points
module _ (h : Form) (p q : SpacePoint) where
  -- a plane that parts two points isn't parallel to the way from the one to the other
  pub parted-slope : HasOppositeSigns (form_at h p) (form_at h q) → slope h (toward p q) ≡ pos 0 → ⊥
  parted-slope s z = by (form_at h p) (form_at h q) (pos p.w) (pos q.w) (weight-positive p) (weight-positive q) s (sym (slope-toward h p q) ∙ z)
    where
      by : (a b k l : ℤ) → pos 0 <ℤ k → pos 0 <ℤ l → HasOppositeSigns a b → k *ℤ b -ℤ l *ℤ a ≡ pos 0 → ⊥
      by a b k l x y (inl (m, n)) e = let i = mul_pos k b x n in let j = mul_neg l a y m in omega (arith, ints)
      by a b k l x y (inr (m, n)) e = let i = mul_neg k b x n in let j = mul_pos l a y m in omega (arith, ints)

  pub parted-way : HasOppositeSigns (form_at h p) (form_at h q) → IsDirection (toward p q)
  parted-way s z = parted-slope s (slope-zero h (toward p q) z)

  -- and doesn't hold both
  pub parted-apart : HasOppositeSigns (form_at h p) (form_at h q) → HoldsBoth h p q → ⊥
  parted-apart s (e, f) = ⊎_elim (λ (m : (form_at h p <ℤ pos 0) × (pos 0 <ℤ form_at h q)). omega (arith, ints, m.0)) (λ (m : (pos 0 <ℤ form_at h p) × (form_at h q <ℤ pos 0)). omega (arith, ints, m.0)) s

  -- but crosses the segment between them
  pub parted-cut : HasOppositeSigns (form_at h p) (form_at h q) → (y : SpacePoint) × IsBetween p y q × (form_at h y ≡ pos 0)
  parted-cut s = by s
    where
      turned : IsDirection (toward p q) → IsDirection (toward q p)
      turned d z = d (one q.x p.x z.0, one q.y p.y z.1, one q.z p.z z.2)
        where
          one : (x u : ℤ) → u *ℤ pos q.w -ℤ x *ℤ pos p.w ≡ pos 0 → x *ℤ pos p.w -ℤ u *ℤ pos q.w ≡ pos 0
          one x u e = omega (arith, ints)

      by : HasOppositeSigns (form_at h p) (form_at h q) → (y : SpacePoint) × IsBetween p y q × (form_at h y ≡ pos 0)
      by (inl (m, n)) = let c = cut-at h q p (turned (parted-way s)) n m in (c.place, between-turned q p c.place c.between, c.level)
      by (inr (m, n)) = let c = cut-at h p q (parted-way s) m n in (c.place, c.between, c.level)

  module _ (y : SpacePoint) (b : IsBetween p y q) where
    mixed : IsMixed (of_point p) (of_point y) (of_point q)
    mixed = mixed-of p y q b

    sum : pos mixed.k *ℤ form_at h y ≡ pos mixed.i *ℤ form_at h p +ℤ pos mixed.j *ℤ form_at h q
    sum = form-sum h mixed.k (of_point y) mixed.i (of_point p) mixed.j (of_point q) mixed.sum

    -- a plane that holds both points holds those between
    pub held-between : HoldsBoth h p q → form_at h y ≡ pos 0
    held-between (e, f) = follows_times (form_at h p ∷ form_at h q ∷ form_at h y ∷ pos mixed.k ∷ pos mixed.i ∷ pos mixed.j ∷ []) (at 3) (at 2) (num (pos 0))
        (given (num (pos 1)) (at 3 ⊗ at 2) (at 4 ⊗ at 0 ⊕ at 5 ⊗ at 1) sum (given (at 4) (at 0) (num (pos 0)) e (given (at 5) (at 1) (num (pos 0)) f none))) (counted-positive mixed.k mixed.some_k) tt

    -- and one that passes between them and doesn't hold both parts them
    pub crossed-parted : form_at h y ≡ pos 0 → (HoldsBoth h p q → ⊥) → HasOppositeSigns (form_at h p) (form_at h q)
    crossed-parted e n =
        by (form_at h p) (form_at h q) (pos mixed.i) (pos mixed.j) (let m = mixed.some_i in omega (arith, ints)) (let m = mixed.some_j in omega (arith, ints)) n
        (sym sum ∙ ap (λ r. pos mixed.k *ℤ r) e ∙ ring (pos mixed.k ∷ []) (at 0 ⊗ num (pos 0)) (num (pos 0)) tt)
      where
        by : (a b i j : ℤ) → pos 0 <ℤ i → pos 0 <ℤ j → ((a ≡ pos 0) × (b ≡ pos 0) → ⊥) → i *ℤ a +ℤ j *ℤ b ≡ pos 0 → HasOppositeSigns a b
        by a b i j x y n s = by_order a (pos 0)
            (λ m. let u = mul_neg i a x m in inl (m, plus-of j b y (omega (arith, ints))))
            (λ o. let u = times-none i a o in absurd (n (o, positive-factor j b y (omega (arith, ints)))))
            (λ m. let u = mul_pos i a x m in inr (m, minus-of j b y (omega (arith, ints))))

-- ---- three planes
abbrev cx : Poly
cx = at 1 ⊗ at 5 ⊖ at 2 ⊗ at 4

abbrev cy : Poly
cy = at 2 ⊗ at 3 ⊖ at 0 ⊗ at 5

abbrev cz : Poly
cz = at 0 ⊗ at 4 ⊖ at 1 ⊗ at 3

abbrev nd : Poly
nd = at 0 ⊗ at 6 ⊕ at 1 ⊗ at 7 ⊕ at 2 ⊗ at 8

abbrev md : Poly
md = at 3 ⊗ at 6 ⊕ at 4 ⊗ at 7 ⊕ at 5 ⊗ at 8

-- a vector at right angles to n and m is parallel to n x m: d x (n x m) = n (d.m) - m (d.n)
pub along-cross : (n m d : Vector) → dot n d ≡ pos 0 → dot m d ≡ pos 0 → IsZero (cross d (cross n m))
along-cross n m d i j = (
  follows (n.x ∷ n.y ∷ n.z ∷ m.x ∷ m.y ∷ m.z ∷ d.x ∷ d.y ∷ d.z ∷ []) (at 7 ⊗ cz ⊖ at 8 ⊗ cy) (num (pos 0)) (given (at 0) md (num (pos 0)) j (given (num (pos 0) ⊖ at 3) nd (num (pos 0)) i none)) tt,
  follows (n.x ∷ n.y ∷ n.z ∷ m.x ∷ m.y ∷ m.z ∷ d.x ∷ d.y ∷ d.z ∷ []) (at 8 ⊗ cx ⊖ at 6 ⊗ cz) (num (pos 0)) (given (at 1) md (num (pos 0)) j (given (num (pos 0) ⊖ at 4) nd (num (pos 0)) i none)) tt,
  follows (n.x ∷ n.y ∷ n.z ∷ m.x ∷ m.y ∷ m.z ∷ d.x ∷ d.y ∷ d.z ∷ []) (at 6 ⊗ cy ⊖ at 7 ⊗ cx) (num (pos 0)) (given (at 2) md (num (pos 0)) j (given (num (pos 0) ⊖ at 5) nd (num (pos 0)) i none)) tt,
)

-- a plane that parts two points isn't parallel to the line between them
pub independent : (n m k d : Vector) → IsDirection (cross n m) → dot n d ≡ pos 0 → dot m d ≡ pos 0 → triple n m k ≡ pos 0 → dot k d ≡ pos 0
independent n m k d some i j t =
    in-span k (cross n m) d some (cross-turned d (cross n m) (along-cross n m d i j))
    (ring (n.x ∷ n.y ∷ n.z ∷ m.x ∷ m.y ∷ m.z ∷ k.x ∷ k.y ∷ k.z ∷ []) (at 6 ⊗ cx ⊕ at 7 ⊗ cy ⊕ at 8 ⊗ cz)
    (at 0 ⊗ (at 4 ⊗ at 8 ⊖ at 5 ⊗ at 7) ⊕ at 1 ⊗ (at 5 ⊗ at 6 ⊖ at 3 ⊗ at 8) ⊕ at 2 ⊗ (at 3 ⊗ at 7 ⊖ at 4 ⊗ at 6)) tt ∙ t)
