-- Every direction is a multiple of one in lowest terms; the order of vectors.
use Rattle.law_geometry.proofs.sphere.cones.Prelude.{◌≡◌, ℕ, zero, suc, ℤ, pos, negsuc, ◌+ℤ◌, ◌-ℤ◌, ◌*ℤ◌, ◌≤ℤ◌, ◌<ℤ◌, nat_abs, arith, ap, sym, ◌∙◌, ◌⊎◌, inl, inr, ◌∷◌, subst, [], ints, by_lt_z, ring, at, num, ◌⊕◌, ◌⊖◌, ◌⊗◌, follows, given, none, by_order, cancel_eq, cancel_lt, Vector, IsDirection, cross, dot, vector, IsZero, SameDirection, IsPrimitive, VectorBelow, self-pos, vector-same}

-- ---- greatest common divisors
-- g is a sum of multiples of x and y, and both are multiples of g
record Common (x y : ℤ) : Type 0 where
  common : ℤ
  some : pos 0 ≤ℤ common
  first : ℤ
  second : ℤ
  left : ℤ
  right : ℤ
  sum : first *ℤ x +ℤ second *ℤ y ≡ common
  is_left : x ≡ common *ℤ left
  is_right : y ≡ common *ℤ right

swapped : (x y : ℤ) → Common x y → Common y x
swapped x y c = record {
  common = c.common;
  some = c.some;
  first = c.second;
  second = c.first;
  left = c.right;
  right = c.left;
  sum = follows (x ∷ y ∷ c.first ∷ c.second ∷ c.common ∷ []) (at 3 ⊗ at 1 ⊕ at 2 ⊗ at 0) (at 4) (given (num (pos 1)) (at 2 ⊗ at 0 ⊕ at 3 ⊗ at 1) (at 4) c.sum none) tt;
  is_left = c.is_right;
  is_right = c.is_left;
}

-- from x - y and y
stepped : (x y : ℤ) → Common (x -ℤ y) y → Common x y
stepped x y c = record {
  common = c.common;
  some = c.some;
  first = c.first;
  second = c.second -ℤ c.first;
  left = c.left +ℤ c.right;
  right = c.right;
  sum = follows (x ∷ y ∷ c.first ∷ c.second ∷ c.common ∷ []) (at 2 ⊗ at 0 ⊕ (at 3 ⊖ at 2) ⊗ at 1) (at 4) (given (num (pos 1)) (at 2 ⊗ (at 0 ⊖ at 1) ⊕ at 3 ⊗ at 1) (at 4) c.sum none) tt;
  is_left = follows (x ∷ y ∷ c.common ∷ c.left ∷ c.right ∷ []) (at 0) (at 2 ⊗ (at 3 ⊕ at 4)) (given (num (pos 1)) (at 0 ⊖ at 1) (at 2 ⊗ at 3) c.is_left (given (num (pos 1)) (at 1) (at 2 ⊗ at 4) c.is_right none)) tt;
  is_right = c.is_right;
}

turned : (x y : ℤ) → Common (pos 0 -ℤ x) y → Common x y
turned x y c = record {
  common = c.common;
  some = c.some;
  first = pos 0 -ℤ c.first;
  second = c.second;
  left = pos 0 -ℤ c.left;
  right = c.right;
  sum = follows (x ∷ y ∷ c.first ∷ c.second ∷ c.common ∷ []) ((num (pos 0) ⊖ at 2) ⊗ at 0 ⊕ at 3 ⊗ at 1) (at 4) (given (num (pos 1)) (at 2 ⊗ (num (pos 0) ⊖ at 0) ⊕ at 3 ⊗ at 1) (at 4) c.sum none) tt;
  is_left = follows (x ∷ c.common ∷ c.left ∷ []) (at 0) (at 1 ⊗ (num (pos 0) ⊖ at 2)) (given (num (negsuc 0)) (num (pos 0) ⊖ at 0) (at 1 ⊗ at 2) c.is_left none) tt;
  is_right = c.is_right;
}

alone : (x : ℤ) → pos 0 ≤ℤ x → Common x (pos 0)
alone x h = record {
  common = x;
  some = h;
  first = pos 1;
  second = pos 0;
  left = pos 1;
  right = pos 0;
  sum = ring (x ∷ []) (num (pos 1) ⊗ at 0 ⊕ num (pos 0) ⊗ num (pos 0)) (at 0) tt;
  is_left = ring (x ∷ []) (at 0) (at 0 ⊗ num (pos 1)) tt;
  is_right = ring (x ∷ []) (num (pos 0)) (at 0 ⊗ num (pos 0)) tt;
}

common-of : (n : ℕ) (x y : ℤ) → pos 0 ≤ℤ x → pos 0 ≤ℤ y → (x +ℤ y) ≤ℤ pos n → Common x y
common-of zero x y h k l = let z : y ≡ pos 0 = omega (arith, ints) in subst (Common x) (sym z) (alone x h)
common-of (suc n) x y h k l = by (λ a b p q r. common-of n a b p q r)
  where
    by : ((a b : ℤ) → pos 0 ≤ℤ a → pos 0 ≤ℤ b → (a +ℤ b) ≤ℤ pos n → Common a b) → Common x y
    by go = by_order y (pos 0)
        (λ m. absurd (omega (arith, ints)))
        (λ z. subst (Common x) (sym z) (alone x h))
        (λ m. by_order x (pos 0)
        (λ i. absurd (omega (arith, ints)))
        (λ z. swapped y x (subst (Common y) (sym z) (alone y k)))
        (λ i. by_lt_z x y
        (λ u. swapped y x (stepped y x (go (y -ℤ x) x (omega (arith, ints)) (omega (arith, ints)) (omega (arith, ints)))))
        (λ u. stepped x y (go (x -ℤ y) y (omega (arith, ints)) (omega (arith, ints)) (omega (arith, ints))))))

common : (x y : ℤ) → Common x y
common x y = by_lt_z x (pos 0) (λ a. turned x y (whole (pos 0 -ℤ x) (omega (arith, ints)))) (λ a. whole x a)
  where
    up : (a b : ℤ) → pos 0 ≤ℤ a → pos 0 ≤ℤ b → Common a b
    up a b h k = common-of (nat_abs (a +ℤ b)) a b h k (omega (arith, ints))

    whole : (a : ℤ) → pos 0 ≤ℤ a → Common a y
    whole a h = by_lt_z y (pos 0) (λ b. swapped y a (turned y a (swapped a (pos 0 -ℤ y) (up a (pos 0 -ℤ y) h (omega (arith, ints)))))) (λ b. up a y h b)

-- ---- lowest terms
pub record Lowest (v : Vector) : Type 0 where
  pub direction : Vector
  pub primitive : IsPrimitive direction
  pub same : SameDirection v direction

pub lowest : (v : Vector) → IsDirection v → Lowest v
lowest v h = by (common v.x v.y)
  where
    by : Common v.x v.y → Lowest v
    by c = then (common c.common v.z)
      where
        then : Common c.common v.z → Lowest v
        then e = record { direction = u; primitive = record { by = b; one = one }; same = record { parallel = parallel; forward = forward } }
          where
            u : Vector
            u = vector (e.left *ℤ c.left) (e.left *ℤ c.right) e.right

            b : Vector
            b = vector (e.first *ℤ c.first) (e.first *ℤ c.second) e.second

            x-is : v.x ≡ e.common *ℤ (e.left *ℤ c.left)
            x-is = c.is_left ∙ ap (λ r. r *ℤ c.left) e.is_left ∙ ring (e.common ∷ e.left ∷ c.left ∷ []) (at 0 ⊗ at 1 ⊗ at 2) (at 0 ⊗ (at 1 ⊗ at 2)) tt

            y-is : v.y ≡ e.common *ℤ (e.left *ℤ c.right)
            y-is = c.is_right ∙ ap (λ r. r *ℤ c.right) e.is_left ∙ ring (e.common ∷ e.left ∷ c.right ∷ []) (at 0 ⊗ at 1 ⊗ at 2) (at 0 ⊗ (at 1 ⊗ at 2)) tt

            positive : pos 0 <ℤ e.common
            positive = by_order e.common (pos 0)
                (λ l. let s = e.some in absurd (omega (arith, ints)))
                (λ z. absurd (h (no_more v.x _ x-is z, no_more v.y _ y-is z, no_more v.z _ e.is_right z)))
                (λ l. l)
              where
                no_more : (x r : ℤ) → x ≡ e.common *ℤ r → e.common ≡ pos 0 → x ≡ pos 0
                no_more x r q z = q ∙ ap (λ k. k *ℤ r) z ∙ ring (r ∷ []) (num (pos 0) ⊗ at 0) (num (pos 0)) tt

            -- g (b.u) = b.v = g
            one : dot b u ≡ pos 1
            one = cancel_eq (dot b u) (pos 1) e.common positive
                (follows (v.x ∷ v.y ∷ v.z ∷ e.common ∷ e.left ∷ e.right ∷ e.first ∷ e.second ∷ c.common ∷ c.left ∷ c.right ∷ c.first ∷ c.second ∷ [])
                ((at 6 ⊗ at 11 ⊗ (at 4 ⊗ at 9) ⊕ at 6 ⊗ at 12 ⊗ (at 4 ⊗ at 10) ⊕ at 7 ⊗ at 5) ⊗ at 3) (num (pos 1) ⊗ at 3)
                (given (num (negsuc 0) ⊗ at 6 ⊗ at 11) (at 0) (at 3 ⊗ (at 4 ⊗ at 9)) x-is
                (given (num (negsuc 0) ⊗ at 6 ⊗ at 12) (at 1) (at 3 ⊗ (at 4 ⊗ at 10)) y-is
                (given (num (negsuc 0) ⊗ at 7) (at 2) (at 3 ⊗ at 5) e.is_right
                (given (at 6) (at 11 ⊗ at 0 ⊕ at 12 ⊗ at 1) (at 8) c.sum
                (given (num (pos 1)) (at 6 ⊗ at 8 ⊕ at 7 ⊗ at 2) (at 3) e.sum none))))) tt)

            parallel : IsZero (cross v u)
            parallel =
                let xs = v.x ∷ v.y ∷ v.z ∷ e.common ∷ (e.left *ℤ c.left) ∷ (e.left *ℤ c.right) ∷ e.right ∷ [] in
                let o = num (pos 0) in
                let x = at 3 ⊗ at 4 in let y = at 3 ⊗ at 5 in let z = at 3 ⊗ at 6 in (
                  follows xs (at 1 ⊗ at 6 ⊖ at 2 ⊗ at 5) o (given (at 6) (at 1) y y-is (given (o ⊖ at 5) (at 2) z e.is_right none)) tt,
                  follows xs (at 2 ⊗ at 4 ⊖ at 0 ⊗ at 6) o (given (at 4) (at 2) z e.is_right (given (o ⊖ at 6) (at 0) x x-is none)) tt,
                  follows xs (at 0 ⊗ at 5 ⊖ at 1 ⊗ at 4) o (given (at 5) (at 0) x x-is (given (o ⊖ at 4) (at 1) y y-is none)) tt,
                )

            -- g (v.u) = v.v
            forward : pos 0 <ℤ dot v u
            forward = cancel_lt (pos 0) (dot v u) e.common positive
                (let p = self-pos v h in
                let q = follows (v.x ∷ v.y ∷ v.z ∷ e.common ∷ (e.left *ℤ c.left) ∷ (e.left *ℤ c.right) ∷ e.right ∷ []) ((at 0 ⊗ at 4 ⊕ at 1 ⊗ at 5 ⊕ at 2 ⊗ at 6) ⊗ at 3) (at 0 ⊗ at 0 ⊕ at 1 ⊗ at 1 ⊕ at 2 ⊗ at 2)
                (given (num (negsuc 0) ⊗ at 0) (at 0) (at 3 ⊗ at 4) x-is (given (num (negsuc 0) ⊗ at 1) (at 1) (at 3 ⊗ at 5) y-is (given (num (negsuc 0) ⊗ at 2) (at 2) (at 3 ⊗ at 6) e.is_right none))) tt in
                omega (arith, ints))

-- ---- the order of vectors
pub below-trans : (u v w : Vector) → VectorBelow u v → VectorBelow v w → VectorBelow u w
below-trans u v w (inl a) (inl b) = inl (omega (arith, ints))
below-trans u v w (inl a) (inr (inl b)) = inl (let e = b.0 in omega (arith, ints))
below-trans u v w (inl a) (inr (inr b)) = inl (let e = b.0 in omega (arith, ints))
below-trans u v w (inr (inl a)) (inl b) = inl (let e = a.0 in omega (arith, ints))
below-trans u v w (inr (inr a)) (inl b) = inl (let e = a.0 in omega (arith, ints))
below-trans u v w (inr (inl a)) (inr (inl b)) = inr (inl (a.0 ∙ b.0, let x = a.1 in let y = b.1 in omega (arith, ints)))
below-trans u v w (inr (inl a)) (inr (inr b)) = inr (inl (a.0 ∙ b.0, let x = a.1 in let y = b.1 in omega (arith, ints)))
below-trans u v w (inr (inr a)) (inr (inl b)) = inr (inl (a.0 ∙ b.0, let x = a.1 in let y = b.1 in omega (arith, ints)))
below-trans u v w (inr (inr a)) (inr (inr b)) = inr (inr (a.0 ∙ b.0, a.1 ∙ b.1, let x = a.2 in let y = b.2 in omega (arith, ints)))

pub below-either : (u v : Vector) → VectorBelow u v ⊎ (u ≡ v) ⊎ VectorBelow v u
below-either u v = by_order u.x v.x (λ l. inl (inl l))
    (λ x. by_order u.y v.y (λ l. inl (inr (inl (x, l))))
    (λ y. by_order u.z v.z (λ l. inl (inr (inr (x, y, l)))) (λ z. inr (inl (vector-same u v x y z))) (λ l. inr (inr (inr (inr (sym x, sym y, l))))))
    (λ l. inr (inr (inr (inl (sym x, l))))))
    (λ l. inr (inr (inl l)))
