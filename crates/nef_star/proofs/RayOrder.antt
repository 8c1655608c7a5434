-- The order of rays.
use Rattle.nef_star.proofs.Prelude.{◌≡◌, ℕ, zero, suc, ◌+◌, ◌<◌, List, [], ◌∷◌, length, get_or, arith, refl, sym, subst, ◌∙◌, inl, inr, ◌⊎◌, eq-or-lt_of_le, IsBelow, direction_numbers, vector_of, Dir, Ray, IsRayBelow}
use Rattle.nef_geo.proofs.Orders.{never-below}
use Rattle.nef_space.proofs.Elementary.{below-trans}
use Rattle.std.proofs.lemmas.Bool.{false≢true}

pub ray-below-trans : (p q r : Ray) → IsRayBelow p q → IsRayBelow q r → IsRayBelow p r
ray-below-trans p q r (inl h) (inl k) = inl (below-trans (direction_numbers (vector_of p.normal)) (direction_numbers (vector_of q.normal)) (direction_numbers (vector_of r.normal)) h k)
ray-below-trans p q r (inl h) (inr (e, k, k')) = inl (subst (λ (d : Dir). IsBelow (direction_numbers (vector_of p.normal)) (direction_numbers (vector_of d))) e h)
ray-below-trans p q r (inr (e, h, h')) (inl k) = inl (subst (λ (d : Dir). IsBelow (direction_numbers (vector_of d)) (direction_numbers (vector_of r.normal))) (sym e) k)
ray-below-trans p q r (inr (e, a, b)) (inr (f, c, d)) = absurd (false≢true (sym b ∙ c))

pub ray-below-self : (r : Ray) → IsRayBelow r r → ⊥
ray-below-self r (inl h) = never-below (direction_numbers (vector_of r.normal)) h
ray-below-self r (inr (e, a, b)) = false≢true (sym b ∙ a)

pub one-value : {X : Type 0} (xs : List X) (k : ℕ) (d e : X) → k < length xs → get_or xs k d ≡ get_or xs k e
one-value [] k d e h = absurd (omega arith)
one-value (x ∷ xs) zero d e h = refl
one-value (x ∷ xs) (suc k) d e h = one-value xs k d e (omega arith)

-- of the first k rays, none is below ray l
abbrev pub LeastOf : List Ray → ℕ → ℕ → Type 0
LeastOf rays l k = (i : ℕ) (q r : Ray) → i < k → get_or rays l q ≡ q → get_or rays i r ≡ r → IsRayBelow r q → ⊥

module _ (rays : List Ray) (l k : ℕ) (x y : Ray) (lh : l < length rays) (kh : k < length rays) (xs : x ≡ get_or rays k x) (ys : y ≡ get_or rays l y) (least : LeastOf rays l k) where
  the : (i : ℕ) (r z : Ray) → i < length rays → get_or rays i r ≡ r → z ≡ get_or rays i z → r ≡ z
  the i r z h e f = sym e ∙ one-value rays i r z h ∙ sym f

  pub least-stays : (IsRayBelow x y → ⊥) → LeastOf rays l (k + 1)
  least-stays n i q r h e f b = by (eq-or-lt_of_le {n = i} {m = k} (omega (arith, h)))
    where
      by : (i ≡ k) ⊎ (i < k) → ⊥
      by (inl z) =
          let r_is : r ≡ x = the k r x kh (subst (λ (j : ℕ). get_or rays j r ≡ r) z f) xs in
          let q_is : q ≡ y = the l q y lh e ys in
          n (subst (IsRayBelow x) q_is (subst (λ (s : Ray). IsRayBelow s q) r_is b))
      by (inr z) = least i q r z e f b

  pub least-changes : IsRayBelow x y → LeastOf rays k (k + 1)
  least-changes below i q r h e f b = by (eq-or-lt_of_le {n = i} {m = k} (omega (arith, h)))
    where
      q_is : q ≡ x
      q_is = the k q x kh e xs

      by : (i ≡ k) ⊎ (i < k) → ⊥
      by (inl z) =
          let r_is : r ≡ x = the k r x kh (subst (λ (j : ℕ). get_or rays j r ≡ r) z f) xs in
          ray-below-self x (subst (IsRayBelow x) q_is (subst (λ (s : Ray). IsRayBelow s q) r_is b))
      by (inr z) = least i y r z (sym ys) f (ray-below-trans r x y (subst (IsRayBelow r) q_is b) below)
