-- How many elements of a list pass a test.
use Rattle.law_geometry.proofs.near.Prelude.{◌≡◌, ℕ, ◌+◌, ◌<◌, ◌≤◌, arith, refl, ap, sym, ◌⊎◌, inl, inr, ⊎_elim, List, ◌∷◌, subst, Bool, true, false, []}
use Rattle.nef_space.proofs.Order.{Lies}

abbrev pub weight : Bool → ℕ
weight true = 1
weight false = 0

abbrev pub count : {A : Type 0} → (A → Bool) → List A → ℕ
count f [] = 0
count f (x ∷ xs) = weight (f x) + count f xs

-- none passes, or one is found that does
pub find-passing : {A : Type 0} (f : A → Bool) (xs : List A) → ((x : A) → Lies xs x → f x ≡ false) ⊎ ((x : A) × Lies xs x × (f x ≡ true))
find-passing f [] = inl (λ x l. absurd l)
find-passing {A} f (y ∷ ys) = by (f y) refl (find-passing f ys)
  where
    by : (b : Bool) → f y ≡ b → ((x : A) → Lies ys x → f x ≡ false) ⊎ ((x : A) × Lies ys x × (f x ≡ true)) → ((x : A) → Lies (y ∷ ys) x → f x ≡ false) ⊎ ((x : A) × Lies (y ∷ ys) x × (f x ≡ true))
    by true c r = inr (y, inl refl, c)
    by false c (inl g) = inl (λ x l. ⊎_elim (λ e. subst (λ (z : A). f z ≡ false) e c) (g x) l)
    by false c (inr (x, l, d)) = inr (x, inr l, d)

-- what fails the first test fails the second, and one that passes the first fails the second: fewer pass the second
module _ {A : Type 0} (f g : A → Bool) where
  abbrev Fewer : List A → Type 0
  Fewer xs = (x : A) → Lies xs x → f x ≡ false → g x ≡ false

  one-less : (b c : Bool) → (b ≡ false → c ≡ false) → weight c ≤ weight b
  one-less true true h = omega arith
  one-less true false h = omega arith
  one-less false c h = let e : weight c ≡ 0 = ap weight (h refl) in omega arith

  count-at_most : (xs : List A) → Fewer xs → count g xs ≤ count f xs
  count-at_most [] h = omega arith
  count-at_most (y ∷ ys) h =
      let a = one-less (f y) (g y) (h y (inl refl)) in
      let b = count-at_most ys (λ x l. h x (inr l)) in
      omega arith

  pub count-less : (xs : List A) → Fewer xs → (x : A) → Lies xs x → f x ≡ true → g x ≡ false → count g xs < count f xs
  count-less [] h x l c d = absurd l
  count-less (y ∷ ys) h x (inl e) c d =
      let b = count-at_most ys (λ x l. h x (inr l)) in
      let i : weight (f y) ≡ 1 = ap weight (subst (λ (z : A). f z ≡ true) (sym e) c) in
      let j : weight (g y) ≡ 0 = ap weight (subst (λ (z : A). g z ≡ false) (sym e) d) in
      omega arith
  count-less (y ∷ ys) h x (inr l) c d =
      let a = one-less (f y) (g y) (h y (inl refl)) in
      let b = count-less ys (λ x l. h x (inr l)) x l c d in
      omega arith
