-- Lists to which the elements with some property are added.
use Rattle.nef_facets.proofs.Prelude.{◌≡◌, ℕ, ◌+◌, ◌<◌, List, [], ◌∷◌, ◌++◌, arith, subst, inl, inr, ◌⊎◌, Contains, eq-or-lt_of_le, Adds, Any}
use Rattle.std.proofs.lemmas.List.Elements.{Contains-append_left, Contains-push, Contains-push_cases}

module _ {X : Type 0} where
  -- nothing has P
  pub adds-none : (P : X → Type 0) (xs : List X) → ((x : X) → P x → ⊥) → Adds P xs xs
  adds-none P xs n = record { kept = λ x h. h; added = λ x h. inl h; all = λ x h. absurd (n x h) }

  -- one element has P
  pub adds-one : (P : X → Type 0) (xs : List X) (x : X) → P x → ((y : X) → P y → x ≡ y) → Adds P xs (xs ++ x ∷ [])
  adds-one P xs x h one = record {
    kept = λ y i. Contains-append_left xs (x ∷ []) y i;
    added = λ y i. by y (Contains-push_cases xs x y i);
    all = λ y p. subst (λ (r : X). Contains (xs ++ x ∷ []) r) (one y p) (Contains-push xs x);
  }
    where
      by : (y : X) → Contains xs y ⊎ (x ≡ y) → Contains xs y ⊎ P y
      by y (inl i) = inl i
      by y (inr e) = inr (subst P e h)

  -- those with P are added and then those with Q
  pub adds-both : (P Q R : X → Type 0) (xs ys zs : List X) → Adds P xs ys → Adds Q ys zs → ((x : X) → P x ⊎ Q x → R x) → ((x : X) → R x → P x ⊎ Q x) → Adds R xs zs
  adds-both P Q R xs ys zs f g to from = record {
    kept = λ x h. g.kept x (f.kept x h);
    added = λ x h. by x (g.added x h);
    all = λ x r. found x (from x r);
  }
    where
      first : (x : X) → Contains xs x ⊎ P x → Contains xs x ⊎ R x
      first x (inl h) = inl h
      first x (inr p) = inr (to x (inl p))

      by : (x : X) → Contains ys x ⊎ Q x → Contains xs x ⊎ R x
      by x (inl h) = first x (f.added x h)
      by x (inr q) = inr (to x (inr q))

      found : (x : X) → P x ⊎ Q x → Contains zs x
      found x (inl p) = g.kept x (f.all x p)
      found x (inr q) = g.all x q

  pub adds-as : (P Q : X → Type 0) (xs ys : List X) → ((x : X) → P x → Q x) → ((x : X) → Q x → P x) → Adds P xs ys → Adds Q xs ys
  adds-as P Q xs ys f g a = record { kept = a.kept; added = λ x h. by x (a.added x h); all = λ x q. a.all x (g x q) }
    where
      by : (x : X) → Contains xs x ⊎ P x → Contains xs x ⊎ Q x
      by x (inl h) = inl h
      by x (inr p) = inr (f x p)

  -- ---- one number after another
  -- x has one of the first n properties
  abbrev pub AnyBelow : (ℕ → X → Type 0) → ℕ → X → Type 0
  AnyBelow P n x = (k : ℕ) × (k < n) × P k x

  module _ (P : ℕ → X → Type 0) where
    pub any-start : (xs : List X) → Adds (AnyBelow P 0) xs xs
    any-start xs = adds-none (AnyBelow P 0) xs (λ x a. let h = a.1 in omega (arith, h))

    pub any-next : (n : ℕ) (xs ys zs : List X) → Adds (AnyBelow P n) xs ys → Adds (P n) ys zs → Adds (AnyBelow P (n + 1)) xs zs
    any-next n xs ys zs f g = adds-both (AnyBelow P n) (P n) (AnyBelow P (n + 1)) xs ys zs f g forth back
      where
        forth : (x : X) → AnyBelow P n x ⊎ P n x → AnyBelow P (n + 1) x
        forth x (inl (k, h, p)) = (k, omega (arith, h), p)
        forth x (inr p) = (n, omega arith, p)

        split : (x : X) (k : ℕ) → (k ≡ n) ⊎ (k < n) → P k x → AnyBelow P n x ⊎ P n x
        split x k (inl o) p = inr (subst (λ (j : ℕ). P j x) o p)
        split x k (inr h) p = inl (k, h, p)

        back : (x : X) → AnyBelow P (n + 1) x → AnyBelow P n x ⊎ P n x
        back x (k, h, p) = split x k (eq-or-lt_of_le {n = k} {m = n} (omega (arith, h))) p

    pub any-all : (n : ℕ) (xs ys : List X) → ((k : ℕ) (x : X) → P k x → k < n) → Adds (AnyBelow P n) xs ys → Adds (Any P) xs ys
    any-all n xs ys all = adds-as (AnyBelow P n) (Any P) xs ys (λ x a. (a.0, a.2)) (λ x a. (a.0, all a.0 x a.1, a.1))
