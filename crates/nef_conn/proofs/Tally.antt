-- How many elements of a list have a decided property.
use Rattle.nef_conn.proofs.Prelude.{ℕ, ◌+◌, ◌<◌, ◌≤◌, arith, refl, sym, inl, inr, List, ◌∷◌, subst, [], Lies, Decided}

abbrev pub one-if : {A : Type 0} → Decided A → ℕ
one-if (inl a) = 1
one-if (inr n) = 0

module _ {X : Type 0} where
  abbrev pub tally : (P : X → Type 0) → ((x : X) → Decided (P x)) → List X → ℕ
  tally P D [] = 0
  tally P D (x ∷ xs) = one-if (D x) + tally P D xs

  module _ (P Q : X → Type 0) (D : (x : X) → Decided (P x)) (E : (x : X) → Decided (Q x)) where
    one-mono : (x : X) → (P x → Q x) → (d : Decided (P x)) (e : Decided (Q x)) → one-if d ≤ one-if e
    one-mono x f (inl p) (inl q) = omega arith
    one-mono x f (inl p) (inr n) = absurd (n (f p))
    one-mono x f (inr m) (inl q) = omega arith
    one-mono x f (inr m) (inr n) = omega arith

    one-strict : (x : X) → Q x → (P x → ⊥) → (d : Decided (P x)) (e : Decided (Q x)) → one-if d < one-if e
    one-strict x q m (inl p) e = absurd (m p)
    one-strict x q m (inr n) (inl p) = omega arith
    one-strict x q m (inr n) (inr k) = absurd (k q)

    pub tally-mono : (xs : List X) → ((x : X) → Lies xs x → P x → Q x) → tally P D xs ≤ tally Q E xs
    tally-mono [] f = omega arith
    tally-mono (x ∷ xs) f = let a = one-mono x (f x (inl refl)) (D x) (E x) in let b = tally-mono xs (λ y l. f y (inr l)) in omega arith

    pub tally-strict : (xs : List X) → ((x : X) → Lies xs x → P x → Q x) → (y : X) → Lies xs y → Q y → (P y → ⊥) → tally P D xs < tally Q E xs
    tally-strict [] f y l q n = absurd l
    tally-strict (x ∷ xs) f y (inl e) q n =
        let a = one-strict x (subst Q (sym e) q) (λ p. n (subst P e p)) (D x) (E x) in
        let b = tally-mono xs (λ z l. f z (inr l)) in
        omega arith
    tally-strict (x ∷ xs) f y (inr l) q n = let a = one-mono x (f x (inl refl)) (D x) (E x) in let b = tally-strict xs (λ z k. f z (inr k)) y l q n in omega arith
