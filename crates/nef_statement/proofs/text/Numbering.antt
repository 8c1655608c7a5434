-- The numbers of classes by first appearance are the only ones.
use Rattle.nef_statement.proofs.text.Prelude.{◌≡◌, ℕ, zero, suc, ◌<◌, ◌≤◌, pos, ◌⊎◌, inl, inr, ⊎_elim, [], ◌∷◌, arith, refl, sym, subst, ints, NumbersClasses, IsBelow}
use Rattle.nef_space.proofs.Elementary.{three-ways}
use Rattle.std.proofs.lemmas.Bool.{cases_lt}

-- the place l in row j comes before the place k in row i
abbrev pub IsEarlier : ℕ → ℕ → ℕ → ℕ → Type 0
IsEarlier j l i k = IsBelow (pos j ∷ pos l ∷ []) (pos i ∷ pos k ∷ [])

module _ (P : ℕ → ℕ → Type 0) (step : (i k : ℕ) → ((j l : ℕ) → IsEarlier j l i k → P j l) → P i k) where
  in-row : (i : ℕ) → ((j l : ℕ) → j < i → P j l) → (m k : ℕ) → k < m → P i k
  in-row i above zero k h = absurd (omega arith)
  in-row i above (suc m) k h = step i k (λ j l b. ⊎_elim (λ a. above j l (omega (arith, ints)))
      (λ p. ⊎_elim (λ d. subst (λ (r : ℕ). P r l) (sym (same j (p.0))) (in-row i above m l (omega (arith, ints)))) (λ q. absurd (q.1)) (p.1)) b)
    where
      same : (j : ℕ) → pos j ≡ pos i → j ≡ i
      same j e = omega (arith, ints)

  below : (n i k : ℕ) → i < n → P i k
  below zero i k h = absurd (omega arith)
  below (suc n) i k h = in-row i (λ j l g. below n j l (omega arith)) (suc k) k (omega arith)

  -- what holds at a place when it holds at all before, holds at all
  pub by-places : (i k : ℕ) → P i k
  by-places i k = below (suc i) i k (omega arith)

-- N and M number the same things, which stand at places in rows; what has a number below low in one has the same in the other
pub numbers-one : {X : Type 0} (Link Before : X → X → Type 0) (low : ℕ) (N M : X → ℕ → Type 0) (Place : X → ℕ → ℕ → Type 0)
    → ((x y : X) (i k : ℕ) → Before y x → Place x i k → (j : ℕ) × (l : ℕ) × Place y j l × IsEarlier j l i k)
    → NumbersClasses Link Before low N → NumbersClasses Link Before low M
    → ((x : X) (n : ℕ) → N x n → (m : ℕ) × M x m) → ((x : X) (n : ℕ) → M x n → (m : ℕ) × N x m)
    → ((x : X) (m n : ℕ) → N x m → M x n → (m < low) ⊎ (n < low) → m ≡ n)
    → (i k : ℕ) (x : X) (m n : ℕ) → Place x i k → N x m → M x n → m ≡ n
numbers-one {X} Link Before low N M Place before A B there back small =
    by-places (λ i k. (x : X) (m n : ℕ) → Place x i k → N x m → M x n → m ≡ n) step
  where
    -- the lower number appears earlier in the other numbering, where it is the same
    lower : (i k : ℕ) → ((j l : ℕ) → IsEarlier j l i k → (x : X) (m n : ℕ) → Place x j l → N x m → M x n → m ≡ n)
        → (x : X) (m n : ℕ) → Place x i k → N x m → M x n → m < n → m ≡ n
    lower i k earlier x m n at a b h = ⊎_elim (λ s. small x m n a b (inl s)) (λ s. by s) (cases_lt m low)
      where
        by : low ≤ m → m ≡ n
        by s =
            let r = B.by_appearance x m n b s h in
            let y : X = r.0 in
            let p = before x y i k (r.1) at in
            let c = back y m (r.2) in
            let e = earlier (p.0) (p.1) (p.3) y (c.0) m (p.2) (c.1) (r.2) in
            let same = subst (λ (q : ℕ). N y q) e (c.1) in
            (B.by_class y x m n (r.2) b).1 ((A.by_class y x m m same a).0 refl)

    higher : (i k : ℕ) → ((j l : ℕ) → IsEarlier j l i k → (x : X) (m n : ℕ) → Place x j l → N x m → M x n → m ≡ n)
        → (x : X) (m n : ℕ) → Place x i k → N x m → M x n → n < m → m ≡ n
    higher i k earlier x m n at a b h = ⊎_elim (λ s. small x m n a b (inr s)) (λ s. by s) (cases_lt n low)
      where
        by : low ≤ n → m ≡ n
        by s =
            let r = A.by_appearance x n m a s h in
            let y : X = r.0 in
            let p = before x y i k (r.1) at in
            let c = there y n (r.2) in
            let e = earlier (p.0) (p.1) (p.3) y n (c.0) (p.2) (r.2) (c.1) in
            let same = subst (λ (q : ℕ). M y q) (sym e) (c.1) in
            sym ((A.by_class y x n m (r.2) a).1 ((B.by_class y x n n same b).0 refl))

    step : (i k : ℕ) → ((j l : ℕ) → IsEarlier j l i k → (x : X) (m n : ℕ) → Place x j l → N x m → M x n → m ≡ n) → (x : X) (m n : ℕ) → Place x i k → N x m → M x n → m ≡ n
    step i k earlier x m n at a b = ⊎_elim (λ h. lower i k earlier x m n at a b h) (λ r. ⊎_elim (λ e. e) (λ h. higher i k earlier x m n at a b h) r) (three-ways m n)
