-- Lists of things that are said place by place.
use Rattle.nef_statement.proofs.text.existence.Prelude.{◌≡◌, ℕ, zero, suc, ◌<◌, ◌≤◌, arith, refl, ap, ◌⊎◌, inl, inr, ⊎_elim, List, ◌∷◌, length, subst, [], cases_order, IsAt, IsInTable, is-at_one, is-at_some, is-at_within, is-at_first}

-- a list with a thing at each place that R says
pub record Made {Y : Type 0} (c : ℕ) (R : ℕ → Y → Type 0) : Type 0 where
  pub list : List Y
  pub as_many : length list ≡ c
  pub each : (k : ℕ) (y : Y) → IsAt list k y → R k y

pub make-list : {Y : Type 0} (c : ℕ) (R : ℕ → Y → Type 0) → ((k : ℕ) → k < c → (y : Y) × R k y) → Made c R
make-list zero R f = record { list = []; as_many = refl; each = λ k y a. absurd (let l = is-at_within [] k y a in omega (arith, l)) }
make-list {Y} (suc c) R f = by (f zero (omega arith)) (make-list c (λ k y. R (suc k) y) (λ k l. f (suc k) (omega (arith, l))))
  where
    by : ((y : Y) × R zero y) → Made c (λ k y. R (suc k) y) → Made (suc c) R
    by (y, r) m = record { list = y ∷ m.list; as_many = ap suc m.as_many; each = λ k z a. each k z a }
      where
        each : (k : ℕ) (z : Y) → IsAt (y ∷ m.list) k z → R k z
        each zero z e = subst (R zero) (is-at_first e) r
        each (suc k) z a = m.each k z a

-- one for each thing of a list
pub make-each : {X Y : Type 0} (xs : List X) (R : X → Y → Type 0) → ((k : ℕ) (x : X) → IsAt xs k x → (y : Y) × R x y) → Made (length xs) (λ k y. (x : X) × IsAt xs k x × R x y)
make-each {X} {Y} xs R f = make-list (length xs) (λ k y. (x : X) × IsAt xs k x × R x y) (λ k l. let (x, a) = is-at_some xs k l in let (y, r) = f k x a in (y, (x, a, r)))

-- the greatest number of a list, or 0
pub most : (xs : List ℕ) → (m : ℕ) × ((k n : ℕ) → IsAt xs k n → n ≤ m) × ((m ≡ 0) ⊎ ((k : ℕ) × IsAt xs k m))
most [] = (0, λ k n a. absurd (let l = is-at_within [] k n a in omega (arith, l)), inl refl)
most (x ∷ xs) = by (most xs)
  where
    by : ((m : ℕ) × ((k n : ℕ) → IsAt xs k n → n ≤ m) × ((m ≡ 0) ⊎ ((k : ℕ) × IsAt xs k m))) → (m : ℕ) × ((k n : ℕ) → IsAt (x ∷ xs) k n → n ≤ m) × ((m ≡ 0) ⊎ ((k : ℕ) × IsAt (x ∷ xs) k m))
    by (m, below, got) = ⊎_elim
        (λ e. (x, λ k n a. each x k n (omega (arith, e)) (omega arith) a, inr (0, refl)))
        (λ o. ⊎_elim
        (λ l. (x, λ k n a. each x k n (omega (arith, l)) (omega arith) a, inr (0, refl)))
        (λ l. (m, λ k n a. each m k n (omega arith) (omega (arith, l)) a, ⊎_elim (λ e. inl e) (λ g. inr (suc g.0, g.1)) got)) o)
        (cases_order m x)
      where
        each : (z k n : ℕ) → m ≤ z → x ≤ z → IsAt (x ∷ xs) k n → n ≤ z
        each z zero n l j e = omega (arith, j, is-at_first e)
        each z (suc k) n l j a = let h = below k n a in omega (arith, h, l)

-- the greatest number of a table, or 0
pub most-in : (rows : List (List ℕ)) → (m : ℕ) × ((i k n : ℕ) → IsInTable rows i k n → n ≤ m) × ((m ≡ 0) ⊎ ((i : ℕ) × (k : ℕ) × IsInTable rows i k m))
most-in rows = by (make-each rows (λ (r : List ℕ) (m : ℕ). ((k n : ℕ) → IsAt r k n → n ≤ m) × ((m ≡ 0) ⊎ ((k : ℕ) × IsAt r k m))) (λ k r a. let z = most r in (z.0, (z.1, z.2))))
  where
    by : Made (length rows) (λ i m. (r : List ℕ) × IsAt rows i r × (((k n : ℕ) → IsAt r k n → n ≤ m) × ((m ≡ 0) ⊎ ((k : ℕ) × IsAt r k m)))) → (m : ℕ) × ((i k n : ℕ) → IsInTable rows i k n → n ≤ m) × ((m ≡ 0) ⊎ ((i : ℕ) × (k : ℕ) × IsInTable rows i k m))
    by M = then (most M.list)
      where
        then : ((m : ℕ) × ((i n : ℕ) → IsAt M.list i n → n ≤ m) × ((m ≡ 0) ⊎ ((i : ℕ) × IsAt M.list i m))) → (m : ℕ) × ((i k n : ℕ) → IsInTable rows i k n → n ≤ m) × ((m ≡ 0) ⊎ ((i : ℕ) × (k : ℕ) × IsInTable rows i k m))
        then (m, below, got) = (m, λ i k n h. under i k n h, ⊎_elim (λ e. inl e) (λ g. found g.0 g.1) got)
          where
            under : (i k n : ℕ) → IsInTable rows i k n → n ≤ m
            under i k n (r, a, b) =
                let j = is-at_some M.list i (let l = is-at_within rows i r a in let e = M.as_many in omega (arith, l, e)) in
                let (q, d, f) = M.each i j.0 j.1 in
                let h = f.0 k n (subst (λ (z : List ℕ). IsAt z k n) (one i r q a d) b) in
                let g = below i j.0 j.1 in
                omega (arith, h, g)
              where
                one : (i : ℕ) (r q : List ℕ) → IsAt rows i r → IsAt rows i q → r ≡ q
                one i r q a b = is-at_one rows i r q a b

            found : (i : ℕ) → IsAt M.list i m → (m ≡ 0) ⊎ ((i : ℕ) × (k : ℕ) × IsInTable rows i k m)
            found i a = let (r, d, f) = M.each i m a in ⊎_elim (λ e. inl e) (λ g. inr (i, g.0, (r, d, g.1))) f.1
