-- Places of a table's elements when all rows stand one after the other.
use Rattle.nef_classes.proofs.Prelude.{◌≡◌, ℕ, zero, suc, ◌+◌, ◌-◌, ◌<◌, ◌⊎◌, inl, inr, ⊎_elim, List, [], ◌∷◌, Option, Some, take, pos, arith, refl, ap, subst, ints, IsAt, Cell, cell_total, IsCellIn, cell_number, IsCellBelow}
use Rattle.std.proofs.lemmas.Bool.{cases_lt}

some-is : {X : Type 0} (x y : X) → ◌≡◌ {A = Option X} (Some x) (Some y) → x ≡ y
some-is x y e = cc

-- two elements at one place are one
same : (cs : List ℕ) (i k j l n m : ℕ) → IsAt cs i n → k < n → IsAt cs j m → l < m → cell_total (take i cs) + k ≡ cell_total (take j cs) + l → (i ≡ j) × (k ≡ l)
same [] i k j l n m a h b g e = cc
same (c ∷ cs) zero k zero l n m a h b g e = (refl, omega arith)
same (c ∷ cs) zero k (suc j) l n m a h b g e = let d = some-is c n a in absurd (omega arith)
same (c ∷ cs) (suc i) k zero l n m a h b g e = let d = some-is c m b in absurd (omega arith)
same (c ∷ cs) (suc i) k (suc j) l n m a h b g e = let r = same cs i k j l n m a h b g (omega arith) in (ap suc (r.0), r.1)

pub same-cell : (cs : List ℕ) (x y : Cell) → IsCellIn cs x → IsCellIn cs y → cell_number cs x ≡ cell_number cs y → x ≡ y
same-cell cs x y a b e =
    let r = same cs x.row x.column y.row y.column a.count b.count a.is_row a.within b.is_row b.within e in
    subst (λ (i : ℕ). x ≡ record { row = i; column = y.column }) (r.0) (subst (λ (k : ℕ). x ≡ record { row = x.row; column = k }) (r.1) refl)

-- what stands earlier is below
earlier : (cs : List ℕ) (i k j l n m : ℕ) → IsAt cs i n → k < n → IsAt cs j m → l < m → (cell_total (take i cs) + k) < (cell_total (take j cs) + l) → (i < j) ⊎ ((i ≡ j) × (k < l))
earlier [] i k j l n m a h b g e = cc
earlier (c ∷ cs) zero k zero l n m a h b g e = inr (refl, omega arith)
earlier (c ∷ cs) zero k (suc j) l n m a h b g e = inl (omega arith)
earlier (c ∷ cs) (suc i) k zero l n m a h b g e = let d = some-is c m b in absurd (omega arith)
earlier (c ∷ cs) (suc i) k (suc j) l n m a h b g e = ⊎_elim (λ p. inl (omega arith)) (λ p. inr (ap suc (p.0), p.1)) (earlier cs i k j l n m a h b g (omega arith))

pub earlier-cell : (cs : List ℕ) (x y : Cell) → IsCellIn cs x → IsCellIn cs y → cell_number cs x < cell_number cs y → IsCellBelow x y
earlier-cell cs x y a b e =
    ⊎_elim (λ p. inl (omega (arith, ints))) (λ p. inr (ap pos (p.0), inl (let h = p.1 in omega (arith, ints))))
    (earlier cs x.row x.column y.row y.column a.count b.count a.is_row a.within b.is_row b.within e)

-- each place below the number of all elements is that of one
cell : (cs : List ℕ) (t : ℕ) → t < cell_total cs → (i : ℕ) × (k : ℕ) × (n : ℕ) × IsAt cs i n × (k < n) × (cell_total (take i cs) + k ≡ t)
cell [] t h = absurd (omega arith)
cell (c ∷ cs) t h =
    ⊎_elim (λ g. (zero, t, c, refl, g, omega arith))
    (λ g. let r = cell cs (t - c) (omega arith) in
    let e = r.5 in
    (suc (r.0), r.1, r.2, r.3, r.4, omega arith))
    (cases_lt t c)

pub cell-at : (cs : List ℕ) (t : ℕ) → t < cell_total cs → (x : Cell) × IsCellIn cs x × (cell_number cs x ≡ t)
cell-at cs t h =
    let r = cell cs t h in
    (record { row = r.0; column = r.1 }, record { count = r.2; is_row = r.3; within = r.4 }, r.5)

-- the place of an element is below the number of all
within : (cs : List ℕ) (i k n : ℕ) → IsAt cs i n → k < n → (cell_total (take i cs) + k) < cell_total cs
within [] i k n a h = cc
within (c ∷ cs) zero k n a h = let d = some-is c n a in let s : cell_total (c ∷ cs) ≡ c + cell_total cs = refl in omega arith
within (c ∷ cs) (suc i) k n a h = let r = within cs i k n a h in let s : cell_total (c ∷ cs) ≡ c + cell_total cs = refl in omega arith

pub cell-within : (cs : List ℕ) (x : Cell) → IsCellIn cs x → cell_number cs x < cell_total cs
cell-within cs x a = within cs x.row x.column a.count a.is_row a.within
