-- The table of the numbers of shells.
use Rattle.nef_volumes.proofs.Prelude.{◌≡◌, ℕ, zero, suc, ◌+◌, ◌<◌, ◌≤◌, inl, inr, List, [], ◌∷◌, length, arith, refl, ap, subst, ◌↔◌, ints, IsAt, IsChain, Chained, IsInTable, Complex, VertexSide, is-at_within, AreTied, IsCellBelow, IsCellNumber, Cell, ShellLink, IsSideNamed, IsNameBelow, TableIsBelow, AreShellRows, IsShellOf, AreNumberedNames, AreGathered, outside_cell, side_cell, row_counts, IsCellOf}
use Rattle.nef_complex.specs.declared.parts.Side.{Side}
use Rattle.nef_volumes.proofs.Joining.{cell-number_there}
use Rattle.nef_volumes.proofs.RowNumbers.{number-cell, in-first, side-at, outside-number}
use Rattle.nef_volumes.proofs.SideCells.{not-outside, end-within, shell-chains}
use Rattle.nef_smap.proofs.Lists.{at-contains}

-- the element of a named side
name-cell : (C : Complex) (s : Side) (x : VertexSide) → IsSideNamed C s x → IsCellOf C x (side_cell s.vertex s.side)
name-cell C s x (e, J) = subst (λ (i : ℕ). IsCellOf C x (side_cell i s.side)) e (number-cell C x s.side J)

-- the row after the first
next-row : (first : List ℕ) (rest : List (List ℕ)) (i k n : ℕ) → IsInTable (first ∷ rest) (i + 1) k n → IsInTable rest i k n
next-row first rest i k n (row, a, b) = let e : i + 1 ≡ suc i = omega arith in (row, subst (λ (j : ℕ). IsAt (first ∷ rest) j row) e a, b)

module _ (C : Complex) (first : List ℕ) (rest : List (List ℕ)) (R : AreShellRows C (first ∷ rest)) where
  abbrev rows : List (List ℕ)
  rows = first ∷ rest

  chains : (x y : VertexSide) (a b : Cell) → IsCellOf C x a → IsCellOf C y b → Chained (AreTied R.ties) a b ↔ Chained (ShellLink C) x y
  chains = shell-chains C R.ties R.of_links

  -- no tie leads to the outside
  no-chain : (us : List Cell) (i k : ℕ) → IsChain (AreTied R.ties) outside_cell us (side_cell i k) → ⊥
  no-chain [] i k e = let r : 0 ≡ i + 1 = ap (λ (a : Cell). a.row) e in omega (arith, r)
  no-chain (b ∷ us) i k (inl (j, t, a, e, f), c) = let r = R.of_links.only t (at-contains R.ties j t a) in not-outside C r.0 t.first r.2 e
  no-chain (b ∷ us) i k (inr (j, t, a, e, f), c) = let r = R.of_links.only t (at-contains R.ties j t a) in not-outside C r.1 t.second r.3 f

  zero-outside : IsCellNumber rows outside_cell 0
  zero-outside = outside-number C (ShellLink C) R.ties chains first rest R.counts R.numbers

  positive : (i k n : ℕ) → IsInTable rows (i + 1) k n → 1 ≤ n
  positive i k zero h =
      let c = (R.numbers.by_class outside_cell (side_cell i k) 0 0 zero-outside h).0 refl in
      absurd (no-chain c.0 i k c.1)
  positive i k (suc n) h = omega arith

  earlier : (s : Side) (m : ℕ) (i k : ℕ) → IsCellBelow (record { row = i; column = k }) (side_cell s.vertex s.side) → IsInTable rows i k (suc m) → (t : Side) × IsNameBelow t s × IsShellOf rows t m
  earlier s m zero k b h = absurd (in-first C (ShellLink C) R.ties chains first rest R.counts R.numbers k (suc m) (omega arith) h)
  earlier s m (suc i) k b h =
      let e : suc i ≡ i + 1 = omega arith in
      (record { vertex = i; side = k }, order b, subst (λ (j : ℕ). IsInTable rows j k (suc m)) e h)
    where
      order : IsCellBelow (record { row = suc i; column = k }) (side_cell s.vertex s.side) → IsNameBelow (record { vertex = i; side = k }) s
      order (inl g) = inl (omega (arith, ints, g))
      order (inr (f, g)) = inr (omega (arith, ints, f), g)

  named-numbers : AreNumberedNames rows
  named-numbers = record {
    positive = positive;
    by_appearance = λ s m n a h. let r = R.numbers.by_appearance (side_cell s.vertex s.side) (suc m) (suc n) a (omega arith) (omega (arith, h)) in earlier s m r.0.row r.0.column r.1 r.2;
  }

  -- the side of a name with a number, and the number of a named side
  side-of : (s : Side) (m : ℕ) → IsShellOf rows s m → (x : VertexSide) × IsSideNamed C s x
  side-of s m h =
      let r = side-at C (ShellLink C) R.ties chains first rest R.counts R.numbers s.vertex s.side (suc m) (next-row first rest s.vertex s.side (suc m) h) in
      (r.0, (r.1, r.2))

  number-of : (s : Side) (x : VertexSide) → IsSideNamed C s x → (m : ℕ) × IsShellOf rows s m
  number-of s x X =
      let r = cell-number_there (row_counts C) rows R.counts (side_cell s.vertex s.side) (end-within C x (side_cell s.vertex s.side) (inl (name-cell C s x X))) in
      by r.0 r.1
    where
      by : (n : ℕ) → IsCellNumber rows (side_cell s.vertex s.side) n → (m : ℕ) × IsShellOf rows s m
      by zero h = absurd (let l = positive s.vertex s.side 0 h in omega (arith, l))
      by (suc m) h = (m, h)

  -- two sides have one number where links chain them
  numbers-chain : (s t : Side) (x y : VertexSide) (m n : ℕ) → IsShellOf rows s m → IsShellOf rows t n → IsSideNamed C s x → IsSideNamed C t y → (m ≡ n) ↔ Chained (ShellLink C) x y
  numbers-chain s t x y m n a b X Y =
      let f = R.numbers.by_class (side_cell s.vertex s.side) (side_cell t.vertex t.side) (suc m) (suc n) a b in
      let g = chains x y (side_cell s.vertex s.side) (side_cell t.vertex t.side) (name-cell C s x X) (name-cell C t y Y) in
      (λ e. g.0 (f.0 (ap suc e)), λ c. let h = f.1 (g.1 c) in omega (arith, h))

  numbers-below : (hs : List (List Side)) → AreGathered rows (length rows) 0 hs → TableIsBelow rows (length hs + 1)
  numbers-below hs G x n h = by x.row x.column n h
    where
      by : (i k n : ℕ) → IsInTable rows i k n → n < length hs + 1
      by i k zero h = omega arith
      by zero k (suc n) h = absurd (in-first C (ShellLink C) R.ties chains first rest R.counts R.numbers k (suc n) (omega arith) h)
      by (suc i) k (suc n) (row, a, b) =
          let e : suc i ≡ i + 1 = omega arith in
          let l = is-at_within rows (suc i) row a in
          let f = G.held.all (record { vertex = i; side = k }) n (subst (λ (j : ℕ). IsInTable rows j k (suc n)) e (row, a, b)) (inl (omega (arith, l))) in
          let w = is-at_within hs n f.0 f.2 in
          omega (arith, w)

-- ---- with rows not yet taken apart
module _ (C : Complex) where
  no-rows : AreShellRows C [] → ⊥
  no-rows R = let n = R.counts.as_many in omega (arith, n)

  pub some-rows : (rows : List (List ℕ)) → AreShellRows C rows → 0 < length rows
  some-rows [] R = absurd (no-rows R)
  some-rows (first ∷ rest) R = omega arith

  pub rows-named : (rows : List (List ℕ)) → AreShellRows C rows → AreNumberedNames rows
  rows-named [] R = absurd (no-rows R)
  rows-named (first ∷ rest) R = named-numbers C first rest R

  pub shell-side : (rows : List (List ℕ)) → AreShellRows C rows → (s : Side) (m : ℕ) → IsShellOf rows s m → (x : VertexSide) × IsSideNamed C s x
  shell-side [] R = absurd (no-rows R)
  shell-side (first ∷ rest) R = side-of C first rest R

  pub shell-number : (rows : List (List ℕ)) → AreShellRows C rows → (s : Side) (x : VertexSide) → IsSideNamed C s x → (m : ℕ) × IsShellOf rows s m
  shell-number [] R = absurd (no-rows R)
  shell-number (first ∷ rest) R = number-of C first rest R

  pub shell-chain : (rows : List (List ℕ)) → AreShellRows C rows → (s t : Side) (x y : VertexSide) (m n : ℕ) → IsShellOf rows s m → IsShellOf rows t n → IsSideNamed C s x → IsSideNamed C t y → (m ≡ n) ↔ Chained (ShellLink C) x y
  shell-chain [] R = absurd (no-rows R)
  shell-chain (first ∷ rest) R = numbers-chain C first rest R

  pub shells-below : (rows : List (List ℕ)) → AreShellRows C rows → (hs : List (List Side)) → AreGathered rows (length rows) 0 hs → TableIsBelow rows (length hs + 1)
  shells-below [] R = absurd (no-rows R)
  shells-below (first ∷ rest) R = numbers-below C first rest R
