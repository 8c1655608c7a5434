-- The numbers of the table of sides, after the row of the outside, are those of the classes of sides.
use Rattle.nef_volumes.proofs.Prelude.{◌≡◌, ℕ, zero, suc, ◌+◌, ◌<◌, ◌≤◌, pos, ◌⊎◌, inl, inr, List, [], ◌∷◌, ◌++◌, length, take, drop, map, arith, refl, ap, sym, ◌∙◌, subst, ◌↔◌, ints, length-map, IsAt, IsChain, Chained, NumbersClasses, IsInTable, IsBelow, Set, Label, Out, sides_of, map-is_at, side-has, number-one, is-at_within, is-at_some, Complex, Shows, VertexSide, HasSideLabel, AreTied, IsCellBelow, HasCounts, IsCellNumber, AreNumbers, Cell, Tie, VolumeLink, IsUpright, IsSideNumber, HasRows, count_sides, IsVolumeOf, IsSideBelow, VolumeNumbers, outside_cell, side_cell, row_counts, IsCellOf, IsEndOf, AreTiesWithOutside, AreTiedOutside}
use Rattle.nef_volumes.proofs.SideCells.{one-cell, not-outside, ends-in_volume, volume-chains}
use Rattle.nef_volumes.proofs.SideLabels.{chain-label}
use Rattle.nef_smap.proofs.Lists.{at-contains}

-- the element of the side with a number
pub number-cell : (C : Complex) (x : VertexSide) (j : ℕ) → IsSideNumber C x j → IsCellOf C x (side_cell x.vertex j)
number-cell C x j N = record {
  vertex = N.vertex;
  is_vertex = N.is_vertex;
  label = N.label;
  has = side-has N.vertex.map j x.side N.label N.is_side;
  is_cell = ap (side_cell x.vertex) (number-one N.vertex.map j x.side N.label N.is_side);
}

-- where the chains of ties are those of links
module _ (C : Complex) (Link : VertexSide → VertexSide → Type 0) (ts : List Tie) (chains : (x y : VertexSide) (a b : Cell) → IsCellOf C x a → IsCellOf C y b → Chained (AreTied ts) a b ↔ Chained Link x y)
    (first : List ℕ) (rest : List (List ℕ)) (H : HasCounts (row_counts C) (first ∷ rest)) (N : AreNumbers ts (first ∷ rest)) where
  pub shape : HasRows C count_sides rest
  shape = record {
    as_many = let e = H.as_many in let f = length-map C.vertices count_sides in omega (arith, e, f);
    row = λ i v ns a b. H.row (suc i) (count_sides v) ns (map-is_at count_sides C.vertices i v a) b;
  }

  -- the rows of the vertices, after the first
  later : (i k n : ℕ) → IsInTable rest i k n → IsInTable (first ∷ rest) (i + 1) k n
  later i k n h = let e : i + 1 ≡ suc i = omega arith in rw e h

  pub cell-number : (x : VertexSide) (n : ℕ) (X : IsVolumeOf C rest x n) → IsCellNumber (first ∷ rest) (side_cell x.vertex X.0) n
  cell-number x n (j, a, h) = later x.vertex j n h

  by_class : (x y : VertexSide) (m n : ℕ) → IsVolumeOf C rest x m → IsVolumeOf C rest y n → (m ≡ n) ↔ Chained Link x y
  by_class x y m n X Y =
      let a = side_cell x.vertex X.0 in
      let b = side_cell y.vertex Y.0 in
      let f = N.by_class a b m n (cell-number x m X) (cell-number y n Y) in
      let g = chains x y a b (number-cell C x X.0 X.1) (number-cell C y Y.0 Y.1) in
      (λ e. g.0 (f.0 e), λ c. f.1 (g.1 c))

  -- ---- the outside has the number 0
  first-one : length first ≡ 1
  first-one = H.row 0 1 first refl refl

  none-before : (b : Cell) → IsCellBelow b outside_cell → ⊥
  none-before b (inl h) = omega (arith, ints, h)
  none-before b (inr (e, inl h)) = omega (arith, ints, h)
  none-before b (inr (e, inr (f, h))) = h

  pub outside-zero : (n : ℕ) → IsCellNumber (first ∷ rest) outside_cell n → n ≡ 0
  outside-zero zero h = refl
  outside-zero (suc n) h = let r = N.by_appearance outside_cell 0 (suc n) h (omega arith) (omega arith) in absurd (none-before r.0 r.1)

  pub outside-number : IsCellNumber (first ∷ rest) outside_cell 0
  outside-number =
      let r = is-at_some first 0 (let e = first-one in omega (arith, e)) in
      subst (λ (n : ℕ). IsCellNumber (first ∷ rest) outside_cell n) (outside-zero r.0 (first, refl, r.1)) (first, refl, r.1)

  -- ---- by appearance
  abbrev Appears : VertexSide → ℕ → Type 0
  Appears x m = (y : VertexSide) × IsSideBelow C y x × IsVolumeOf C rest y m

  pub in-first : (k m : ℕ) → 1 ≤ m → IsInTable (first ∷ rest) 0 k m → ⊥
  in-first k m l (row, e, h) =
      let r : first ≡ row = cc in
      let g = subst (λ (ns : List ℕ). IsAt ns k m) (sym r) h in
      let i = is-at_within first k m g in
      let o = first-one in
      let z : k ≡ 0 = omega (arith, i, o) in
      let n = outside-zero m (first, refl, subst (λ (j : ℕ). IsAt first j m) z g) in
      omega (arith, n, l)

  pub side-at : (i k m : ℕ) → IsInTable rest i k m → (y : VertexSide) × (y.vertex ≡ i) × IsSideNumber C y k
  side-at i k m (row, e, h) =
      let n = is-at_within rest i row e in
      let v = is-at_some C.vertices i (let a = shape.as_many in omega (arith, n, a)) in
      let a = v.1 in
      let c = shape.row i v.0 row a e in
      let g = is-at_some (sides_of v.0.map) k (let l = is-at_within row k m h in omega (arith, l, c)) in
      (record { vertex = i; side = g.0.0 }, refl, record { vertex = v.0; is_vertex = a; label = g.0.1; is_side = g.1 })

  before : (x : VertexSide) (m : ℕ) (j : ℕ) → IsSideNumber C x j → 1 ≤ m → (i k : ℕ) → IsCellBelow (record { row = i; column = k }) (side_cell x.vertex j) → IsInTable (first ∷ rest) i k m → Appears x m
  before x m j X l zero k b h = absurd (in-first k m l h)
  before x m j X l (suc i) k b h =
      let (y, e, Y) = side-at i k m h in
      (y, (k, j, Y, X, order y e b), (k, Y, subst (λ (n : ℕ). IsInTable rest n k m) (sym e) h))
    where
      order : (y : VertexSide) → y.vertex ≡ i → IsCellBelow (record { row = suc i; column = k }) (side_cell x.vertex j) → IsBelow (pos y.vertex ∷ pos k ∷ []) (pos x.vertex ∷ pos j ∷ [])
      order y e (inl h) = inl (omega (arith, ints, h, e))
      order y e (inr (f, h)) = inr (ap pos (e ∙ (let g : suc i ≡ x.vertex + 1 = cc in omega (arith, g))), h)

  by_appearance : (x : VertexSide) (m n : ℕ) → IsVolumeOf C rest x n → 1 ≤ m → m < n → Appears x m
  by_appearance x m n X l h =
      let r = N.by_appearance (side_cell x.vertex X.0) m n (cell-number x n X) (omega arith) h in
      before x m X.0 X.1 l r.0.row r.0.column r.1 r.2

  -- THE NUMBERS OF THE ROWS AFTER THE FIRST ARE THOSE OF THE CLASSES OF LINKS
  pub rest-classes : NumbersClasses Link (IsSideBelow C) 1 (IsVolumeOf C rest)
  rest-classes = record { by_class = by_class; by_appearance = by_appearance }

module _ (s : Set) (C : Complex) (S : Shows s C) (up : IsUpright C) (ts : List Tie) (T : AreTiesWithOutside C (VolumeLink C) ts) (O : AreTiedOutside C ts)
    (first : List ℕ) (rest : List (List ℕ)) (H : HasCounts (row_counts C) (first ∷ rest)) (N : AreNumbers ts (first ∷ rest)) where
  -- a chain from the outside leads to sides outside
  chain-outside : (us : List Cell) (x : VertexSide) (a : Cell) (l : Label) → IsCellOf C x a → HasSideLabel C x l → IsChain (AreTied ts) outside_cell us a → l ≡ Out
  chain-outside [] x a l f h e = absurd (not-outside C x a f (sym e))
  chain-outside (b ∷ us) x a l f h (k, c) =
      let (z, o) = end k in
      sym (chain-label s C S up z x Out l (ends-in_volume C ts T outside_cell a z x (b ∷ us, (k, c)) (inr (refl, o)) (inl f)) o h)
    where
      outside-end : (z : VertexSide) (d : Cell) → d ≡ outside_cell → IsEndOf C z d → (y : VertexSide) × HasSideLabel C y Out
      outside-end z d e (inl g) = absurd (not-outside C z d g e)
      outside-end z d e (inr g) = (z, g.1)

      end : AreTied ts outside_cell b ⊎ AreTied ts b outside_cell → (y : VertexSide) × HasSideLabel C y Out
      end (inl (k, t, i, e, g)) = let r = T.only t (at-contains ts k t i) in outside-end r.0 t.first e r.2
      end (inr (k, t, i, e, g)) = let r = T.only t (at-contains ts k t i) in outside-end r.1 t.second g r.3

  outside : (x : VertexSide) (n : ℕ) (l : Label) → IsVolumeOf C rest x n → HasSideLabel C x l → (n ≡ 0) ↔ (l ≡ Out)
  outside x n l X h =
      let a = side_cell x.vertex X.0 in
      let f = number-cell C x X.0 X.1 in
      let g = N.by_class outside_cell a 0 n (outside-number C (VolumeLink C) ts (volume-chains C ts T) first rest H N) (cell-number C (VolumeLink C) ts (volume-chains C ts T) first rest H N x n X) in
      (λ e. let c = g.0 (sym e) in chain-outside c.0 x a l f h c.1, λ e. sym (g.1 (tied a f (subst (HasSideLabel C x) e h))))
    where
      tied : (a : Cell) → IsCellOf C x a → HasSideLabel C x Out → Chained (AreTied ts) outside_cell a
      tied a f o = let r = O x o in subst (λ (b : Cell). Chained (AreTied ts) outside_cell b) (one-cell C x r.0 a r.1 f) r.2

  -- THEY ARE THE NUMBERS OF THE VOLUMES
  volumes-numbered : VolumeNumbers C rest
  volumes-numbered = record {
    shape = shape C (VolumeLink C) ts (volume-chains C ts T) first rest H N;
    numbered = rest-classes C (VolumeLink C) ts (volume-chains C ts T) first rest H N;
    outside = outside;
  }

pub rest-numbered : (s : Set) (C : Complex) (S : Shows s C) (up : IsUpright C) (ts : List Tie) (T : AreTiesWithOutside C (VolumeLink C) ts) (O : AreTiedOutside C ts) (rows rest : List (List ℕ))
    → HasCounts (row_counts C) rows → AreNumbers ts rows → rest ≡ take 0 rows ++ drop (0 + 1) rows → VolumeNumbers C rest
rest-numbered s C S up ts T O [] rest H N e = absurd (let n = H.as_many in omega (arith, n))
rest-numbered s C S up ts T O (first ∷ more) rest H N e = subst (VolumeNumbers C) (sym e) (volumes-numbered s C S up ts T O first more H N)

-- there is a first row
pub some-row : (C : Complex) (rows : List (List ℕ)) → HasCounts (row_counts C) rows → 0 < length rows
some-row C rows H = let n = H.as_many in omega (arith, n)

-- a side has one number
pub side-number_one : (C : Complex) (x : VertexSide) (i j : ℕ) → IsSideNumber C x i → IsSideNumber C x j → i ≡ j
side-number_one C x i j I J = ap (λ (a : Cell). a.column) (one-cell C x (side_cell x.vertex i) (side_cell x.vertex j) (number-cell C x i I) (number-cell C x j J))
