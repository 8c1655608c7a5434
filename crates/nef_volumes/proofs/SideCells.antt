-- Sides and their elements; lists of ties put together.
use Rattle.nef_volumes.proofs.Prelude.{◌≡◌, ℕ, suc, ◌+◌, inl, inr, ⊎_elim, List, ◌++◌, map, arith, refl, ap, sym, ◌∙◌, subst, ◌↔◌, Contains, Contains-append_cases, IsAt, Chained, Label, Side, HasSide, LabelledSide, sides_of, IsSide, side_number, map-is_at, side-number, is-at_one, is-at_within, is-at_get, is-at_is, chain-here, chain-link, chain-map, Vertex, Complex, VertexSide, IsCellIn, AreTied, AreTiedWithin, Cell, Tie, VolumeLink, count_sides, ShellLink, outside_cell, side_cell, row_counts, IsCellOf, IsEndOf, AreLinks, AreTiedSides, AreTiesTo, AreTiesOf, AreTiesWithOutside}
use Rattle.nef_volumes.proofs.Agree.{chains-agree}
use Rattle.nef_smap.proofs.Lists.{at-contains, contains-at}

-- ---- ties of a list
pub tie-chain : (ts : List Tie) (t : Tie) (a b : Cell) → Contains ts t → t.first ≡ a → t.second ≡ b → Chained (AreTied ts) a b
tie-chain ts t a b c e f = let r = contains-at ts t c in chain-link (AreTied ts) a b (r.0, t, r.1, e, f)

pub more-tied : (ts us : List Tie) → ((t : Tie) → Contains ts t → Contains us t) → (a b : Cell) → Chained (AreTied ts) a b → Chained (AreTied us) a b
more-tied ts us more a b = chain-map (AreTied ts) (AreTied us) (λ (s : Cell). s) (λ x y (k, t, i, e, f). tie-chain us t x y (more t (at-contains ts k t i)) e f) a b

module _ (C : Complex) where
  pub more-sides : (ts us : List Tie) → ((t : Tie) → Contains ts t → Contains us t) → (x y : VertexSide) → AreTiedSides C ts x y → AreTiedSides C us x y
  more-sides ts us more x y (a, b, f, g, c) = (a, b, f, g, more-tied ts us more a b c)

  pub both-links : (End : VertexSide → Cell → Type 0) (Link : VertexSide → VertexSide → Type 0) (ts us : List Tie) → AreLinks End Link ts → AreLinks End Link us → AreLinks End Link (ts ++ us)
  both-links End Link ts us f g t c = ⊎_elim (λ i. f t i) (λ i. g t i) (Contains-append_cases ts us t c)

  pub links-as : (End Last : VertexSide → Cell → Type 0) (Link Other : VertexSide → VertexSide → Type 0) (ts : List Tie) → ((x : VertexSide) (a : Cell) → End x a → Last x a) → ((x y : VertexSide) → Link x y → Other x y)
      → AreLinks End Link ts → AreLinks Last Other ts
  links-as End Last Link Other ts e f g t c = let r = g t c in (r.0, r.1, e r.0 t.first r.2, e r.1 t.second r.3, f r.0 r.1 r.4)

  -- ---- the element of a side
  pub cell-is : (x : VertexSide) (v : Vertex) (l : Label) → IsAt C.vertices x.vertex v → HasSide v.map x.side l → IsCellOf C x (side_cell x.vertex (side_number v.map x.side))
  cell-is x v l a h = record { vertex = v; is_vertex = a; label = l; has = h; is_cell = refl }

  -- that with this number
  pub cell-numbered : (i s : ℕ) (v : Vertex) (o : Side) (l : Label) → IsAt C.vertices i v → HasSide v.map o l → s ≡ side_number v.map o → IsCellOf C (record { vertex = i; side = o }) (side_cell i s)
  cell-numbered i s v o l a h e = record { vertex = v; is_vertex = a; label = l; has = h; is_cell = ap (side_cell i) e }

  pub one-cell : (x : VertexSide) (a b : Cell) → IsCellOf C x a → IsCellOf C x b → a ≡ b
  one-cell x a b A B = A.is_cell ∙ ap (λ (v : Vertex). side_cell x.vertex (side_number v.map x.side)) (is-at_one C.vertices x.vertex A.vertex B.vertex A.is_vertex B.is_vertex) ∙ sym B.is_cell

  same-side : (i j : ℕ) (o p : Side) → i ≡ j → o ≡ p → ◌≡◌ {A = VertexSide} (record { vertex = i; side = o }) (record { vertex = j; side = p })
  same-side i j o p e f = cc

  pub one-side : (x y : VertexSide) (a : Cell) → IsCellOf C x a → IsCellOf C y a → x ≡ y
  one-side x y a A B =
      let e = sym A.is_cell ∙ B.is_cell in
      let r : x.vertex + 1 ≡ y.vertex + 1 = ap (λ (s : Cell). s.row) e in
      let i : x.vertex ≡ y.vertex = omega (arith, r) in
      let n : side_number A.vertex.map x.side ≡ side_number B.vertex.map y.side = ap (λ (s : Cell). s.column) e in
      let v = is-at_one C.vertices y.vertex A.vertex B.vertex (subst (λ (k : ℕ). IsAt C.vertices k A.vertex) i A.is_vertex) B.is_vertex in
      let g = side-number A.vertex.map x.side A.label A.has in
      let h = side-number A.vertex.map y.side B.label (subst (λ (w : Vertex). HasSide w.map y.side B.label) (sym v) B.has) in
      let m = ap (λ (w : Vertex). side_number w.map y.side) v ∙ sym n in
      let p = is-at_one (sides_of A.vertex.map) (side_number A.vertex.map x.side) (x.side, A.label) (y.side, B.label) g (subst (λ (k : ℕ). IsSide A.vertex.map k y.side B.label) m h) in
      same-side x.vertex y.vertex x.side y.side i (ap (λ (q : LabelledSide). q.0) p)

  pub not-outside : (x : VertexSide) (a : Cell) → IsCellOf C x a → a ≡ outside_cell → ⊥
  not-outside x a A e = let r : x.vertex + 1 ≡ 0 = ap (λ (s : Cell). s.row) (sym A.is_cell ∙ e) in omega (arith, r)

  -- ---- chains of ties are chains of links, where sides with one end are linked
  module _ (End : VertexSide → Cell → Type 0) (Link : VertexSide → VertexSide → Type 0) (cell-end : (x : VertexSide) (a : Cell) → IsCellOf C x a → End x a) (end-one : (a : Cell) (x y : VertexSide) → End x a → End y a → Chained Link x y)
      (ts : List Tie) (T : AreTiesTo C End Link ts) where
    link-of : (a b : Cell) → AreTied ts a b → (x : VertexSide) × (y : VertexSide) × End x a × End y b × Chained Link x y
    link-of a b (k, t, i, e, f) =
        let r = T.only t (at-contains ts k t i) in
        (r.0, r.1, subst (End r.0) e r.2, subst (End r.1) f r.3, chain-link Link r.0 r.1 r.4)

    pub ends-linked : (a b : Cell) (x y : VertexSide) → Chained (AreTied ts) a b → End x a → End y b → Chained Link x y
    ends-linked a b x y c f g = chains-agree (AreTied ts) Link (λ s z. End z s) end-one link-of a b x y c f g

    cell-one : (x : VertexSide) (a b : Cell) → IsCellOf C x a → IsCellOf C x b → Chained (AreTied ts) a b
    cell-one x a b f g = subst (λ (s : Cell). Chained (AreTied ts) a s) (one-cell x a b f g) (chain-here (AreTied ts) a)

    sides-tied : (x y : VertexSide) (a b : Cell) → Chained Link x y → IsCellOf C x a → IsCellOf C y b → Chained (AreTied ts) a b
    sides-tied x y a b c f g = chains-agree Link (AreTied ts) (IsCellOf C) cell-one T.all x y a b c f g

    -- THE CHAINS OF TIES ARE THE CHAINS OF LINKS
    pub ties-chains : (x y : VertexSide) (a b : Cell) → IsCellOf C x a → IsCellOf C y b → Chained (AreTied ts) a b ↔ Chained Link x y
    ties-chains x y a b f g = (λ c. ends-linked a b x y c (cell-end x a f) (cell-end y b g), λ c. sides-tied x y a b c f g)

  end-one : (a : Cell) (x y : VertexSide) → IsEndOf C x a → IsEndOf C y a → Chained (VolumeLink C) x y
  end-one a x y (inl f) (inl g) = subst (λ (z : VertexSide). Chained (VolumeLink C) x z) (one-side x y a f g) (chain-here (VolumeLink C) x)
  end-one a x y (inl f) (inr g) = absurd (not-outside x a f g.0)
  end-one a x y (inr f) (inl g) = absurd (not-outside y a g f.0)
  end-one a x y (inr f) (inr g) = chain-link (VolumeLink C) x y (inr (inr (inr (inr (f.1, g.1)))))

  pub ends-in_volume : (ts : List Tie) → AreTiesWithOutside C (VolumeLink C) ts → (a b : Cell) (x y : VertexSide) → Chained (AreTied ts) a b → IsEndOf C x a → IsEndOf C y b → Chained (VolumeLink C) x y
  ends-in_volume ts T = ends-linked (IsEndOf C) (VolumeLink C) (λ x a f. inl f) end-one ts T

  pub volume-chains : (ts : List Tie) → AreTiesWithOutside C (VolumeLink C) ts → (x y : VertexSide) (a b : Cell) → IsCellOf C x a → IsCellOf C y b → Chained (AreTied ts) a b ↔ Chained (VolumeLink C) x y
  volume-chains ts T = ties-chains (IsEndOf C) (VolumeLink C) (λ x a f. inl f) end-one ts T

  pub shell-chains : (ts : List Tie) → AreTiesOf C (ShellLink C) ts → (x y : VertexSide) (a b : Cell) → IsCellOf C x a → IsCellOf C y b → Chained (AreTied ts) a b ↔ Chained (ShellLink C) x y
  shell-chains ts T = ties-chains (IsCellOf C) (ShellLink C) (λ x a f. f) (λ a x y f g. subst (λ (z : VertexSide). Chained (ShellLink C) x z) (one-side x y a f g) (chain-here (ShellLink C) x)) ts T

  -- ---- ties are within the table
  pub end-within : (x : VertexSide) (a : Cell) → IsEndOf C x a → IsCellIn (row_counts C) a
  end-within x a (inl f) =
      let i = (map-is_at count_sides C.vertices x.vertex f.vertex f.is_vertex) in
      let n = side-number f.vertex.map x.side f.label f.has in
      subst (IsCellIn (row_counts C)) (sym f.is_cell) (record { count = count_sides f.vertex; is_row = next x.vertex (count_sides f.vertex) i; within = is-at_within (sides_of f.vertex.map) (side_number f.vertex.map x.side) (x.side, f.label) n })
    where
      next : (k n : ℕ) → IsAt (map count_sides C.vertices) k n → IsAt (row_counts C) (k + 1) n
      next k n i = let e : k + 1 ≡ suc k = omega arith in rw e i
  end-within x a (inr f) = subst (IsCellIn (row_counts C)) (sym f.0) (record { count = 1; is_row = refl; within = omega arith })

  pub ties-within : (Link : VertexSide → VertexSide → Type 0) (ts : List Tie) → AreLinks (IsEndOf C) Link ts → AreTiedWithin (row_counts C) ts
  ties-within Link ts f k t i = let r = f t (at-contains ts k t i) in (end-within r.0 t.first r.2, end-within r.1 t.second r.3)

  pub cells-within : (Link : VertexSide → VertexSide → Type 0) (ts : List Tie) → AreLinks (IsCellOf C) Link ts → AreTiedWithin (row_counts C) ts
  cells-within Link ts f = ties-within Link ts (links-as (IsCellOf C) (IsEndOf C) Link Link ts (λ x a g. inl g) (λ x y l. l) f)
