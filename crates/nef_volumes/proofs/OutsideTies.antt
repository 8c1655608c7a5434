-- The ties of the outside.
use Rattle.nef_volumes.proofs.Prelude.{◌≡◌, ℕ, ◌<◌, inl, inr, ⊎_elim, List, [], ◌∷◌, ◌++◌, length, Some, slice_get, arith, refl, ap, sym, ◌∙◌, subst, Contains, Chained, Out, Side, map_of, sides_of, IsSide, is-at_within, side_number, side-has, side-number, number-one, chain-trans, chain-turned, Vertex, Complex, vertex_of, complex_of, adds-one, adds-none, VertexSide, HasSideLabel, AreTied, Cell, Tie, LinkOutside, Adds, Any, outside_cell, side_cell, IsCellOf, IsEndOf, AreTiedSides, AreTiesWithOutside, AreTiedOutside, IsTieOutside}
use Rattle.nef_complex.specs.declared.complex.Complex.{Complex as ProgramComplex}
use Rattle.nef_complex.specs.declared.complex.Vertex.{Vertex as ProgramVertex}
use Rattle.nef_volumes.proofs.ReadVertex.{vertex-there, vertex-read}
use Rattle.nef_volumes.proofs.SideCells.{tie-chain, cell-is, cell-numbered}

-- all elements of a list that was empty have P
pub only-added : {X : Type 0} (P : X → Type 0) (xs : List X) → Adds P [] xs → (x : X) → Contains xs x → P x
only-added P xs A x c = ⊎_elim (λ n. absurd (let l = n.1 in omega (arith, l))) (λ p. p) (A.added x c)

module _ (C : Complex) (ts : List Tie) (A : Adds (Any (λ i. Any (IsTieOutside C i))) [] ts) where
  only : (t : Tie) → Contains ts t → (x : VertexSide) × (y : VertexSide) × IsEndOf C x t.first × IsEndOf C y t.second × LinkOutside C x y
  only t c =
      let p = only-added (Any (λ i. Any (IsTieOutside C i))) ts A t c in
      let i = p.0 in let s = p.1.0 in
      let n = p.1.1.0 in
      let v = n.0 in let o = n.1 in let a = n.2 in
      let h = side-has v.map s o Out n.3 in
      let y : VertexSide = record { vertex = i; side = o } in
      let out : HasSideLabel C y Out = (v, a, h) in
      let cell = cell-numbered C i s v o Out a h (number-one v.map s o Out n.3) in
      (y, y, inr (ap (λ (u : Tie). u.first) p.1.1.1, out), inl (subst (IsCellOf C y) (sym (ap (λ (u : Tie). u.second) p.1.1.1)) cell), (out, out))

  from-outside : (x : VertexSide) (h : HasSideLabel C x Out) → (a : Cell) × IsCellOf C x a × Chained (AreTied ts) outside_cell a
  from-outside x (v, a, h) =
      let s = side_number v.map x.side in
      let b = side_cell x.vertex s in
      let t : Tie = record { first = outside_cell; second = b } in
      let c = A.all t (x.vertex, (s, ((v, x.side, a, side-number v.map x.side Out h), refl))) in
      (b, cell-is C x v Out a h, tie-chain ts t outside_cell b c refl refl)

  pub outside-all : AreTiedOutside C ts
  outside-all x h = from-outside x h

  all : (x y : VertexSide) → LinkOutside C x y → AreTiedSides C ts x y
  all x y (g, h) =
      let a = from-outside x g in
      let b = from-outside y h in
      (a.0, b.0, a.1, b.1, chain-trans (AreTied ts) a.0 outside_cell b.0 (chain-turned (AreTied ts) outside_cell a.0 a.2) b.2)

  -- THE SIDES OUTSIDE ARE TIED
  pub outside-tied : AreTiesWithOutside C (LinkOutside C) ts
  outside-tied = record { only = only; all = all }

-- ---- the loop over the sides of a vertex
module _ (c : ProgramComplex) (i s : ℕ) (u : ProgramVertex) (e : slice_get c.vertices i ≡ Some u) (ts : List Tie) where
  pub outside-added : (o : Side) × IsSide (map_of u.map) s o Out → (a b : Cell) → a ≡ outside_cell → b ≡ side_cell i s → Adds (IsTieOutside (complex_of c) i s) ts (ts ++ record { first = a; second = b } ∷ [])
  outside-added (o, g) a b f h =
      let t : Tie = record { first = a; second = b } in
      let is : t ≡ record { first = outside_cell; second = side_cell i s } = cc in
      adds-one (IsTieOutside (complex_of c) i s) ts t ((vertex_of u, o, vertex-there c i u e, g), is) (λ y p. is ∙ sym p.1)

  pub outside-none : ((o : Side) × IsSide (map_of u.map) s o Out → ⊥) → Adds (IsTieOutside (complex_of c) i s) ts ts
  outside-none n = adds-none (IsTieOutside (complex_of c) i s) ts (λ t ((v, o, a, g), f). n (o, subst (λ (w : Vertex). IsSide w.map s o Out) (vertex-read c i u v e a) g))

pub outside-below : (c : ProgramComplex) (i s : ℕ) (u : ProgramVertex) → slice_get c.vertices i ≡ Some u → (t : Tie) → IsTieOutside (complex_of c) i s t → s < length (sides_of (map_of u.map))
outside-below c i s u e t ((v, o, a, g), f) = is-at_within (sides_of (map_of u.map)) s (o, Out) (subst (λ (w : Vertex). IsSide w.map s o Out) (vertex-read c i u v e a) g)
