-- The ties down the rays from some of the vertices.
use Rattle.nef_volumes.proofs.Prelude.{◌≡◌, ℕ, ◌+◌, ◌<◌, ◌≤◌, ◌⊎◌, inl, inr, List, [], ◌∷◌, ◌++◌, length, arith, sym, subst, Contains, Contains-append_left, Contains-append_right, Contains-push, Contains-push_cases, Complex, VertexSide, Tie, complex_of, LinkDown, IsCellOf, IsTieDown, AreDownBetween, AreTiesDown}
use Rattle.nef_complex.specs.declared.complex.Complex.{Complex as ProgramComplex}
use Rattle.nef_volumes.proofs.ReadVertex.{vertex-within}
use Rattle.nef_volumes.proofs.SideCells.{both-links}
use Rattle.std.proofs.lemmas.Bool.{cases_lt}
use Rattle.nef_space.proofs.Elementary.{less-or-last}

module _ (C : Complex) (start : ℕ) where
  pub down-start : AreDownBetween C start start []
  down-start = record { only = λ t c. absurd (let l = c.1 in omega (arith, l)); all = λ x y L s l. absurd (omega (arith, s, l)) }

  pub down-more : (n : ℕ) (ts : List Tie) (t : Tie) → IsTieDown C n t → AreDownBetween C start n ts → AreDownBetween C start (n + 1) (ts ++ t ∷ [])
  down-more n ts t p D = record {
    only = λ u c. by u (Contains-push_cases ts t u c);
    all = λ x y L s l. found x y L s (less-or-last x.vertex n l);
  }
    where
      by : (u : Tie) → Contains ts u ⊎ (t ≡ u) → (x : VertexSide) × (y : VertexSide) × IsCellOf C x u.first × IsCellOf C y u.second × LinkDown C x y
      by u (inl c) = D.only u c
      by u (inr e) = let (x, y, at, f, g, L) = subst (IsTieDown C n) e p in (x, y, f, g, L)

      found : (x y : VertexSide) → LinkDown C x y → start ≤ x.vertex → (x.vertex < n) ⊎ (x.vertex ≡ n) → (u : Tie) × Contains (ts ++ t ∷ []) u × IsTieDown C x.vertex u
      found x y L s (inl l) = let r = D.all x y L s l in (r.0, Contains-append_left ts (t ∷ []) r.0 r.1, r.2)
      found x y L s (inr e) = (t, Contains-push ts t, subst (λ (i : ℕ). IsTieDown C i t) (sym e) p)

  pub down-pass : (n : ℕ) (ts : List Tie) → ((x y : VertexSide) → x.vertex ≡ n → LinkDown C x y → ⊥) → AreDownBetween C start n ts → AreDownBetween C start (n + 1) ts
  down-pass n ts apart D = record {
    only = D.only;
    all = λ x y L s l. found x y L s (less-or-last x.vertex n l);
  }
    where
      found : (x y : VertexSide) → LinkDown C x y → start ≤ x.vertex → (x.vertex < n) ⊎ (x.vertex ≡ n) → (u : Tie) × Contains ts u × IsTieDown C x.vertex u
      found x y L s (inl l) = D.all x y L s l
      found x y L s (inr e) = absurd (apart x y e L)

  pub down-fewer : (n end : ℕ) (ts : List Tie) → end ≤ n → AreDownBetween C start n ts → AreDownBetween C start end ts
  down-fewer n end ts f D = record { only = D.only; all = λ x y L s l. D.all x y L s (omega (arith, f, l)) }

-- the lists of the vertices before one and of those from it on, together
pub down-appended : (C : Complex) (middle end : ℕ) (ts us : List Tie) → AreDownBetween C 0 middle ts → AreDownBetween C middle end us → AreDownBetween C 0 end (ts ++ us)
down-appended C middle end ts us D E = record {
  only = both-links C (IsCellOf C) (LinkDown C) ts us D.only E.only;
  all = λ x y L s l. found x y L l (cases_lt x.vertex middle);
}
  where
    found : (x y : VertexSide) → LinkDown C x y → x.vertex < end → (x.vertex < middle) ⊎ (middle ≤ x.vertex) → (u : Tie) × Contains (ts ++ us) u × IsTieDown C x.vertex u
    found x y L l (inl b) = let r = D.all x y L (omega arith) b in (r.0, Contains-append_left ts us r.0 r.1, r.2)
    found x y L l (inr b) = let r = E.all x y L b l in (r.0, Contains-append_right ts us r.0 r.1, r.2)

-- for all vertices
pub down-all : (c : ProgramComplex) (ts : List Tie) → AreDownBetween (complex_of c) 0 (length c.vertices) ts → AreTiesDown (complex_of c) ts
down-all c ts D = record { only = D.only; all = λ x y L. D.all x y L (omega arith) (vertex-within c x.vertex L.vertex L.is_vertex) }
