-- Edges stand in order of their lower ends, so of a row of edges in order those that begin before a vertex come first.
use Rattle.nef_complex.proofs.Prelude.{◌≡◌, ℕ, ◌<◌, ◌≤◌, ◌+◌, List, arith, ap, ⊎_elim, subst, inl, inr, eq-or-lt_of_le, ints, IsAt, Set, is-at_one, map-is_at, IsEdgeBelow, Shows, Edge, Complex, edge_of, complex_of}

-- the edges before place n of the row begin before the limit, and those from there on don't
abbrev pub BeginBefore : List Edge → List ℕ → ℕ → ℕ → Type 0
BeginBefore es ns limit n = (i k : ℕ) (e : Edge) → i < n → IsAt ns i k → IsAt es k e → e.low < limit

abbrev pub BeginFrom : List Edge → List ℕ → ℕ → ℕ → Type 0
BeginFrom es ns limit n = (i k : ℕ) (e : Edge) → n ≤ i → IsAt ns i k → IsAt es k e → limit ≤ e.low

module _ (s : Set) (c : Complex) (S : Shows s (complex_of c)) where
  -- the lower ends of edges rise
  pub low-rises : (i k : ℕ) (e f : Edge) → i ≤ k → IsAt c.edges i e → IsAt c.edges k f → e.low ≤ f.low
  low-rises i k e f l a b = ⊎_elim
      (λ o. let r : e ≡ f = is-at_one c.edges k e f (subst (λ x. IsAt c.edges x e) o a) b in let t = ap (λ (x : Edge). x.low) r in omega (arith, t))
      (λ o. by (S.edges.ordered i k (edge_of e) (edge_of f) o (map-is_at edge_of c.edges i e a) (map-is_at edge_of c.edges k f b)))
      (eq-or-lt_of_le {n = i} {m = k} l)
    where
      by : IsEdgeBelow (edge_of e) (edge_of f) → e.low ≤ f.low
      by (inl m) = omega (arith, ints)
      by (inr m) = let t = m.0 in omega (arith, ints)

  module _ (ns : List ℕ) (ordered : (i j k l : ℕ) → i < j → IsAt ns i k → IsAt ns j l → k < l) where
    -- so they do in a row
    row-rises : (i j k l : ℕ) (e f : Edge) → i ≤ j → IsAt ns i k → IsAt ns j l → IsAt c.edges k e → IsAt c.edges l f → e.low ≤ f.low
    row-rises i j k l e f o a b x y = low-rises k l e f
        (⊎_elim (λ q. let g : k ≡ l = is-at_one ns j k l (subst (λ z. IsAt ns z k) q a) b in omega (arith, g)) (λ q. let g = ordered i j k l q a b in omega (arith, g)) (eq-or-lt_of_le {n = i} {m = j} o)) x y

    pub begin-to : (limit m k : ℕ) (e : Edge) → IsAt ns m k → IsAt c.edges k e → e.low < limit → BeginBefore c.edges ns limit (m + 1)
    begin-to limit m k e a x l i j f o b y = let r = row-rises i m j k f e (omega (arith, o)) b a y x in omega (arith, l, r)

    pub begin-from : (limit m k : ℕ) (e : Edge) → IsAt ns m k → IsAt c.edges k e → limit ≤ e.low → BeginFrom c.edges ns limit m
    begin-from limit m k e a x l i j f o b y = let r = row-rises m i k j e f o a b x y in omega (arith, l, r)
