-- Edges and corners are equal where their numbers and marks are.
use Rattle.law_geometry.proofs.complex.Prelude.{◌≡◌, ℕ, ap, ◌∙◌, Label, Corner, Edge}

pub edges-equal : (e f : Edge) → e.low ≡ f.low → e.low_svertex ≡ f.low_svertex → e.high ≡ f.high → e.high_svertex ≡ f.high_svertex → e.mark ≡ f.mark → e ≡ f
edges-equal e f h i j k l =
    ap (λ n. make n e.low_svertex e.high e.high_svertex e.mark) h ∙ ap (λ n. make f.low n e.high e.high_svertex e.mark) i ∙ ap (λ n. make f.low f.low_svertex n e.high_svertex e.mark) j
    ∙ ap (λ n. make f.low f.low_svertex f.high n e.mark) k ∙ ap (λ n. make f.low f.low_svertex f.high f.high_svertex n) l
  where
    make : ℕ → ℕ → ℕ → ℕ → Label → Edge
    make a b c d m = record { low = a; low_svertex = b; high = c; high_svertex = d; mark = m }

pub corners-equal : (j k : Corner) → j.vertex ≡ k.vertex → j.item ≡ k.item → j ≡ k
corners-equal j k e f = ap (λ n. make n j.item) e ∙ ap (λ n. make k.vertex n) f
  where
    make : ℕ → ℕ → Corner
    make a b = record { vertex = a; item = b }
