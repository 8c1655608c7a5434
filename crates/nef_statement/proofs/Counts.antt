-- What is counted of a set is one, and the same of sets that are the same.
use Rattle.nef_statement.proofs.Prelude.{◌≡◌, ℕ, zero, suc, refl, sym, ap, ◌∙◌, is-at_none, List, [], ◌∷◌, SameSet, Set, Joined-same, cones-of_same, FlatDim-by_cone, HasComponents, line, numbers, CountTells}
use Rattle.nef_conn.proofs.OneCount.{one-count}
use Rattle.law_geometry.proofs.near.SameSets.{same-turned}

components-same : (a s : Set) (k n : ℕ) → SameSet a s → HasComponents s k n → HasComponents a k n
components-same a s k n f (ps, count, h) = (
  ps,
  count,
  record {
    flat = λ i p at. (FlatDim-by_cone a s p k (cones-of_same a s f p)).1 (h.flat i p at);
    apart = λ i j p q at at' j'. h.apart i j p q at at' (Joined-same a s p q f j');
    all = λ q flat. (let (i, p, at, j) = h.all q ((FlatDim-by_cone a s q k (cones-of_same a s f q)).0 flat) in (i, p, at, Joined-same s a q p (same-turned a s f) j));
  },
)

pub count-same : (a s : Set) (x : List ℕ) → SameSet a s → CountTells s x → CountTells a x
count-same a s x f (n, h, e) = (n, λ k. components-same a s k (n k) f (h k), e)

pub count-one : (s : Set) (x y : List ℕ) → CountTells s x → CountTells s y → x ≡ y
count-one s x y (m, h, e) (n, k, f) =
    let same = λ (d : ℕ). one-count s d (m d) (n d) (h d) (k d) in
    e
    ∙ ap (λ (i : ℕ). line (numbers (i ∷ m 1 ∷ m 2 ∷ m 3 ∷ []))) (same 0)
    ∙ ap (λ (i : ℕ). line (numbers (n 0 ∷ i ∷ m 2 ∷ m 3 ∷ []))) (same 1)
    ∙ ap (λ (i : ℕ). line (numbers (n 0 ∷ n 1 ∷ i ∷ m 3 ∷ []))) (same 2)
    ∙ ap (λ (i : ℕ). line (numbers (n 0 ∷ n 1 ∷ n 2 ∷ i ∷ []))) (same 3)
    ∙ sym f

-- ---- numbers for no, one, two and three directions; no point has more
abbrev four : ℕ → ℕ → ℕ → ℕ → ℕ → ℕ
four a b c d zero = a
four a b c d (suc zero) = b
four a b c d (suc (suc zero)) = c
four a b c d (suc (suc (suc zero))) = d
four a b c d (suc (suc (suc (suc k)))) = 0

four-counted : (s : Set) (a b c d : ℕ) → HasComponents s 0 a × HasComponents s 1 b × HasComponents s 2 c × HasComponents s 3 d → (k : ℕ) → HasComponents s k (four a b c d k)
four-counted s a b c d h zero = h.0
four-counted s a b c d h (suc zero) = h.1
four-counted s a b c d h (suc (suc zero)) = h.2
four-counted s a b c d h (suc (suc (suc zero))) = h.3
four-counted s a b c d h (suc (suc (suc (suc k)))) = ([], refl, record { flat = λ i p at. absurd (is-at_none at); apart = λ i j p q at at' l. absurd (is-at_none at); all = λ q flat. absurd flat.0 })

pub counted-by : (s : Set) (a b c d : ℕ) → HasComponents s 0 a × HasComponents s 1 b × HasComponents s 2 c × HasComponents s 3 d → CountTells s (line (numbers (a ∷ b ∷ c ∷ d ∷ [])))
counted-by s a b c d h = (four a b c d, four-counted s a b c d h, refl)
