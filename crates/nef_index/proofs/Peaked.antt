-- Greatest upper ends of edges, in blocks and in tables.
use Rattle.nef_index.proofs.Prelude.{◌≡◌, ℕ, ◌+◌, ◌*◌, ◌<◌, ◌≤◌, List, [], ◌∷◌, ◌++◌, length, length-append, arith, ap, sym, ◌∙◌, ◌⊎◌, inl, inr, ⊎_elim, subst, cases_lt, IsAt, is-at_one, is-at_within, Either, earlier, last, is-at_pushed, Edge, block_start, EndBelow, ArePeaks, HavePeaks}

module _ (es : List Edge) (ns : List ℕ) where
  pub end-none : (first past n : ℕ) → past ≤ first → EndBelow es ns first past n
  end-none first past n le j k e l m a b = absurd (omega (arith, le, l, m))

  -- of the edges before and after a place
  pub end-join : (first place past n m : ℕ) → EndBelow es ns first place n → EndBelow es ns place past m → n ≤ m → EndBelow es ns first past m
  end-join first place past n m E F le j k e l o a b = ⊎_elim
      (λ t. let h = E j k e l t a b in omega (arith, h, le)) (λ t. F j k e t o a b) (cases_lt j place)

  -- of fewer edges, or below a greater number
  pub end-within : (first place past n m : ℕ) → first ≤ place → n ≤ m → EndBelow es ns first past n → EndBelow es ns place past m
  end-within first place past n m le o E j k e l t a b = let h = E j k e (omega (arith, le, l)) t a b in omega (arith, h, o)

  pub end-at : (a b c d n : ℕ) → a ≡ c → b ≡ d → EndBelow es ns a b n → EndBelow es ns c d n
  end-at a b c d n f g E j k e l m x y = E j k e (omega (arith, l, f)) (omega (arith, m, g)) x y

  -- the greatest so far that grows to take in a peak, or another number
  pub end-either : (first place past n m r : ℕ) → EndBelow es ns first place (n + 1) → EndBelow es ns place past (m + 1) → n ≤ r → m ≤ r → EndBelow es ns first past (r + 1)
  end-either first place past n m r E F le o =
      end-join first place past (r + 1) (r + 1) (end-within first first place (n + 1) (r + 1) (omega arith) (omega (arith, le)) E) (end-within place place past (m + 1) (r + 1) (omega arith) (omega (arith, o)) F) (omega arith)

  pub peaks-none : ArePeaks es ns []
  peaks-none i p a = cc

  pub peaks-more : (ps : List ℕ) (p : ℕ) → ArePeaks es ns ps → EndBelow es ns (8 * block_start (length ps + 1)) (8 * (length ps + 1)) (p + 1) → ArePeaks es ns (ps ++ p ∷ [])
  peaks-more ps p A E i q a = by (is-at_pushed ps i q p a)
    where
      by : Either ps i q p → EndBelow es ns (8 * block_start (i + 1)) (8 * (i + 1)) (q + 1)
      by (earlier b) = A i q b
      by (last e f) = subst (λ n. EndBelow es ns (8 * block_start (n + 1)) (8 * (n + 1)) (q + 1)) (sym e) (subst (λ n. EndBelow es ns (8 * block_start (length ps + 1)) (8 * (length ps + 1)) (n + 1)) (sym f) E)

-- ---- tables
abbrev pub IsRowAfter : List (List ℕ) → ℕ → List ℕ → ℕ → List ℕ → Type 0
IsRowAfter old number row i ns = IsAt old i ns ⊎ (ns ≡ []) ⊎ ((i ≡ number) × (ns ≡ row))

-- with a row at its number, the peaks of that row of edges
pub have-more : (es : List Edge) (rows old new : List (List ℕ)) (number : ℕ) (ns ps : List ℕ) → HavePeaks es rows old → IsAt rows number ns → ArePeaks es ns ps → ((i : ℕ) (qs : List ℕ) → IsAt new i qs → IsRowAfter old number ps i qs) → HavePeaks es rows new
have-more es rows old new number ns ps H at P rule i ms qs a b = ⊎_elim
    (λ c. H i ms qs a c)
    (⊎_elim
    (λ e. subst (ArePeaks es ms) (sym e) (peaks-none es ms))
    (λ e.
    let same : ns ≡ ms = is-at_one rows number ns ms at (subst (λ x. IsAt rows x ms) e.0 a) in
    subst (ArePeaks es ms) (sym e.1) (subst (λ x. ArePeaks es x ps) same P)))
    (rule i qs b)

pub have-none : (es : List Edge) (rows table : List (List ℕ)) → table ≡ [] → HavePeaks es rows table
have-none es rows table e i ns ps a b = let l = is-at_within table i ps b in absurd (subst (λ (t : List (List ℕ)). i < length t → ⊥) (sym e) (λ m. omega (arith, m)) l)

-- ---- a table with a row at its number
pub row-fills : (old new : List (List ℕ)) (i : ℕ) (ns : List ℕ) → new ≡ old ++ [] ∷ [] → IsAt new i ns → IsAt old i ns ⊎ (ns ≡ [])
row-fills old new i ns e a = by (is-at_pushed old i ns [] (subst (λ (t : List (List ℕ)). IsAt t i ns) e a))
  where
    by : Either old i ns [] → IsAt old i ns ⊎ (ns ≡ [])
    by (earlier b) = inl b
    by (last l f) = inr f

pub row-last : (old new : List (List ℕ)) (number : ℕ) (row : List ℕ) → new ≡ old ++ row ∷ [] → length old ≡ number → (i : ℕ) (ns : List ℕ) → IsAt new i ns → IsAt old i ns ⊎ ((i ≡ number) × (ns ≡ row))
row-last old new number row e n i ns a = by (is-at_pushed old i ns row (subst (λ (t : List (List ℕ)). IsAt t i ns) e a))
  where
    by : Either old i ns row → IsAt old i ns ⊎ ((i ≡ number) × (ns ≡ row))
    by (earlier b) = inl b
    by (last l f) = inr (l ∙ n, f)

pub row-length : (old new : List (List ℕ)) (row : List ℕ) → new ≡ old ++ row ∷ [] → length new ≡ length old + 1
row-length old new row e = ap (length {A = List ℕ}) e ∙ length-append old (row ∷ [])
