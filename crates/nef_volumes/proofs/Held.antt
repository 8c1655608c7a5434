-- Things in rows by their numbers: one thing more.
use Rattle.nef_volumes.proofs.Prelude.{◌≡◌, ℕ, ◌<◌, ◌⊎◌, inl, inr, ⊎_elim, List, [], ◌∷◌, ◌++◌, length, set, arith, sym, subst, cases_order, IsAt, Either, earlier, last, is-at_pushed, is-at_one, is-at_within, is-at_left, is-at_last, set-same, set-other, set-at, AreRowsByNumber}

module _ {X : Type 0} (Number : X → ℕ → Type 0) where
  no-thing : (q : ℕ) (x : X) → IsAt {X = X} [] q x → ⊥
  no-thing q x a = let w = is-at_within {X = X} [] q x a in omega (arith, w)

  -- what is in, and the order, said otherwise
  pub held-as : (In Other : X → Type 0) (Below Over : X → X → Type 0) (rows : List (List X)) → ((x : X) (m : ℕ) → Number x m → In x → Other x) → ((x : X) (m : ℕ) → Number x m → Other x → In x) → ((x y : X) → Below x y → Over x y)
      → AreRowsByNumber Number In Below rows → AreRowsByNumber Number Other Over rows
  held-as In Other Below Over rows to from over H = record {
    each = λ m q row x a b. let r = H.each m q row x a b in (r.0, to x m r.0 r.1);
    all = λ x m n i. H.all x m n (from x m n i);
    ordered = λ m q r row x y l a b c. over x y (H.ordered m q r row x y l a b c);
  }

  module _ (In : X → Type 0) (Below : X → X → Type 0) (rows : List (List X)) (H : AreRowsByNumber Number In Below rows) where
    -- one more row, an empty one
    pub held-opened : AreRowsByNumber Number In Below (rows ++ [] ∷ [])
    held-opened = record {
      each = λ m q row x a b. each-in m q row x b (is-at_pushed rows m row [] a);
      all = λ x m n i. let r = H.all x m n i in (r.0, r.1, is-at_left rows ([] ∷ []) m r.0 r.2, r.3);
      ordered = λ m q r row x y l a b c. ordered-in m q r row x y l b c (is-at_pushed rows m row [] a);
    }
      where
        each-in : (m q : ℕ) (row : List X) (x : X) → IsAt row q x → Either rows m row [] → Number x m × In x
        each-in m q row x b (earlier a) = H.each m q row x a b
        each-in m q row x b (last e f) = absurd (no-thing q x (subst (λ (w : List X). IsAt w q x) f b))

        ordered-in : (m q r : ℕ) (row : List X) (x y : X) → q < r → IsAt row q x → IsAt row r y → Either rows m row [] → Below x y
        ordered-in m q r row x y l b c (earlier a) = H.ordered m q r row x y l a b c
        ordered-in m q r row x y l b c (last e f) = absurd (no-thing q x (subst (λ (w : List X). IsAt w q x) f b))

    -- a thing more, at the end of the row with its number
    module _ (Now : X → Type 0) (to : (y : X) → In y → Now y) (n : ℕ) (row : List X) (at : IsAt rows n row) (x : X) (number : Number x n) (one : (m : ℕ) → Number x m → m ≡ n) (now : Now x)
        (above : (y : X) (q : ℕ) → IsAt row q y → Below y x) (cases : (y : X) → Now y → In y ⊎ (y ≡ x)) where
      abbrev longer : List X
      longer = row ++ x ∷ []

      here : IsAt (set rows n longer) n longer
      here = set-same rows n longer (is-at_within rows n row at)

      each-last : (q : ℕ) (y : X) → Either row q y x → Number y n × Now y
      each-last q y (earlier a) = let r = H.each n q row y at a in (r.0, to y r.1)
      each-last q y (last e f) = subst (λ (z : X). Number z n × Now z) (sym f) (number, now)

      order-last : (q r : ℕ) (y z : X) → q < r → Either row q y x → Either row r z x → Below y z
      order-last q r y z h (earlier a) (earlier b) = H.ordered n q r row y z h at a b
      order-last q r y z h (earlier a) (last e f) = subst (λ (w : X). Below y w) (sym f) (above y q a)
      order-last q r y z h (last e f) (earlier b) = let g = is-at_within row r z b in absurd (omega (arith, g, e, h))
      order-last q r y z h (last e f) (last g k) = absurd (omega (arith, e, g, h))

      each-row : (m q : ℕ) (w : List X) (y : X) → ((m ≡ n) × (w ≡ longer)) ⊎ IsAt rows m w → IsAt w q y → Number y m × Now y
      each-row m q w y (inl e) b = subst (λ (k : ℕ). Number y k × Now y) (sym e.0) (each-last q y (is-at_pushed row q y x (subst (λ (r : List X). IsAt r q y) e.1 b)))
      each-row m q w y (inr a) b = let r = H.each m q w y a b in (r.0, to y r.1)

      order-row : (m q r : ℕ) (w : List X) (y z : X) → q < r → ((m ≡ n) × (w ≡ longer)) ⊎ IsAt rows m w → IsAt w q y → IsAt w r z → Below y z
      order-row m q r w y z h (inl e) a b = order-last q r y z h (is-at_pushed row q y x (subst (λ (v : List X). IsAt v q y) e.1 a)) (is-at_pushed row r z x (subst (λ (v : List X). IsAt v r z) e.1 b))
      order-row m q r w y z h (inr d) a b = H.ordered m q r w y z h d a b

      -- a row of before still has its things
      still : (m q : ℕ) (w : List X) (y : X) → IsAt rows m w → IsAt w q y → (v : List X) × (k : ℕ) × IsAt (set rows n longer) m v × IsAt v k y
      still m q w y a b = ⊎_elim
          (λ e. (longer, q, subst (λ (p : ℕ). IsAt (set rows n longer) p longer) (sym e) here, is-at_left row (x ∷ []) q y (subst (λ (v : List X). IsAt v q y) (is-at_one rows n w row (subst (λ (p : ℕ). IsAt rows p w) e a) at) b)))
          (λ o. (w, q, set-other rows n m longer w (⊎_elim (λ l e. absurd (omega (arith, l, e))) (λ l e. absurd (omega (arith, l, e))) o) a, b)) (cases_order m n)

      found : (y : X) (m : ℕ) → Number y m → In y ⊎ (y ≡ x) → (w : List X) × (q : ℕ) × IsAt (set rows n longer) m w × IsAt w q y
      found y m a (inl i) = let r = H.all y m a i in still m r.1 r.0 y r.2 r.3
      found y m a (inr e) =
          let s = one m (subst (λ (z : X). Number z m) e a) in
          (longer, length row, subst (λ (p : ℕ). IsAt (set rows n longer) p longer) (sym s) here, subst (λ (z : X). IsAt longer (length row) z) (sym e) (is-at_last row x))

      pub held-more : AreRowsByNumber Number Now Below (set rows n longer)
      held-more = record {
        each = λ m q w y a b. each-row m q w y (set-at rows n m longer w a) b;
        all = λ y m a i. found y m a (cases y i);
        ordered = λ m q r w y z h a b c. order-row m q r w y z h (set-at rows n m longer w a) b c;
      }
