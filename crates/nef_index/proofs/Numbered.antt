-- Lists of the numbers that have a property, in increasing order.
use Rattle.nef_index.proofs.Prelude.{◌≡◌, ℕ, ◌+◌, ◌<◌, ◌≤◌, List, [], ◌∷◌, ◌++◌, length, length-append, ◌↔◌, arith, refl, sym, ◌∙◌, subst, ⊎_elim, cases_lt, IsAt, is-at_one, is-at_within, is-at_left, is-at_last, Either, earlier, last, is-at_pushed, AreNumbersWith}
use Rattle.nef_space.proofs.Elementary.{less-or-last}

-- the number is below n and has P
abbrev pub Before : (ℕ → Type 0) → ℕ → ℕ → Type 0
Before P n k = (k < n) × P k

pub numbers-none : (P : ℕ → Type 0) → AreNumbersWith (Before P 0) []
numbers-none P = record { each = λ i k a. cc; all = λ k (l, p). absurd (omega arith); ordered = λ i j k l h a b. cc }

-- of the numbers from n to before `next` only k has P, and is added
pub numbers-in : (P : ℕ → Type 0) (n k next : ℕ) (ns : List ℕ) → AreNumbersWith (Before P n) ns → n ≤ k → k < next → P k → ((i : ℕ) → n ≤ i → i < next → P i → i ≡ k) → AreNumbersWith (Before P next) (ns ++ k ∷ [])
numbers-in P n k next ns N from to p only = record {
  each = λ i m a. each i m (is-at_pushed ns i m k a);
  all = λ m (l, q). ⊎_elim
      (λ b. let o = N.all m (b, q) in (o.0, is-at_left ns (k ∷ []) o.0 m o.1))
      (λ b. (length ns, subst (λ (j : ℕ). IsAt (ns ++ k ∷ []) (length ns) j) (sym (only m b l q)) (is-at_last ns k)))
      (cases_lt m n);
  ordered = λ i j a b l p q. ordered i j a b l (is-at_pushed ns i a k p) (is-at_pushed ns j b k q);
}
  where
    each : (i m : ℕ) → Either ns i m k → Before P next m
    each i m (earlier a) = let o = N.each i m a in (omega arith, o.1)
    each i m (last e f) = (omega arith, subst P (sym f) p)

    ordered : (i j a b : ℕ) → i < j → Either ns i a k → Either ns j b k → a < b
    ordered i j a b l (earlier p) (earlier q) = N.ordered i j a b l p q
    ordered i j a b l (earlier p) (last e f) = let o = N.each i a p in omega arith
    ordered i j a b l (last e f) (earlier q) = let o = is-at_within ns j b q in absurd (omega arith)
    ordered i j a b l (last e f) (last g m) = absurd (omega arith)

-- none of them has
pub numbers-past : (P : ℕ → Type 0) (n next : ℕ) (ns : List ℕ) → AreNumbersWith (Before P n) ns → n ≤ next → ((i : ℕ) → n ≤ i → i < next → P i → ⊥) → AreNumbersWith (Before P next) ns
numbers-past P n next ns N le off = record {
  each = λ i k a. let o = N.each i k a in (omega arith, o.1);
  all = λ k (l, q). ⊎_elim (λ b. N.all k (b, q)) (λ b. absurd (off k b l q)) (cases_lt k n);
  ordered = N.ordered;
}

-- no number from n on has P
pub numbers-all : (P : ℕ → Type 0) (n : ℕ) (ns : List ℕ) → AreNumbersWith (Before P n) ns → ((k : ℕ) → P k → k < n) → AreNumbersWith P ns
numbers-all P n ns N within = record { each = λ i k a. (N.each i k a).1; all = λ k p. N.all k (within k p, p); ordered = N.ordered }

pub numbers-same : (P Q : ℕ → Type 0) (ns : List ℕ) → ((k : ℕ) → P k ↔ Q k) → AreNumbersWith P ns → AreNumbersWith Q ns
numbers-same P Q ns same N = record { each = λ i k a. (same k).0 (N.each i k a); all = λ k q. N.all k ((same k).1 q); ordered = N.ordered }

-- ---- a list, thinned out
-- the number is one of the first n of the list
abbrev pub AmongFirst : List ℕ → ℕ → ℕ → Type 0
AmongFirst ns n k = (i : ℕ) × (i < n) × IsAt ns i k

-- the numbers are those among the first n of the list that have Q
abbrev pub AreThinned : List ℕ → (ℕ → Type 0) → ℕ → List ℕ → Type 0
AreThinned ns Q n ms = AreNumbersWith (λ k. AmongFirst ns n k × Q k) ms

pub thinned-none : (ns : List ℕ) (Q : ℕ → Type 0) → AreThinned ns Q 0 []
thinned-none ns Q = record { each = λ i k a. cc; all = λ k (x, q). absurd (let l = x.1 in omega arith); ordered = λ i j k l h a b. cc }

module _ (P Q : ℕ → Type 0) (ns : List ℕ) (N : AreNumbersWith P ns) (n k : ℕ) (here : IsAt ns n k) (ms : List ℕ) (M : AreThinned ns Q n ms) where
  -- the next one has Q, and is added: it is greater than those before it
  pub thinned-more : Q k → AreThinned ns Q (n + 1) (ms ++ k ∷ [])
  thinned-more q = record {
    each = λ i m a. each i m (is-at_pushed ms i m k a);
    all = λ m (x, p). ⊎_elim
        (λ l. let o = M.all m ((x.0, l, x.2), p) in (o.0, is-at_left ms (k ∷ []) o.0 m o.1))
        (λ e. (length ms, subst (λ (j : ℕ). IsAt (ms ++ k ∷ []) (length ms) j) (is-at_one ns n k m here (subst (λ (i : ℕ). IsAt ns i m) e x.2)) (is-at_last ms k)))
        (less-or-last x.0 n x.1);
    ordered = λ i j a b l p q. ordered i j a b l (is-at_pushed ms i a k p) (is-at_pushed ms j b k q);
  }
    where
      each : (i m : ℕ) → Either ms i m k → AmongFirst ns (n + 1) m × Q m
      each i m (earlier a) = let o = M.each i m a in ((o.0.0, (let l = o.0.1 in omega arith), o.0.2), o.1)
      each i m (last e f) = ((n, omega arith, subst (IsAt ns n) (sym f) here), subst Q (sym f) q)

      ordered : (i j a b : ℕ) → i < j → Either ms i a k → Either ms j b k → a < b
      ordered i j a b l (earlier p) (earlier r) = M.ordered i j a b l p r
      ordered i j a b l (earlier p) (last e f) = let o = (M.each i a p).0 in subst (λ (m : ℕ). a < m) (sym f) (N.ordered o.0 n a k o.1 o.2 here)
      ordered i j a b l (last e f) (earlier r) = let o = is-at_within ms j b r in absurd (omega arith)
      ordered i j a b l (last e f) (last g h) = absurd (omega arith)

  pub thinned-skip : (Q k → ⊥) → AreThinned ns Q (n + 1) ms
  thinned-skip off = record {
    each = λ i m a. let o = M.each i m a in ((o.0.0, (let l = o.0.1 in omega arith), o.0.2), o.1);
    all = λ m (x, p). ⊎_elim (λ l. M.all m ((x.0, l, x.2), p))
        (λ e. absurd (off (subst Q (is-at_one ns n m k (subst (λ (i : ℕ). IsAt ns i m) e x.2) here) p))) (less-or-last x.0 n x.1);
    ordered = M.ordered;
  }

-- ---- a value for each element
-- the values are those of the first n elements, and each has P with its element
pub record AreValuesTo {X Y : Type 0} (P : X → Y → Type 0) (xs : List X) (n : ℕ) (ys : List Y) : Type 0 where
  pub as_many : length ys ≡ n
  pub each : (k : ℕ) (x : X) (y : Y) → IsAt xs k x → IsAt ys k y → P x y

pub values-none : {X Y : Type 0} (P : X → Y → Type 0) (xs : List X) → AreValuesTo P xs 0 []
values-none {X} {Y} P xs = record { as_many = refl; each = λ k x y a b. absurd (let l = is-at_within {X = Y} [] k y b in omega arith) }

pub values-more : {X Y : Type 0} (P : X → Y → Type 0) (xs : List X) (n : ℕ) (ys : List Y) (x : X) (y : Y) → IsAt xs n x → P x y → AreValuesTo P xs n ys → AreValuesTo P xs (n + 1) (ys ++ y ∷ [])
values-more {X} {Y} P xs n ys x y here p R = record {
  as_many = let e = R.as_many in let f = length-append ys (y ∷ []) in omega arith;
  each = λ k w z a b. each k w z a (is-at_pushed ys k z y b);
}
  where
    each : (k : ℕ) (w : X) (z : Y) → IsAt xs k w → Either ys k z y → P w z
    each k w z a (earlier b) = R.each k w z a b
    each k w z a (last e f) =
        let same : x ≡ w = is-at_one xs n x w here (subst (λ (i : ℕ). IsAt xs i w) (e ∙ R.as_many) a) in
        subst (λ (v : X). P v z) same (subst (P x) (sym f) p)
