-- Reading lists. What holds of the first elements, and of the next, holds of all these.
use Rattle.nef_complex.proofs.Prelude.{◌≡◌, ℕ, ◌<◌, ◌+◌, ◌≤◌, List, length, get_or, slice_get, Some, arith, sym, subst, ⊎_elim, eq-or-lt_of_le, IsAt, is-at_one, is-at_within, StandsIn, is-at_read}

-- with none of the first k elements, and not the next, none of the first k + 1
pub none-more : {X : Type 0} (P : X → Type 0) (hs : List X) (i : ℕ) (g : X) → i < length hs → g ≡ get_or hs i g → ((k : ℕ) (h : X) → k < i → IsAt hs k h → P h → ⊥) → (P g → ⊥)
    → (k : ℕ) (h : X) → k < i + 1 → IsAt hs k h → P h → ⊥
none-more P hs i g l e f n k h m a = ⊎_elim
    (λ o. λ p. n (subst P (is-at_one hs i h g (subst (λ (j : ℕ). IsAt hs j h) o a) (is-at_read hs i g l e)) p)) (λ o. f k h o a)
    (eq-or-lt_of_le {n = k} {m = i} (omega (arith, m)))

-- with all of the first k elements, and the next, all of the first k + 1
pub all-more : {X : Type 0} (P : X → Type 0) (hs : List X) (i : ℕ) (g : X) → i < length hs → g ≡ get_or hs i g → ((k : ℕ) (h : X) → k < i → IsAt hs k h → P h) → P g → (k : ℕ) (h : X) → k < i + 1 → IsAt hs k h → P h
all-more P hs i g l e f p k h m a = ⊎_elim
    (λ o. subst P (sym (is-at_one hs i h g (subst (λ (j : ℕ). IsAt hs j h) o a) (is-at_read hs i g l e))) p) (λ o. f k h o a)
    (eq-or-lt_of_le {n = k} {m = i} (omega (arith, m)))

next-each : {X : Type 0} (P : X → Type 0) (xs : List X) (n : ℕ) → ((k : ℕ) (y : X) → k < n → IsAt xs k y → P y) → ((y : X) → IsAt xs n y → P y) → (k : ℕ) (y : X) → k < n + 1 → IsAt xs k y → P y
next-each P xs n f g k y l a = ⊎_elim (λ e. g y (subst (λ j. IsAt xs j y) e a)) (λ m. f k y m a) (eq-or-lt_of_le {n = k} {m = n} (omega (arith, l)))

pub next-all : {X : Type 0} (P : X → Type 0) (xs : List X) (n : ℕ) (x : X) → slice_get xs n ≡ Some x → ((k : ℕ) (y : X) → k < n → IsAt xs k y → P y) → P x → (k : ℕ) (y : X) → k < n + 1 → IsAt xs k y → P y
next-all P xs n x r f p = next-each P xs n f (λ y a. subst P (is-at_one xs n x y r a) p)

-- ---- elements each of which has numbers
-- the numbers of the first n elements have P
abbrev pub HaveAll : {X : Type 0} → (X → ℕ → Type 0) → (ℕ → Type 0) → List X → ℕ → Type 0
HaveAll {X} has P xs n = (i : ℕ) (x : X) → i < n → IsAt xs i x → (k : ℕ) → has x k → P k

pub next-numbers : {X : Type 0} (has : X → ℕ → Type 0) (P : ℕ → Type 0) (xs : List X) (n : ℕ) (x : X) → slice_get xs n ≡ Some x → HaveAll has P xs n → ((k : ℕ) → has x k → P k) → HaveAll has P xs (n + 1)
next-numbers has P = next-all (λ x. (k : ℕ) → has x k → P k)

pub all-numbers : {X : Type 0} (has : X → ℕ → Type 0) (P : ℕ → Type 0) (xs : List X) (n : ℕ) → length xs ≤ n → HaveAll has P xs n → (k : ℕ) → StandsIn has xs k → P k
all-numbers has P xs n l f k o = f o.0 o.1 (let m = is-at_within xs o.0 o.1 o.2 in omega (arith, l, m)) o.2 k o.3
