-- Lists of numbers: of those that have a property, in rows, and of elements of a list.
use Rattle.std.specs.Prelude.{◌<◌}
use Rattle.nef_space.specs.Prelude.{ℕ, List, length, IsAt}

-- the list has the numbers that have P, in increasing order
pub record AreNumbersWith (P : ℕ → Type 0) (ns : List ℕ) : Type 0 where
  pub each : (i k : ℕ) → IsAt ns i k → P k
  pub all : (k : ℕ) → P k → (i : ℕ) × IsAt ns i k
  pub ordered : (i j k l : ℕ) → i < j → IsAt ns i k → IsAt ns j l → k < l

-- each of the numbers is the number of an element of the list
abbrev pub AreNumbersOf : {X : Type 0} → List X → List ℕ → Type 0
AreNumbersOf xs ns = (i k : ℕ) → IsAt ns i k → k < length xs

-- the number stands in the list
abbrev pub HasEntry : List ℕ → ℕ → Type 0
HasEntry ns k = (i : ℕ) × IsAt ns i k

-- the numbers increase
abbrev pub DoRise : List ℕ → Type 0
DoRise ns = (i j k l : ℕ) → i < j → IsAt ns i k → IsAt ns j l → k < l

-- the numbers are below n, and no two of them are equal
pub record AreOnce (n : ℕ) (ns : List ℕ) : Type 0 where
  pub below : (i k : ℕ) → IsAt ns i k → k < n
  pub once : (i j k : ℕ) → i < j → IsAt ns i k → IsAt ns j k → ⊥

-- in each row the numbers are below n, and no two of them are equal
abbrev pub AreRowsOfOnce : ℕ → List (List ℕ) → Type 0
AreRowsOfOnce n rows = (i : ℕ) (row : List ℕ) → IsAt rows i row → AreOnce n row

-- row i has the number k
abbrev pub HasNumber : List (List ℕ) → ℕ → ℕ → Type 0
HasNumber rows k i = (row : List ℕ) × IsAt rows i row × (j : ℕ) × IsAt row j k
