-- Numbers that stand in two rows.
use Rattle.std.specs.Prelude.{◌≡◌, ℕ, ◌<◌, List, ◌++◌, length}
use Rattle.nef_space.specs.Lists.{IsAt}
use Rattle.nef_index.specs.declared.skeleton.Edge.{Edge}
use Rattle.nef_index.specs.Numbers.{AreNumbersWith, HasEntry, DoRise}

-- the numbers of each row increase
abbrev pub DoAllRise : List (List ℕ) → Type 0
DoAllRise rows = (i : ℕ) (ns : List ℕ) → IsAt rows i ns → DoRise ns

-- for each end of each edge there is a row
abbrev pub HaveRows : List (List ℕ) → List Edge → Type 0
HaveRows rows es = (k : ℕ) (e : Edge) → IsAt es k e → (e.low < length rows) × (e.high < length rows)

-- the new list is the old list and then numbers with P
abbrev pub HasAdded : (List ℕ → Type 0) → List ℕ → List ℕ → Type 0
HasAdded P old new = (added : List ℕ) × (new ≡ old ++ added) × P added

-- the numbers are the common numbers of both rows, in increasing order
abbrev pub AreCommon : List ℕ → List ℕ → List ℕ → Type 0
AreCommon ms ns common = AreNumbersWith (λ k. HasEntry ms k × HasEntry ns k) common

-- the numbers are the common numbers of the rows of the edge's two ends, in increasing order
abbrev pub AreCommonAlong : List (List ℕ) → Edge → List ℕ → Type 0
AreCommonAlong rows e common = (ms ns : List ℕ) → IsAt rows e.low ms → IsAt rows e.high ns → AreCommon ms ns common

-- for each edge there is a row: the numbers that stand in the rows of both of its ends
pub record AreCommonRows (rows : List (List ℕ)) (es : List Edge) (commons : List (List ℕ)) : Type 0 where
  pub as_many : length commons ≡ length es
  pub each : (k : ℕ) (e : Edge) (common : List ℕ) → IsAt es k e → IsAt commons k common → AreCommonAlong rows e common
