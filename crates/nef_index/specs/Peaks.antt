-- Peaks: the greatest upper ends of the edges of a row, in blocks.
use Rattle.std.specs.Prelude.{ℕ, ◌+◌, ◌-◌, ◌*◌, ◌<◌, ◌≤◌, List, bit_and}
use Rattle.nef_space.specs.Lists.{IsAt}
use Rattle.nef_index.specs.declared.skeleton.Edge.{Edge}

-- the edges of the row with these numbers, from `first` to before `past`, have upper ends below n
abbrev pub EndBelow : List Edge → List ℕ → ℕ → ℕ → ℕ → Type 0
EndBelow es ns first past n = (j k : ℕ) (e : Edge) → first ≤ j → j < past → IsAt ns j k → IsAt es k e → e.high < n

-- the first of the blocks that peak n tells of, where peaks are counted from 1: n without its lowest bit
abbrev pub block_start : ℕ → ℕ
block_start n = bit_and n (n - 1)

-- the peaks of a row, whose blocks have eight edges: no edge of the blocks that peak i tells of ends above that peak
abbrev pub ArePeaks : List Edge → List ℕ → List ℕ → Type 0
ArePeaks es ns ps = (i p : ℕ) → IsAt ps i p → EndBelow es ns (8 * block_start (i + 1)) (8 * (i + 1)) (p + 1)

-- the table has for each row of edges the peaks of this row
abbrev pub HavePeaks : List Edge → List (List ℕ) → List (List ℕ) → Type 0
HavePeaks es rows table = (i : ℕ) (ns ps : List ℕ) → IsAt rows i ns → IsAt table i ps → ArePeaks es ns ps
