-- Tables laid out as single rows.
use Rattle.std.specs.Prelude.{◌≡◌, ℕ, ◌+◌, List, length, take, map}
use Rattle.nef_space.specs.Lists.{IsAt, IsInTable}
use Rattle.nef_classes.specs.declared.forest.Link.{Link}
use Rattle.nef_classes.specs.declared.table.Tie.{Tie}
use Rattle.nef_classes.specs.Tables.{cell_total, cell_number}

-- ss has the beginnings of the rows, laid out one after the other, and the end of the last row
pub record AreStarts (counts ss : List ℕ) : Type 0 where
  pub as_many : length ss ≡ length counts + 1
  pub each : (k s : ℕ) → IsAt ss k s → s ≡ cell_total (take k counts)

-- the tie as a link between the numbers of its elements in the single row
abbrev pub flat_tie : List ℕ → Tie → Link
flat_tie counts t = record { first = cell_number counts t.first; second = cell_number counts t.second }

abbrev pub AreFlat : List ℕ → List Tie → List Link → Type 0
AreFlat counts ts ls = ls ≡ map (flat_tie counts) ts

-- each number of the table is the one in the single row
abbrev pub AreCut : List ℕ → List ℕ → List (List ℕ) → Type 0
AreCut counts ns rows = (i k n : ℕ) → IsInTable rows i k n → IsAt ns (cell_total (take i counts) + k) n
