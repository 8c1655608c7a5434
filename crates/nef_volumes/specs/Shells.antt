-- The table of the numbers of shells, and the sides of each shell.
use Rattle.std.specs.Prelude.{◌≡◌, ℕ, suc, ◌+◌, ◌<◌, ◌≤◌, List, [], ◌∷◌, ◌++◌, length, slice_set as set, ◌⊎◌}
use Rattle.nef_space.specs.Lists.{IsAt, IsInTable}
use Rattle.law_geometry.specs.complex.Complexes.{Complex}
use Rattle.nef_classes.specs.Tables.{HasCounts, AreNumbers}
use Rattle.nef_classes.specs.declared.table.Tie.{Tie}
use Rattle.nef_complex.specs.Shells.{ShellLink, IsNameBelow}
use Rattle.nef_complex.specs.declared.parts.Shell.{Shell}
use Rattle.nef_complex.specs.declared.parts.Side.{Side}
use Rattle.nef_volumes.specs.Held.{AreRowsByNumber}
use Rattle.nef_volumes.specs.Ties.{row_counts, AreTiesOf}

-- the table has the numbers of the classes of the links of shells; the row of the outside, which no link joins, comes first
pub record AreShellRows (C : Complex) (rows : List (List ℕ)) : Type 0 where
  pub ties : List Tie
  pub of_links : AreTiesOf C (ShellLink C) ties
  pub counts : HasCounts (row_counts C) rows
  pub numbers : AreNumbers ties rows

-- the side is of the shell with this number, counted from 0: the outside has the first number of the table
abbrev pub IsShellOf : List (List ℕ) → Side → ℕ → Type 0
IsShellOf rows s m = IsInTable rows (s.vertex + 1) s.side (suc m)

-- after the first row no number is 0, and below each number of a side, the smaller ones have appeared
pub record AreNumberedNames (rows : List (List ℕ)) : Type 0 where
  pub positive : (i k n : ℕ) → IsInTable rows (i + 1) k n → 1 ≤ n
  pub by_appearance : (s : Side) (m n : ℕ) → IsShellOf rows s n → m < n → (t : Side) × IsNameBelow t s × IsShellOf rows t m

-- the side is of an earlier vertex than i, or is one of its first k sides
abbrev pub IsNamedBefore : ℕ → ℕ → Side → Type 0
IsNamedBefore i k s = (s.vertex < i) ⊎ ((s.vertex ≡ i) × (s.side < k))

-- the lists hold the sides before side k of vertex i, each in order those of the shell with its number, and none is empty
pub record AreGathered (rows : List (List ℕ)) (i k : ℕ) (hs : List (List Side)) : Type 0 where
  pub held : AreRowsByNumber (IsShellOf rows) (IsNamedBefore i k) IsNameBelow hs
  pub some : (m : ℕ) (h : List Side) → IsAt hs m h → (s : Side) × IsAt h 0 s

-- the first side of the list is of the volume with this number
abbrev pub IsOfVolume : List (List ℕ) → Shell → ℕ → Type 0
IsOfVolume volume_of h m = (s : Side) × IsAt h.sides 0 s × IsInTable volume_of s.vertex s.side m

abbrev pub IsOneOf : List (List Side) → Shell → Type 0
IsOneOf hs h = (k : ℕ) × IsAt hs k h.sides

-- the one stands before the other in the list
abbrev pub StandsBefore : List (List Side) → Shell → Shell → Type 0
StandsBefore hs g h = (k : ℕ) × (l : ℕ) × (k < l) × IsAt hs k g.sides × IsAt hs l h.sides

-- each row has the shells of the volume with its number, in the order of the list
abbrev pub AreShellsOf : List (List ℕ) → List (List Side) → List (List Shell) → Type 0
AreShellsOf volume_of hs rows = AreRowsByNumber (IsOfVolume volume_of) (IsOneOf hs) (StandsBefore hs) rows

-- each list has a first side, which has a number below the count
abbrev pub HaveVolumes : List (List ℕ) → ℕ → List (List Side) → Type 0
HaveVolumes volume_of count hs = (k : ℕ) (h : List Side) → IsAt hs k h → (s : Side) × (n : ℕ) × IsAt h 0 s × IsInTable volume_of s.vertex s.side n × (n < count)

-- x is put at the end of row n, which may be a new one after all others
pub record IsPut {X : Type 0} (n : ℕ) (x : X) (old new : List (List X)) : Type 0 where
  pub rows : List (List X)
  pub opened : ((rows ≡ old) × (n < length old)) ⊎ ((rows ≡ old ++ [] ∷ []) × (n ≡ length old))
  pub row : List X
  pub is_row : IsAt rows n row
  pub longer : new ≡ set rows n (row ++ x ∷ [])
