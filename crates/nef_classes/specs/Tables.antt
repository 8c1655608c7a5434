-- Elements of tables, ties between elements, and the numbers of their classes.
use Rattle.std.specs.Prelude.{◌≡◌, ◌<◌, ◌+◌, ◌∷◌, ℕ, pos, List, [], length, take}
use Rattle.nef_space.specs.Prelude.{IsAt, NumbersClasses, IsInTable, IsBelow}
use Rattle.nef_classes.specs.declared.table.Cell.{Cell}
use Rattle.nef_classes.specs.declared.table.Tie.{Tie}

-- the element belongs to a table whose rows have these counts
pub record IsCellIn (counts : List ℕ) (x : Cell) : Type 0 where
  pub count : ℕ
  pub is_row : IsAt counts x.row count
  pub within : x.column < count

-- how many elements the rows have together
abbrev pub cell_total : List ℕ → ℕ
cell_total [] = 0
cell_total (c ∷ cs) = c + cell_total cs

-- the number of an element when all rows stand one after the other
abbrev pub cell_number : List ℕ → Cell → ℕ
cell_number counts x = cell_total (take x.row counts) + x.column

abbrev pub AreTiedWithin : List ℕ → List Tie → Type 0
AreTiedWithin counts ts = (k : ℕ) (t : Tie) → IsAt ts k t → IsCellIn counts t.first × IsCellIn counts t.second

-- some tie of the list leads from x to y
abbrev pub AreTied : List Tie → Cell → Cell → Type 0
AreTied ts x y = (k : ℕ) × (t : Tie) × IsAt ts k t × (t.first ≡ x) × (t.second ≡ y)

-- the order of elements by their rows and then by their numbers in the rows
abbrev pub IsCellBelow : Cell → Cell → Type 0
IsCellBelow x y = IsBelow (pos x.row ∷ pos x.column ∷ []) (pos y.row ∷ pos y.column ∷ [])

-- the table has a row for each count, and as many numbers in the row
pub record HasCounts (counts : List ℕ) (rows : List (List ℕ)) : Type 0 where
  pub as_many : length rows ≡ length counts
  pub row : (i n : ℕ) (ns : List ℕ) → IsAt counts i n → IsAt rows i ns → length ns ≡ n

-- in the table the element has this number
abbrev pub IsCellNumber : List (List ℕ) → Cell → ℕ → Type 0
IsCellNumber rows x n = IsInTable rows x.row x.column n

-- the table has the numbers of the classes that ties join, by first appearance
abbrev pub AreNumbers : List Tie → List (List ℕ) → Type 0
AreNumbers ts rows = NumbersClasses (AreTied ts) IsCellBelow 0 (IsCellNumber rows)
