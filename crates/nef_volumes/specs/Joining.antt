-- Numbers of classes that further ties join.
use Rattle.std.specs.Prelude.{◌≡◌, ℕ, ◌<◌, List, length}
use Rattle.nef_space.specs.Lists.{IsAt}
use Rattle.nef_classes.specs.Tables.{IsCellNumber}
use Rattle.nef_classes.specs.declared.forest.Link.{Link}
use Rattle.nef_classes.specs.declared.table.Cell.{Cell}
use Rattle.nef_classes.specs.declared.table.Tie.{Tie}

abbrev pub HasCellNumber : List (List ℕ) → Cell → Type 0
HasCellNumber rows x = (n : ℕ) × IsCellNumber rows x n

-- all numbers of the table are below the count
abbrev pub TableIsBelow : List (List ℕ) → ℕ → Type 0
TableIsBelow rows count = (x : Cell) (n : ℕ) → IsCellNumber rows x n → n < count

-- the elements of the ties have numbers
abbrev pub HaveNumbers : List (List ℕ) → List Tie → Type 0
HaveNumbers rows ts = (k : ℕ) (t : Tie) → IsAt ts k t → HasCellNumber rows t.first × HasCellNumber rows t.second

-- for each tie the link of the numbers of its elements
pub record AreNumberLinks (rows : List (List ℕ)) (ts : List Tie) (ls : List Link) : Type 0 where
  pub as_many : length ls ≡ length ts
  pub each : (k : ℕ) (l : Link) (t : Tie) → IsAt ls k l → IsAt ts k t → IsCellNumber rows t.first l.first × IsCellNumber rows t.second l.second

-- in place of each number the one that stands under it in the list
pub record IsRenumbered (ns new old : List ℕ) : Type 0 where
  pub as_many : length new ≡ length old
  pub each : (k n m : ℕ) → IsAt new k n → IsAt old k m → IsAt ns m n

pub record AreRenumbered (ns : List ℕ) (new old : List (List ℕ)) : Type 0 where
  pub as_many : length new ≡ length old
  pub each : (k : ℕ) (row from : List ℕ) → IsAt new k row → IsAt old k from → IsRenumbered ns row from
