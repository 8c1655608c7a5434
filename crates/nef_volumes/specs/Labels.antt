-- The labels of volumes, as they are found in the order of their numbers.
use Rattle.std.specs.Prelude.{◌≡◌, ◌<◌, ◌≤◌}
use Rattle.nef_complex.specs.Prelude.{ℕ, List, length, Label, Out, IsVolumeOf}
use Rattle.nef_space.specs.Lists.{IsAt, IsInTable}
use Rattle.law_geometry.specs.sphere.Maps.{Map, Side}
use Rattle.nef_smap.specs.Sides.{IsSide}
use Rattle.law_geometry.specs.complex.Prelude.{Complex, VertexSide, HasSideLabel}

-- before each number of the row, those that are smaller, from low on, have appeared in it
abbrev pub HasAppeared : ℕ → List ℕ → Type 0
HasAppeared low row = (s m j : ℕ) → IsAt row s m → low ≤ j → j < m → (t : ℕ) × (t < s) × IsAt row t j

-- the labels xs, and those of the volumes that appear among the first n of the row
pub record AreLabelsTo (M : Map) (row : List ℕ) (xs : List Label) (n : ℕ) (ys : List Label) : Type 0 where
  pub long : length xs ≤ length ys
  pub kept : (k : ℕ) (l : Label) → IsAt xs k l → IsAt ys k l
  pub some : (k : ℕ) (l : Label) → IsAt ys k l → length xs ≤ k → (s : ℕ) × (o : Side) × IsAt row s k × IsSide M s o l
  pub all : (s m : ℕ) → s < n → IsAt row s m → m < length ys

-- the labels of the volumes that appear in the rows before row n
pub record AreLabelsOf (C : Complex) (rows : List (List ℕ)) (n : ℕ) (ys : List Label) : Type 0 where
  pub outside : IsAt ys 0 Out
  pub some : (k : ℕ) (l : Label) → IsAt ys k l → 1 ≤ k → (x : VertexSide) × IsVolumeOf C rows x k × HasSideLabel C x l
  pub all : (i s m : ℕ) → i < n → IsInTable rows i s m → m < length ys

-- each label is that of the sides of its volume, of which there are some, and there is one for each volume
pub record AreVolumeLabels (C : Complex) (rows : List (List ℕ)) (ls : List Label) : Type 0 where
  pub some : (k : ℕ) (l : Label) → IsAt ls k l → (x : VertexSide) × IsVolumeOf C rows x k
  pub labels : (k : ℕ) (l : Label) (x : VertexSide) (m : Label) → IsAt ls k l → IsVolumeOf C rows x k → HasSideLabel C x m → l ≡ m
  pub all : (x : VertexSide) (k : ℕ) → IsVolumeOf C rows x k → k < length ls
