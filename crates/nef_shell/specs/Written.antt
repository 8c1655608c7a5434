-- What is written of sets tells which sets are one, and which points belong to them.
use Rattle.std.specs.Prelude.{◌≡◌, ◌↔◌}
use Rattle.nef_space.specs.Prelude.{ℕ, List, SameSet, SpacePoint, InFrame, Set, Holds}
use Rattle.law_geometry.specs.complex.Belongs.{Belongs}
use Rattle.nef_complex.specs.declared.complex.Complex.{Complex}
use Rattle.nef_complex.specs.Complexes.{complex_of}
use Rattle.nef_core.specs.declared.work.TextVersion.{TextVersion}
use Rattle.nef_complex.specs.Text.{text, Spells}
use Rattle.nef_shell.specs.Output.{printed}
use Rattle.nef_statement.specs.Texts.{IsWrittenOf, count_line}
use Rattle.nef_statement.specs.Written.{CountTells}

-- the texts of two sets, in one version, are equal exactly where the sets are the same
abbrev pub TextsTellSets : Type 0
TextsTellSets = (version : TextVersion) (s t : Set) (x y : List ℕ) → IsWrittenOf s (text version) x → IsWrittenOf t (text version) y → (x ≡ y) ↔ SameSet s t

-- a command has one piece: what it prints and what it counts are determined by the set
abbrev pub PiecesAreOne : Type 0
PiecesAreOne = (version : TextVersion) (s t : Set) (name x y : List ℕ) → SameSet s t → (IsWrittenOf s (printed version name) x → IsWrittenOf t (printed version name) y → x ≡ y) × (IsWrittenOf s count_line x → IsWrittenOf t count_line y → x ≡ y)

-- the text spells some complex, and a point of the frame belongs to each complex that it spells exactly where the set holds
pub record TextTells (version : TextVersion) (s : Set) (x : List ℕ) : Type 0 where
  pub spelled : (d : Complex) × Spells version x d
  pub holds : (d : Complex) (y : SpacePoint) → Spells version x d → InFrame y → Belongs (complex_of d) y ↔ Holds s y

-- so does the text of each set
abbrev pub TextHolds : Type 0
TextHolds = (version : TextVersion) (s : Set) (x : List ℕ) → IsWrittenOf s (text version) x → TextTells version s x

-- so it is of what is counted of each set
abbrev pub CountsComponents : Type 0
CountsComponents = (s : Set) (x : List ℕ) → IsWrittenOf s count_line x → CountTells s x
