-- The text of a set, and the numbers that are counted of it, by the complexes that show the set.
use Rattle.std.specs.Prelude.{◌≡◌}
use Rattle.nef_complex.specs.Prelude.{ℕ, List, SameSet, Set, complex_of, IsParts}
use Rattle.law_geometry.specs.complex.Shows.{Shows}
use Rattle.nef_complex.specs.declared.complex.Complex.{Complex}
use Rattle.nef_core.specs.declared.work.TextVersion.{TextVersion}
use Rattle.nef_complex.specs.declared.parts.Parts.{Parts}
use Rattle.nef_complex.specs.Text.{line, numbers, counts, text}

-- the line with the numbers of vertices, edges, facets and volumes
abbrev pub count_line : Complex → Parts → List ℕ
count_line c p = line (numbers (counts c p))

-- what is written of a complex that shows s, with its parts: any such complex will do, since the set determines it but
-- for its carriers, which nothing writes
abbrev pub IsWrittenOf : Set → (Complex → Parts → List ℕ) → List ℕ → Type 0
IsWrittenOf s written piece = (c : Complex) × (p : Parts) × Shows s (complex_of c) × IsParts (complex_of c) p × (piece ≡ written c p)

-- the bytes are the text of a complex that shows the set, by some expression for it
abbrev pub IsText : TextVersion → Set → List ℕ → Type 0
IsText version s x = (t : Set) × SameSet s t × IsWrittenOf t (text version) x
