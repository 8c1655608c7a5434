-- The parts and the text of a complex, which its vertices and edges determine, and so the set does.
use Rattle.std.specs.Prelude.{◌≡◌, ◌↔◌}
use Rattle.nef_complex.specs.Prelude.{ℕ, List, SameSet, SpacePoint, InFrame, complex_of, IsParts}
use Rattle.nef_case.specs.Turns.{Undoes}
use Rattle.nef_space.specs.Sets.{Set, Holds}
use Rattle.law_geometry.specs.complex.Prelude.{Belongs, Shows}
use Rattle.nef_complex.specs.declared.complex.Complex.{Complex}
use Rattle.law_geometry.specs.turns.Turned.{turned_set}
use Rattle.nef_core.specs.declared.work.TextVersion.{TextVersion}
use Rattle.nef_complex.specs.declared.parts.Parts.{Parts}
use Rattle.nef_complex.specs.Text.{text, Spells}

-- complexes with the same vertices and edges have the same parts, whatever their carriers
abbrev pub SamePartsOfSame : Type 0
SamePartsOfSame = (c d : Complex) (p : Parts) → c.vertices ≡ d.vertices → c.edges ≡ d.edges → IsParts (complex_of c) p → IsParts (complex_of d) p

-- complexes that show one set have the same parts and the same text in each version
abbrev pub SameSetSameText : Type 0
SameSetSameText = (version : TextVersion) (s t : Set) (c d : Complex) (p q : Parts) → Shows s (complex_of c) → Shows t (complex_of d) → SameSet s t → IsParts (complex_of c) p → IsParts (complex_of d) q → (p ≡ q) × (text version c p ≡ text version d q)

-- a set that is turned by some turn, and then by the turn that undoes the first, has its text again
abbrev pub TurnedBackSameText : Type 0
TurnedBackSameText = (version : TextVersion) (j k : ℕ) (s : Set) (c d : Complex) (p q : Parts) → Undoes j k → Shows s (complex_of c) → Shows (turned_set j (turned_set k s)) (complex_of d) → IsParts (complex_of c) p → IsParts (complex_of d) q → text version c p ≡ text version d q

-- sets whose complexes have one text, in either version, are one set
abbrev pub SameTextSameSet : Type 0
SameTextSameSet = (version : TextVersion) (s t : Set) (c d : Complex) (p q : Parts) → Shows s (complex_of c) → Shows t (complex_of d) → text version c p ≡ text version d q → SameSet s t

-- a point of the frame belongs to the complex that a set's text spells exactly where the set holds
abbrev pub SpelledHolds : Type 0
SpelledHolds = (version : TextVersion) (s : Set) (c d : Complex) (p : Parts) (bytes : List ℕ) (y : SpacePoint) → Shows s (complex_of c) → bytes ≡ text version c p → Spells version bytes d → InFrame y → Belongs (complex_of d) y ↔ Holds s y
