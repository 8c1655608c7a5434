-- What the complexes of turned sets show.
use Rattle.nef_complex.specs.Prelude.{ℕ, Set, ShowsSet}
use Rattle.nef_case.specs.Turns.{Undoes, IsComposition}
use Rattle.nef_complex.specs.declared.complex.Complex.{Complex}
use Rattle.law_geometry.specs.turns.Turned.{turned_set}

-- for each set that c shows, d shows the set turned by turn k
abbrev pub ShowsTurnedSets : ℕ → Complex → Complex → Type 0
ShowsTurnedSets k c d = (s : Set) → ShowsSet s c → ShowsSet (turned_set k s) d

-- a complex that is turned, and then turned back, shows the sets that it showed before
abbrev pub BackShowsSame : Type 0
BackShowsSame = (j k : ℕ) (c d e : Complex) → Undoes j k → ShowsTurnedSets k c d → ShowsTurnedSets j d e → (s : Set) → ShowsSet s c → ShowsSet s e

-- a complex that is turned twice shows what it shows after the one turn that is the composition
abbrev pub TwiceShowsComposed : Type 0
TwiceShowsComposed = (i j k : ℕ) (c d e : Complex) → IsComposition i j k → ShowsTurnedSets k c d → ShowsTurnedSets j d e → ShowsTurnedSets i c e
