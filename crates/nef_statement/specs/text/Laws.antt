-- What the text of a complex tells of the complex.
use Rattle.std.specs.Prelude.{◌≡◌}
use Rattle.nef_complex.specs.declared.complex.Complex.{Complex}
use Rattle.nef_core.specs.declared.work.TextVersion.{TextVersion}
use Rattle.nef_complex.specs.declared.parts.Parts.{Parts}
use Rattle.nef_complex.specs.Text.{counts, text}

-- complexes with one text, in either version, have the same vertices with equal maps
abbrev pub TextReadsBack : Type 0
TextReadsBack = (version : TextVersion) (c d : Complex) (p q : Parts) → text version c p ≡ text version d q → c.vertices ≡ d.vertices

-- complexes with one text, in either version, have as many vertices, edges, facets and volumes
abbrev pub CountsRead : Type 0
CountsRead = (version : TextVersion) (c d : Complex) (p q : Parts) → text version c p ≡ text version d q → counts c p ≡ counts d q
