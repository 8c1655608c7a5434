-- What is unique: least maps, the vertices of a set, and the set with given vertices.
use Rattle.std.specs.Prelude.{◌≡◌, ◌↔◌}
use Rattle.nef_complex.specs.Prelude.{SameSet, Set, Vector, IsDirection, Label, ShowsSet}
use Rattle.nef_smap.specs.Prelude.{MapLabel, map_of, IsLeastMap}
use Rattle.nef_smap.specs.declared.map.SphereMap.{SphereMap}
use Rattle.law_geometry.specs.complex.Prelude.{Complex as PlainComplex, Shows}
use Rattle.nef_complex.specs.declared.complex.Complex.{Complex}

-- the maps have one label in each direction
abbrev pub HaveSameLabels : SphereMap → SphereMap → Type 0
HaveSameLabels m n = (d : Vector) (l : Label) → IsDirection d → MapLabel (map_of m) d l ↔ MapLabel (map_of n) d l

-- two least maps with one mark and one label in each direction are equal
abbrev pub LeastSphereMapUnique : Type 0
LeastSphereMapUnique = (m n : SphereMap) → IsLeastMap m → IsLeastMap n → m.mark ≡ n.mark → HaveSameLabels m n → m ≡ n

-- complexes that show one set have the same vertices, with equal maps, and the same edges
abbrev pub SameSetSameVertices : Type 0
SameSetSameVertices = (s t : Set) (a b : Complex) → ShowsSet s a → ShowsSet t b → SameSet s t → (a.vertices ≡ b.vertices) × (a.edges ≡ b.edges)

-- sets that are shown by complexes with the same vertices, with equal maps, are one set
abbrev pub SameVerticesSameSet : Type 0
SameVerticesSameSet = (s t : Set) (C D : PlainComplex) → Shows s C → Shows t D → C.vertices ≡ D.vertices → SameSet s t
