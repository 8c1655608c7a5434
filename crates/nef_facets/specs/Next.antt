-- The next corner of each corner, by numbers.
use Rattle.std.specs.Prelude.{◌≡◌, ◌<◌}
use Rattle.nef_complex.specs.Prelude.{ℕ, List, length, IsAt, Vector, SameDirection, corner_of}
use Rattle.law_geometry.specs.sphere.Maps.{Arc, Map}
use Rattle.law_geometry.specs.complex.Complexes.{Vertex, Complex, Corner as PlainCorner}
use Rattle.nef_complex.specs.declared.complex.Corner.{Corner}
use Rattle.nef_complex.specs.Cycles.{NextCorner}

-- arc k of the map has the normal n and ends at svertex b
abbrev pub IsArcInto : Map → ℕ → Vector → ℕ → Type 0
IsArcInto M b n k = (a : Arc) × IsAt M.arcs k a × (a.target ≡ b) × SameDirection n a.normal

-- the corner is an arc that begins at svertex a of vertex i
abbrev pub LeavesFrom : Complex → PlainCorner → ℕ → ℕ → Type 0
LeavesFrom C k i a = (v : Vertex) × (r : Arc) × IsAt C.vertices k.vertex v × IsAt v.map.arcs k.item r × (k.vertex ≡ i) × (r.source ≡ a)

-- ns has for corner i the number of its next corner
abbrev pub HasNext : Complex → List Corner → List ℕ → ℕ → Type 0
HasNext C ks ns i = (j : ℕ) × (x : Corner) × (y : Corner) × IsAt ks i x × IsAt ns i j × IsAt ks j y × NextCorner C (corner_of x) (corner_of y)

-- ns has the next corners of the arcs that begin at svertex a of vertex i
abbrev pub HaveNextFrom : Complex → List Corner → ℕ → ℕ → List ℕ → Type 0
HaveNextFrom C ks i a ns = (m : ℕ) (k : Corner) → IsAt ks m k → LeavesFrom C (corner_of k) i a → HasNext C ks ns m

-- each corner that has its next corner in the old list has its next corner in the new list
abbrev pub KeepsNext : Complex → List Corner → List ℕ → List ℕ → Type 0
KeepsNext C ks old new = (m : ℕ) → HasNext C ks old m → HasNext C ks new m

pub record AreNext (C : Complex) (ks : List Corner) (ns : List ℕ) : Type 0 where
  pub as_many : length ns ≡ length ks
  pub each : (i : ℕ) → i < length ks → HasNext C ks ns i
