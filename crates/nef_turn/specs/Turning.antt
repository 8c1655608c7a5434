-- What the steps of turning give: turned carriers, svertices, arcs and vertices.
use Rattle.std.specs.Prelude.{◌≡◌, ◌<◌, ℕ, List, length, slice_index_or, Bool}
use Rattle.nef_complex.specs.Prelude.{SamePoint, IsPointBelow, IsNormal, form_of, point_of, vector_of, Plane, IsAt}
use Rattle.law_geometry.specs.sphere.Vectors.{VectorBelow}
use Rattle.nef_spair.specs.Prelude.{InOrder, Ordered, svertex_of, arc_of, map_of, IsLeastMap, IsArcBelow}
use Rattle.nef_smap.specs.declared.map.SVertex.{SVertex}
use Rattle.nef_smap.specs.declared.map.SArc.{SArc}
use Rattle.nef_complex.specs.declared.complex.Vertex.{Vertex}
use Rattle.law_geometry.specs.turns.Turned.{turned_plane, turned_point}
use Rattle.law_geometry.specs.turns.Complexes.{signed_form}
use Rattle.law_geometry.specs.turns.Maps.{turned_svertex, IsTurnedArc, IsTurnedMap}
use Rattle.nef_turn.specs.declared.maps.Moved.{Moved}

-- ---- carriers
abbrev pub IsTurnedCarrier : ℕ → ℕ → Plane → Plane → Type 0
IsTurnedCarrier k j g h = (flip : Bool) × (form_of h ≡ signed_form flip (turned_plane k (form_of g)))

-- ---- svertices
-- u is the svertex v, which has the old number j, turned by turn k
abbrev pub IsMoved : ℕ → ℕ → SVertex → Moved → Type 0
IsMoved k j v u = (u.old ≡ j) × (svertex_of u.svertex ≡ turned_svertex k (svertex_of v))

abbrev pub IsMovedBelow : Moved → Moved → Type 0
IsMovedBelow u w = VectorBelow (vector_of u.svertex.dir) (vector_of w.svertex.dir)

abbrev pub HaveSameWay : Moved → Moved → Type 0
HaveSameWay u w = u.svertex.dir ≡ w.svertex.dir

abbrev pub HaveSameNumber : Moved → Moved → Type 0
HaveSameNumber u w = u.old ≡ w.old

-- us has the turned svertices of vs, in order of their directions
pub record AreMoved (k : ℕ) (vs : List SVertex) (us : List Moved) : Type 0 where
  pub count : length us ≡ length vs
  pub each : (j : ℕ) (u : Moved) → IsAt us j u → (v : SVertex) × IsAt vs u.old v × (svertex_of u.svertex ≡ turned_svertex k (svertex_of v))
  pub all : (i : ℕ) (v : SVertex) → IsAt vs i v → (j : ℕ) × (u : Moved) × IsAt us j u × (u.old ≡ i)
  pub apart : (i j : ℕ) (u w : Moved) → IsAt us i u → IsAt us j w → HaveSameNumber u w → i ≡ j
  pub ordered : InOrder IsMovedBelow us

abbrev pub AreOldNumbers : List Moved → Type 0
AreOldNumbers us = (j : ℕ) (u : Moved) → IsAt us j u → u.old < length us

-- ns has at the old number of each of the first n svertices its new number
abbrev pub AreNewNumbers : ℕ → List Moved → List ℕ → Type 0
AreNewNumbers n us ns = (j : ℕ) (u : Moved) → j < n → IsAt us j u → IsAt ns u.old j

abbrev pub svertex_in : Moved → SVertex
svertex_in u = u.svertex

abbrev pub IsOfMoved : ℕ → Moved → SVertex → Type 0
IsOfMoved j u v = v ≡ svertex_in u

-- number i of the list
abbrev pub number_in : List ℕ → ℕ → ℕ
number_in ns i = slice_index_or ns i 0

-- ns has the new numbers of the turned svertices of vs in some list
pub record Renumbers (k : ℕ) (vs : List SVertex) (ns : List ℕ) : Type 0 where
  pub count : length ns ≡ length vs
  pub svertices : List SVertex
  pub placed : (i : ℕ) (v : SVertex) → IsAt vs i v → (u : SVertex) × IsAt svertices (number_in ns i) u × (svertex_of u ≡ turned_svertex k (svertex_of v))

-- ---- arcs
abbrev pub EndsBelow : ℕ → SArc → Type 0
EndsBelow n a = (a.source < n) × (a.target < n)

abbrev pub AllEndBelow : ℕ → List SArc → Type 0
AllEndBelow n arcs = (i : ℕ) (a : SArc) → IsAt arcs i a → EndsBelow n a

abbrev pub IsSArcImage : ℕ → List ℕ → ℕ → SArc → SArc → Type 0
IsSArcImage k ns j a b = (flip : Bool) × IsTurnedArc k (number_in ns) flip (arc_of a) (arc_of b) × IsNormal (vector_of b.normal)

-- the images are the turned arcs, in order
pub record AreTurnedArcs (k : ℕ) (ns : List ℕ) (arcs images : List SArc) : Type 0 where
  pub each : (j : ℕ) (b : SArc) → IsAt images j b → (i : ℕ) × (a : SArc) × IsAt arcs i a × IsSArcImage k ns 0 a b
  pub all : (i : ℕ) (a : SArc) → IsAt arcs i a → (j : ℕ) × (b : SArc) × IsAt images j b × IsSArcImage k ns 0 a b
  pub ordered : InOrder IsArcBelow images

-- ---- vertices
abbrev pub IsVertexImage : ℕ → ℕ → Vertex → Vertex → Type 0
IsVertexImage k j u v = SamePoint (point_of v.point) (turned_point k (point_of u.point)) × IsTurnedMap k (map_of u.map) (map_of v.map) × Ordered (map_of v.map)

abbrev pub IsVertexBelow : Vertex → Vertex → Type 0
IsVertexBelow u v = IsPointBelow (point_of u.point) (point_of v.point)

abbrev pub AreAtOnePoint : Vertex → Vertex → Type 0
AreAtOnePoint u v = SamePoint (point_of u.point) (point_of v.point)

abbrev pub HaveLeastMaps : List Vertex → Type 0
HaveLeastMaps vs = (j : ℕ) (v : Vertex) → IsAt vs j v → IsLeastMap v.map
