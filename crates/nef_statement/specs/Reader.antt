-- What a reader makes of a text: its rows of words, the vertices that they tell, and the points that belong to these.
use Rattle.std.specs.Prelude.{◌≡◌, ◌+◌, ◌-◌, ◌<◌, ◌<ℤ◌, ◌∷◌, ◌++◌, if◌then◌else◌, ◌↔◌, ℕ, suc, ℤ, pos, nat_abs, List, [], Option, Some, None, codes, get_or, slice_get, map}
use Rattle.nef_script.specs.Prelude.{bytes_eq, lines_of, words_of, number_or_zero}
use Rattle.std.proofs.Common.{arith}
use Rattle.nef_space.specs.Prelude.{SpacePoint, InFrame, Set, Holds, Vector, vector, IsAt}
use Rattle.nef_complex.specs.Prelude.{Label, Out, Not, In}
use Rattle.law_geometry.specs.sphere.Maps.{MapVertex, Arc, MapSloop}
use Rattle.law_geometry.specs.complex.Belongs.{Belongs}
use Rattle.law_geometry.specs.complex.Complexes.{Vertex, Edge, Complex, IsEdge}
use Rattle.nef_core.specs.declared.work.TextVersion.{TextVersion}
use Rattle.nef_complex.specs.Text.{version_word}
use Rattle.nef_statement.specs.Written.{CountTells}

-- the words of each line, as in a script
abbrev pub line_rows : List ℕ → List (List (List ℕ))
line_rows x = map words_of (lines_of x)

-- word n of a row, counted from 0: as it stands, as a number, a count, a label, or a label that may be missing
abbrev pub word_at : List (List ℕ) → ℕ → List ℕ
word_at row n = get_or row n []

abbrev pub number_at : List (List ℕ) → ℕ → ℤ
number_at row n = number_or_zero (word_at row n)

abbrev pub count_at : List (List ℕ) → ℕ → ℕ
count_at row n = nat_abs (number_at row n)

abbrev pub label_at : List (List ℕ) → ℕ → Label
label_at row n = if bytes_eq (word_at row n) (codes "i") then In else (if bytes_eq (word_at row n) (codes "n") then Not else Out)

abbrev pub option_at : List (List ℕ) → ℕ → Option Label
option_at row n = if bytes_eq (word_at row n) (codes "-") then None else Some (label_at row n)

-- three words as a direction; four words as a point (x/w, y/w, z/w), whose w is positive in each text (`weights` below)
abbrev pub vector_at : List (List ℕ) → ℕ → Vector
vector_at row n = vector (number_at row n) (number_at row (n + 1)) (number_at row (n + 2))

pub positive : (n : ℕ) → 0 < suc n
positive n = omega arith

abbrev pub point_in : List (List ℕ) → ℕ → SpacePoint
point_in row n = record { x = number_at row n; y = number_at row (n + 1); z = number_at row (n + 2); w = suc (count_at row (n + 3) - 1); proper = positive (count_at row (n + 3) - 1) }

-- what rows tell: vertices, and the svertices, arcs and sloop of a vertex whose row comes before them
pub record Told : Type 0 where
  pub svertices : List MapVertex
  pub arcs : List Arc
  pub sloop : Option MapSloop
  pub vertices : List Vertex

-- the vertex of a row, with what the rows after it tell of its map
abbrev pub vertex_told : List (List ℕ) → Told → Vertex
vertex_told row t = let ground : Option Label = option_at row 6 in record { point = point_in row 1; map = record { mark = label_at row 5; svertices = t.svertices; arcs = t.arcs; sloop = t.sloop; ground = ground } }

-- what rows tell with one more row in front: by its first word a vertex, a svertex, an arc or a sloop, or nothing
abbrev pub with_row : List (List ℕ) → Told → Told
with_row row t = if bytes_eq (word_at row 0) (codes "v") then record { svertices = []; arcs = []; sloop = None; vertices = vertex_told row t ∷ t.vertices }
    else (if bytes_eq (word_at row 0) (codes "s") then record t { svertices = record { dir = vector_at row 1; mark = label_at row 4; around = option_at row 5 } ∷ t.svertices }
    else (if bytes_eq (word_at row 0) (codes "a") then record t { arcs = record { normal = vector_at row 3; source = count_at row 1; target = count_at row 2; pos = label_at row 7; mark = label_at row 6; neg = label_at row 8 } ∷ t.arcs }
    else (if bytes_eq (word_at row 0) (codes "l") then record t { sloop = Some (record { normal = vector_at row 1; pos = label_at row 5; mark = label_at row 4; neg = label_at row 6 }) } else t)))

abbrev pub told_by : List (List (List ℕ)) → Told
told_by [] = record { svertices = []; arcs = []; sloop = None; vertices = [] }
told_by (row ∷ rows) = with_row row (told_by rows)

abbrev pub vertices_told : List ℕ → List Vertex
vertices_told x = (told_by (line_rows x)).vertices

abbrev pub with_edges : List Vertex → List Edge → Complex
with_edges vertices edges = record { carriers = []; vertices = vertices; edges = edges }

-- es has exactly the edges of the vertices
abbrev pub AreAllEdges : List Vertex → List Edge → Type 0
AreAllEdges vertices es = (e : Edge) → IsEdge vertices e ↔ ((k : ℕ) × IsAt es k e)

-- the text begins with its format, its version and the counted numbers of the set; its vertices have positive w, and a
-- point of the frame belongs to them with their edges exactly where the set holds
pub record TextSays (version : TextVersion) (s : Set) (x : List ℕ) : Type 0 where
  pub first : (counted : List ℕ) × (rest : List ℕ) × CountTells s counted × (x ≡ codes "nef3 " ++ version_word version ++ codes " " ++ counted ++ rest)
  pub weights : (n : ℕ) (row : List (List ℕ)) → slice_get (line_rows x) n ≡ Some row → word_at row 0 ≡ codes "v" → pos 0 <ℤ number_at row 4
  pub edges : (es : List Edge) × AreAllEdges (vertices_told x) es
  pub holds : (es : List Edge) (p : SpacePoint) → AreAllEdges (vertices_told x) es → InFrame p → Belongs (with_edges (vertices_told x) es) p ↔ Holds s p
