-- The text of a complex with its parts, in both versions.
use Rattle.std.specs.Prelude.{◌≡◌, ℕ, ℤ, List, [], ◌∷◌, ◌++◌, length, Option, option_to_list, codes, map, flat_map}
use Rattle.std.specs.List.{join_with_byte}
use Rattle.std.specs.Option.{option_map_or}
use Rattle.std.specs.Fmt.{decimal, signed_decimal}
use Rattle.nef_space.specs.declared.label.Label.{Label}
use Rattle.nef_space.specs.declared.label.Label.TheVariants.{Out, Not, In}
use Rattle.nef_geo.specs.declared.dir.Dir.{Dir}
use Rattle.nef_geo.specs.declared.plane.Plane.{Plane}
use Rattle.nef_geo.specs.declared.point.Point.{Point}
use Rattle.nef_smap.specs.declared.map.SVertex.{SVertex}
use Rattle.nef_smap.specs.declared.map.SArc.{SArc}
use Rattle.nef_smap.specs.declared.map.SLoop.{SLoop}
use Rattle.nef_complex.specs.declared.complex.Vertex.{Vertex}
use Rattle.nef_index.specs.declared.skeleton.Edge.{Edge}
use Rattle.nef_complex.specs.declared.complex.Corner.{Corner}
use Rattle.nef_complex.specs.declared.complex.Complex.{Complex}
use Rattle.nef_complex.specs.Complexes.{vertex_of, edge_of, complex_of}
use Rattle.law_geometry.specs.complex.Complexes.{Edges}
use Rattle.nef_complex.specs.declared.parts.Cycle.{Cycle}
use Rattle.nef_complex.specs.declared.parts.Facet.{Facet}
use Rattle.nef_core.specs.declared.work.TextVersion.{TextVersion}
use Rattle.nef_core.specs.declared.work.TextVersion.TheVariants.{One, Two}
use Rattle.nef_complex.specs.declared.parts.Parts.{Parts}
use Rattle.nef_complex.specs.declared.parts.Shell.{Shell}
use Rattle.nef_complex.specs.declared.parts.Side.{Side}
use Rattle.nef_complex.specs.Numbers.{IsParts}

abbrev pub Word : Type 0
Word = List ℕ

-- a line: the words with one blank between them, and a line feed
abbrev pub line : List Word → List ℕ
line ws = join_with_byte 32 ws ++ 10 ∷ []

abbrev pub label_word : Label → Word
label_word In = codes "i"
label_word Not = codes "n"
label_word Out = codes "o"

-- the word of a label, or a dash without a label
abbrev pub option_word : Option Label → Word
option_word l = option_map_or label_word l (codes "-")

abbrev pub numbers : List ℕ → List Word
numbers = map decimal

abbrev pub signed_numbers : List ℤ → List Word
signed_numbers = map signed_decimal

abbrev pub dir_words : Dir → List Word
dir_words d = signed_numbers (d.x ∷ d.y ∷ d.z ∷ [])

abbrev pub point_words : Point → List Word
point_words p = signed_numbers (p.x ∷ p.y ∷ p.z ∷ p.w ∷ [])

abbrev pub plane_words : Plane → List Word
plane_words h = signed_numbers (h.a ∷ h.b ∷ h.c ∷ h.d ∷ [])

abbrev pub svertex_line : SVertex → List ℕ
svertex_line v = line (codes "s" ∷ [] ++ dir_words v.dir ++ label_word v.mark ∷ option_word v.around ∷ [])

abbrev pub arc_line : SArc → List ℕ
arc_line a = line (codes "a" ∷ [] ++ numbers (a.source ∷ a.target ∷ []) ++ dir_words a.normal ++ label_word a.mark ∷ label_word a.pos ∷ label_word a.neg ∷ [])

abbrev pub sloop_line : SLoop → List ℕ
sloop_line l = line (codes "l" ∷ [] ++ dir_words l.normal ++ label_word l.mark ∷ label_word l.pos ∷ label_word l.neg ∷ [])

abbrev pub vertex_line : Vertex → List ℕ
vertex_line v = line (codes "v" ∷ [] ++ point_words v.point ++ label_word v.map.mark ∷ option_word v.map.ground ∷ [])

-- the lines of a vertex, its svertices, its arcs and its sloop
abbrev pub vertex_text : Vertex → List ℕ
vertex_text v = vertex_line v ++ flat_map svertex_line v.map.svertices ++ flat_map arc_line v.map.arcs ++ flat_map sloop_line (option_to_list v.map.sloop)

abbrev pub edge_line : Edge → List ℕ
edge_line e = line (codes "e" ∷ [] ++ numbers (e.low ∷ e.low_svertex ∷ e.high ∷ e.high_svertex ∷ []) ++ label_word e.mark ∷ [])

abbrev pub corner_words : Corner → List Word
corner_words k = numbers (k.vertex ∷ k.item ∷ [])

abbrev pub cycle_line : Cycle → List ℕ
cycle_line x = line (codes "c" ∷ [] ++ flat_map corner_words x.corners)

abbrev pub facet_line : Facet → List ℕ
facet_line f = line (codes "f" ∷ [] ++ plane_words f.plane ++ label_word f.mark ∷ [] ++ numbers (f.pos ∷ f.neg ∷ []))

abbrev pub facet_text : Facet → List ℕ
facet_text f = facet_line f ++ flat_map cycle_line f.cycles

abbrev pub volume_line : Label → List ℕ
volume_line l = line (codes "w" ∷ label_word l ∷ [])

-- the line of the sface numbers of a vertex's sides
abbrev pub sface_line : List ℕ → List ℕ
sface_line ns = line (codes "g" ∷ [] ++ numbers ns)

abbrev pub side_words : Side → List Word
side_words s = numbers (s.vertex ∷ s.side ∷ [])

abbrev pub shell_line : Shell → List ℕ
shell_line h = line (codes "h" ∷ [] ++ flat_map side_words h.sides)

-- the lines of a vertex with its sface numbers; the lines of a volume with its shells
abbrev pub faced_text : Vertex × List ℕ → List ℕ
faced_text x = vertex_text x.0 ++ sface_line x.1

abbrev pub shelled_text : Label × List Shell → List ℕ
shelled_text x = volume_line x.0 ++ flat_map shell_line x.1

-- each element with its row, or with an empty row where there is none
abbrev pub with_rows : {X Y : Type 0} → List X → List (List Y) → List (X × List Y)
with_rows [] rows = []
with_rows (x ∷ xs) [] = (x, []) ∷ with_rows xs []
with_rows (x ∷ xs) (row ∷ rows) = (x, row) ∷ with_rows xs rows

-- the numbers of vertices, edges, facets and volumes
abbrev pub counts : Complex → Parts → List ℕ
counts c p = length c.vertices ∷ length c.edges ∷ length p.facets ∷ length p.volumes ∷ []

abbrev pub version_word : TextVersion → Word
version_word One = codes "1"
version_word Two = codes "2"

abbrev pub first_line : TextVersion → Complex → Parts → List ℕ
first_line version c p = line (codes "nef3" ∷ version_word version ∷ [] ++ numbers (counts c p))

abbrev pub vertices_text : TextVersion → Complex → Parts → List ℕ
vertices_text One c p = flat_map vertex_text c.vertices
vertices_text Two c p = flat_map faced_text (with_rows c.vertices p.sface_of)

abbrev pub volumes_text : TextVersion → Parts → List ℕ
volumes_text One p = flat_map volume_line p.volumes
volumes_text Two p = flat_map shelled_text (with_rows p.volumes p.shells)

abbrev pub text : TextVersion → Complex → Parts → List ℕ
text version c p = first_line version c p ++ vertices_text version c p ++ flat_map edge_line c.edges ++ flat_map facet_text p.facets ++ volumes_text version p

-- the bytes are the text of the complex
abbrev pub Text : TextVersion → Complex → List ℕ → Type 0
Text version c bytes = (p : Parts) × IsParts (complex_of c) p × (bytes ≡ text version c p)

-- the bytes are the text of a complex with these vertices and their edges, up to carriers
abbrev pub Spells : TextVersion → List ℕ → Complex → Type 0
Spells version bytes c = Edges (map vertex_of c.vertices) (map edge_of c.edges) × Text version c bytes
