-- Corners as elements of the table of items, and the ties between corners.
use Rattle.std.specs.Prelude.{◌≡◌, ◌⊎◌, ℕ, List, Option}
use Rattle.std.specs.List.{Contains}
use Rattle.nef_complex.specs.Prelude.{MatchOption, SpacePoint, Form, Vector, SameDirection, corner_of, IsAt}
use Rattle.law_geometry.specs.sphere.Maps.{Arc, Map}
use Rattle.law_geometry.specs.complex.Prelude.{Vertex, Edge, Complex, Corner, HasEnds, RayNames}
use Rattle.nef_complex.specs.declared.complex.Corner.{Corner as ProgramCorner}
use Rattle.nef_classes.specs.declared.table.Cell.{Cell}
use Rattle.nef_classes.specs.declared.table.Tie.{Tie}
use Rattle.law_geometry.specs.complex.links.Links.{LinkAcross}

-- the corner as an element of the table that has a row for each vertex and an element for each of its items
abbrev pub cell_of : Corner → Cell
cell_of k = record { row = k.vertex; column = k.item }

abbrev pub corner_at : Cell → Corner
corner_at x = record { vertex = x.row; item = x.column }

-- ---- lists that grow
-- ys has exactly the elements of xs and the elements with P
pub record Adds {X : Type 0} (P : X → Type 0) (xs ys : List X) : Type 0 where
  pub kept : (x : X) → Contains xs x → Contains ys x
  pub added : (x : X) → Contains ys x → Contains xs x ⊎ P x
  pub all : (x : X) → P x → Contains ys x

-- x has property P k for some number k
abbrev pub Any : {X : Type 0} → (ℕ → X → Type 0) → X → Type 0
Any {X} P x = (k : ℕ) × P k x

-- ---- along edges
-- arc a at the edge's lower end and arc b at its higher end: one begins at the edge, and the other ends there
abbrev pub BeginAndEnd : Edge → Arc → Arc → Type 0
BeginAndEnd e a b = ((a.source ≡ e.low_svertex) × (b.target ≡ e.high_svertex)) ⊎ ((a.target ≡ e.low_svertex) × (b.source ≡ e.high_svertex))

-- the two arcs lie in one plane, and one begins at the edge where the other ends
abbrev pub AreArcsAlong : Edge → Arc → Arc → Type 0
AreArcsAlong e a b = SameDirection a.normal b.normal × BeginAndEnd e a b

-- the tie between arc i at the edge's lower end and arc j at its higher end
abbrev pub edge_tie : Edge → ℕ → ℕ → Tie
edge_tie e i j = record { first = record { row = e.low; column = i }; second = record { row = e.high; column = j } }

-- t is the tie between arc i of the edge's lower end, which is a, and arc j of the map at its higher end
abbrev pub IsTieFromArc : Edge → ℕ → Arc → Map → ℕ → Tie → Type 0
IsTieFromArc e i a M j t = (b : Arc) × IsAt M.arcs j b × AreArcsAlong e a b × (t ≡ edge_tie e i j)

-- t is a tie between arc i of the map at the edge's lower end and an arc of the map at its higher end
abbrev pub IsTieOfEdge : Edge → Map → Map → ℕ → Tie → Type 0
IsTieOfEdge e L M i t = (a : Arc) × IsAt L.arcs i a × Any (IsTieFromArc e i a M) t

-- t is a tie between arcs at the two ends of edge n
abbrev pub IsTieAlong : Complex → ℕ → Tie → Type 0
IsTieAlong C n t = (e : Edge) × (v : Vertex) × (w : Vertex) × IsAt C.edges n e × HasEnds C e v w × Any (IsTieOfEdge e v.map w.map) t

-- ---- across facets
-- o is the corner that the ray from p along d names in the plane, or none
abbrev pub IsNamedFrom : Complex → Form → SpacePoint → Vector → Option ProgramCorner → Type 0
IsNamedFrom C h p d o = MatchOption o ((k : Corner) → RayNames C h p d k → ⊥) (λ k. RayNames C h p d (corner_of k))

-- o is the corner with which corner j is linked across its facet, or none
abbrev pub IsLinkedFrom : Complex → Corner → Option ProgramCorner → Type 0
IsLinkedFrom C j o = MatchOption o ((k : Corner) → LinkAcross C j k → ⊥) (λ k. LinkAcross C j (corner_of k))

-- t is the tie between item j of vertex i and the corner that is linked with this item across the facet
abbrev pub IsTieAcross : Complex → ℕ → ℕ → Tie → Type 0
IsTieAcross C i j t = (t.first ≡ cell_of (record { vertex = i; item = j })) × LinkAcross C (corner_at t.first) (corner_at t.second)
