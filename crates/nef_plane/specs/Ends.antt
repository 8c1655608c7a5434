-- Meets: a vertex or an edge of a complex, by its number, and the two ends. A vertex is both of its ends.
use Rattle.std.specs.Prelude.{◌≡◌, ◌<◌}
use Rattle.nef_complex.specs.Prelude.{ℕ, length, IsAt, Form, LiesOn, EdgeLiesIn}
use Rattle.nef_complex.specs.declared.complex.Vertex.{Vertex}
use Rattle.nef_index.specs.declared.skeleton.Edge.{Edge}
use Rattle.nef_complex.specs.declared.complex.Complex.{Complex}
use Rattle.nef_complex.specs.declared.complex.PlaneMeet.{PlaneMeet}
use Rattle.nef_complex.specs.declared.complex.PlaneMeet.TheVariants.{AtVertex, AtEdge}

-- the complex has the vertex or edge
abbrev pub HasMeet : Complex → PlaneMeet → Type 0
HasMeet c (AtVertex k) = k < length c.vertices
HasMeet c (AtEdge k) = k < length c.edges

-- the vertex or edge lies in the plane
abbrev pub MeetLiesIn : Complex → Form → PlaneMeet → Type 0
MeetLiesIn c h (AtVertex k) = LiesOn c.vertices h k
MeetLiesIn c h (AtEdge k) = EdgeLiesIn c.vertices c.edges h k

-- the meet is a vertex, or an edge that lies in the plane
abbrev pub IsVertexOrLies : Complex → Form → PlaneMeet → Type 0
IsVertexOrLies c h (AtVertex k) = k < length c.vertices
IsVertexOrLies c h (AtEdge k) = EdgeLiesIn c.vertices c.edges h k

-- i and j are the numbers of the ends of the vertex or edge
abbrev pub AreEnds : Complex → PlaneMeet → ℕ → ℕ → Type 0
AreEnds c (AtVertex k) i j = (i ≡ k) × (j ≡ k)
AreEnds c (AtEdge k) i j = (e : Edge) × IsAt c.edges k e × (i ≡ e.low) × (j ≡ e.high)

-- u and v are the ends of the vertex or edge
abbrev pub HasEndsAt : Complex → PlaneMeet → Vertex → Vertex → Type 0
HasEndsAt c m u v = (i : ℕ) × (j : ℕ) × AreEnds c m i j × IsAt c.vertices i u × IsAt c.vertices j v
