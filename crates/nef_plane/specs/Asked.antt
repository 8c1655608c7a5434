-- The vertices and edges of a plane, and vertices or edges by their kind.
use Rattle.nef_complex.specs.Prelude.{ℕ, length, Form, LiesOn, EdgeLiesIn, AreNumbersWith, ArePeaks}
use Rattle.nef_complex.specs.declared.complex.Complex.{Complex}
use Rattle.nef_complex.specs.declared.complex.PlaneMeet.{PlaneMeet}
use Rattle.nef_complex.specs.declared.complex.PlaneMeet.TheVariants.{AtVertex, AtEdge}
use Rattle.nef_complex.specs.declared.complex.PlaneItems.{PlaneItems}
use Rattle.nef_plane.specs.declared.first.MeetKind.{MeetKind}
use Rattle.nef_plane.specs.declared.first.MeetKind.TheVariants.{Vertex, Edge}

-- the lists have the edges in the plane and the vertices on it, by number, and the peaks of these edges
pub record AreItems (c : Complex) (h : Form) (items : PlaneItems) : Type 0 where
  pub edges : AreNumbersWith (EdgeLiesIn c.vertices c.edges h) items.edges.now
  pub vertices : AreNumbersWith (LiesOn c.vertices h) items.vertices.now
  pub peaks : ArePeaks c.edges items.edges.now items.peaks.now

-- the vertex or the edge with number k
abbrev pub meet_at : MeetKind → ℕ → PlaneMeet
meet_at Vertex k = AtVertex k
meet_at Edge k = AtEdge k

-- how many vertices or edges the complex has
abbrev pub count_in : Complex → MeetKind → ℕ
count_in c Vertex = length c.vertices
count_in c Edge = length c.edges
