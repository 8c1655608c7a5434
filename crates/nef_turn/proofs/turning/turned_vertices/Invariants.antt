use Rattle.nef_turn.proofs.Prelude.{AreImages, IsVertexImage}
use Rattle.nef_turn.proofs.turning.turned_vertices.Given as goal

abbrev pub invariant-loop-vertex : goal.invariant-loop-vertex
invariant-loop-vertex l = record { images : AreImages (IsVertexImage l.turn.number) l.vertex-index l.vertices l.images.items }
