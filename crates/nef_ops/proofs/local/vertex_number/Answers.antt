use Rattle.nef_ops.proofs.Prelude.{subst, IsPlaceAt}
use Rattle.nef_ops.proofs.local.vertex_number.Goals as goal

pub returns-in-Vertex : goal.returns-in-Vertex
returns-in-Vertex c = record { vertex = λ C y a. subst (IsPlaceAt C y) c.in-Vertex.is a }
