use Rattle.nef_ops.proofs.Prelude.{subst, complex_of, IsFoundAt}
use Rattle.nef_ops.proofs.local.found_vertex.Goals as goal

pub returns-in-At : goal.returns-in-At
returns-in-At c = record { vertex = λ b y a. c.vertex_number.ensures.vertex (complex_of b) y (subst (IsFoundAt b y) c.in-At.is a) }
