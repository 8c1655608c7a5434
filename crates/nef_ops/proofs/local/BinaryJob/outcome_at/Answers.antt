use Rattle.nef_ops.proofs.Prelude.{subst, point_of, complex_of, IsNameAt}
use Rattle.nef_ops.proofs.local.BinaryJob.outcome_at.Goals as goal

pub told_outcome-requires-clause-vertex : goal.told_outcome-requires-clause-vertex
told_outcome-requires-clause-vertex c =
    let j = c.args.self.now in subst (IsNameAt (complex_of j.first.complex.now) (complex_of j.second.complex.now) (point_of c.args.candidate.now.point)) c.in-Vertex.is c.requires.named
