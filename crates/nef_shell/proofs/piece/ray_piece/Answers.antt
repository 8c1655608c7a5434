use Rattle.nef_shell.proofs.Prelude.{IfOk-weaker, IsRayAnswer}
use Rattle.nef_shell.proofs.piece.ray_piece.Goals as goal

pub returns : goal.returns
returns c =
    let framed = c.in_frame.ensures.in_frame.0 c.if-not-in_frame.false in
    record { piece = IfOk-weaker c.end_line.result _ _ (λ v e s S. IsRayAnswer.ends framed c.in_ok-end.end (c.in_ok-end.ensures.end s S) e) c.end_line.ensures.bytes }
