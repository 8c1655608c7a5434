use Rattle.nef_shell.proofs.Prelude.{ap, sym, subst, point_of, ShowsSet, Held, IsJoinedAnswer}
use Rattle.nef_shell.proofs.Outputs.{joined-piece}
use Rattle.nef_shell.proofs.piece.joined_piece.Goals as goal

pub returns-clause-piece : goal.returns-clause-piece
returns-clause-piece g c s held =
    let p = point_of c.args.first.now in
    let q = point_of c.args.second.now in
    let first = c.in_frame.ensures.in_frame.0 c.if-not-in_frame.false in
    let second = c.in_frame-2.ensures.in_frame.0 c.if-not-in_frame-2.false in
    let shows = subst (ShowsSet s) (sym (ap (λ (z : Held). z.complex) c.in_ok-parts.ensures.left)) held.shows in
    subst (λ z. IsJoinedAnswer s p q z) (sym c.joined_answer-line.ensures.bytes) (joined-piece s p q c.joined.result first second (c.joined.ensures.joined s shows))
