use Rattle.nef_shell.proofs.Prelude.{sym, subst, Text}
use Rattle.nef_shell.proofs.piece.print_piece.Goals as goal

pub returns-clause-held : goal.returns-clause-held
returns-clause-held g c s held =
    let text = c.in_ok-text.ensures in
    let did = text.held s held in
    record { shows = did.shows; parts = did.parts; text = subst (λ z. Text c.args.options.now.text z c.in_ok-text.text.items) (sym text.complex) text.text }
