use Rattle.nef_shell.proofs.Prelude.{refl}
use Rattle.nef_shell.proofs.held.kept.Goals as goal

pub returns : goal.returns
returns c = record { new = λ s shows. rw c.in_ok-made.ensures.ok (shows, refl, refl) }
