use Rattle.nef_shell.proofs.Prelude.{◌∙◌, sym, subst, option_copied, IsShown}
use Rattle.nef_shell.proofs.Operands.{zip-some, zip-lent}
use Rattle.nef_shell.proofs.Outputs.{same-piece}
use Rattle.nef_shell.proofs.piece.same_piece.Goals as goal

pub returns-in-Some : goal.returns-in-Some
returns-in-Some c =
    let (e, f) = zip-some _ _ _ _ (sym c.zip.ensures ∙ c.in-Some.is) in
    record {
      piece = λ s t first second.
          let lent : IsShown s (option_copied c.complex_at.result) = subst (IsShown s) (sym c.complex_at.ensures.complex) first in
          let a = rw e at lent in
          let also : IsShown t (option_copied c.complex_at-2.result) = subst (IsShown t) (sym c.complex_at-2.ensures.complex) second in
          let b = rw f at also in
          rw c.same_answer.ensures.bytes (same-piece s t c.compare.result (c.compare.ensures.same s t a b));
    }

pub returns-in-None : goal.returns-in-None
returns-in-None c = record {
  piece = λ s t first second. absurd (zip-lent _ _ s t (sym c.zip.ensures ∙ c.in-None.is) (subst (IsShown s) (sym c.complex_at.ensures.complex) first) (subst (IsShown t) (sym c.complex_at-2.ensures.complex) second));
}
