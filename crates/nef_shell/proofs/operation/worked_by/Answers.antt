use Rattle.nef_shell.proofs.Prelude.{sym, subst, IfOk-weaker, ShowsSet}
use Rattle.nef_shell.proofs.operation.worked_by.Goals as goal

pub returns-in-Unary : goal.returns-in-Unary
returns-in-Unary g c = record {
  shows = IfOk-weaker c.unary.result _ _ (λ x made s makes. let (t, shows, e) = rw c.in-Unary.is at makes in subst (λ z. ShowsSet z x) (sym e) (made t shows)) c.unary.ensures.shows;
}

pub returns-in-Binary : goal.returns-in-Binary
returns-in-Binary g c = record {
  shows = IfOk-weaker c.binary.result _ _ (λ x made s makes. let (t, u, first, second, e) = rw c.in-Binary.is at makes in subst (λ z. ShowsSet z x) (sym e) (made t u first second)) c.binary.ensures.shows;
}

pub returns-in-Turned : goal.returns-in-Turned
returns-in-Turned g c = record {
  shows = IfOk-weaker c.turn_complex.result _ _ (λ x made s makes. let (t, shows, low, e) = rw c.in-Turned.is at makes in subst (λ z. ShowsSet z x) (sym e) (made t shows)) c.turn_complex.ensures.shows;
}
