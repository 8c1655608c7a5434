use Rattle.nef_shell.proofs.Prelude.{◌≡◌, ◌∙◌, ap, Err, err_from_is_err_and}
use Rattle.nef_shell.proofs.Outputs.{ends-before}
use Rattle.nef_shell.proofs.work.work_all.Goals as goal

pub returns-in_err-values : goal.returns-in_err-values
returns-in_err-values g c =
    let p = err_from_is_err_and c.from_residual.result c.from_residual.ensures.1 in
    record { ends = λ nodes asked. ends-before _ _ _ _ _ c.from_residual.result (p.1 ∙ ap (λ z. Err z) p.2) }
