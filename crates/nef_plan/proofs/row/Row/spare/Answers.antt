use Rattle.nef_plan.proofs.Prelude.{sym, ap, ⊎_elim}
use Rattle.nef_plan.specs.Rows.{spare}
use Rattle.nef_plan.proofs.row.Row.spare.Goals as goal

pub returns-in-Union : goal.returns-in-Union
returns-in-Union c = record { spare = ⊎_elim (λ e. ap spare (sym e)) (λ e. ap spare (sym e)) c.in-Union.is }

pub returns-in-Difference : goal.returns-in-Difference
returns-in-Difference c = record { spare = ap spare (sym c.in-Difference.is) }
