use Rattle.nef_geo.proofs.Prelude.{◌≤◌, ℤ, nat_abs, subst, point_form_limit}
use Rattle.nef_geo.proofs.sides.side.Goals as goal

pub returns-clause-width : goal.returns-clause-width
returns-clause-width c = subst (λ (n : ℤ). nat_abs n ≤ point_form_limit) c.form.ensures.value c.form.ensures.width
