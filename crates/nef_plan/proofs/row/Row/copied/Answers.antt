use Rattle.nef_plan.proofs.Prelude.{◌∙◌, refl}
use Rattle.nef_plan.proofs.row.Row.copied.Goals as goal

pub returns-clause-kind : goal.returns-clause-kind
returns-clause-kind c = refl

pub returns-clause-others : goal.returns-clause-others
returns-clause-others c = c.in_ok-from_slice.ensures.items ∙ c.as_slice.ensures.value

pub returns-clause-last : goal.returns-clause-last
returns-clause-last c = refl
