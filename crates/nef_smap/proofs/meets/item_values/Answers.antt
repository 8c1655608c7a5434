use Rattle.nef_smap.proofs.Prelude.{sym, subst, normal_limit, IsAtMost, ◌∙◌}
use Rattle.nef_smap.proofs.meets.item_values.Goals as goal

pub returns-clause-small : goal.returns-clause-small
returns-clause-small c = c.form_values.ensures.small normal_limit (subst (IsAtMost normal_limit) (sym (c.wide.ensures.wide ∙ c.normal.ensures.normal)) c.requires.normal)
