use Rattle.nef_shell.proofs.Prelude.{◌∙◌, ap, sym, subst, Err, err_from_is_err_and, AreAsked}
use Rattle.nef_shell.proofs.Outputs.{ends-before}
use Rattle.nef_shell.proofs.Questions.{are-asked, ends-all}
use Rattle.nef_shell.proofs.work.work.Goals as goal

pub returns-in_err-plan : goal.returns-in_err-plan
returns-in_err-plan g c =
    let p = err_from_is_err_and c.from_residual.result c.from_residual.ensures.1 in
    record { ends = ends-before _ _ _ _ _ c.from_residual.result (p.1 ∙ ap (λ z. Err z) p.2) }

pub returns-in_err-whole : goal.returns-in_err-whole
returns-in_err-whole g c =
    let p = err_from_is_err_and c.from_residual-in_err-whole.result c.from_residual-in_err-whole.ensures.1 in
    record { ends = ends-before _ _ _ _ _ c.from_residual-in_err-whole.result (p.1 ∙ ap (λ z. Err z) p.2) }

pub work_all-ended-requires-clause-asked : goal.work_all-ended-requires-clause-asked
work_all-ended-requires-clause-asked g c κs within =
    let script = c.args.script.now in
    (script.nodes, rw c.deref.ensures.value (are-asked script.nodes script.commands c.in_ok-plan.plan.steps.items c.requires.workable.within c.in_ok-plan.ensures.plan.answered))

pub work_all-ended-requires-clause-ends : goal.work_all-ended-requires-clause-ends
work_all-ended-requires-clause-ends g c κs within = rw c.deref.ensures.value c.in_ok-plan.ensures.plan.ends

pub returns : goal.returns
returns g c =
    let script = c.args.script.now in
    let plan = c.in_ok-plan.ensures.plan in
    let asked = are-asked script.nodes script.commands c.in_ok-plan.plan.steps.items c.requires.workable.within plan.answered in
    let raw = c.work_all-ended.ensures.ends script.nodes (subst (AreAsked script.nodes) (sym c.deref.ensures.value) asked) in
    let ends = rw c.deref.ensures.value at raw in
    record { ends = ends-all _ _ _ _ _ _ _ _ c.work_all-ended.result plan.answered.asked ends }
