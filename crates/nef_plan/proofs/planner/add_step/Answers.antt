use Rattle.nef_plan.proofs.Prelude.{◌≡◌, ◌∙◌, ap, refl, sym, subst, List, [], ◌∷◌, ◌++◌, Draft, AreDrafts, IsMade, asked}
use Rattle.nef_plan.proofs.Growth.{more-same, steps-push, made-push, made-last, asked-push}
use Rattle.nef_plan.proofs.planner.add_step.Goals as goal

pub returns-clause-grown : goal.returns-clause-grown
returns-clause-grown c =
    let old = c.args.plan.now.steps.items in
    let items : c.push.new.self.items ≡ old ++ c.args.step ∷ [] = c.in_ok-push.ensures.items in
    record {
      nodes = more-same c.args.plan.now.nodes c.args.plan.now.nodes refl;
      steps = subst (AreDrafts c.args.plan.now.nodes) (sym items) (steps-push c.args.plan.now.nodes old c.args.step c.requires.steps c.requires.right c.requires.follows);
      made = λ k made. subst (λ (z : List Draft). IsMade z k) (sym items) (made-push old c.args.step k made);
      asked = ap asked items ∙ asked-push old c.args.step;
    }

pub returns-clause-made : goal.returns-clause-made
returns-clause-made c k makes =
    let old = c.args.plan.now.steps.items in
    let items : c.push.new.self.items ≡ old ++ c.args.step ∷ [] = c.in_ok-push.ensures.items in
    subst (λ (z : List Draft). IsMade z k) (sym items) (made-last old c.args.step k makes)
