use Rattle.nef_plan.proofs.Prelude.{◌∙◌, ap, arith, sym, subst, length, AreTimely, asked, LookBelow, tasks_over}
use Rattle.nef_plan.proofs.Planned.{planned}
use Rattle.nef_plan.proofs.planning.plan.Goals as goal

pub returns : goal.returns
returns c =
    let given = c.args.script.now.nodes in
    let commands = c.args.script.now.commands in
    let drafts = c.add_commands.new.plan in
    let did = c.in_ok-add_commands.ensures in
    let ordered = c.in_ok-ordered in
    let (values, table, tasks) = c.in_ok-tasks.ensures.tasks in
    record {
      plan = planned given drafts.nodes commands ordered.ordered.items c.in_ok-steps.steps.items values
          c.requires.workable.within
          did.nodes
          ordered.ensures.steps
          (ordered.ensures.asked ∙ ap asked c.deref.ensures.value ∙ did.asked)
          (ordered.ensures.timely given commands (subst (AreTimely given commands) (sym c.deref.ensures.value) did.timely))
          ordered.ensures.needed
          (let joined = did.joins in let same = ap length c.in_ok-copied.ensures.nodes in omega (arith, joined, same))
          table
          (c.in_ok-steps.ensures.tasks ∙ c.deref-3.ensures.value ∙ tasks ∙ ap (tasks_over values 0) c.deref-2.ensures.value)
          c.in_ok-steps.ensures.ends;
    }

pub ended-requires : goal.ended-requires
ended-requires c = record { below = subst (λ z. LookBelow (length z) z) (sym c.deref-3.ensures.value) c.in_ok-tasks.ensures.below }
