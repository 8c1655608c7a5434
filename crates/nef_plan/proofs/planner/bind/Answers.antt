use Rattle.nef_plan.proofs.Prelude.{refl, length, names-from}
use Rattle.nef_plan.proofs.Growth.{made-grown, more-same}
use Rattle.nef_plan.proofs.Bounds.{bound-node}
use Rattle.nef_plan.proofs.planner.bind.Goals as goal

pub add_draft-requires-clause-looks : goal.add_draft-requires-clause-looks
add_draft-requires-clause-looks c k looks = c.requires.operands k looks

pub add_draft-requires-clause-unbound : goal.add_draft-requires-clause-unbound
add_draft-requires-clause-unbound c k e = rw e (c.requires.node, c.requires.unbound)

pub add_draft-requires-clause-right : goal.add_draft-requires-clause-right
add_draft-requires-clause-right c =
    let old = c.args.plan.now in
    let names = names-from (length old.nodes) c.args.made (λ k is. bound-node old c.args.bounds.now k c.requires.planned (c.requires.operands k is)) in
    made-grown old.nodes old.nodes c.args.node c.args.made (more-same old.nodes old.nodes refl) c.requires.within names c.requires.set
