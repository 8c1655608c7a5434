use Rattle.nef_plan.proofs.Prelude.{◌≡◌, ◌<◌, ◌≤◌, [], ap, arith, length, refl, subst, sym, ◌∙◌, inl, on_ok_weaker, IsMade, IsNodeReady, IsRowOf, spare, Make}
use Rattle.nef_plan.proofs.Growth.{grown-trans}
use Rattle.nef_plan.proofs.Added.{added-one, added-trans, free-grown}
use Rattle.nef_plan.proofs.planner.finish.Goals as goal
use Rattle.nef_plan.proofs.planner.finish.Goals.{In_ok-join_parts}

-- the joined parts are those of the node
row-here : (c : In_ok-join_parts) → IsRowOf c.join_parts.new.plan c.join_parts.new.row c.args.node
row-here c = c.in_ok-join_parts.ensures.row c.args.node c.requires.row

pub ending-made-requires : goal.ending-made-requires
ending-made-requires c =
    let joined = c.in_ok-join_parts.ensures in
    let same = c.spare-spare.ensures.spare ∙ ap spare (sym joined.kind) in
    record { few = subst (λ n. length c.join_parts.new.row.others.items ≤ n) same joined.few }

pub add_step-requires-clause-right : goal.add_step-requires-clause-right
add_step-requires-clause-right c = c.ending-made.ensures.made c.join_parts.new.plan c.args.node (row-here (goal.at.add_step-requires-clause-right c).In_ok-join_parts)

pub add_step-requires-clause-follows : goal.add_step-requires-clause-follows
add_step-requires-clause-follows c =
    let middle = c.join_parts.new.plan in
    let joined = c.in_ok-join_parts.ensures in
    let ready = (row-here (goal.at.add_step-requires-clause-follows c).In_ok-join_parts).ready in
    let free = free-grown c.args.plan.now middle [] (λ k. ⊥) c.args.node joined.grown joined.added (λ none. none) c.requires.free in
    record { looks = λ k is. c.ending-made.ensures.operands middle k ready is; new = λ k e made. free.unmade (subst (IsMade middle.steps.items) e made) }

pub returns-clause-grown : goal.returns-clause-grown
returns-clause-grown c =
    on_ok_weaker c.add_step.result (λ grown. grown-trans c.args.plan.now c.join_parts.new.plan c.add_step.new.plan [] [] c.in_ok-join_parts.ensures.grown grown) c.add_step.ensures.grown

pub returns-clause-added : goal.returns-clause-added
returns-clause-added c =
    let node = c.args.node in
    let joined = c.in_ok-join_parts.ensures in
    on_ok_weaker c.add_step.result (λ is. added-trans c.args.plan.now c.join_parts.new.plan c.add_step.new.plan (λ k. ⊥) (λ k. k ≡ node) joined.grown.nodes (λ k none. absurd none) joined.added
    (added-one c.join_parts.new.plan c.add_step.new.plan (λ k. k ≡ node) (Make node c.ending-made.result) is (λ k e. inl e))) c.add_step.ensures.steps

pub returns-clause-ready : goal.returns-clause-ready
returns-clause-ready c =
    let right = c.ending-made.ensures.made c.join_parts.new.plan c.args.node (row-here (goal.at.returns-clause-ready c).In_ok-join_parts) in
    on_ok_weaker c.add_step.result (λ made.
    let ready : IsNodeReady c.add_step.new.plan c.args.node = record { within = subst (λ z. c.args.node < length z) (sym c.add_step.ensures.nodes) right.within; made = made c.args.node refl } in
    ready) c.add_step.ensures.made

pub returns-clause-joins : goal.returns-clause-joins
returns-clause-joins c =
    let joined = c.in_ok-join_parts.ensures.joins in
    let same = ap length c.add_step.ensures.nodes in
    on_ok_weaker c.add_step.result (λ grown. omega (arith, joined, same)) c.add_step.ensures.grown
