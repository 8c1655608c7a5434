use Rattle.nef_plan.proofs.Prelude.{[], refl, ◌∙◌, arith}
use Rattle.nef_plan.proofs.Growth.{grown-refl, grown-trans}
use Rattle.nef_plan.proofs.Added.{added-none, added-trans}
use Rattle.nef_plan.proofs.planner.join_parts.Goals as goal

pub loop-plan-init : goal.loop-plan-init
loop-plan-init c = record { grown = grown-refl c.args.plan.now c.requires.steps; added = added-none c.args.plan.now (λ k. ⊥); ready = c.requires.ready; kind = refl; joins = omega arith; row = λ k row. row }

pub join_last-requires-clause-steps : goal.join_last-requires-clause-steps
join_last-requires-clause-steps c = c.loop-plan.invariant.grown.steps

pub loop-plan-preserved : goal.loop-plan-preserved
loop-plan-preserved c =
    let so_far = c.loop-plan.invariant in
    let now = c.in_ok-join_last.ensures in
    record {
      grown = grown-trans c.args.plan.now c.loop-plan.plan c.join_last.new.plan [] [] so_far.grown now.grown;
      added = added-trans c.args.plan.now c.loop-plan.plan c.join_last.new.plan (λ k. ⊥) (λ k. ⊥) so_far.grown.nodes (λ k none. none) so_far.added now.added;
      ready = now.ready;
      kind = now.kind ∙ so_far.kind;
      joins = let a = so_far.joins in let b = now.joins in omega (arith, a, b);
      row = λ k row. now.row k (so_far.row k row);
    }
