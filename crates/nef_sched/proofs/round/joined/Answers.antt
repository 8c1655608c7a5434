use Rattle.nef_sched.proofs.Prelude.{arith, sym, ◌∙◌, subst, view, View, SawItems}
use Rattle.nef_sched.proofs.Steps.{merges, sees, fits_in, joined_ended, joined_owes, ended_took}
use Rattle.nef_sched.proofs.round.joined.Goals as goal

pub absorb-requires-clause-rule : goal.absorb-requires-clause-rule
absorb-requires-clause-rule c = merges _ _ _ _ c.args.into.some_part c.args.other.some_part

pub learn_as-requires-clause-rule : goal.learn_as-requires-clause-rule
learn_as-requires-clause-rule c = sees _ _

pub unreachable-requires : goal.unreachable-requires
unreachable-requires c =
    let a = c.args.into in
    let b = c.args.other in
    let f = fits_in _ (view a.pass) (view b.pass) _ _ _ c.absorb.ensures.rule a.some_part a.same_taken b.same_taken a.room c.learn_as.ensures.rule in
    let k = a.taken.ok in
    let l = b.taken.ok in
    let full = c.in_default.ensures.full in
    omega arith

pub invariant_of-result-clause-same_end : goal.invariant_of-result-clause-same_end
invariant_of-result-clause-same_end c =
    let a = c.args.into in
    let b = c.args.other in
    joined_ended (view a.pass) (view b.pass) _ a.ended b.ended (c.learn_as.ensures.queue.1 ∙ c.absorb.ensures.rule) a.same_end b.same_end

pub invariant_of-result-clause-owes : goal.invariant_of-result-clause-owes
invariant_of-result-clause-owes c e =
    let a = c.args.into in
    let b = c.args.other in
    joined_owes a.ended b.ended (view a.pass) (view b.pass) (view c.learn_as.new.pass) a.owes (c.learn_as.ensures.queue.1 ∙ c.absorb.ensures.rule) e

pub invariant_of-result-clause-took_each : goal.invariant_of-result-clause-took_each
invariant_of-result-clause-took_each c e all =
    let a = c.args.into in
    let b = c.args.other in
    let same = c.learn_as.ensures.queue.1 in
    let end = joined_ended (view a.pass) (view b.pass) (view c.learn_as.new.pass) a.ended b.ended (same ∙ c.absorb.ensures.rule) a.same_end b.same_end ∙ e in
    ended_took (view c.learn_as.new.pass) c.learn_as.ensures.rule.0 end (subst (λ (v : View). SawItems v c.learn_as.ensures.rule.0) (sym same) c.learn_as.ensures.rule.1) all

pub returns-clause-taken : goal.returns-clause-taken
returns-clause-taken c = c.in-Ok.ensures.items
