use Rattle.nef_sched.proofs.Prelude.{ℕ, arith, Vec, Global, IsRoundList}
use Rattle.nef_sched.proofs.Outs.{none_kept, ready_after, sound_none, worked_both}
use Rattle.nef_sched.proofs.Planning.{group_at, group_differs, round_ready, there_next}
use Rattle.nef_sched.proofs.ahead.work_rounds.Goals as goal

pub loop-round-init : goal.loop-round-init
loop-round-init g c =
    let none = none_kept c.args.done.now.list.items c.requires.none in
    record {
      sound = sound_none _ _ _ (let ok = c.args.done.now.list.ok in let len = c.requires.len in omega arith) none;
      there = λ p k low early. absurd (omega arith);
    }

pub work_by-requires-clause-differ : goal.work_by-requires-clause-differ
work_by-requires-clause-differ g c κs within =
    let size = g.T.Stage.size c.args.stage.now in
    let end = c.loop-round-test.true in
    let full = c.requires.plan.each.0 in
    let b = group_at (λ (v : Vec ℕ Global). v.items) (IsRoundList size c.requires.plan.round_of) _ c.loop-round.round _ _ c.requires.plan.each.1 (omega arith) c.index-plan-round.is c.as_slice-numbers.ensures.value in
    group_differs size c.requires.plan.round_of c.loop-round.round _ b

pub work_by-requires-clause-ready : goal.work_by-requires-clause-ready
work_by-requires-clause-ready g c κs within =
    let s = g.T.Stage in
    let t = c.args.stage.now in
    let end = c.loop-round-test.true in
    let full = c.requires.plan.each.0 in
    let i = c.loop-round.invariant in
    let b = group_at (λ (v : Vec ℕ Global). v.items) (IsRoundList (s.size t) c.requires.plan.round_of) _ c.loop-round.round _ _ c.requires.plan.each.1 (omega arith) c.index-plan-round.is c.as_slice-numbers.ensures.value in
    record { sound = i.sound; each = round_ready (s.size t) (s.fits t) (s.first t) (s.second t) c.requires.plan.round_of c.loop-round.round _ _ c.requires.plan.rounds i.sound (i.there c.requires.plan) b }

pub work_rest-requires-clause-ready : goal.work_rest-requires-clause-ready
work_rest-requires-clause-ready g c κs within =
    let s = g.T.Stage in
    let t = c.args.stage.now in
    let end = c.loop-round-test.true in
    let full = c.requires.plan.each.0 in
    let i = c.loop-round.invariant in
    let b = group_at (λ (v : Vec ℕ Global). v.items) (IsRoundList (s.size t) c.requires.plan.round_of) _ c.loop-round.round _ _ c.requires.plan.each.1 (omega arith) c.index-plan-round.is c.as_slice-numbers.ensures.value in
    ready_after _ _ _ _ _ _ _ (record { sound = i.sound; each = round_ready (s.size t) (s.fits t) (s.first t) (s.second t) c.requires.plan.round_of c.loop-round.round _ _ c.requires.plan.rounds i.sound (i.there c.requires.plan) b }) c.in_ok-work_by.ensures.worked

pub loop-round-preserved : goal.loop-round-preserved
loop-round-preserved g c =
    let s = g.T.Stage in
    let t = c.args.stage.now in
    let end = c.loop-round-test.true in
    let i = c.loop-round.invariant in
    let worked = worked_both _ _ _ _ _ c.in_ok-work_by.ensures.worked c.in_ok-work_rest.ensures.worked in
    record {
      sound = worked.sound;
      there = λ p.
          let full = p.each.0 in
          let group = group_at (λ (v : Vec ℕ Global). v.items) (IsRoundList (s.size t) p.round_of) _ c.loop-round.round _ _ p.each.1 (omega arith) c.index-plan-round.is c.as_slice-numbers.ensures.value in
          there_next (s.size t) (s.fits t) (s.first t) (s.second t) p.round_of c.loop-round.round _ _ _ group (i.there p) worked.still c.in_ok-work_rest.ensures.there;
    }

pub returns-clause-all : goal.returns-clause-all
returns-clause-all g c n inside =
    let end = c.loop-round-test.false in
    let full = c.requires.plan.each.0 in
    let low = c.requires.plan.rounds.low n inside in
    c.loop-round.invariant.there c.requires.plan n inside (omega arith)
