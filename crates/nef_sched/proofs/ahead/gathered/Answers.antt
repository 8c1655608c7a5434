use Rattle.nef_sched.proofs.Prelude.{Some, ap, ◌∙◌, arith, All-pop, All-push, RoundPass, IsPassInRound, total_parts, total_worked, AreFitting}
use Rattle.nef_sched.proofs.Steps.{parts_snoc}
use Rattle.nef_sched.proofs.Outs.{worked_both, worked_snoc}
use Rattle.nef_sched.proofs.ahead.gathered.Goals as goal

pub loop-pass-preserved : goal.loop-pass-preserved
loop-pass-preserved g c =
    let t = c.args.stage.now in
    let i = c.loop-pass.invariant in
    let last = c.in-Some.ensures.items in
    let own = All-pop (λ (w : RoundPass × _). IsPassInRound c.args.round.now w.0) _ _ (Some (c.in-Some.pass, c.in-Some.outs)) last i.worked in
    let fit = All-pop (λ (w : RoundPass × _). AreFitting (g.T.Stage.size t) (g.T.Stage.fits t) w.1.items) _ _ (Some (c.in-Some.pass, c.in-Some.outs)) last i.outs in
    let e = c.push_reserved.ensures in
    let more = ap total_parts e.items ∙ parts_snoc _ _ in
    let less = ap total_worked last ∙ worked_snoc _ _ in
    let p = i.parts in
    let room = i.room in
    record {
      made = worked_both _ _ _ _ _ i.made c.keep_outs.ensures.worked;
      worked = own.0;
      outs = fit.0;
      of = rw e.items (All-push (λ (q : RoundPass). IsPassInRound c.args.round.now q) _ _ i.of own.1);
      parts = omega arith;
      room = omega (arith, e.len, e.capacity, c.in-Some.ensures.len, room);
    }

pub keep_outs-requires-clause-each : goal.keep_outs-requires-clause-each
keep_outs-requires-clause-each g c κs within =
    let t = c.args.stage.now in
    (All-pop (λ (w : RoundPass × _). AreFitting (g.T.Stage.size t) (g.T.Stage.fits t) w.1.items) _ _ (Some (c.in-Some.pass, c.in-Some.outs)) c.in-Some.ensures.items c.loop-pass.invariant.outs).1
