use Rattle.nef_sched.proofs.Prelude.{ℕ, ◌<◌, Some, All-pop}
use Rattle.nef_sched.proofs.Outs.{worked_none, worked_both, worked_set}
use Rattle.nef_sched.proofs.ahead.keep_outs.Goals as goal

pub loop-number-init : goal.loop-number-init
loop-number-init g c = record { worked = worked_none _ _ _ c.requires.sound; outs = c.requires.each }

pub loop-number-preserved : goal.loop-number-preserved
loop-number-preserved g c =
    let t = c.args.stage.now in
    let i = c.loop-number.invariant in
    let both = All-pop (λ (o : ℕ × _). (o.0 < g.T.Stage.size t) × g.T.Stage.fits t o.0 o.1) _ _ (Some (c.in-Some.number, c.in-Some.out)) c.in-Some.ensures.items i.outs in
    record {
      worked = worked_both _ _ _ _ _ i.worked (rw c.set.ensures.set (worked_set _ _ _ _ _ both.1.1 i.worked.sound));
      outs = both.0;
    }
