use Rattle.nef_sched.proofs.Prelude.{◌∙◌, arith, IfOk-weaker}
use Rattle.nef_sched.proofs.ahead.run_ahead.Goals as goal

pub all_of-requires : goal.all_of-requires
all_of-requires g c =
    let worked = c.in_ok-work_rounds.ensures in
    let len = worked.fits.0 in
    record { all = λ k low. worked.all k (omega arith) }

pub returns : goal.returns
returns g c =
    let sound = c.in_ok-work_rounds.ensures.fits in
    let all = c.all_of.ensures in
    record {
      len = IfOk-weaker c.all_of.result _ _ (λ v e. e ∙ sound.0) all.len;
      fits = IfOk-weaker c.all_of.result _ _ (λ v same i out at. sound.1 i out (same i out at)) all.same;
    }
