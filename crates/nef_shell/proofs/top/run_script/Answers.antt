use Rattle.nef_shell.proofs.Prelude.{◌∙◌, refl, traffic, source-read, HasFront}
use Rattle.nef_shell.proofs.Statuses.{refused-status, none-status, stopped-status}
use Rattle.nef_shell.proofs.top.run_script.Goals as goal

pub returns-in-Refused-clause-status : goal.returns-in-Refused-clause-status
returns-in-Refused-clause-status g c words chosen =
    let refused = rw c.in-Refused.is at c.in-Err.ensures.none.said in
    refused-status words c.refuse.result _ _ _ _ (source-read words c.args.options.now chosen refused.0) refused.1.1 refused.1.2 refused.1.3 c.refuse.ensures.status

pub returns-in_default-clause-status : goal.returns-in_default-clause-status
returns-in_default-clause-status g c words chosen =
    let io = traffic g.S.Source.rest g.S.Source.faults g.K.Sink.written g.K.Sink.faults c.args.source.now c.script_for.new.source c.args.sink.now c.args.sink.now in
    none-status words c.in-Err.status io c.args.options.now chosen (λ line kind is. c.in_default.not-Refused line kind is) c.in-Err.ensures.none refl refl

pub returns-clause-status : goal.returns-clause-status
returns-clause-status g c words chosen =
    let io = traffic g.S.Source.rest g.S.Source.faults g.K.Sink.written g.K.Sink.faults c.args.source.now c.script_for.new.source c.args.sink.now c.work.new.sink in
    let script = c.in-Ok.ensures.script in
    let ends = c.in-Err-work.ensures.ends in
    let front = ends.front in
    stopped-status words c.in-Err-work.status io ends.stopped
    (HasFront.of_output c.args.options.now script.0 _ _ front.0 front.1 chosen script.1 script.2 front.2 front.3)
    c.in-Ok.ensures.quiet
