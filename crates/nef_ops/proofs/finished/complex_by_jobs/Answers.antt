use Rattle.nef_ops.proofs.Prelude.{◌≡◌, length, arith, IfOk-weaker}
use Rattle.nef_ops.proofs.Gathered.{worked-outcomes}
use Rattle.nef_ops.proofs.finished.complex_by_jobs.Goals as goal

pub assemble_lent-requires : goal.assemble_lent-requires
assemble_lent-requires g c =
    let n = c.in_ok-outcomes.ensures.len in let o = c.in_ok-outcomes.outcomes.ok in let a = c.requires.alike in
    let alike : length c.in_ok-outcomes.outcomes.items ≡ length c.args.points.now = omega arith in
    let s = c.requires.set in
    record { first = c.requires.from; second = c.requires.from; outcomes = (s.0, worked-outcomes _ _ _ s.0 c.args.carriers c.args.points.now c.in_ok-outcomes.outcomes.items s.1 alike c.in_ok-outcomes.ensures.right) }

pub returns : goal.returns
returns g c =
    let n = c.in_ok-outcomes.ensures.len in let o = c.in_ok-outcomes.outcomes.ok in let a = c.requires.alike in
    let alike : length c.in_ok-outcomes.outcomes.items ≡ length c.args.points.now = omega arith in
    record { shows = IfOk-weaker c.assemble_lent.result _ _ (λ d S s W. S s (worked-outcomes _ _ _ s c.args.carriers c.args.points.now c.in_ok-outcomes.outcomes.items W alike c.in_ok-outcomes.ensures.right)) c.assemble_lent.ensures.shows }
