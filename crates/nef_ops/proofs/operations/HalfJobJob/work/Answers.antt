use Rattle.nef_ops.proofs.Prelude.{[], get_or, IfOk-weaker, Set, given_form, point_of}
use Rattle.nef_ops.proofs.Gathered.{right-at}
use Rattle.nef_ops.proofs.operations.HalfJobJob.work.Goals as goal

pub half_map-requires-clause-frame : goal.half_map-requires-clause-frame
half_map-requires-clause-frame c = c.in_ok-whole.ensures.cone Set.full c.requires.workable.0

pub returns : goal.returns
returns c =
    let j = c.args.self.now in let f = Set.half (given_form j.oriented.now) j.closed in let q = c.index-self-job.result in
    IfOk-weaker c.of.result _ _ (λ o told. right-at f [] [] j.points.now c.args.job q o c.requires.job (told [] [] f (point_of (get_or j.points.now c.args.job q)) c.in_ok-map.ensures.cone)) c.of.ensures.outcome
