use Rattle.nef_ops.proofs.Prelude.{ap, length, sym, ◌∙◌, length-map, IfOk-weaker, Vertex, unary_set}
use Rattle.nef_ops.proofs.Gathered.{one-worked}
use Rattle.nef_ops.proofs.operations.unary.Goals as goal

pub complex_by_jobs-requires-clause-workable : goal.complex_by_jobs-requires-clause-workable
complex_by_jobs-requires-clause-workable g c = λ κs within. c.requires.shows

pub complex_by_jobs-requires-clause-alike : goal.complex_by_jobs-requires-clause-alike
complex_by_jobs-requires-clause-alike g c = λ κs within. sym (ap length (c.as_slice-points.ensures.value ∙ c.in_ok-points.ensures.points) ∙ length-map c.args.a.now.vertices (λ (v : Vertex). v.point))

pub complex_by_jobs-requires-clause-set : goal.complex_by_jobs-requires-clause-set
complex_by_jobs-requires-clause-set g c = λ κs within.
    let S = c.requires.shows in let op = c.args.op in
    (unary_set op S.0, one-worked op c.args.a.now c.in_ok-carriers.carriers c.in_ok-points.points.items c.as_slice-points.result.now c.as_slice-points.ensures.value c.in_ok-points.ensures.points c.in_ok-carriers.ensures.same S.0 S.1)

pub returns : goal.returns
returns g c =
    let op = c.args.op in
    record {
      shows = IfOk-weaker c.complex_by_jobs.result _ _ (λ d shown s S. shown (unary_set op s)
          (one-worked op c.args.a.now c.in_ok-carriers.carriers c.in_ok-points.points.items c.as_slice-points.result.now c.as_slice-points.ensures.value c.in_ok-points.ensures.points c.in_ok-carriers.ensures.same s S)) c.complex_by_jobs.ensures.shows;
    }
