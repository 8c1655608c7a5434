use Rattle.nef_ops.proofs.Prelude.{sym, subst, IfOk-weaker, Set, given_form, AreFramed}
use Rattle.nef_ops.proofs.GivenPlanes.{given-plane}
use Rattle.nef_ops.proofs.Gathered.{half-worked}
use Rattle.nef_ops.proofs.operations.half_within.Goals as goal

pub complex_by_jobs-requires-clause-workable : goal.complex_by_jobs-requires-clause-workable
complex_by_jobs-requires-clause-workable g c = λ κs within. (c.requires.whole, subst AreFramed (sym c.as_slice-points.ensures.value) c.in_ok-listed.ensures.framed)

pub complex_by_jobs-requires-clause-from : goal.complex_by_jobs-requires-clause-from
complex_by_jobs-requires-clause-from g c = λ κs within. (Set.full, c.requires.whole)

pub complex_by_jobs-requires-clause-set : goal.complex_by_jobs-requires-clause-set
complex_by_jobs-requires-clause-set g c = λ κs within.
    let h = c.plane-plane.result in let f = given_form c.args.oriented.now in (
      Set.half f c.args.closed,
      half-worked f c.args.closed h c.args.whole.now c.in_ok-carriers.carriers c.in_ok-listed.listed.items c.as_slice-points.result.now c.requires.whole (given-plane c.args.oriented.now h c.plane-plane.ensures.plane)
          c.as_slice-points.ensures.value c.in_ok-listed.ensures.exactly.ordered c.in_ok-listed.ensures.frame c.in_ok-carriers.ensures.carriers,
    )

pub returns : goal.returns
returns g c =
    let h = c.plane-plane.result in let f = given_form c.args.oriented.now in
    record {
      shows = IfOk-weaker c.complex_by_jobs.result _ _ (λ d shown. shown (Set.half f c.args.closed)
          (half-worked f c.args.closed h c.args.whole.now c.in_ok-carriers.carriers c.in_ok-listed.listed.items c.as_slice-points.result.now c.requires.whole (given-plane c.args.oriented.now h c.plane-plane.ensures.plane)
          c.as_slice-points.ensures.value c.in_ok-listed.ensures.exactly.ordered c.in_ok-listed.ensures.frame c.in_ok-carriers.ensures.carriers)) c.complex_by_jobs.ensures.shows;
    }
