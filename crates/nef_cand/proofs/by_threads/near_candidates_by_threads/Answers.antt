use Rattle.nef_cand.proofs.Prelude.{IfOk-weaker}
use Rattle.nef_cand.proofs.NearCuts.{near-listed, listed-carriers}
use Rattle.nef_cand.proofs.by_threads.near_candidates_by_threads.Goals as goal

pub cuts_by_four-requires-clause-of_a : goal.cuts_by_four-requires-clause-of_a
cuts_by_four-requires-clause-of_a g c κs within = listed-carriers c.args.a.now _ c.in_ok-of_a.of_a.items c.as_slice.result.now c.as_slice.ensures.value c.in_ok-of_a.ensures.carriers

pub cuts_by_four-requires-clause-of_b : goal.cuts_by_four-requires-clause-of_b
cuts_by_four-requires-clause-of_b g c κs within = listed-carriers c.args.b.now _ c.in_ok-of_b.of_b.items c.as_slice-2.result.now c.as_slice-2.ensures.value c.in_ok-of_b.ensures.carriers

pub returns : goal.returns
returns g c =
    let S = c.requires.first in let T = c.requires.second in
    record {
      lists = IfOk-weaker c.together.result _ _ (λ v. near-listed S.0 T.0 c.args.a.now c.args.b.now S.1 T.1
          c.in_ok-of_b.of_b.items c.as_slice-2.result.now c.in_ok-of_a.of_a.items c.as_slice.result.now c.as_slice-2.ensures.value c.as_slice.ensures.value c.in_ok-of_b.ensures.carriers c.in_ok-of_a.ensures.carriers
          c.in_ok-inside_a.inside_a.items c.as_slice-3.result.now c.in_ok-inside_a.inside_b.items c.as_slice-4.result.now v.items c.as_slice-3.ensures.value c.as_slice-4.ensures.value c.in_ok-inside_a.ensures.inside_a c.in_ok-inside_a.ensures.inside_b)
          c.together.ensures.together;
    }
