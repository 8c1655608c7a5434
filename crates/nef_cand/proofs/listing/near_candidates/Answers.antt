use Rattle.nef_cand.proofs.Prelude.{IfOk-weaker}
use Rattle.nef_cand.proofs.NearCuts.{near-listed, listed-carriers}
use Rattle.nef_cand.proofs.listing.near_candidates.Goals as goal

pub near_cuts-requires-clause-near : goal.near_cuts-requires-clause-near
near_cuts-requires-clause-near c = listed-carriers c.args.b.now _ c.in_ok-of_b.of_b.items c.as_slice.result.now c.as_slice.ensures.value c.in_ok-of_b.ensures.carriers

pub near_cuts-requires-2-clause-near : goal.near_cuts-requires-2-clause-near
near_cuts-requires-2-clause-near c = listed-carriers c.args.a.now _ c.in_ok-of_a.of_a.items c.as_slice-2.result.now c.as_slice-2.ensures.value c.in_ok-of_a.ensures.carriers

pub returns : goal.returns
returns c =
    let S = c.requires.first in let T = c.requires.second in
    record {
      lists = IfOk-weaker c.together.result _ _ (λ v. near-listed S.0 T.0 c.args.a.now c.args.b.now S.1 T.1
          c.in_ok-of_b.of_b.items c.as_slice.result.now c.in_ok-of_a.of_a.items c.as_slice-2.result.now c.as_slice.ensures.value c.as_slice-2.ensures.value c.in_ok-of_b.ensures.carriers c.in_ok-of_a.ensures.carriers
          c.in_ok-inside_a.inside_a.items c.as_slice-3.result.now c.in_ok-inside_b.inside_b.items c.as_slice-4.result.now v.items c.as_slice-3.ensures.value c.as_slice-4.ensures.value c.in_ok-inside_a.ensures.cuts c.in_ok-inside_b.ensures.cuts)
          c.together.ensures.together;
    }
