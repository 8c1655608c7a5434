use Rattle.nef_index.proofs.Prelude.{arith, is-at_within}
use Rattle.nef_index.proofs.making.edges_in_carriers.Goals as goal

pub peaks_of-requires : goal.peaks_of-requires
peaks_of-requires c = record {
  within = λ i ns a j k b.
      let h = (c.in_ok-in_carrier.ensures.transposed i ns a).each j k b in
      let l = is-at_within c.args.at_edge.now k h.0 h.1 in let e = c.requires.as_many in omega (arith, l, e);
}
