use Rattle.nef_stopo.proofs.Prelude.{[], ◌∷◌, get_or, ◌∙◌, Out, topology_of, IsRayMarked}
use Rattle.nef_stopo.proofs.Labels.{label-near}
use Rattle.nef_stopo.proofs.Marking.{first-read, more-read}
use Rattle.nef_stopo.proofs.operations.remarked_rays.Goals as goal

pub loop-k-init : goal.loop-k-init
loop-k-init c = first-read (topology_of c.args.topology) c.args.star.now c.requires.star c.new-rays.result.items c.as_slice-sectors.result.now c.new-rays.ensures.items c.as_slice-sectors.ensures.value

pub loop-k-preserved : goal.loop-k-preserved
loop-k-preserved c =
    let k = topology_of c.args.topology in let n = c.loop-k.k in let r = c.ray-item.result in
    let l = c.loop-k.before in let ss = c.as_slice-sectors.result.now in let m = get_or ss n Out in
    let new : IsRayMarked k l m r c.of-marked.result = record {
      normal = c.of-marked.ensures.normal;
      ahead = c.of-marked.ensures.ahead;
      mark = c.of-marked.ensures.mark ∙ label-near k r.mark c.label-mark.result c.and.result (l ∷ m ∷ []) c.label-mark.ensures.label (c.and.ensures (l ∷ []) (m ∷ []) c.of.ensures c.of-in-loop-k.ensures);
    } in
    more-read k c.args.star.now c.requires.star n c.loop-k.rays.items c.push.new.self.items c.as_slice-ray-items.result.now ss r c.of-marked.result l
    c.as_slice-ray-items.ensures.value c.as_slice-sectors.ensures.value c.in_ok-push.ensures.items c.loop-k.invariant c.loop-k-test.true c.ray-item.is new
