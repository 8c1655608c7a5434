use Rattle.nef_stopo.proofs.Prelude.{List, [], ◌∷◌, take, map, arith, gather, arc_labels, SArc, arc_of}
use Rattle.nef_stopo.proofs.Labels.{gather-parts, nearby-more, nearby-all}
use Rattle.nef_stopo.proofs.topology.near_arcs.Goals as goal

pub loop-arc-preserved : goal.loop-arc-preserved
loop-arc-preserved c =
    let xs = c.args.arcs.now in let i = c.loop-arc.arc-index in let x = c.arc-item.result in
    nearby-more (λ (rs : List SArc). gather arc_labels (map arc_of rs)) (gather-parts arc_labels arc_of) xs i x c.and-near.result (omega (arith, c.loop-arc-test.true)) c.arc-item.is
    (c.and-near.ensures (gather arc_labels (map arc_of (take i xs))) (gather arc_labels (arc_of x ∷ [])) c.loop-arc.invariant c.near_item.ensures)

pub returns : goal.returns
returns c = nearby-all (λ (rs : List SArc). gather arc_labels (map arc_of rs)) (gather-parts arc_labels arc_of) c.args.arcs.now c.loop-arc.arc-index c.loop-arc.near (omega (arith, c.loop-arc-test.false)) c.loop-arc.invariant
