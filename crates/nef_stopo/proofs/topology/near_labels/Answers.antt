use Rattle.nef_stopo.proofs.Prelude.{◌<◌, List, [], ◌∷◌, length, get_or, take, arith, refl, get_or_default, Label, Out}
use Rattle.nef_stopo.proofs.Labels.{nearby-more, nearby-all}
use Rattle.nef_stopo.proofs.topology.near_labels.Goals as goal

pub loop-label-preserved : goal.loop-label-preserved
loop-label-preserved c =
    let xs = c.args.labels.now in let i = c.loop-label.label-index in let x = get_or xs i Out in
    let within : i < length xs = c.loop-label-test.true in
    nearby-more (λ (ls : List Label). ls) (λ xs ys. refl) xs i x c.and-near.result within (get_or_default xs i Out x within)
    (c.and-near.ensures (take i xs) (x ∷ []) c.loop-label.invariant c.of.ensures)

pub returns : goal.returns
returns c = nearby-all (λ (ls : List Label). ls) (λ xs ys. refl) c.args.labels.now c.loop-label.label-index c.loop-label.near (omega (arith, c.loop-label-test.false)) c.loop-label.invariant
