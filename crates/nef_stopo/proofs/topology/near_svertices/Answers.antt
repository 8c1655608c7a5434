use Rattle.nef_stopo.proofs.Prelude.{List, [], ◌∷◌, ◌++◌, take, map, arith, ◌∙◌, gather, option_labels, svertex_labels, SVertex, svertex_of}
use Rattle.nef_stopo.proofs.Labels.{gather-parts, nearby-nil, nearby-more, nearby-all}
use Rattle.nef_stopo.proofs.topology.near_svertices.Goals as goal

pub loop-svertex-preserved : goal.loop-svertex-preserved
loop-svertex-preserved c =
    let xs = c.args.svertices.now in let i = c.loop-svertex.svertex-index in let x = c.svertex-item.result in
    nearby-more (λ (vs : List SVertex). gather svertex_labels (map svertex_of vs)) (gather-parts svertex_labels svertex_of) xs i x c.and-near.result (omega (arith, c.loop-svertex-test.true)) c.svertex-item.is
    (c.and-near.ensures (gather svertex_labels (map svertex_of (take i xs))) (gather svertex_labels (svertex_of x ∷ [])) c.loop-svertex.invariant (c.and.ensures (x.mark ∷ []) (option_labels x.around ++ []) c.of.ensures (c.near_option.ensures ∙ nearby-nil (option_labels x.around))))

pub returns : goal.returns
returns c = nearby-all (λ (vs : List SVertex). gather svertex_labels (map svertex_of vs)) (gather-parts svertex_labels svertex_of) c.args.svertices.now c.loop-svertex.svertex-index c.loop-svertex.near (omega (arith, c.loop-svertex-test.false)) c.loop-svertex.invariant
