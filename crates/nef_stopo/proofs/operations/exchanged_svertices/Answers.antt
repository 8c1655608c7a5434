use Rattle.nef_stopo.proofs.Prelude.{◌≡◌, ◌<◌, ◌≤◌, length, map, get_or, arith, sym, ap, ◌∙◌, exchanged_svertex, refilled, svertex_of}
use Rattle.nef_stopo.proofs.Written.{written-none, written-more, written-all}
use Rattle.nef_stopo.proofs.Others.{svertex-other}
use Rattle.nef_stopo.proofs.operations.exchanged_svertices.Goals as goal

pub loop-svertex-init : goal.loop-svertex-init
loop-svertex-init c = written-none svertex_of exchanged_svertex c.args.svertices c.deref_mut-svertex-items.result.now (c.deref_mut-svertex-items.ensures.value ∙ c.into_vec-items.ensures.all)

pub loop-svertex-preserved : goal.loop-svertex-preserved
loop-svertex-preserved c =
    let l = c.loop-svertex in
    let h : l.svertex-index < length l.svertex-items = omega (arith, c.loop-svertex-test.true, l.auto.svertex-items) in
    written-more svertex_of exchanged_svertex l.svertex-index c.args.svertices l.svertex-items _ c.svertex-item.result h l.invariant
    (svertex-other (get_or l.svertex-items l.svertex-index c.svertex-item.result) c.face_label-svertex.result c.ground-svertex.result c.face_label-svertex.ensures.label c.ground-svertex.ensures.ground)

pub returns : goal.returns
returns c =
    let l = c.loop-svertex in
    let past : length l.svertex-items ≤ l.svertex-index = omega (arith, c.loop-svertex-test.false, l.auto.svertex-items) in
    let same : c.from_vec.result ≡ l.svertex-items = c.from_vec.ensures.all ∙ refilled c.into_vec-items.result.len l.svertex-items _ (sym (l.auto.svertex-items ∙ c.deref_mut-svertex-items.ensures.len)) in
    record { other = ap (map svertex_of) same ∙ written-all svertex_of exchanged_svertex l.svertex-index c.args.svertices l.svertex-items past l.invariant }
