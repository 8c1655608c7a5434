use Rattle.nef_stopo.proofs.Prelude.{◌≡◌, ◌<◌, ◌≤◌, length, map, get_or, arith, sym, ap, ◌∙◌, exchanged_arc, refilled, arc_of}
use Rattle.nef_stopo.proofs.Written.{written-none, written-more, written-all}
use Rattle.nef_stopo.proofs.Others.{arc-other}
use Rattle.nef_stopo.proofs.operations.exchanged_arcs.Goals as goal

pub loop-arc-init : goal.loop-arc-init
loop-arc-init c = written-none arc_of exchanged_arc c.args.arcs c.deref_mut-arc-items.result.now (c.deref_mut-arc-items.ensures.value ∙ c.into_vec-items.ensures.all)

pub loop-arc-preserved : goal.loop-arc-preserved
loop-arc-preserved c =
    let l = c.loop-arc in
    let h : l.arc-index < length l.arc-items = omega (arith, c.loop-arc-test.true, l.auto.arc-items) in
    written-more arc_of exchanged_arc l.arc-index c.args.arcs l.arc-items _ c.arc-item.result h l.invariant
    (arc-other (get_or l.arc-items l.arc-index c.arc-item.result) c.face_label-arc.result c.face_label-arc-in-loop-arc.result c.face_label-arc-in-loop-arc-2.result c.face_label-arc.ensures.label c.face_label-arc-in-loop-arc.ensures.label c.face_label-arc-in-loop-arc-2.ensures.label)

pub returns : goal.returns
returns c =
    let l = c.loop-arc in
    let past : length l.arc-items ≤ l.arc-index = omega (arith, c.loop-arc-test.false, l.auto.arc-items) in
    let same : c.from_vec.result ≡ l.arc-items = c.from_vec.ensures.all ∙ refilled c.into_vec-items.result.len l.arc-items _ (sym (l.auto.arc-items ∙ c.deref_mut-arc-items.ensures.len)) in
    record { other = ap (map arc_of) same ∙ written-all arc_of exchanged_arc l.arc-index c.args.arcs l.arc-items past l.invariant }
