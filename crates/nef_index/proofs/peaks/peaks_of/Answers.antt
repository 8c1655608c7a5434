use Rattle.nef_index.proofs.Prelude.{ℕ, ◌≤◌, List, length, arith, sym, subst, Edge, ArePeaks}
use Rattle.nef_index.proofs.Peaked.{have-none, have-more}
use Rattle.nef_index.proofs.peaks.peaks_of.Goals as goal

pub loop-number-init : goal.loop-number-init
loop-number-init c =
    let e = c.in_ok-table.ensures.empty in
    (subst (λ (t : List (List ℕ)). length t ≤ 0) (sym e) (omega arith), have-none c.args.edges.now c.args.rows.now c.in_ok-table.table e)

pub put_peaks-requires : goal.put_peaks-requires
put_peaks-requires c = record { within = c.requires.within c.loop-number.number c.row.result.now c.row.ensures.row }

pub set_next-requires : goal.set_next-requires
set_next-requires c = record { next = c.loop-number.invariant.0 }

pub loop-number-preserved : goal.loop-number-preserved
loop-number-preserved c =
    let es : List Edge = c.args.edges.now in let rows : List (List ℕ) = c.args.rows.now in let n = c.loop-number.number in
    let ns : List ℕ = c.row.result.now in
    let P = subst (ArePeaks es ns) (sym c.as_slice.ensures.value) c.in_ok-put_peaks.ensures.peaks in
    (c.in_ok-set_next.ensures.len, have-more es rows c.loop-number.table c.set_next.new.self n ns c.as_slice.result.now c.loop-number.invariant.1 c.row.ensures.row P c.in_ok-set_next.ensures.rows)
