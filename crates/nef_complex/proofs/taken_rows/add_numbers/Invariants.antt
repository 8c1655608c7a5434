use Rattle.nef_complex.proofs.Prelude.{AreAdded}
use Rattle.nef_complex.proofs.taken_rows.add_numbers.Given as goal

abbrev pub invariant-loop-place : goal.invariant-loop-place
invariant-loop-place l = AreAdded l.table l.listed l.place-index l.initial.row.items l.row.items
