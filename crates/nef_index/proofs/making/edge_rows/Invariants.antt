use Rattle.std.specs.Prelude.{length}
use Rattle.nef_index.proofs.Prelude.{AreCommonAlong, rows_of, AreRowEnds}
use Rattle.nef_index.proofs.Numbered.{AreValuesTo}
use Rattle.nef_index.proofs.making.edge_rows.Given as goal

abbrev pub invariant-loop-edge : goal.invariant-loop-edge
invariant-loop-edge l = record { ended : AreRowEnds 0 l.ends.items (length l.numbers.items); rows : AreValuesTo (AreCommonAlong l.at_point) l.edges l.edge-index (rows_of 0 l.ends.items l.numbers.items) }
