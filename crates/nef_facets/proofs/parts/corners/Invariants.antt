use Rattle.nef_facets.proofs.Prelude.{◌≡◌, length, StandFrom, complex_of}
use Rattle.nef_facets.proofs.CornerLists.{AreCornersTo}
use Rattle.nef_facets.proofs.parts.corners.Given as goal

abbrev pub invariant-loop-number : goal.invariant-loop-number
invariant-loop-number l = record {
  corners : AreCornersTo (complex_of l.c) l.number l.all.items;
  starts : StandFrom l.all.items l.starts.items;
  many : length l.starts.items ≡ l.number;
}
