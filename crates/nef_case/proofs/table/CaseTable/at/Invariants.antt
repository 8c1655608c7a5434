use Rattle.nef_case.proofs.Prelude.{◌≡◌, ◌^◌, ◌<◌, take, row_of}
use Rattle.nef_case.proofs.table.CaseTable.at.Given as goal

abbrev pub invariant-loop-sign : goal.invariant-loop-sign
invariant-loop-sign g l = record {
  row_is : l.row ≡ row_of (take l.sign-index l.key);
  row_below : l.row < 3 ^ l.sign-index;
}
