use Rattle.nef_expr.proofs.Prelude.{◌≡◌, [], length, point_of, sets_after, TellsEach}
use Rattle.nef_expr.proofs.plain.plain_has.Given as goal

abbrev pub invariant-loop-i : goal.invariant-loop-i
invariant-loop-i l = record {
  count : length l.holding.items ≡ l.i;
  told : TellsEach l.holding.items (sets_after [] l.nodes) (point_of l.p);
}
