use Rattle.nef_turn.proofs.Prelude.{◌≡◌, length, AreNewNumbers}
use Rattle.nef_turn.proofs.maps.new_numbers.Given as goal

abbrev pub invariant-loop-new : goal.invariant-loop-new
invariant-loop-new l = record { count : length l.numbers.items ≡ length l.svertices; numbers : AreNewNumbers l.new l.svertices l.numbers.items }
