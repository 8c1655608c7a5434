use Rattle.nef_volumes.proofs.Prelude.{◌≡◌, length, AreShellsOf}
use Rattle.nef_volumes.proofs.numbers.volume_shells.Given as goal

abbrev pub invariant-loop-sides : goal.invariant-loop-sides
invariant-loop-sides l = record { as_many : length l.shells.items ≡ l.count; held : AreShellsOf l.volume_of l.yielded l.shells.items }
