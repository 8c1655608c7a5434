use Rattle.nef_io.proofs.Prelude.{◌≡◌, ◌-◌, ◌≤◌, take, length, Grows}
use Rattle.nef_io.proofs.traits.put_all.Given as goal

abbrev pub invariant-loop-at : goal.invariant-loop-at
invariant-loop-at g l = record {
  count : g.K.Sink.faults l.fn.sink ≤ g.K.Sink.faults l.sink;
  quiet : g.K.Sink.faults l.sink ≡ g.K.Sink.faults l.fn.sink;
  bytes : Grows (g.K.Sink.written l.fn.sink) (g.K.Sink.written l.sink) (take l.at l.piece);
  within : l.at ≤ length l.piece;
}

abbrev pub decreases-loop-at : goal.decreases-loop-at
decreases-loop-at g l = length l.piece - l.at
