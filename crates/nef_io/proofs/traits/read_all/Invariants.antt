use Rattle.nef_io.proofs.Prelude.{◌≡◌, ◌-◌, ◌≤◌, vec_len}
use Rattle.std.specs.Io.KnownBytes.{Consumes}
use Rattle.nef_io.proofs.traits.read_all.Given as goal

abbrev pub invariant-loop-buf : goal.invariant-loop-buf
invariant-loop-buf g l = record {
  count : g.S.Source.faults l.fn.source ≤ g.S.Source.faults l.source;
  quiet : g.S.Source.faults l.source ≡ g.S.Source.faults l.fn.source;
  bytes : Consumes (g.S.Source.rest l.fn.source) (g.S.Source.rest l.source) l.all.items;
  most : vec_len l.all ≤ 1048577;
}

abbrev pub decreases-loop-buf : goal.decreases-loop-buf
decreases-loop-buf g l = 1048577 - vec_len l.all
