use Rattle.std.specs.Prelude.{length, drop}
use Rattle.nef_index.proofs.Prelude.{point_of, IsHolder, AreNumbersWith, AreRunsTo}
use Rattle.nef_index.proofs.Numbered.{Before}
use Rattle.nef_index.proofs.sorted_carriers.SortedCarriers.holders.Given as goal

abbrev pub invariant-loop-past : goal.invariant-loop-past
invariant-loop-past l = record {
  runs : AreRunsTo l.self-inside.planes l.first (drop l.past-index l.self-inside.ends.items) (length l.self-inside.planes);
  numbers : AreNumbersWith (Before (IsHolder l.self-inside.planes (point_of l.point) (point_of l.point)) l.first) l.numbers.items;
}
