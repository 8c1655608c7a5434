use Rattle.nef_index.proofs.Prelude.{chunks_rest, IsInGroup}
use Rattle.nef_index.proofs.Grouped.{AreAllButRest, IsGroupWithin}
use Rattle.nef_index.proofs.groups.cluster_of.Given as goal

abbrev pub invariant-loop-next : goal.invariant-loop-next
invariant-loop-next l = record { taken : AreAllButRest IsInGroup (IsGroupWithin l.spans l.span) l.keyed (chunks_rest l.next-iterator) l.groups }
