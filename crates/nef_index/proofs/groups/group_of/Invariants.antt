use Rattle.nef_index.proofs.Grouped.{IsGroupTo}
use Rattle.nef_index.proofs.groups.group_of.Given as goal

abbrev pub invariant-loop-key : goal.invariant-loop-key
invariant-loop-key l = record { group : IsGroupTo l.spans l.keyed l._key-index (record { span = l.span; carriers = l.carriers }) }
