use Rattle.nef_sched.proofs.Steps.{puts_item, sees, never_full}
use Rattle.nef_sched.proofs.round.put_item.Goals as goal

pub push_as-requires-clause-rule : goal.push_as-requires-clause-rule
push_as-requires-clause-rule g c = let w = c.requires.whole in (puts_item _ _ w.0 w.1 _ _ w.2 w.4, sees _ _)

pub unreachable-requires : goal.unreachable-requires
unreachable-requires g c = let w = c.requires.whole in never_full w.0 w.1 _ _ w.2 w.3 c.in_default.ensures.rule.2
