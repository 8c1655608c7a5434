use Rattle.nef_edges.proofs.Walked.{part-more}
use Rattle.nef_edges.proofs.loose.part.Goals as goal

pub returns-in_ok-push-3 : goal.returns-in_ok-push-3
returns-in_ok-push-3 c = record { kept = part-more c.args.loose.now.numbers.items _ c.args.k c.in_ok-push.ensures.items }
