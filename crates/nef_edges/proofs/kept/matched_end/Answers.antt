use Rattle.nef_edges.proofs.kept.matched_end.Goals as goal

pub returns-then-are_matched : goal.returns-then-are_matched
returns-then-are_matched c = record { leads = c.are_matched.ensures.matched c.if-are_matched.true c.args.vertices.now c.in_ok-high.ensures.end }
