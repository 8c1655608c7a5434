use Rattle.nef_spair.proofs.Prelude.{rules, answers_always}
use Rattle.nef_spair.proofs.ArcOrder.{arc_lt, weak, lt-same, ordered}
use Rattle.nef_spair.proofs.making.sort_arcs.Goals as goal

pub returns-clause-ordered : goal.returns-clause-ordered
returns-clause-ordered c =
    ordered c.args.arcs.now.items c.sort_unstable_by.new.self.items c.sort_unstable_by.ensures.permutation c.requires.apart
    (c.sort_unstable_by.ensures.sorted arc_lt weak (answers_always _ _ _ (λ f a r g h. search (rules, lt-same))))
