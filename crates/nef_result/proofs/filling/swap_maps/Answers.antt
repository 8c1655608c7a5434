use Rattle.nef_result.proofs.Prelude.{is-at_one}
use Rattle.nef_result.proofs.Filled.{swapped-here, set-other}
use Rattle.nef_result.proofs.filling.swap_maps.Goals as goal
use Rattle.nef_space.proofs.Lists.{is-at_read}

pub returns-clause-swapped : goal.returns-clause-swapped
returns-clause-swapped c = λ v w a b.
    let us = c.args.vertices.now.items in let ws = c.args.others.now.items in let x = c.index_mut.result.now in let y = c.index_mut-2.result.now in
    swapped-here us c.args.number v w x y _ a
    (is-at_one us c.args.number x v (is-at_read us c.args.number x c.requires.within c.index_mut.ensures.value) a)
    (is-at_one ws c.args.from y w (is-at_read ws c.args.from y c.requires.from_within c.index_mut-2.ensures.value) b) c.swap.ensures.x_after

pub returns-clause-rest : goal.returns-clause-rest
returns-clause-rest c = λ k v n a. set-other c.args.vertices.now.items c.args.number _ k v n a

pub returns-clause-others : goal.returns-clause-others
returns-clause-others c = λ k v n a. set-other c.args.others.now.items c.args.from _ k v n a
