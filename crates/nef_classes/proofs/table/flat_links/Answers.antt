use Rattle.nef_classes.proofs.Prelude.{List, map, arith, subst, ap, ◌∙◌, take_all, IsAt, Link, Tie, flat_tie}
use Rattle.nef_space.proofs.Lists.{is-at_get, is-at_map}
use Rattle.nef_classes.proofs.Places.{cell-within}
use Rattle.nef_classes.proofs.table.flat_links.Goals as goal

pub place_of-requires-in-loop-tie-clause-within : goal.place_of-requires-in-loop-tie-clause-within
place_of-requires-in-loop-tie-clause-within c = (c.requires.within c.loop-tie.tie-index _ (is-at_get c.args.ties.now c.loop-tie.tie-index _ c.loop-tie-test.true)).1

pub returns-clause-within : goal.returns-clause-within
returns-clause-within c = λ k l a.
    let counts = c.args.counts.now in
    let e = c.loop-tie.invariant ∙ ap (map (flat_tie counts)) (take_all c.loop-tie.tie-index c.args.ties.now (let h = c.loop-tie-test.false in omega arith)) in
    let r = is-at_map (flat_tie counts) c.args.ties.now k l (subst (λ (ls : List Link). IsAt ls k l) e a) in
    let t : Tie = r.0 in
    let w = c.requires.within k t (r.1) in
    let f = cell-within counts t.first (w.0) in
    let g = cell-within counts t.second (w.1) in
    let p = ap (λ (l : Link). l.first) (r.2) in
    let q = ap (λ (l : Link). l.second) (r.2) in
    (omega arith, omega arith)
