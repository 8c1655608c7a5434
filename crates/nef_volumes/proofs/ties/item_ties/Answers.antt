use Rattle.nef_volumes.proofs.Prelude.{List, [], get_or, arith, sym, subst, true, false, Tie, is-at_get, is-at_within, complex_of, Adds, AnyBelow, any-start, any-next, any-all, adds-one, IsSideTie, IsTieOfItems}
use Rattle.nef_volumes.proofs.AllTies.{items-linked}
use Rattle.nef_volumes.proofs.ItemTies.{side_tie-one, both-added, items-tied}
use Rattle.nef_volumes.proofs.ties.item_ties.Goals as goal

pub side_tie-requires-clause-first : goal.side_tie-requires-clause-first
side_tie-requires-clause-first c = (c.requires.within c.loop-tie.tie-index _ (is-at_get c.args.items.now c.loop-tie.tie-index _ c.loop-tie-test.true)).0

pub side_tie-requires-clause-second : goal.side_tie-requires-clause-second
side_tie-requires-clause-second c = (c.requires.within c.loop-tie.tie-index _ (is-at_get c.args.items.now c.loop-tie.tie-index _ c.loop-tie-test.true)).1

pub side_tie-requires-in-loop-tie-clause-first : goal.side_tie-requires-in-loop-tie-clause-first
side_tie-requires-in-loop-tie-clause-first c = (c.requires.within c.loop-tie.tie-index _ (is-at_get c.args.items.now c.loop-tie.tie-index _ c.loop-tie-test.true)).0

pub side_tie-requires-in-loop-tie-clause-second : goal.side_tie-requires-in-loop-tie-clause-second
side_tie-requires-in-loop-tie-clause-second c = (c.requires.within c.loop-tie.tie-index _ (is-at_get c.args.items.now c.loop-tie.tie-index _ c.loop-tie-test.true)).1

pub loop-tie-init : goal.loop-tie-init
loop-tie-init c =
    let C = complex_of c.args.c.now in
    subst (λ (ts : List Tie). Adds (AnyBelow (IsTieOfItems C c.args.items.now) 0) [] ts) (sym c.in_ok-ties.ensures.items) (any-start (IsTieOfItems C c.args.items.now) [])

pub loop-tie-preserved : goal.loop-tie-preserved
loop-tie-preserved c =
    let C = complex_of c.args.c.now in
    let is = c.args.items.now in
    let k = c.loop-tie.tie-index in
    let t : Tie = get_or is k _ in
    let now = c.loop-tie.ties.items in
    let a = c.side_tie.result in
    let b = c.side_tie-in-loop-tie.result in
    let one = c.push.new.self.items in
    let two = c.push-in-loop-tie.new.self.items in
    let p = c.side_tie.ensures.tie in
    let q = c.side_tie-in-loop-tie.ensures.tie in
    any-next (IsTieOfItems C is) k [] now two c.loop-tie.invariant
    (both-added C is k t now one two a b (is-at_get is k _ c.loop-tie-test.true) p q
    (subst (λ (ts : List Tie). Adds (λ u. IsSideTie C true t u) now ts) (sym c.in_ok-push.ensures.items) (adds-one (λ u. IsSideTie C true t u) now a p (λ u s. side_tie-one C true t a u p s)))
    (subst (λ (ts : List Tie). Adds (λ u. IsSideTie C false t u) one ts) (sym c.in_ok-push-2.ensures.items) (adds-one (λ u. IsSideTie C false t u) one b q (λ u s. side_tie-one C false t b u q s))))

pub returns : goal.returns
returns c =
    let C = complex_of c.args.c.now in
    let is = c.args.items.now in
    record {
      ties = items-linked C is c.loop-tie.ties.items c.requires.links (items-tied C is c.requires.within c.loop-tie.ties.items (any-all (IsTieOfItems C is) c.loop-tie.tie-index [] c.loop-tie.ties.items
          (λ k t p. let l = is-at_within is k p.0 p.1 in omega (arith, l, c.loop-tie-test.false)) c.loop-tie.invariant));
    }
