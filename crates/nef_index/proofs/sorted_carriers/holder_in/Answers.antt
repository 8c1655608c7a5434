use Rattle.nef_index.proofs.Prelude.{arith, rules, length, refl, always_returns_same, slice_get_read, IsBinarySearchResult, point_of}
use Rattle.nef_index.proofs.Parallel.{side_order, run_of, found-alone, missed-alone, found-in-run, missed-in-run}
use Rattle.nef_index.proofs.sorted_carriers.holder_in.Goals as goal

pub returns-then-past-first-eq1-clause-holder : goal.returns-then-past-first-eq1-clause-holder
returns-then-past-first-eq1-clause-holder c =
    let hs = c.args.carriers.now in
    let h = c.index-carriers-first.result in
    let one = c.if-past-first-eq1.true in
    let R = c.requires.run in let o = R.ordered in let w = R.within in
    found-alone hs c.args.first c.args.past (point_of c.args.point.now) c.requires.ordered R h c.holds.result c.then_some.result
    (slice_get_read hs (length hs) c.args.first h refl (omega arith) c.index-carriers-first.is) (omega arith) c.holds.ensures.holds.0 c.then_some.ensures

pub returns-then-past-first-eq1-clause-none : goal.returns-then-past-first-eq1-clause-none
returns-then-past-first-eq1-clause-none c z =
    let hs = c.args.carriers.now in
    let h = c.index-carriers-first.result in
    let one = c.if-past-first-eq1.true in
    let R = c.requires.run in let o = R.ordered in let w = R.within in
    missed-alone hs c.args.first c.args.past (point_of c.args.point.now) c.requires.ordered R h c.holds.result c.then_some.result
    (slice_get_read hs (length hs) c.args.first h refl (omega arith) c.index-carriers-first.is) (omega arith) c.holds.ensures.holds.1 c.then_some.ensures z

-- the closure answers by the point's side of a plane, so the search does
searched : (c : goal.After-map) → IsBinarySearchResult (side_order (point_of c.args.point.now)) (run_of c.args.carriers.now c.args.first c.args.past) c.binary_search_by.result
searched c = c.binary_search_by.ensures.position (side_order (point_of c.args.point.now)) (always_returns_same _ _ _ (λ a r f' k. search rules))

pub returns-clause-holder : goal.returns-clause-holder
returns-clause-holder c =
    let found = found-in-run c.args.carriers.now c.args.first c.args.past (point_of c.args.point.now) c.requires.ordered c.requires.run c.binary_search_by.result c.binary_search_by.ensures.bound (searched c) in
    search (rules, found)

pub returns-clause-none : goal.returns-clause-none
returns-clause-none c z =
    missed-in-run c.args.carriers.now c.args.first c.args.past (point_of c.args.point.now) c.requires.ordered c.requires.run c.binary_search_by.result c.binary_search_by.ensures.bound (searched c) (search rules)
