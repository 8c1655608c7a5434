use Rattle.nef_plan.proofs.Prelude.{◌≡◌, ◌<◌, ◌≤◌, ◌⊎◌, ℕ, [], length, arith, inl, inr, ⊎_elim, slice_set, Bound, Made, Deferred, IsBoundIn, IsFree, IsRowOf}
use Rattle.nef_plan.specs.declared.row.TheConstants.{MOST_PARTS}
use Rattle.nef_plan.proofs.Added.{added-wider, free-grown}
use Rattle.nef_plan.proofs.Bounds.{on-set, on-trans, bound-before, bound-here, set-grown, unbound-free}
use Rattle.nef_plan.proofs.planner.bind_row.Goals as goal
use Rattle.nef_plan.proofs.planner.bind_row.Goals.{In_ok-row}

-- the row makes the node's set
row-here : (c : In_ok-row) → IsRowOf c.row_of.new.plan c.in_ok-row.row c.args.node
row-here c =
    let now = c.in_ok-row.ensures in
    let need = c.requires in
    let more = now.goes_on.grown.nodes.as_many in
    now.row c.args.node (omega (arith, need.within, more))
    (set-grown c.args.plan.now c.row_of.new.plan [] c.args.bounds.now c.args.kind c.args.first c.args.second c.args.node now.goes_on.grown need.planned need.first need.second need.within need.set)

-- and the node has a place
place-here : (c : In_ok-row) → c.args.node < length c.row_of.new.bounds
place-here c = omega (arith, c.requires.node, c.row_of.auto.bounds)

-- which nothing makes so far
free-here : (c : In_ok-row) → IsFree c.row_of.new.plan c.args.node
free-here c =
    let now = c.in_ok-row.ensures in
    unbound-free c.row_of.new.plan c.row_of.new.bounds c.args.node now.goes_on.planned (place-here c) (λ is. c.requires.unbound (now.only c.args.node is))

pub join_parts-requires-clause-ready : goal.join_parts-requires-clause-ready
join_parts-requires-clause-ready c = (row-here (goal.at.join_parts-requires-clause-ready c).In_ok-row).ready

pub finish-requires-clause-row : goal.finish-requires-clause-row
finish-requires-clause-row c = row-here (goal.at.finish-requires-clause-row c).In_ok-row

pub finish-requires-clause-free : goal.finish-requires-clause-free
finish-requires-clause-free c = free-here (goal.at.finish-requires-clause-free c).In_ok-row

pub returns-in_ok-join_parts-in-GoesOn-clause-goes_on : goal.returns-in_ok-join_parts-in-GoesOn-clause-goes_on
returns-in_ok-join_parts-in-GoesOn-clause-goes_on c =
    let at = (goal.at.returns-in_ok-join_parts-in-GoesOn-clause-goes_on c).In_ok-row in
    let now = c.in_ok-join_parts-in-GoesOn.ensures in
    let middle = c.row_of.new in
    let few : length c.join_parts.new.row.others.items ≤ MOST_PARTS = let most = now.few in let least = c.min.ensures in omega (arith, most, least) in
    on-trans c.args.plan.now middle.plan c.join_parts.new.plan c.args.bounds.now middle.bounds _ [] [] c.in_ok-row.ensures.goes_on
    (on-set middle.plan c.join_parts.new.plan [] middle.bounds c.args.node (Deferred c.join_parts.new.row) c.in_ok-row.ensures.goes_on.planned now.grown (place-here at) tt (free-grown middle.plan c.join_parts.new.plan [] (λ k. ⊥) c.args.node now.grown now.added (λ none. none) (free-here at), now.row c.args.node (row-here at), few) (added-wider middle.plan c.join_parts.new.plan (λ k. ⊥) (λ k. k ≡ c.args.node) (λ k none. absurd none) now.added))

pub returns-in_ok-join_parts-in-GoesOn-clause-bound : goal.returns-in_ok-join_parts-in-GoesOn-clause-bound
returns-in_ok-join_parts-in-GoesOn-clause-bound c = bound-here c.row_of.new.bounds c.args.node (Deferred c.join_parts.new.row) (place-here (goal.at.returns-in_ok-join_parts-in-GoesOn-clause-bound c).In_ok-row) tt

pub returns-in_ok-finish-in-Made-clause-goes_on : goal.returns-in_ok-finish-in-Made-clause-goes_on
returns-in_ok-finish-in-Made-clause-goes_on c =
    let at = (goal.at.returns-in_ok-finish-in-Made-clause-goes_on c).In_ok-row in
    let now = c.in_ok-finish-in-Made.ensures in
    let middle = c.row_of.new in
    on-trans c.args.plan.now middle.plan c.finish.new.plan c.args.bounds.now middle.bounds _ [] [] c.in_ok-row.ensures.goes_on
    (on-set middle.plan c.finish.new.plan [] middle.bounds c.args.node Made c.in_ok-row.ensures.goes_on.planned now.grown (place-here at) tt now.ready now.added)

pub returns-in_ok-finish-in-Made-clause-bound : goal.returns-in_ok-finish-in-Made-clause-bound
returns-in_ok-finish-in-Made-clause-bound c = bound-here c.row_of.new.bounds c.args.node Made (place-here (goal.at.returns-in_ok-finish-in-Made-clause-bound c).In_ok-row) tt

-- what is bound then was bound, or is the node
bound-or : (c : In_ok-row) (b : Bound) (k : ℕ) → IsBoundIn (slice_set c.row_of.new.bounds c.args.node b) k → IsBoundIn c.args.bounds.now k ⊎ (k ≡ c.args.node)
bound-or c b k is = ⊎_elim (λ before. inl (c.in_ok-row.ensures.only k before)) (λ e. inr e) (bound-before c.row_of.new.bounds c.args.node b k is)

pub returns-in_ok-join_parts-in-GoesOn-clause-only : goal.returns-in_ok-join_parts-in-GoesOn-clause-only
returns-in_ok-join_parts-in-GoesOn-clause-only c k is = bound-or (goal.at.returns-in_ok-join_parts-in-GoesOn-clause-only c).In_ok-row (Deferred c.join_parts.new.row) k is

pub returns-in_ok-finish-in-Made-clause-only : goal.returns-in_ok-finish-in-Made-clause-only
returns-in_ok-finish-in-Made-clause-only c k is = bound-or (goal.at.returns-in_ok-finish-in-Made-clause-only c).In_ok-row Made k is

pub returns-in_ok-join_parts-in-GoesOn-clause-joins : goal.returns-in_ok-join_parts-in-GoesOn-clause-joins
returns-in_ok-join_parts-in-GoesOn-clause-joins c = let row = c.in_ok-row.ensures.joins in let joined = c.in_ok-join_parts-in-GoesOn.ensures.joins in omega (arith, row, joined)

pub returns-in_ok-finish-in-Made-clause-joins : goal.returns-in_ok-finish-in-Made-clause-joins
returns-in_ok-finish-in-Made-clause-joins c = let row = c.in_ok-row.ensures.joins in let joined = c.in_ok-finish-in-Made.ensures.joins in omega (arith, row, joined)
