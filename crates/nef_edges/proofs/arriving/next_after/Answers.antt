use Rattle.nef_edges.proofs.Prelude.{rules, ◌<◌, length, is_le, IsPartitionPoint-from_clause, EdgeEnd, end_order}
use Rattle.nef_edges.proofs.Next.{parted, none-before, all-from, all-after, next-within, next-is}
use Rattle.nef_edges.proofs.arriving.next_after.Goals as goal
use Rattle.nef_space.proofs.Lists.{is-at_read, is-at_within}

-- ---- the guess
pub bounds-ends-guess : goal.bounds-ends-guess
bounds-ends-guess c = let h = c.is_after.ensures.after c.if-is_after.true in is-at_within c.args.ends.now c.guess_up_to-guess.result h.0 h.1

pub offset_bounds-ends-guess : goal.offset_bounds-ends-guess
offset_bounds-ends-guess c =
    let h = c.is_after.ensures.after c.if-is_after.true in
    let l : c.guess_up_to-guess.result < length c.args.ends.now = is-at_within c.args.ends.now c.guess_up_to-guess.result h.0 h.1 in
    search rules

pub returns-then-is_up_to : goal.returns-then-is_up_to
returns-then-is_up_to c =
    let hs = c.args.ends.now in let f = c.args.from.now in let p = c.guess_up_to-guess.result in let e = c.index-ends-guess.result in
    let h = c.is_after.ensures.after c.if-is_after.true in
    let all = all-after hs c.requires.sorted f p h.0 h.1 h.2 in
    record { next = next-is hs c.requires.sorted f p (c.is_up_to.ensures.before c.if-is_up_to.true) all e (is-at_read hs p e (is-at_within hs p h.0 h.1) c.index-ends-guess.is) }

-- ---- by halving
pub bounds-ends-count : goal.bounds-ends-count
bounds-ends-count c =
    let hs = c.args.ends.now in let f = c.args.from.now in let p = c.partition_point-count.result in
    let point = IsPartitionPoint-from_clause (λ (h : EdgeEnd). is_le (end_order h f)) hs p c.partition_point-count.ensures.partitioned (parted hs c.requires.sorted f) (λ x r f' q. search rules) in
    let some = c.requires.some in
    next-within hs c.requires.sorted f p (none-before hs c.requires.sorted f p point) (all-from hs c.requires.sorted f p point) some.0 some.1 some.2 some.3

pub offset_bounds-ends-count : goal.offset_bounds-ends-count
offset_bounds-ends-count c =
    let hs = c.args.ends.now in let f = c.args.from.now in let p = c.partition_point-count.result in
    let point = IsPartitionPoint-from_clause (λ (h : EdgeEnd). is_le (end_order h f)) hs p c.partition_point-count.ensures.partitioned (parted hs c.requires.sorted f) (λ x r f' q. search rules) in
    let some = c.requires.some in
    let l : p < length hs = next-within hs c.requires.sorted f p (none-before hs c.requires.sorted f p point) (all-from hs c.requires.sorted f p point) some.0 some.1 some.2 some.3 in
    search rules

pub returns : goal.returns
returns c =
    let hs = c.args.ends.now in let f = c.args.from.now in let p = c.partition_point-count.result in let h = c.index-ends-count.result in
    let point = IsPartitionPoint-from_clause (λ (h : EdgeEnd). is_le (end_order h f)) hs p c.partition_point-count.ensures.partitioned (parted hs c.requires.sorted f) (λ x r f' q. search rules) in
    let none = none-before hs c.requires.sorted f p point in let all = all-from hs c.requires.sorted f p point in
    let some = c.requires.some in
    let l = next-within hs c.requires.sorted f p none all some.0 some.1 some.2 some.3 in
    record { next = next-is hs c.requires.sorted f p none all h (is-at_read hs p h l c.index-ends-count.is) }
