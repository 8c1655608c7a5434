use Rattle.nef_volumes.proofs.Prelude.{◌≡◌, ℕ, suc, ◌+◌, ◌-◌, arith, subst, IsInTable}
use Rattle.nef_volumes.proofs.Gathering.{next-number, gathered-more, gathered-row}
use Rattle.nef_volumes.proofs.numbers.add_vertex.Goals as goal

pub overflow_sub-number : goal.overflow_sub-number
overflow_sub-number c =
    let l = c.requires.names.positive c.args.vertex c.loop-side.side c.at-number.result.now (c.at-row.result.now, c.at-row.ensures.element, c.at-number.ensures.element) in
    omega arith

pub add_side-requires : goal.add_side-requires
add_side-requires c =
    let rows = c.args.rows.now in
    let i = c.args.vertex in
    let k = c.loop-side.side in
    let m = c.at-number.result.now in
    let t : IsInTable rows (i + 1) k m = (c.at-row.result.now, c.at-row.ensures.element, c.at-number.ensures.element) in
    let l = c.requires.names.positive i k m t in
    let e : m ≡ suc (m - 1) = omega (arith, l) in
    record { next = next-number rows c.requires.names i k c.loop-side.lists.items c.loop-side.invariant (m - 1) (subst (λ (j : ℕ). IsInTable rows (i + 1) k j) e t) }

pub loop-side-preserved : goal.loop-side-preserved
loop-side-preserved c =
    let rows = c.args.rows.now in
    let i = c.args.vertex in
    let k = c.loop-side.side in
    let m = c.at-number.result.now in
    let t : IsInTable rows (i + 1) k m = (c.at-row.result.now, c.at-row.ensures.element, c.at-number.ensures.element) in
    let l = c.requires.names.positive i k m t in
    let e : m ≡ suc (m - 1) = omega (arith, l) in
    gathered-more rows c.requires.names i k c.loop-side.lists.items c.loop-side.invariant (m - 1) (subst (λ (j : ℕ). IsInTable rows (i + 1) k j) e t) c.add_side.new.lists.items c.in_ok-add_side.ensures.added

pub returns : goal.returns
returns c =
    record {
      gathered = gathered-row c.args.rows.now c.args.vertex c.loop-side.side c.at-row.result.now c.loop-side.lists.items c.at-row.ensures.element
          (let t = c.loop-side-test.false in let n = c.len-side-end.ensures.len in omega arith) c.loop-side.invariant;
    }
