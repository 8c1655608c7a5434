use Rattle.nef_complex.proofs.Prelude.{◌≡◌, ℕ, ◌+◌, List, length, get_or, arith, sym, subst, is-at_get, AreAdded}
use Rattle.nef_complex.proofs.Walking.{added-none, added-more}
use Rattle.nef_complex.proofs.taken_rows.add_numbers.Goals as goal

pub loop-place-init : goal.loop-place-init
loop-place-init c = added-none c.args.table.now c.args.listed.now c.args.row.now.items

pub loop-place-preserved : goal.loop-place-preserved
loop-place-preserved c =
    let table : List ℕ = c.args.table.now in
    let listed : List ℕ = c.args.listed.now in
    let old : List ℕ = c.args.row.now.items in
    let n = c.loop-place.place-index in
    let j : ℕ = get_or listed n 0 in
    let here = is-at_get listed n 0 c.loop-place-test.true in
    let m : ℕ = get_or table j 0 in
    let there = is-at_get table j 0 (c.requires.within n j here) in
    subst (λ (xs : List ℕ). AreAdded table listed (n + 1) old xs) (sym c.in_ok-push.ensures.items) (added-more table listed n j m old c.loop-place.row.items here there c.loop-place.invariant)

pub returns : goal.returns
returns c =
    let all : c.loop-place.place-index ≡ length c.args.listed.now = let f = c.loop-place-test.false in let e = c.loop-place.auto in omega arith in
    record { added = subst (λ (n : ℕ). AreAdded c.args.table.now c.args.listed.now n c.args.row.now.items c.loop-place.row.items) all c.loop-place.invariant }
