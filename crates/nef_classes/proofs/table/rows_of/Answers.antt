use Rattle.nef_classes.proofs.Prelude.{rules, ◌≡◌, ◌+◌, ◌-◌, ◌≤◌, ◌∷◌, [], ◌++◌, ℕ, List, length, take, drop, arith, get_or, subst, ap, sym, ◌∙◌, take_all, IsAt, cell_total, HasCounts, AreCut}
use Rattle.nef_classes.proofs.ClassLists.{take-more}
use Rattle.nef_space.proofs.Lists.{is-at_get}
use Rattle.nef_classes.proofs.Cutting.{more-cut, more-counts, total-append, total-take}
use Rattle.nef_classes.proofs.table.rows_of.Goals as goal

pub slice_bounds-from_slice-end : goal.slice_bounds-from_slice-end
slice_bounds-from_slice-end c =
    let counts = c.args.counts.now in let i = c.loop-count.count-index in
    let h = total-take counts i (get_or counts i 0) (is-at_get counts i 0 c.loop-count-test.true) in
    let s = c.loop-count.invariant.0 in
    let e = c.requires.all in
    omega arith

pub offset_bounds-numbers-start : goal.offset_bounds-numbers-start
offset_bounds-numbers-start c =
    let counts = c.args.counts.now in let i = c.loop-count.count-index in
    let h = total-take counts i (get_or counts i 0) (is-at_get counts i 0 c.loop-count-test.true) in
    let s = c.loop-count.invariant.0 in
    let e = c.requires.all in
    let l : c.loop-count.start ≤ length c.args.numbers.now = omega arith in
    search rules

pub overflow_add-end : goal.overflow_add-end
overflow_add-end c =
    let counts = c.args.counts.now in let i = c.loop-count.count-index in
    let h = total-take counts i (get_or counts i 0) (is-at_get counts i 0 c.loop-count-test.true) in
    let s = c.loop-count.invariant.0 in
    let e = c.requires.all in
    let n = c.type_inv.numbers in
    omega arith

pub loop-count-preserved : goal.loop-count-preserved
loop-count-preserved c =
    let counts = c.args.counts.now in let i = c.loop-count.count-index in
    let ns = c.args.numbers.now in
    let x = get_or counts i 0 in
    let I = c.loop-count.invariant in
    let more = take-more counts i 0 c.loop-count-test.true in
    let t = total-append (take i counts) x in
    let e = ap cell_total more in
    let h = total-take counts i x (is-at_get counts i 0 c.loop-count-test.true) in
    let s = I.0 in
    let all = c.requires.all in
    let begin = c.loop-count.start in
    let filled : c.in_ok-row.row.items ≡ take ((begin + x) - begin) (drop begin ns) = search rules in
    let long : (begin + x) - begin ≡ x = omega arith in
    let row : c.from_vec.result ≡ take x (drop begin ns) = c.from_vec.ensures.all ∙ filled ∙ ap (λ (n : ℕ). take n (drop begin ns)) long in
    let pushed = c.in_ok-push.ensures.ok in
    let start : List (List ℕ) = c.loop-count.rows in
    let cut = more-cut (take i counts) ns start x (I.1) (I.2) in
    let shape = more-counts (take i counts) ns start x (omega arith) (I.1) in
    let made : List ℕ = take x (drop (cell_total (take i counts)) ns) in
    let same : c.push.new.self ≡ start ++ made ∷ [] = pushed ∙ ap (λ (r : List ℕ). start ++ r ∷ []) (row ∙ ap (λ (n : ℕ). take x (drop n ns)) s) in (
      omega arith,
      subst (λ (rs : List (List ℕ)). HasCounts (take (i + 1) counts) rs) (sym same) (subst (λ (cs : List ℕ). HasCounts cs (start ++ made ∷ [])) (sym more) shape),
      subst (λ (rs : List (List ℕ)). AreCut (take (i + 1) counts) ns rs) (sym same) (subst (λ (cs : List ℕ). AreCut cs ns (start ++ made ∷ [])) (sym more) cut),
    )

pub returns-clause-cut : goal.returns-clause-cut
returns-clause-cut c = λ i k n a.
    let counts = c.args.counts.now in
    let f = take_all c.loop-count.count-index counts (let h = c.loop-count-test.false in omega arith) in
    subst (λ (xs : List ℕ). IsAt c.args.numbers.now (cell_total (take i xs) + k) n) f (c.loop-count.invariant.2 i k n a)
