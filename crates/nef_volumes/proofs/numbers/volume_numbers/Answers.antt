use Rattle.nef_volumes.proofs.Prelude.{arith, ◌≡◌, ℕ, ◌+◌, List, ◌++◌, length, take, drop, ap, sym, ◌∙◌, subst, Set, Complex, Shows, AreNumbers, Tie, complex_of, LinkOutside, VolumeLink, ShellLink, HaveNumbers, row_counts, AreTiesWithOutside, AreTiedOutside, AreTiesDown, AreVolumeTies}
use Rattle.nef_volumes.proofs.AllTies.{volume-tied}
use Rattle.nef_volumes.proofs.Joining.{numbers-there}
use Rattle.nef_volumes.proofs.SideCells.{ties-within, cells-within}
use Rattle.nef_volumes.proofs.SideLabels.{upright}
use Rattle.nef_volumes.proofs.RowNumbers.{some-row, rest-numbered}
use Rattle.nef_volumes.proofs.numbers.volume_numbers.Goals as goal

-- the ties with the outside and those down rays, one list after the other
tied-volumes : (s : Set) (C : Complex) → Shows s C → (outside down ts : List Tie) → ts ≡ outside ++ down → AreTiesWithOutside C (LinkOutside C) outside → AreTiesDown C down → AreTiedOutside C outside → AreVolumeTies C ts
tied-volumes s C S outside down ts e O D f = subst (λ (xs : List Tie). AreVolumeTies C xs) (sym e) (volume-tied s C S outside down O D f)

pub join_numbers-requires-clause-numbered : goal.join_numbers-requires-clause-numbered
join_numbers-requires-clause-numbered c =
    let C = complex_of c.args.c.now in
    let R = c.requires.rows in
    let S = c.requires.shows in
    let us = c.extend_from_slice.new.self.items in
    let V = tied-volumes S.0 C S.1.shows c.in_ok-ties.ties.items c.args.down.now us c.in_ok-extend_from_slice.ensures.items c.in_ok-ties.ensures.ties c.requires.down c.in_ok-ties.ensures.outside in
    subst (λ (ts : List Tie). HaveNumbers c.args.rows.now ts) (sym c.as_slice.ensures.value)
    (numbers-there (row_counts C) c.args.rows.now us R.counts (ties-within C (VolumeLink C) us V.only))

pub remove-requires : goal.remove-requires
remove-requires c =
    let C = complex_of c.args.c.now in
    let l = some-row C c.in_ok-join_numbers.field-0 (c.in_ok-join_numbers.ensures.counts (row_counts C) c.requires.rows.counts) in
    let g = ap (λ (xs : List (List ℕ)). length xs) c.into_vec-numbers.ensures.all in
    let f = c.into_vec-numbers.result.ok in
    omega arith

pub returns : goal.returns
returns c =
    let S = c.requires.shows in
    let C = complex_of c.args.c.now in
    let R = c.requires.rows in
    let us = c.extend_from_slice.new.self.items in
    let V = tied-volumes S.0 C S.1.shows c.in_ok-ties.ties.items c.args.down.now us c.in_ok-extend_from_slice.ensures.items c.in_ok-ties.ensures.ties c.requires.down c.in_ok-ties.ensures.outside in
    let rows = c.in_ok-join_numbers.field-0 in
    let H = c.in_ok-join_numbers.ensures.counts (row_counts C) R.counts in
    let N = subst (λ (ts : List Tie). AreNumbers (R.ties ++ ts) rows) c.as_slice.ensures.value
    (c.in_ok-join_numbers.ensures.numbers (row_counts C) R.ties R.counts (cells-within C (ShellLink C) R.ties R.of_links.only) R.numbers) in
    let e = c.from_vec.ensures.all ∙ c.remove.ensures.by_index.2 ∙ ap (λ (xs : List (List ℕ)). take 0 xs ++ drop (0 + 1) xs) c.into_vec-numbers.ensures.all in
    record { numbers = rest-numbered S.0 C S.1.shows (upright S.0 c.args.c.now S.1) (R.ties ++ us) (V.all R.ties R.of_links) (V.outside R.ties) rows c.from_vec.result H N e }
