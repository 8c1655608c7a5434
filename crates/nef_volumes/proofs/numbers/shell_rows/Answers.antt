use Rattle.nef_volumes.proofs.Prelude.{◌≡◌, ℕ, List, ◌++◌, sym, ap, ◌∙◌, subst, Result, Ok, Err, IfOk, Complex, LinkInSface, AreTiedWithin, HasCounts, AreNumbers, Tie, complex_of, ShellLink, AreShellRows, row_counts, AreTiesOf, AreItemTies, LinkOfEnds}
use Rattle.nef_volumes.proofs.AllTies.{shell-tied}
use Rattle.nef_volumes.proofs.SideCells.{cells-within}
use Rattle.nef_volumes.proofs.numbers.shell_rows.Goals as goal

-- the ties of sfaces, those of items and those of ends, one list after the other
tied-shells : (C : Complex) (sface items ends more us ts : List Tie) → more ≡ sface ++ items → us ≡ ends → ts ≡ more ++ us
    → AreTiesOf C (LinkInSface C) sface → AreItemTies C items → AreTiesOf C (LinkOfEnds C) ends → AreTiesOf C (ShellLink C) ts
tied-shells C sface items ends more us ts e f g F I E =
    subst (λ (xs : List Tie). AreTiesOf C (ShellLink C) xs) (sym (g ∙ ap (λ (ls : List Tie). more ++ ls) f ∙ ap (λ (ls : List Tie). ls ++ ends) e)) (shell-tied C sface items ends F I E)

rows-ok : {E : Type 0} (C : Complex) (ts us : List Tie) (ns : List ℕ) → AreTiesOf C (ShellLink C) ts → us ≡ ts → ns ≡ row_counts C → (r : Result (List (List ℕ)) E) → IfOk r (HasCounts ns) → IfOk r (AreNumbers us) → IfOk r (AreShellRows C)
rows-ok C ts us ns A e f (Ok rows) H N = record { ties = ts; of_links = A; counts = subst (λ (xs : List ℕ). HasCounts xs rows) f H; numbers = subst (λ (xs : List Tie). AreNumbers xs rows) e N }
rows-ok C ts us ns A e f (Err x) H N = H

pub number_rows-requires : goal.number_rows-requires
number_rows-requires c =
    let C = complex_of c.args.c.now in
    let ts = c.extend_from_slice-2.new.self.items in
    let A = tied-shells C c.in_ok-ties.ties.items c.args.items.now c.in_ok-ends.ends.items c.extend_from_slice.new.self.items c.as_slice.result.now ts
    c.in_ok-extend_from_slice.ensures.items c.as_slice.ensures.value c.in_ok-extend_from_slice-2.ensures.items c.in_ok-ties.ensures.ties c.requires.items c.in_ok-ends.ensures.ties in
    let w = cells-within C (ShellLink C) ts A.only in
    record {
      within = subst (λ (ns : List ℕ). AreTiedWithin ns c.as_slice-3.result.now) (sym (c.as_slice-2.ensures.value ∙ c.in_ok-counts.ensures.counts))
          (subst (λ (us : List Tie). AreTiedWithin (row_counts C) us) (sym c.as_slice-3.ensures.value) w);
    }

pub returns : goal.returns
returns c =
    let C = complex_of c.args.c.now in
    let ts = c.extend_from_slice-2.new.self.items in
    let A = tied-shells C c.in_ok-ties.ties.items c.args.items.now c.in_ok-ends.ends.items c.extend_from_slice.new.self.items c.as_slice.result.now ts
    c.in_ok-extend_from_slice.ensures.items c.as_slice.ensures.value c.in_ok-extend_from_slice-2.ensures.items c.in_ok-ties.ensures.ties c.requires.items c.in_ok-ends.ensures.ties in
    record {
      rows = rows-ok C ts c.as_slice-3.result.now c.as_slice-2.result.now A c.as_slice-3.ensures.value (c.as_slice-2.ensures.value ∙ c.in_ok-counts.ensures.counts) c.number_rows.result
          c.number_rows.ensures.counts c.number_rows.ensures.numbers;
    }
