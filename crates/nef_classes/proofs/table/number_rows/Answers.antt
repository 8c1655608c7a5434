use Rattle.nef_classes.proofs.Prelude.{◌≡◌, ℕ, List, length, map, subst, sym, ap, ◌∙◌, IfOk, Link, AreClasses, AreNumbered, cell_total, AreRoots, AreCut, flat_tie}
use Rattle.nef_classes.proofs.Cutting.{starts-end}
use Rattle.nef_classes.proofs.Numbers.{numbers-ok}
use Rattle.nef_classes.proofs.table.number_rows.Goals as goal

pub class_numbers-requires : goal.class_numbers-requires
class_numbers-requires c = record { roots = subst AreRoots (sym c.deref-3.ensures.value) c.in_ok-roots.ensures.roots }

pub rows_of-requires : goal.rows_of-requires
rows_of-requires c =
    let end = starts-end c.args.counts.now c.in_ok-starts.starts.items c.index.result.now c.in_ok-starts.ensures.starts in
    let count : c.index.result.now ≡ cell_total c.args.counts.now = c.index.ensures ∙ end in
    let classes = c.in_ok-roots.ensures.classes in
    let numbered = c.in_ok-numbers.ensures.numbers in
    let a = classes.as_many in let b = numbered.as_many in
    record { all = ap length c.deref-4.ensures.value ∙ b ∙ ap length c.deref-3.ensures.value ∙ a ∙ count }

pub returns-clause-numbers : goal.returns-clause-numbers
returns-clause-numbers c =
    let counts = c.args.counts.now in
    let ties = c.args.ties.now in
    let cs : List ℕ = c.in_ok-roots.roots.items in
    let ns : List ℕ = c.in_ok-numbers.numbers.items in
    let end = starts-end counts c.in_ok-starts.starts.items c.index.result.now c.in_ok-starts.ensures.starts in
    let count : c.index.result.now ≡ cell_total counts = c.index.ensures ∙ end in
    let links : c.deref-2.result.now ≡ map (flat_tie counts) ties = c.deref-2.ensures.value ∙ c.in_ok-links.ensures.flat in
    let classes : AreClasses (cell_total counts) (map (flat_tie counts) ties) cs =
    subst (λ (n : ℕ). AreClasses n (map (flat_tie counts) ties) cs) count
    (subst (λ (ls : List Link). AreClasses c.index.result.now ls cs) links c.in_ok-roots.ensures.classes) in
    let numbered : AreNumbered cs ns = subst (λ (xs : List ℕ). AreNumbered xs ns) c.deref-3.ensures.value c.in_ok-numbers.ensures.numbers in
    let cut : IfOk c.rows_of.result (AreCut counts ns) =
    subst (λ (xs : List ℕ). IfOk c.rows_of.result (AreCut counts xs)) c.deref-4.ensures.value c.rows_of.ensures.cut in
    numbers-ok counts ties c.requires.within cs ns c.rows_of.result classes numbered c.rows_of.ensures.counts cut
