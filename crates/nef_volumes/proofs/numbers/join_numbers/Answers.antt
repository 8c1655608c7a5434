use Rattle.nef_volumes.proofs.Prelude.{◌≡◌, ℕ, List, length, ap, sym, ◌∙◌, subst, IfOk, LinksAreBelow, AreClasses, AreNumbered, AreRoots, Link, TableIsBelow, AreRenumbered}
use Rattle.nef_volumes.proofs.Joining.{links-below, joined-counts_ok, joined-numbers_ok}
use Rattle.nef_volumes.proofs.numbers.join_numbers.Goals as goal

pub class_of_each-requires : goal.class_of_each-requires
class_of_each-requires c = record {
  within = subst (λ (ls : List Link). LinksAreBelow c.args.count ls) (sym c.deref.ensures.value)
      (links-below c.args.rows.now c.args.ties.now c.in_ok-links.links.items c.args.count c.in_ok-links.ensures.links c.requires.below);
}

pub class_numbers-requires : goal.class_numbers-requires
class_numbers-requires c = record { roots = subst AreRoots (sym c.deref-2.ensures.value) c.in_ok-roots.ensures.roots }

pub renumbered-requires : goal.renumbered-requires
renumbered-requires c =
    let classes = c.in_ok-roots.ensures.classes in
    let numbered = c.in_ok-numbers.ensures.numbers in
    let a = classes.as_many in let b = numbered.as_many in
    let count : c.args.count ≡ length c.deref-3.result.now = sym (ap length c.deref-3.ensures.value ∙ b ∙ ap length c.deref-2.ensures.value ∙ a) in
    record { below = subst (TableIsBelow c.as_slice.result.now) count (subst (λ (rows : List (List ℕ)). TableIsBelow rows c.args.count) (sym c.as_slice.ensures.all) c.requires.below) }

pub returns-clause-counts : goal.returns-clause-counts
returns-clause-counts c =
    joined-counts_ok c.deref-3.result.now c.args.rows.now c.renumbered.result
    (subst (λ (rows : List (List ℕ)). IfOk c.renumbered.result (λ new. AreRenumbered c.deref-3.result.now new rows)) c.as_slice.ensures.all c.renumbered.ensures.rows)

pub returns-clause-numbers : goal.returns-clause-numbers
returns-clause-numbers c =
    let cs : List ℕ = c.in_ok-roots.roots.items in
    let ns : List ℕ = c.in_ok-numbers.numbers.items in
    let ls : List Link = c.in_ok-links.links.items in
    let K = subst (λ (ks : List Link). AreClasses c.args.count ks cs) c.deref.ensures.value c.in_ok-roots.ensures.classes in
    let M = subst (λ (xs : List ℕ). AreNumbered xs ns) c.deref-2.ensures.value c.in_ok-numbers.ensures.numbers in
    joined-numbers_ok ns c.args.rows.now c.args.ties.now ls c.in_ok-links.ensures.links cs c.args.count K M c.renumbered.result
    (subst (λ (xs : List ℕ). IfOk c.renumbered.result (λ new. AreRenumbered xs new c.args.rows.now)) c.deref-3.ensures.value
    (subst (λ (rows : List (List ℕ)). IfOk c.renumbered.result (λ new. AreRenumbered c.deref-3.result.now new rows)) c.as_slice.ensures.all c.renumbered.ensures.rows))
