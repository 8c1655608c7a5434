use Rattle.nef_classes.proofs.Prelude.{◌≡◌, ◌<◌, ◌+◌, length, subst, sym, ap, ◌∙◌, arith, List, ℕ, get_or, take, take_all, Link, AreClasses, HasSameTrees, AreTogether}
use Rattle.nef_classes.proofs.ClassLists.{take-more, refilled}
use Rattle.nef_space.proofs.Lists.{is-at_get}
use Rattle.nef_classes.proofs.Trees.{AreTrees, trees-alone, trees-more, trees-classes}
use Rattle.nef_classes.proofs.forest.class_of_each.Goals as goal

pub loop-link-init : goal.loop-link-init
loop-link-init c = let e = c.in_ok-parents.ensures in trees-alone c.args.count c.in_ok-parents.parents.items e.as_many e.own

pub join-requires-clause-first : goal.join-requires-clause-first
join-requires-clause-first c =
    let links = c.args.links.now in let i = c.loop-link.link-index in
    let l : Link = get_or links i (record { first = 0; second = 0 }) in
    let w = c.requires.within i l (is-at_get links i (record { first = 0; second = 0 }) c.loop-link-test.true) in
    let n = c.loop-link.invariant.as_many in
    subst (λ (xs : List ℕ). l.first < length xs) (sym c.as_mut_slice.ensures.value) (let h = w.0 in omega arith)

pub join-requires-clause-second : goal.join-requires-clause-second
join-requires-clause-second c =
    let links = c.args.links.now in let i = c.loop-link.link-index in
    let l : Link = get_or links i (record { first = 0; second = 0 }) in
    let w = c.requires.within i l (is-at_get links i (record { first = 0; second = 0 }) c.loop-link-test.true) in
    let n = c.loop-link.invariant.as_many in
    subst (λ (xs : List ℕ). l.second < length xs) (sym c.as_mut_slice.ensures.value) (let h = w.1 in omega arith)

pub loop-link-preserved : goal.loop-link-preserved
loop-link-preserved c =
    let links = c.args.links.now in let i = c.loop-link.link-index in
    let d : Link = record { first = 0; second = 0 } in
    let l : Link = get_or links i d in
    let ps = c.loop-link.parents.items in
    let qs = c.join.new.parents in
    let J : AreTogether l ps qs = subst (λ (xs : List ℕ). AreTogether l xs qs) c.as_mut_slice.ensures.value c.join.ensures.joined in
    let same : length qs ≡ length ps = J.as_many in
    let full = trees-more c.args.count (take i links) l ps qs c.loop-link.invariant J in
    let long = sym (ap length c.as_mut_slice.ensures.value) ∙ c.as_mut_slice.ensures.len in
    subst (λ (xs : List ℕ). AreTrees c.args.count (take (i + 1) links) xs) (sym (refilled qs ps c.loop-link.parents.len long same))
    (subst (λ (ls : List Link). AreTrees c.args.count ls qs) (sym (take-more links i d c.loop-link-test.true)) full)

pub returns-clause-classes : goal.returns-clause-classes
returns-clause-classes c =
    let links = c.args.links.now in let i = c.loop-link.link-index in
    let ps = c.loop-link.parents.items in
    let qs = c.flatten.new.parents in
    let S : HasSameTrees ps qs = subst (λ (xs : List ℕ). HasSameTrees xs qs) c.as_mut_slice-2.ensures.value c.flatten.ensures.same in
    let same : length qs ≡ length ps = S.as_many in
    let all = take_all i links (let h = c.loop-link-test.false in omega arith) in
    let T : AreTrees c.args.count links ps = subst (λ (ls : List Link). AreTrees c.args.count ls ps) all c.loop-link.invariant in
    let long = sym (ap length c.as_mut_slice-2.ensures.value) ∙ c.as_mut_slice-2.ensures.len in
    subst (λ (xs : List ℕ). AreClasses c.args.count links xs) (sym (refilled qs ps c.loop-link.parents.len long same))
    (trees-classes c.args.count links ps qs T S c.flatten.ensures.roots)
