use Rattle.nef_classes.proofs.Prelude.{arith, List, ℕ, [], ◌∷◌, ◌++◌, get_or, length, take, subst, sym, ap, ◌∙◌, refl, Vec, Global, slice_get_read}
use Rattle.nef_classes.proofs.ClassLists.{IsNumberedTo, take-more, numbered-earlier, numbered-new}
use Rattle.nef_space.proofs.Lists.{is-at_within, is-at_get}
use Rattle.nef_classes.proofs.Trees.{root-earlier, none-earlier}
use Rattle.nef_classes.proofs.forest.class_numbers.Goals as goal
use Rattle.nef_classes.proofs.forest.class_numbers.Goals.{then-root-number+in_ok-push, else-root-number+in_ok-push-2}

pub loop-number-preserved : goal.loop-number-preserved
loop-number-preserved c =
    let rs = c.args.roots.now in let i = c.loop-number.number in
    let x = get_or rs i 0 in
    let ns = c.loop-number.numbers.items in
    let next = c.loop-number.next in
    let I = c.loop-number.invariant in
    let a = is-at_get rs i 0 c.loop-number-test.true in
    let more = take-more rs i 0 c.loop-number-test.true in
    elim c.if-root-number.branch [
      | then-root-number+in_ok-push w ↦
          let b = root-earlier rs i x c.requires.roots a w.if-root-number.true in
          let n = I.numbered.as_many in
          let h = is-at_within (take i rs) x x b in
          let m = w.index.result.now in
          let number = slice_get_read ns (length ns) x m refl (omega arith) w.index.ensures in
          let f = numbered-earlier (take i rs) ns next I x x m b number in
          let items = ap (λ (v : Vec ℕ Global). v.items) w.numbers-is ∙ w.in_ok-push.ensures.items in
          subst (λ (ks : List ℕ). IsNumberedTo ks c.if-root-number.numbers.items c.if-root-number.next) (sym more)
          (subst (λ (ks : List ℕ). IsNumberedTo (take i rs ++ x ∷ []) ks c.if-root-number.next) (sym items)
          (subst (λ (n : ℕ). IsNumberedTo (take i rs ++ x ∷ []) (ns ++ m ∷ []) n) (sym w.next-is) f))
      | else-root-number+in_ok-push-2 w ↦
          let f = numbered-new (take i rs) ns next I x (none-earlier rs i x c.requires.roots w.if-root-number.false) in
          let items = ap (λ (v : Vec ℕ Global). v.items) w.numbers-is ∙ w.in_ok-push-2.ensures.items in
          subst (λ (ks : List ℕ). IsNumberedTo ks c.if-root-number.numbers.items c.if-root-number.next) (sym more)
          (subst (λ (ks : List ℕ). IsNumberedTo (take i rs ++ x ∷ []) ks c.if-root-number.next) (sym items)
          (subst (λ (n : ℕ). IsNumberedTo (take i rs ++ x ∷ []) (ns ++ next ∷ []) n) (sym w.next-is) f))
    ]
