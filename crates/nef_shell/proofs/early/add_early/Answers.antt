use Rattle.nef_shell.proofs.Prelude.{◌≡◌, ◌∙◌, ◌∷◌, ◌++◌, ℕ, List, Option, [], Some, true, false, arith, length, refl, subst, sym, slice_get_read, Early, AreEarly, IsIndex, IsOperandKept}
use Rattle.nef_shell.proofs.Needs.{early-more, index-more, is-early, needed-by}
use Rattle.nef_shell.proofs.early.add_early.Goals as goal

abbrev added : ℕ → Option ℕ → Option ℕ → Early
added value first second = record { value = value; needs = record { first = first; second = second } }

pub returns-clause-early : goal.returns-clause-early
returns-clause-early c =
    let old = c.args.early.now.items in
    let steps = c.args.steps.now in
    let values = c.args.values.now in
    let now = c.args.now in
    let index = c.args.index.now in
    let item = c.index-steps-value.result in
    let at = slice_get_read steps _ c.args.value item refl c.requires.value c.index-steps-value.is in
    let looked = c.looked_at-first.ensures in
    let a = c.looked_at-first.result.0 in
    let b = c.looked_at-first.result.1 in
    let one = c.of_block.result in
    let two = c.of_block-2.result in
    let e = added c.args.value one two in
    let first = needed-by steps values now index old a one c.requires.index c.of_block.ensures.entry (c.is_at_hand.ensures.there c.if-not-is_at_hand.false) in
    let second = needed-by steps values now index old b two c.requires.index c.of_block-2.ensures.entry (c.is_at_hand-else-not-is_at_hand.ensures.there c.if-not-is_at_hand-2.false) in
    let is = is-early steps values old item e c.requires.steps at (c.requires.ends c.args.value item at) (λ ends. let f : true ≡ false = sym ends ∙ c.if-step.false in cc) (subst (λ o. IsOperandKept values old (length old) o one) looked.first first) (subst (λ o. IsOperandKept values old (length old) o two) looked.second second) in
    subst (AreEarly steps values) (sym c.in_ok-push.ensures.items) (early-more steps values old e c.requires.early is)

pub returns-clause-index : goal.returns-clause-index
returns-clause-index c =
    let old = c.args.early.now.items in
    let e = added c.args.value c.of_block.result c.of_block-2.result in
    let now = c.args.now in
    let index = c.args.index.now in
    let ok = c.args.early.now.ok in
    let count : c.len-number.result ≡ length old = omega (arith, ok, c.len-number.ensures) in
    subst (λ (z : ℕ × List Early). IsIndex now (index ++ Some z.0 ∷ []) z.1) (λ t. (sym count t, sym c.in_ok-push.ensures.items t)) (index-more now index old e c.requires.index c.requires.place)
