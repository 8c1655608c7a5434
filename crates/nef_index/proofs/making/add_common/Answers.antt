use Rattle.nef_index.proofs.Prelude.{◌≡◌, ℕ, List, [], ◌∷◌, ◌++◌, append_assoc, get_or, arith, ap, sym, ◌∙◌, append-nil, is-at_get}
use Rattle.nef_index.proofs.CommonRows.{common-none, common-first, common-second, common-both, common-all-first, common-all-second}
use Rattle.nef_index.proofs.making.add_common.Goals as goal

pub loop-at_first-init : goal.loop-at_first-init
loop-at_first-init c = (omega arith, omega arith, ([], sym (append-nil c.args.numbers.now.items), common-none c.args.first.now c.args.second.now c.requires.first c.requires.second))

pub loop-at_first-preserved-then-number-other : goal.loop-at_first-preserved-then-number-other
loop-at_first-preserved-then-number-other c =
    let ms = c.args.first.now in let ns = c.args.second.now in
    let i = c.loop-at_first.at_first in let j = c.loop-at_first.at_second in
    let u = c.loop-at_first-test.true in let w = c.if-at_second-second.true in let N = c.loop-at_first.invariant.2 in
    (omega (arith, u), omega (arith, w), (N.0, N.1, common-first ms ns c.requires.first c.requires.second i j (get_or ms i 0) (get_or ns j 0) (is-at_get ms i 0 u) (is-at_get ns j 0 w) N.0 N.2 c.if-number-other.true))

pub loop-at_first-preserved-then-other-number : goal.loop-at_first-preserved-then-other-number
loop-at_first-preserved-then-other-number c =
    let ms = c.args.first.now in let ns = c.args.second.now in
    let i = c.loop-at_first.at_first in let j = c.loop-at_first.at_second in
    let u = c.loop-at_first-test.true in let w = c.if-at_second-second.true in let N = c.loop-at_first.invariant.2 in
    (omega (arith, u), omega (arith, w), (N.0, N.1, common-second ms ns c.requires.first c.requires.second i j (get_or ms i 0) (get_or ns j 0) (is-at_get ms i 0 u) (is-at_get ns j 0 w) N.0 N.2 c.if-other-number.true))

pub loop-at_first-preserved : goal.loop-at_first-preserved
loop-at_first-preserved c =
    let ms = c.args.first.now in let ns = c.args.second.now in
    let i = c.loop-at_first.at_first in let j = c.loop-at_first.at_second in let k : ℕ = get_or ms i 0 in
    let u = c.loop-at_first-test.true in let w = c.if-at_second-second.true in let N = c.loop-at_first.invariant.2 in
    let f = c.if-number-other.false in let g = c.if-other-number.false in
    let same : k ≡ get_or ns j 0 = omega (arith, f, g) in (
      omega (arith, u),
      omega (arith, w),
      (
        N.0 ++ k ∷ [],
        c.in_ok-push.ensures.items ∙ ap (λ (xs : List ℕ). xs ++ k ∷ []) N.1 ∙ append_assoc c.args.numbers.now.items N.0 (k ∷ []),
        common-both ms ns c.requires.first c.requires.second i j k (get_or ns j 0) (is-at_get ms i 0 u) (is-at_get ns j 0 w) N.0 N.2 same,
      ),
    )

pub returns-else-at_second-second : goal.returns-else-at_second-second
returns-else-at_second-second c =
    let N = c.loop-at_first.invariant.2 in
    record { common = (N.0, N.1, common-all-second c.args.first.now c.args.second.now c.requires.first c.requires.second c.loop-at_first.at_first c.loop-at_first.at_second N.0 (let f = c.if-at_second-second.false in omega (arith, f)) N.2) }

pub returns-after-loop-at_first : goal.returns-after-loop-at_first
returns-after-loop-at_first c =
    let N = c.loop-at_first.invariant.2 in
    record { common = (N.0, N.1, common-all-first c.args.first.now c.args.second.now c.requires.first c.requires.second c.loop-at_first.at_first c.loop-at_first.at_second N.0 (let f = c.loop-at_first-test.false in omega (arith, f)) N.2) }
