use Rattle.nef_case.proofs.Prelude.{ℕ, ◌<◌, ◌≤◌, ◌∙◌, sym, ap, subst, arith, numbered, turned}
use Rattle.nef_case.proofs.TurnLemmas.{number_by, number_by-turned, same_number, size_read, sign_read, falls_read, at_most-one}
use Rattle.nef_case.proofs.TurnTables.{turn-entries}
use Rattle.nef_case.proofs.turns.number_of.Goals as goal

pub overflow_sub-first : goal.overflow_sub-first
overflow_sub-first c =
    let low = (turn-entries (c.args.x, c.args.y, c.args.z) c.requires.turn).of_x.low in
    subst (λ (n : ℕ). 1 ≤ n) (sym (size_read _ _ c.ranges.x c.unsigned_abs.ensures.value)) low

pub overflow_mul-order : goal.overflow_mul-order
overflow_mul-order c =
    let high = (turn-entries (c.args.x, c.args.y, c.args.z) c.requires.turn).of_x.high in
    let size = size_read _ _ c.ranges.x c.unsigned_abs.ensures.value in
    omega (arith, high, size)

pub overflow_add-order : goal.overflow_add-order
overflow_add-order c =
    let high = (turn-entries (c.args.x, c.args.y, c.args.z) c.requires.turn).of_x.high in
    let size = size_read _ _ c.ranges.x c.unsigned_abs.ensures.value in
    let falls = at_most-one _ _ c.from.ensures in
    omega (arith, high, size, falls)

pub overflow_mul-result : goal.overflow_mul-result
overflow_mul-result c =
    let high = (turn-entries (c.args.x, c.args.y, c.args.z) c.requires.turn).of_x.high in
    let size = size_read _ _ c.ranges.x c.unsigned_abs.ensures.value in
    let falls = at_most-one _ _ c.from.ensures in
    omega (arith, high, size, falls)

pub overflow_add-result : goal.overflow_add-result
overflow_add-result c =
    let high = (turn-entries (c.args.x, c.args.y, c.args.z) c.requires.turn).of_x.high in
    let size = size_read _ _ c.ranges.x c.unsigned_abs.ensures.value in
    let falls = at_most-one _ _ c.from.ensures in
    let x = at_most-one _ _ c.from-2.ensures in let y = at_most-one _ _ c.from-3.ensures in let z = at_most-one _ _ c.from-4.ensures in
    omega (arith, high, size, falls, x, y, z)

pub returns : goal.returns
returns c =
    let first = size_read c.unsigned_abs.result c.args.x c.ranges.x c.unsigned_abs.ensures.value in
    let second = size_read c.unsigned_abs-2.result c.args.y c.ranges.y c.unsigned_abs-2.ensures.value in
    let third = size_read c.unsigned_abs-3.result c.args.z c.ranges.z c.unsigned_abs-3.ensures.value in
    let turn = c.requires.turn in
    let is_k =
    same_number _ _ _ _ _ _ _ _ _ _ first (falls_read _ _ _ c.args.y c.args.z second third c.from.ensures)
    (sign_read _ c.args.x c.ranges.x c.from-2.ensures) (sign_read _ c.args.y c.ranges.y c.from-3.ensures) (sign_read _ c.args.z c.ranges.z c.from-4.ensures)
    ∙ sym (ap number_by turn.2) ∙ number_by-turned turn.0 turn.1 in
    record { below = subst (λ (n : ℕ). n < 48) (sym is_k) turn.1; row = ap (λ (n : ℕ). turned n numbered) is_k ∙ turn.2 }
