use Rattle.nef_case.proofs.Prelude.{sym, take, ◌≡◌, ◌<◌, length, rules, arith, pos, pow_more, slice_get-get_or}
use Rattle.std.proofs.lemmas.List.{take_all}
use Rattle.std.proofs.lemmas.List.Sums.{fold_more}
use Rattle.nef_case.proofs.Rows.{row_step, row_below, digit_small, digit_read}
use Rattle.nef_case.proofs.table.CaseTable.at.Goals as goal

pub overflow_mul-row : goal.overflow_mul-row
overflow_mul-row g c =
    let step = row_step c.loop-sign.row c.loop-sign.sign-index g.row.N _ c.loop-sign.invariant.row_below c.loop-sign-test.true c.args.self.now.full c.type_inv.self.0.0.1.0 in
    omega (arith, step)

pub overflow_add-row-in-loop-sign : goal.overflow_add-row-in-loop-sign
overflow_add-row-in-loop-sign g c =
    let step = row_step c.loop-sign.row c.loop-sign.sign-index g.row.N _ c.loop-sign.invariant.row_below c.loop-sign-test.true c.args.self.now.full c.type_inv.self.0.0.1.0 in
    let long : length c.args.key.now ≡ g.row.N = search rules in
    let sign = c.requires.signs c.loop-sign.sign-index (pos 0) (omega (arith, long, c.loop-sign-test.true)) in
    rw (digit_read _ sign) (let digit = digit_small _ sign in omega (arith, step, digit))

pub loop-sign-preserved : goal.loop-sign-preserved
loop-sign-preserved g c =
    let long : length c.args.key.now ≡ g.row.N = search rules in
    let within : c.loop-sign.sign-index < length c.args.key.now = omega (arith, long, c.loop-sign-test.true) in
    let sign = c.requires.signs c.loop-sign.sign-index (pos 0) within in
    record {
      row_is = rw (digit_read _ sign, c.loop-sign.invariant.row_is) (sym (fold_more _ 0 c.args.key.now c.loop-sign.sign-index (pos 0) within));
      row_below = rw (digit_read _ sign) (let digit = digit_small _ sign in omega (arith, digit, c.loop-sign.invariant.row_below, pow_more 3 c.loop-sign.sign-index));
    }

pub bounds-self-row : goal.bounds-self-row
bounds-self-row g c = row_below c.loop-sign.row c.loop-sign.sign-index g.row.N _ c.loop-sign.invariant.row_below (omega (arith, c.loop-sign.auto.sign-index-end, c.loop-sign-test.false)) c.args.self.now.full

pub returns : goal.returns
returns g c =
    let long : length c.args.key.now ≡ g.row.N = search rules in
    let end : c.loop-sign.sign-index ≡ g.row.N = omega (arith, c.loop-sign.auto.sign-index-end, c.loop-sign-test.false) in
    let whole : take c.loop-sign.sign-index c.args.key.now ≡ c.args.key.now = take_all c.loop-sign.sign-index c.args.key.now (omega (arith, long, end)) in
    let below = row_below c.loop-sign.row c.loop-sign.sign-index g.row.N _ c.loop-sign.invariant.row_below end c.args.self.now.full in
    record { row = rw (← whole, ← c.loop-sign.invariant.row_is) (slice_get-get_or c.args.self.now.rows.now c.loop-sign.row c.index-self-row.result below) }
