-- The two tables hold the values of the definitions.
use Rattle.nef_turn.proofs.Prelude.{◌≡◌, ◌/◌, ◌%◌, ◌<◌, Bool, false, true, not, arith, refl, differ, is_exchange, negates_odd}
use mathlib.Core.Bool.{beq}
use Rattle.nef_case.proofs.TurnTables.{value-from_start}
use Rattle.nef_turn.proofs.turning.is_odd.Goals as goal

unequal-differ : (p q : Bool) → not (beq p q) ≡ differ p q
unequal-differ true true = refl
unequal-differ true false = refl
unequal-differ false true = refl
unequal-differ false false = refl

same : (a b p q : Bool) → a ≡ p → b ≡ q → not (beq a b) ≡ differ p q
same a b p q e f = rw (e, f) (unequal-differ p q)

pub returns : goal.returns
returns c =
    let k = c.args.k in
    let sign : k % 8 < 8 = omega arith in
    let order : k / 8 < 6 = omega (arith, c.requires.turn) in
    record { odd = same _ _ _ _ (value-from_start negates_odd 8 (k % 8) false sign) (value-from_start is_exchange 6 (k / 8) false order) }
