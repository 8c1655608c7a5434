-- Elements with the rows that stand behind them in a text.
use Rattle.nef_complex.proofs.Prelude.{◌≡◌, suc, refl, ap, List, [], ◌∷◌}
use Rattle.std.proofs.Common.{length}
use Rattle.nef_complex.specs.Text.{with_rows}

pub length-with_rows : {X Y : Type 0} (xs : List X) (rows : List (List Y)) → length (with_rows xs rows) ≡ length xs
length-with_rows [] rows = refl
length-with_rows (x ∷ xs) [] = ap suc (length-with_rows xs [])
length-with_rows (x ∷ xs) (row ∷ rows) = ap suc (length-with_rows xs rows)
