use Rattle.nef_volumes.proofs.Prelude.{ℕ, List, ◌+◌, refl, sym, subst, IsAt, read, HasOneForEach, each-more, IsRenumbered}
use Rattle.nef_volumes.proofs.numbers.renumbered.Goals as goal

pub renumbered_row-requires : goal.renumbered_row-requires
renumbered_row-requires c =
    let rows : List (List ℕ) = c.args.rows.now in
    let i = c.loop-row.row-index in
    let row : List ℕ = c.row-item.result in
    let at = read rows rows i row refl c.loop-row-test.true c.row-item.is in
    record { below = λ k n a. c.requires.below (record { row = i; column = k }) n (row, at, subst (λ (ns : List ℕ). IsAt ns k n) c.as_slice.ensures.all a) }

pub loop-row-preserved : goal.loop-row-preserved
loop-row-preserved c =
    let rows : List (List ℕ) = c.args.rows.now in
    let ns = c.args.numbers.now in
    let i = c.loop-row.row-index in
    let row : List ℕ = c.row-item.result in
    let now : List (List ℕ) = c.loop-row.renumbered in
    let new : List ℕ = c.in_ok-renumbered_row.field-0 in
    subst (λ (rs : List (List ℕ)). HasOneForEach (IsRenumbered ns) (i + 1) rs rows) (sym c.in_ok-push.ensures.ok)
    (each-more (IsRenumbered ns) i now rows new row c.loop-row.invariant (read rows rows i row refl c.loop-row-test.true c.row-item.is)
    (subst (λ (old : List ℕ). IsRenumbered ns new old) c.as_slice.ensures.all c.in_ok-renumbered_row.ensures.row))
