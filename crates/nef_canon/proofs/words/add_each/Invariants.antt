use Rattle.nef_canon.proofs.Prelude.{◌≡◌, ℕ, List, ◌++◌, take, OnOk, flat_map}
use Rattle.nef_canon.proofs.words.add_each.Given as goal

-- for each line that the calls add
abbrev pub invariant-loop-item : goal.invariant-loop-item
invariant-loop-item g l =
    (line : g.row.T.Denot → List ℕ)
    → ((before : _) (item : _) (outcome : _) (after : _) → goal.F-post g l.add before item outcome after → OnOk outcome (after.now.items ≡ before.now.items ++ line item.now))
    → l.text.items ≡ l.fn.text.items ++ flat_map line (take l.item-index l.items)
