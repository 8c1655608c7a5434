use Rattle.nef_ops.proofs.Prelude.{ℕ, ◌<◌, IsAt, Item, items, map_of, ItemLacks}
use Rattle.nef_ops.proofs.share.items_lack.Given as goal

abbrev pub invariant-loop-number : goal.invariant-loop-number
invariant-loop-number l = (k : ℕ) (x : Item) → k < l.number → IsAt (items (map_of l.map)) k x → ItemLacks l.label x
