use Rattle.nef_smap.proofs.Prelude.{ℕ, ◌<◌, vector_of, IsAt, Item, items, OnItem, map_of}
use Rattle.nef_smap.proofs.locate.item_on.Given as goal

abbrev pub invariant-loop-number : goal.invariant-loop-number
invariant-loop-number l = (k : ℕ) → k < l.number → (x : Item) → IsAt (items (map_of l.map)) k x → OnItem (map_of l.map) x (vector_of l.d) → ⊥
