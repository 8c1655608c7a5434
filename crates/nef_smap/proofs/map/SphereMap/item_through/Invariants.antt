use Rattle.nef_smap.proofs.Prelude.{ℕ, ◌<◌, SameDirection, vector_of, IsAt, Item, items, item_normal, OnItem, map_of}
use Rattle.nef_smap.proofs.map.SphereMap.item_through.Given as goal

abbrev pub invariant-loop-number : goal.invariant-loop-number
invariant-loop-number l = (k : ℕ) → k < l.number → (x : Item) → IsAt (items (map_of l.self)) k x → SameDirection (item_normal x) (vector_of l.normal) × OnItem (map_of l.self) x (vector_of l.d) → ⊥
