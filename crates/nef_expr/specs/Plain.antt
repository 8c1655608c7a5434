-- Sets that use no topology, and what a truth value tells of a set at a point.
use Rattle.std.specs.Prelude.{◌<◌, ◌↔◌, ℕ, IsTrue, Bool, false, List, length, slice_index_or}
use Rattle.nef_space.specs.Prelude.{SpacePoint, Set, Holds}
use Rattle.nef_expr.specs.Nodes.{operand, set_of}
use Rattle.nef_expr.specs.declared.nodes.Node.{Node}

-- the set uses no interior, closure, boundary or regularisation, at any depth
abbrev pub IsPlainSet : Set → Type 0
IsPlainSet (Set.half h c) = Unit {0}
IsPlainSet Set.empty = Unit {0}
IsPlainSet Set.full = Unit {0}
IsPlainSet (Set.both a b) = IsPlainSet a × IsPlainSet b
IsPlainSet (Set.either a b) = IsPlainSet a × IsPlainSet b
IsPlainSet (Set.less a b) = IsPlainSet a × IsPlainSet b
IsPlainSet (Set.one_of a b) = IsPlainSet a × IsPlainSet b
IsPlainSet (Set.other a) = IsPlainSet a
IsPlainSet (Set.inside a) = ⊥
IsPlainSet (Set.closed a) = ⊥
IsPlainSet (Set.border a) = ⊥
IsPlainSet (Set.regular a) = ⊥

-- the value is true exactly where the set holds
abbrev pub TellsHolds : Bool → Set → SpacePoint → Type 0
TellsHolds holds s p = IsTrue holds ↔ Holds s p

-- the values tell whether the first sets hold, as far as these sets are plain
abbrev pub TellsEach : List Bool → List Set → SpacePoint → Type 0
TellsEach holding ss p = (k : ℕ) → k < length holding → IsPlainSet (operand ss k) → TellsHolds (slice_index_or holding k false) (operand ss k) p

-- if the values tell whether earlier plain sets hold, this value tells whether the node's set holds, if it is plain
abbrev pub TellsNext : List Bool → Node → Bool → SpacePoint → Type 0
TellsNext holding n holds p = (ss : List Set) → TellsEach holding ss p → IsPlainSet (set_of ss n) → TellsHolds holds (set_of ss n) p
