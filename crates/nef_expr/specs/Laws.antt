-- The laws of all lists of nodes.
use Rattle.std.specs.Prelude.{◌≡◌, ◌<◌, ◌∷◌, ◌++◌, ◌↔◌}
use Rattle.nef_space.specs.Prelude.{ℕ, List, [], Some, length, slice_get, SpacePoint, Holds}
use Rattle.nef_expr.specs.declared.nodes.Node.{Node}
use Rattle.nef_expr.specs.Nodes.{node_set, set_of, sets_after, NamesBelow, IsOrdered}
use Rattle.nef_expr.specs.Turns.{TurnOf}
use Rattle.law_geometry.specs.turns.Turned.{turned_point, turned_set}

-- a node that is added leaves the sets of the earlier nodes
abbrev pub EarlierSetsStay : Type 0
EarlierSetsStay = (ns : List Node) (n : Node) (k : ℕ) → k < length ns → node_set (ns ++ n ∷ []) k ≡ node_set ns k

-- the set of a node that is added is made of the earlier nodes' sets
abbrev pub NewSetIsOfItsNode : Type 0
NewSetIsOfItsNode = (ns : List Node) (n : Node) → node_set (ns ++ n ∷ []) (length ns) ≡ set_of (sets_after [] ns) n

-- the set of a node that names earlier nodes is made of the sets of the list
abbrev pub EachSetIsOfItsNode : Type 0
EachSetIsOfItsNode = (ns : List Node) (k : ℕ) (n : Node) → slice_get ns k ≡ Some n → NamesBelow k n → node_set ns k ≡ set_of (sets_after [] ns) n

-- the set of a node's turned image is the turned set
abbrev pub NodeTurned : Type 0
NodeTurned = (ns : List Node) (t k l : ℕ) → IsOrdered ns → TurnOf ns t k l → node_set ns l ≡ turned_set t (node_set ns k)

-- a node's turned image holds at a turned point exactly where the node's set holds at the point
abbrev pub NodeHoldsTurned : Type 0
NodeHoldsTurned = (ns : List Node) (t k l : ℕ) (p : SpacePoint) → IsOrdered ns → TurnOf ns t k l → Holds (node_set ns l) (turned_point t p) ↔ Holds (node_set ns k) p
