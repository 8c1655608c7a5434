-- Which nodes the commands of a script look at and bind.
use Rattle.std.specs.Prelude.{◌≡◌, ℕ, ◌<◌, List, ◌⊎◌, Some, slice_get, slice_index_or}
use Rattle.nef_expr.specs.declared.nodes.Node.{Node}
use Rattle.nef_expr.specs.declared.nodes.Node.TheVariants as node
use Rattle.nef_expr.specs.Nodes.{IsOperand}
use Rattle.nef_expr.specs.Turns.{TurnOf}
use Rattle.nef_script.specs.declared.script.Command.{Command}
use Rattle.nef_script.specs.declared.script.Command.TheVariants.{Bind, Turn, Has, Joined, Ray, Same, Count, Print}

-- the command looks at the set of node k: it binds a node with operand k, turns node k, or asks about it
abbrev pub LooksAt : List Node → Command → ℕ → Type 0
LooksAt nodes (Bind line n) k = IsOperand k (slice_index_or nodes n node.Empty)
LooksAt nodes (Turn line n j t) k = k ≡ j
LooksAt nodes (Has line n p) k = k ≡ n
LooksAt nodes (Joined line n p q) k = k ≡ n
LooksAt nodes (Ray line n p d) k = k ≡ n
LooksAt nodes (Same line i j) k = (k ≡ i) ⊎ (k ≡ j)
LooksAt nodes (Count line n) k = k ≡ n
LooksAt nodes (Print line n name) k = k ≡ n

-- the command binds a name to node k
abbrev pub Binds : Command → ℕ → Type 0
Binds (Bind line n) k = k ≡ n
Binds (Turn line n j t) k = k ≡ n
Binds (Has line n p) k = ⊥
Binds (Joined line n p q) k = ⊥
Binds (Ray line n p d) k = ⊥
Binds (Same line i j) k = ⊥
Binds (Count line n) k = ⊥
Binds (Print line n name) k = ⊥

-- some command binds a name to node k
abbrev pub IsBound : List Command → ℕ → Type 0
IsBound commands k = (i : ℕ) × (c : Command) × (slice_get commands i ≡ Some c) × Binds c k

-- each node that a command looks at is bound by an earlier command
abbrev pub AreBoundBefore : List Node → List Command → Type 0
AreBoundBefore nodes commands = (i : ℕ) (c : Command) → slice_get commands i ≡ Some c → (k : ℕ) → LooksAt nodes c k → (j : ℕ) × (d : Command) × (j < i) × (slice_get commands j ≡ Some d) × Binds d k

-- if the command turns a node, the node that it binds is the turned image of that node
abbrev pub TurnsRight : List Node → Command → Type 0
TurnsRight nodes (Bind line n) = Unit {0}
TurnsRight nodes (Turn line n j t) = TurnOf nodes t j n
TurnsRight nodes (Has line n p) = Unit {0}
TurnsRight nodes (Joined line n p q) = Unit {0}
TurnsRight nodes (Ray line n p d) = Unit {0}
TurnsRight nodes (Same line i j) = Unit {0}
TurnsRight nodes (Count line n) = Unit {0}
TurnsRight nodes (Print line n name) = Unit {0}
