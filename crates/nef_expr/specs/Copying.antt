-- How the turned copy of a node is made.
use Rattle.std.specs.Prelude.{◌≡◌, ℕ, ◌+◌, ◌<◌, ◌≤◌, Bool, true, false, List, ◌++◌, Some, slice_get, slice_index, slice_index_or, length, ◌⊎◌}
use Rattle.law_geometry.specs.turns.Turned.{turned_set}
use Rattle.nef_expr.specs.declared.nodes.Node.{Node}
use Rattle.nef_expr.specs.Nodes.{Shape, shape_of, IsOperand}
use Rattle.nef_expr.specs.Turns.{TurnOf}
use Rattle.nef_expr.specs.Table.{NodeTable}

-- the new list is the old one with more elements at its end
abbrev pub Extends : {A : Type 0} → List A → List A → Type 0
Extends {A} old new = (more : List A) × (new ≡ old ++ more)

-- the nodes keep their numbers and origins, and no base is added
pub record Stays (old new : NodeTable) : Type 0 where
  pub nodes : Extends old.nodes new.nodes
  pub origins : Extends old.origins new.origins
  pub bases : new.bases ≡ old.bases

-- the shape with the turned set, or with the operands' copies
abbrev pub turned_shape : ℕ → (ℕ → ℕ) → Shape → Shape
turned_shape t at (Shape.leaf s) = Shape.leaf (turned_set t s)
turned_shape t at (Shape.unary make i) = Shape.unary make (at i)
turned_shape t at (Shape.binary make i j) = Shape.binary make (at i) (at j)

-- m is a node of the kind of n, with the turned half-space, or with the copies of the operands
abbrev pub IsTurnedNode : ℕ → List ℕ → Node → Node → Type 0
IsTurnedNode t copies n m = shape_of m ≡ turned_shape t (slice_index copies) (shape_of n)

-- `copies` has at each operand's number the number of its turned image
abbrev pub OperandsTurned : List Node → ℕ → List ℕ → Node → Type 0
OperandsTurned nodes t copies n = (i : ℕ) → IsOperand i n → TurnOf nodes t i (slice_index copies i)

abbrev pub IsMarked : List Bool → ℕ → Type 0
IsMarked marks i = slice_index_or marks i false ≡ true

-- the marked nodes are the nodes that were marked before, and the operands of the node
pub record MarksOperands (n : Node) (old new : List Bool) : Type 0 where
  pub count : length new ≡ length old
  pub operands : (i : ℕ) → IsOperand i n → IsMarked new i
  pub kept : (i : ℕ) → IsMarked old i → IsMarked new i
  pub only : (i : ℕ) → IsMarked new i → IsMarked old i ⊎ IsOperand i n

-- for each marked node from i to k its operands are marked
abbrev pub AreClosedFrom : List Node → ℕ → ℕ → List Bool → Type 0
AreClosedFrom nodes i k marks = (m : ℕ) (n : Node) → i ≤ m → m ≤ k → IsMarked marks m → slice_get nodes m ≡ Some n → (o : ℕ) → IsOperand o n → IsMarked marks o

-- node k is marked, and with each marked node its operands
pub record AreWithOperands (nodes : List Node) (k : ℕ) (marks : List Bool) : Type 0 where
  pub count : length marks ≡ k + 1
  pub itself : IsMarked marks k
  pub closed : AreClosedFrom nodes 0 k marks

-- `copies` has the number of the turned image of each marked node among the first i nodes
abbrev pub AreCopies : List Node → ℕ → ℕ → List Bool → List ℕ → Type 0
AreCopies nodes t i marks copies = (m : ℕ) → m < i → IsMarked marks m → TurnOf nodes t m (slice_index copies m)
