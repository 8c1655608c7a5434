-- When a node of a list is the turned image of another.
use Rattle.std.specs.Prelude.{◌≡◌, ℕ, List, Some, slice_get}
use Rattle.nef_space.specs.Sets.{Set}
use Rattle.nef_expr.specs.declared.nodes.Node.{Node}
use Rattle.nef_expr.specs.Nodes.{Shape, shape_of}
use Rattle.law_geometry.specs.turns.Turned.{turned_set}

-- node k of the list is n
abbrev pub IsNode : List Node → ℕ → Node → Type 0
IsNode ns k n = slice_get ns k ≡ Some n

-- node k of the list has this shape
abbrev pub HasShape : List Node → ℕ → Shape → Type 0
HasShape ns k s = (n : Node) × IsNode ns k n × (shape_of n ≡ s)

-- node l is the image of node k: of k's kind, with a half's plane turned, or with the images of k's operands
pub data TurnOf (ns : List Node) (t : ℕ) : ℕ → ℕ → Type 0 where
  of_leaf : (k l : ℕ) (s : Set) → HasShape ns k (Shape.leaf s) → HasShape ns l (Shape.leaf (turned_set t s)) → TurnOf ns t k l
  of_unary : (k l i i' : ℕ) (make : Set → Set) → HasShape ns k (Shape.unary make i) → HasShape ns l (Shape.unary make i') → TurnOf ns t i i' → TurnOf ns t k l
  of_binary : (k l i j i' j' : ℕ) (make : Set → Set → Set) → HasShape ns k (Shape.binary make i j) → HasShape ns l (Shape.binary make i' j') → TurnOf ns t i i' → TurnOf ns t j j' → TurnOf ns t k l
