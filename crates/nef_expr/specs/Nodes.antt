-- The sets that the nodes of a script stand for.
use Rattle.std.specs.Prelude.{◌≡◌, ◌<◌, ◌∷◌, ◌++◌, ◌⊎◌}
use Rattle.nef_geo.specs.Prelude.{ℕ, List, [], Some, slice_get, slice_index_or, Set, given_form}
use Rattle.nef_expr.specs.declared.nodes.Node.{Node}
use Rattle.nef_expr.specs.declared.nodes.Node.TheVariants as node

-- the set of node k, where ss are the sets of the first nodes
abbrev pub operand : List Set → ℕ → Set
operand ss k = slice_index_or ss k Set.empty

-- the shape of a node: a set that needs no other, or how a set is made of one or two others, named by their numbers
pub data Shape : Type 0 where
  leaf : Set → Shape
  unary : (Set → Set) → ℕ → Shape
  binary : (Set → Set → Set) → ℕ → ℕ → Shape

abbrev pub shape_of : Node → Shape
shape_of (node.Half o c) = Shape.leaf (Set.half (given_form o) c)
shape_of node.Empty = Shape.leaf Set.empty
shape_of node.Full = Shape.leaf Set.full
shape_of (node.And i j) = Shape.binary Set.both i j
shape_of (node.Or i j) = Shape.binary Set.either i j
shape_of (node.Diff i j) = Shape.binary Set.less i j
shape_of (node.Xor i j) = Shape.binary Set.one_of i j
shape_of (node.Not i) = Shape.unary Set.other i
shape_of (node.Int i) = Shape.unary Set.inside i
shape_of (node.Cl i) = Shape.unary Set.closed i
shape_of (node.Bd i) = Shape.unary Set.border i
shape_of (node.Reg i) = Shape.unary Set.regular i

-- the set of this shape, where ss are the sets of the first nodes
abbrev pub made_of : List Set → Shape → Set
made_of ss (Shape.leaf s) = s
made_of ss (Shape.unary make i) = make (operand ss i)
made_of ss (Shape.binary make i j) = make (operand ss i) (operand ss j)

abbrev pub set_of : List Set → Node → Set
set_of ss n = made_of ss (shape_of n)

-- ss, and then the sets of the nodes, from the first to the last
abbrev pub sets_after : List Set → List Node → List Set
sets_after ss [] = ss
sets_after ss (n ∷ ns) = sets_after (ss ++ set_of ss n ∷ []) ns

-- the set of node k
abbrev pub node_set : List Node → ℕ → Set
node_set ns k = operand (sets_after [] ns) k

-- the operands of the shape are among the first n nodes
abbrev pub UsesBelow : ℕ → Shape → Type 0
UsesBelow n (Shape.leaf s) = Unit {0}
UsesBelow n (Shape.unary make i) = i < n
UsesBelow n (Shape.binary make i j) = (i < n) × (j < n)

abbrev pub NamesBelow : ℕ → Node → Type 0
NamesBelow n m = UsesBelow n (shape_of m)

-- node k is an operand of the shape
abbrev pub Uses : ℕ → Shape → Type 0
Uses k (Shape.leaf s) = ⊥
Uses k (Shape.unary make i) = k ≡ i
Uses k (Shape.binary make i j) = (k ≡ i) ⊎ (k ≡ j)

abbrev pub IsOperand : ℕ → Node → Type 0
IsOperand k n = Uses k (shape_of n)

-- each node names earlier nodes only
abbrev pub IsOrdered : List Node → Type 0
IsOrdered ns = (k : ℕ) (n : Node) → slice_get ns k ≡ Some n → NamesBelow k n
