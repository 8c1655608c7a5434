-- The operands of nodes.
use Rattle.nef_expr.proofs.Prelude.{ℕ, ◌<◌, ◌≤◌, refl, arith, inl, inr, Node, Shape, shape_of, UsesBelow, Uses, NamesBelow, IsOperand}

-- the operands of a node that names nodes below n are below n
use-below : (n k : ℕ) (s : Shape) → UsesBelow n s → Uses k s → k < n
use-below n k (Shape.leaf s) below is = absurd is
use-below n k (Shape.unary make i) below is = rw is below
use-below n k (Shape.binary make i j) below is = elim is [ inl e ↦ rw e below.0 | inr e ↦ rw e below.1 ]

pub operand-below : (n k : ℕ) (m : Node) → NamesBelow n m → IsOperand k m → k < n
operand-below n k m below is = use-below n k (shape_of m) below is

-- a node names nodes below n where its operands are below n
pub uses-from : (n : ℕ) (s : Shape) → ((k : ℕ) → Uses k s → k < n) → UsesBelow n s
uses-from n (Shape.leaf s) each = tt
uses-from n (Shape.unary make i) each = each i refl
uses-from n (Shape.binary make i j) each = (each i (inl refl), each j (inr refl))

pub names-from : (n : ℕ) (m : Node) → ((k : ℕ) → IsOperand k m → k < n) → NamesBelow n m
names-from n m each = uses-from n (shape_of m) each

pub names-wider : (m n : ℕ) (x : Node) → m ≤ n → NamesBelow m x → NamesBelow n x
names-wider m n x l below = names-from n x (λ k is. let b = operand-below m k x below is in omega (arith, l, b))
