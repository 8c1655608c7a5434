-- The set of a node's turned image is the turned set.
use Rattle.nef_expr.proofs.Prelude.{◌≡◌, ℕ, List, [], refl, ap, sym, ◌∙◌, subst, Form, form, Set, given_form, Triple, IsComposition, Node, Shape, shape_of, made_of, sets_after, node_set, IsOrdered, turned_plane, turned_set, HasShape, TurnOf, of_leaf, of_unary, of_binary}
use Rattle.nef_expr.specs.declared.nodes.Node.TheVariants as node
use Rattle.nef_expr.proofs.Sets.{each-set}
use Rattle.nef_space.proofs.Elementary.{equal-pairs}

-- turns pass through the shape
abbrev pub IsTurnable : Shape → Type 0
IsTurnable (Shape.leaf s) = (turned_set 0 s ≡ s) × ((i j t : ℕ) → IsComposition i t j → turned_set i s ≡ turned_set t (turned_set j s))
IsTurnable (Shape.unary make i) = (t : ℕ) (a : Set) → make (turned_set t a) ≡ turned_set t (make a)
IsTurnable (Shape.binary make i j) = (t : ℕ) (a b : Set) → make (turned_set t a) (turned_set t b) ≡ turned_set t (make a b)

pub plane-twice : (i j t : ℕ) → IsComposition i t j → (h : Form) → turned_plane i h ≡ turned_plane t (turned_plane j h)
plane-twice i j t composed h = ap (λ (v : Triple). form v.0 v.1 v.2 h.d) (composed (h.a, h.b, h.c))

turnable : (n : Node) → IsTurnable (shape_of n)
turnable (node.Half o c) = (refl, λ i j t composed. ap (λ (h : Form). Set.half h c) (plane-twice i j t composed (given_form o)))
turnable node.Empty = (refl, λ i j t composed. refl)
turnable node.Full = (refl, λ i j t composed. refl)
turnable (node.And i j) = λ t a b. refl
turnable (node.Or i j) = λ t a b. refl
turnable (node.Diff i j) = λ t a b. refl
turnable (node.Xor i j) = λ t a b. refl
turnable (node.Not i) = λ t a. refl
turnable (node.Int i) = λ t a. refl
turnable (node.Cl i) = λ t a. refl
turnable (node.Bd i) = λ t a. refl
turnable (node.Reg i) = λ t a. refl

pub shape-turnable : (ns : List Node) (k : ℕ) (s : Shape) → HasShape ns k s → IsTurnable s
shape-turnable ns k s (n, at, e) = subst IsTurnable e (turnable n)

module _ (ns : List Node) (ordered : IsOrdered ns) (t : ℕ) where
  made : (k : ℕ) (s : Shape) → HasShape ns k s → node_set ns k ≡ made_of (sets_after [] ns) s
  made k s (n, at, e) = each-set ns k n at (ordered k n at) ∙ ap (made_of (sets_after [] ns)) e

  -- both nodes' sets are made of their operands'
  from_shapes : (k l : ℕ) (s u : Shape) → HasShape ns k s → HasShape ns l u → made_of (sets_after [] ns) u ≡ turned_set t (made_of (sets_after [] ns) s) → node_set ns l ≡ turned_set t (node_set ns k)
  from_shapes k l s u is is' e = made l u is' ∙ e ∙ ap (turned_set t) (sym (made k s is))

  pub node-turned : (k l : ℕ) → TurnOf ns t k l → node_set ns l ≡ turned_set t (node_set ns k)
  node-turned _ _ (of_leaf k l s is is') = from_shapes k l (Shape.leaf s) (Shape.leaf (turned_set t s)) is is' refl
  node-turned _ _ (of_unary k l i i' make is is' a) = from_shapes k l (Shape.unary make i) (Shape.unary make i') is is' (ap make (node-turned i i' a) ∙ shape-turnable ns k (Shape.unary make i) is t _)
  node-turned _ _ (of_binary k l i j i' j' make is is' a b) = from_shapes k l (Shape.binary make i j) (Shape.binary make i' j') is is' (equal-pairs make (node-turned i i' a) (node-turned j j' b) ∙ shape-turnable ns k (Shape.binary make i j) is t _ _)
