-- The sets of operations.
use Rattle.std.specs.Prelude.{◌≡◌, ◌<◌, ℕ, List, Option, Some, None}
use Rattle.nef_result.specs.Prelude.{Set, given_form, op_set, ShowsSet}
use Rattle.law_geometry.specs.turns.Turned.{turned_set}
use Rattle.nef_complex.specs.declared.complex.Complex.{Complex}
use Rattle.nef_expr.specs.Nodes.{operand}
use Rattle.nef_ops.specs.Nodes.{constant_set, unary_set}
use Rattle.nef_shell.specs.declared.operation.Resources.{Resources}
use Rattle.nef_shell.specs.declared.operation.Operation.{Operation}
use Rattle.nef_shell.specs.declared.operation.Operation.TheVariants.{Constant, Half, Unary, Binary, Turned}

-- what operations are worked with: a complex of the whole frame
abbrev pub AreMeans : {G : Type 0} → Resources G → Type 0
AreMeans means = ShowsSet Set.full means.whole.now

-- the complex is there, and shows the set
abbrev pub IsShown : Set → Option Complex → Type 0
IsShown s None = ⊥
IsShown s (Some c) = ShowsSet s c

-- so it is of an operand, if there is one
abbrev pub IsLent : List Set → Option ℕ → Option Complex → Type 0
IsLent ss None c = Unit {0}
IsLent ss (Some i) c = IsShown (operand ss i) c

-- the operation makes the set of those that its operands show
abbrev pub MakesSet : Operation → Set → Type 0
MakesSet (Constant full) s = s ≡ constant_set full
MakesSet (Half o c) s = s ≡ Set.half (given_form o) c
MakesSet (Unary op a) s = (t : Set) × ShowsSet t a.now × (s ≡ unary_set op t)
MakesSet (Binary op a b) s = (t u : Set) × ShowsSet t a.now × ShowsSet u b.now × (s ≡ op_set op t u)
MakesSet (Turned n a) s = (t : Set) × ShowsSet t a.now × (n < 48) × (s ≡ turned_set n t)
