-- The values of a script's work: the sets that its steps make, by the numbers of the steps.
use Rattle.std.specs.Prelude.{◌≡◌, ◌↔◌, ◌⊎◌, ℕ, ◌+◌, ◌*◌, ◌<◌, ◌≤◌, true, List, [], ◌∷◌, ◌++◌, Option, None, Some, length, filter, slice_get, take}
use Rattle.law_geometry.specs.turns.Turned.{turned_set}
use Rattle.nef_space.specs.Sets.{Set}
use Rattle.nef_expr.specs.declared.nodes.Node.{Node}
use Rattle.nef_expr.specs.Nodes.{Shape, node_set, operand, set_of, shape_of, IsOperand}
use Rattle.nef_script.specs.declared.script.Command.{Command}
use Rattle.nef_plan.specs.declared.row.TheConstants.{MOST_PARTS}
use Rattle.nef_plan.specs.declared.step.Step.{Step}
use Rattle.nef_plan.specs.declared.step.Task.{Task}
use Rattle.nef_plan.specs.declared.step.Task.TheVariants.{Make, Turn, Ask}
use Rattle.nef_plan.specs.Alike.{AreAlike}
use Rattle.nef_plan.specs.Drafts.{HasMore}
use Rattle.nef_plan.specs.Questions.{IsDue, first_asked, is_question, second_asked}

-- the set that the task makes, where ss are the values of earlier steps; the number of a question stands for no value, and has the empty set in its place
abbrev pub task_set : List Set → Task → Set
task_set ss (Make m) = set_of ss m
task_set ss (Turn j t) = turned_set t (operand ss j)
task_set ss (Ask c i second) = Set.empty

-- the values of all steps, first to last, after those of ss
abbrev pub values_after : List Set → List Step → List Set
values_after ss [] = ss
values_after ss (s ∷ steps) = values_after (ss ++ task_set ss s.task ∷ []) steps

-- value k
abbrev pub value_set : List Step → ℕ → Set
value_set steps k = operand (values_after [] steps) k

-- the task makes a value
abbrev pub MakesValue : Task → Type 0
MakesValue (Make m) = Unit {0}
MakesValue (Turn j t) = Unit {0}
MakesValue (Ask c i second) = ⊥

-- the values that the task looks at
abbrev pub first_of : Shape → Option ℕ
first_of (Shape.leaf s) = None
first_of (Shape.unary make i) = Some i
first_of (Shape.binary make i j) = Some i

abbrev pub second_of : Shape → Option ℕ
second_of (Shape.leaf s) = None
second_of (Shape.unary make i) = None
second_of (Shape.binary make i j) = Some j

abbrev pub first_value : Task → Option ℕ
first_value (Make m) = first_of (shape_of m)
first_value (Turn j t) = Some j
first_value (Ask c i second) = Some i

abbrev pub second_value : Task → Option ℕ
second_value (Make m) = second_of (shape_of m)
second_value (Turn j t) = None
second_value (Ask c i second) = second

abbrev pub LooksAtValue : Task → ℕ → Type 0
LooksAtValue (Make m) k = IsOperand k m
LooksAtValue (Turn j t) k = k ≡ j
LooksAtValue (Ask c i second) k = (k ≡ i) ⊎ (second ≡ Some k)

-- the step with the number k makes a value
abbrev pub IsValue : List Step → ℕ → Type 0
IsValue steps k = (s : Step) × (slice_get steps k ≡ Some s) × MakesValue s.task

-- a step with a number of at least n looks at value k
abbrev pub IsAwaited : List Step → ℕ → ℕ → Type 0
IsAwaited steps n k = (j : ℕ) × (s : Step) × (n ≤ j) × (slice_get steps j ≡ Some s) × LooksAtValue s.task k

-- a turn is one of the 48, and what is asked is a question
abbrev pub IsTask : Task → Type 0
IsTask (Make m) = Unit {0}
IsTask (Turn j t) = t < 48
IsTask (Ask c i second) = is_question c.now ≡ true

-- each step's task is one, and looks at values that earlier steps make
pub record AreSteps (steps : List Step) : Type 0 where
  pub tasks : (i : ℕ) (s : Step) → slice_get steps i ≡ Some s → IsTask s.task
  pub made_before : (i : ℕ) (s : Step) → slice_get steps i ≡ Some s → (k : ℕ) → LooksAtValue s.task k → (d : Step) × (k < i) × (slice_get steps k ≡ Some d) × MakesValue d.task

-- no step with a number of at least n looks at the value, if there is one
abbrev pub NoneLooksFrom : List Step → ℕ → Option ℕ → Type 0
NoneLooksFrom steps n value = (k : ℕ) → value ≡ Some k → IsAwaited steps n k → ⊥

-- the step with the number i says of each value that it looks at or makes whether no later step looks at it
pub record IsEndedAt (steps : List Step) (i : ℕ) (s : Step) : Type 0 where
  pub first : (s.ends_first ≡ true) ↔ NoneLooksFrom steps (i + 1) (first_value s.task)
  pub second : (s.ends_second ≡ true) ↔ NoneLooksFrom steps (i + 1) (second_value s.task)
  pub made : (s.ends_made ≡ true) ↔ NoneLooksFrom steps (i + 1) (Some i)

abbrev pub AreEndedAt : List Step → Type 0
AreEndedAt steps = (i : ℕ) (s : Step) → slice_get steps i ≡ Some s → IsEndedAt steps i s

-- the questions of the steps, in order
abbrev pub questions_of : Task → List Command
questions_of (Make m) = []
questions_of (Turn j t) = []
questions_of (Ask c i second) = c.now ∷ []

abbrev pub asked_values : List Step → List Command
asked_values [] = []
asked_values (s ∷ steps) = questions_of s.task ++ asked_values steps

-- where there is a node, there is a value, which is the set of that node with the same planes
abbrev pub IsValueOf : List Node → List Step → Option ℕ → Option ℕ → Type 0
IsValueOf nodes steps None None = Unit {0}
IsValueOf nodes steps None (Some k) = ⊥
IsValueOf nodes steps (Some n) None = ⊥
IsValueOf nodes steps (Some n) (Some k) = AreAlike (value_set steps k) (node_set nodes n)

-- a question about values is the one of its command about nodes
pub record AsksRight (nodes : List Node) (steps : List Step) (c : Command) (i : ℕ) (other : Option ℕ) : Type 0 where
  pub first : IsValueOf nodes steps (first_asked c) (Some i)
  pub second : IsValueOf nodes steps (second_asked c) other

abbrev pub IsAnswered : List Node → List Step → Task → Type 0
IsAnswered nodes steps (Make m) = Unit {0}
IsAnswered nodes steps (Turn j t) = Unit {0}
IsAnswered nodes steps (Ask c i second) = AsksRight nodes steps c.now i second

-- the steps ask the questions of the commands, in order, and each about the values of its nodes
pub record AreAnswered (nodes : List Node) (commands : List Command) (steps : List Step) : Type 0 where
  pub asked : asked_values steps ≡ filter is_question commands
  pub right : (i : ℕ) (s : Step) → slice_get steps i ≡ Some s → IsAnswered nodes steps s.task

-- value k, which the task makes, has a name that a line binds, and of the lines before it no more ask a question than the steps before that one; or no line can bind its name, and it's made of others, of which the same holds
abbrev pub IsTimely : List Node → List Command → List Step → ℕ → Task → ℕ → Type 0
IsTimely nodes commands steps k t name = IsDue commands (length (asked_values (take k steps))) name ⊎ ((length nodes ≤ name) × ((v : ℕ) × LooksAtValue t v))

-- the task looks at a value with the name n
abbrev pub LooksAtNamed : (ℕ → ℕ) → Task → ℕ → Type 0
LooksAtNamed named t n = (v : ℕ) × LooksAtValue t v × (named v ≡ n)

-- the task is a question that looks at the name, or a later one needs it: itself, or what the task makes of it
abbrev pub IsNeededBy : Task → Type 0 → Type 0 → Type 0 → Type 0
IsNeededBy (Make m) looks later made = later ⊎ (looks × made)
IsNeededBy (Turn j t) looks later made = later ⊎ (looks × made)
IsNeededBy (Ask c i second) looks later made = looks

-- of the last steps, whose numbers begin with n, the first that asks a question looks at the name k, or at one that steps before it make of that one, or of others so made; where no question comes any more, a value may be made that none needs
abbrev pub IsNameNeeded : (ℕ → ℕ) → ℕ → List Step → ℕ → Type 0
IsNameNeeded named n [] k = Unit {0}
IsNameNeeded named n (s ∷ rest) k = IsNeededBy s.task (LooksAtNamed named s.task k) (IsNameNeeded named (n + 1) rest k) (IsNameNeeded named (n + 1) rest (named n))

-- the name of each value that is made is needed by the first question after it, if there is one
abbrev pub AreNamesNeeded : (ℕ → ℕ) → ℕ → List Step → Type 0
AreNamesNeeded named n [] = Unit {0}
AreNamesNeeded named n (s ∷ rest) = (MakesValue s.task → IsNameNeeded named (n + 1) rest (named n)) × AreNamesNeeded named (n + 1) rest

-- the name of the value, if there is one
abbrev pub name_of : (ℕ → ℕ) → Option ℕ → Option ℕ
name_of named None = None
name_of named (Some k) = Some (named k)

-- a question is about the values whose names are the nodes that its command asks about
abbrev pub AsksNamed : (ℕ → ℕ) → Task → Type 0
AsksNamed named (Make m) = Unit {0}
AsksNamed named (Turn j t) = Unit {0}
AsksNamed named (Ask c i second) = (first_asked c.now ≡ Some (named i)) × (second_asked c.now ≡ name_of named second)

-- how many joins one line takes at most: it looks at two nodes, each of which may be a row that was put off, and may add one part to one of these rows
abbrev pub joins_a_line : ℕ
joins_a_line = 2 * MOST_PARTS + 1

-- the steps ask the script's questions, each about the values that its nodes name; and each value that they make is the set of the node that is its name, one of the script's or of more behind them and no other value's, and is made neither before its line's turn nor before it's needed; and there are at most as many steps as the script has nodes, and for each line one more and its joins
pub record IsPlanOf (nodes : List Node) (commands : List Command) (steps : List Step) : Type 0 where
  pub right : AreSteps steps
  pub ends : AreEndedAt steps
  pub answered : AreAnswered nodes commands steps
  pub all : List Node
  pub named : ℕ → ℕ
  pub more : HasMore nodes all
  pub within : (k : ℕ) (s : Step) → slice_get steps k ≡ Some s → MakesValue s.task → named k < length all
  pub sets : (k : ℕ) (s : Step) → slice_get steps k ≡ Some s → MakesValue s.task → AreAlike (value_set steps k) (node_set all (named k))
  pub once : (j k : ℕ) → IsValue steps j → IsValue steps k → named j ≡ named k → j ≡ k
  pub asks : (k : ℕ) (s : Step) → slice_get steps k ≡ Some s → AsksNamed named s.task
  pub timely : (k : ℕ) (s : Step) → slice_get steps k ≡ Some s → MakesValue s.task → IsTimely nodes commands steps k s.task (named k)
  pub needed : AreNamesNeeded named 0 steps
  pub few : length steps ≤ length nodes + (joins_a_line + 1) * length commands
