-- The numbers of values for those of nodes.
use Rattle.std.specs.Prelude.{◌≡◌, ◌↔◌, ◌⊎◌, ℕ, ◌+◌, ◌<◌, ◌≤◌, true, List, [], ◌∷◌, Option, None, Some, slice_get, slice_index, slice_set}
use Rattle.std.specs.Option.{unwrap_or}
use Rattle.nef_expr.specs.declared.nodes.Node.{Node}
use Rattle.nef_expr.specs.declared.nodes.Node.TheVariants as node
use Rattle.nef_expr.specs.Nodes.{NamesBelow}
use Rattle.nef_script.specs.Meaning.{SpeaksOfFirst}
use Rattle.nef_plan.specs.declared.planner.Draft.{Draft}
use Rattle.nef_plan.specs.declared.planner.Draft.TheVariants as draft
use Rattle.nef_plan.specs.declared.step.Step.{Step}
use Rattle.nef_plan.specs.declared.step.Task.{Task}
use Rattle.nef_plan.specs.declared.step.Task.TheVariants.{Make, Turn, Ask}
use Rattle.nef_plan.specs.Questions.{first_asked, second_asked}
use Rattle.nef_plan.specs.Values.{LooksAtValue, first_value, second_value}

-- the expression with the number that f has for each operand
abbrev pub over : (ℕ → ℕ) → Node → Node
over f (node.Half o c) = node.Half o c
over f node.Empty = node.Empty
over f node.Full = node.Full
over f (node.And i j) = node.And (f i) (f j)
over f (node.Or i j) = node.Or (f i) (f j)
over f (node.Diff i j) = node.Diff (f i) (f j)
over f (node.Xor i j) = node.Xor (f i) (f j)
over f (node.Not i) = node.Not (f i)
over f (node.Int i) = node.Int (f i)
over f (node.Cl i) = node.Cl (f i)
over f (node.Bd i) = node.Bd (f i)
over f (node.Reg i) = node.Reg (f i)

-- the value of the node, if there is one
abbrev pub value_of : List ℕ → Option ℕ → Option ℕ
value_of values None = None
value_of values (Some k) = Some (slice_index values k)

-- the draft's task, where each node that it looks at has its value there; a question is about one node at least
abbrev pub task_over : List ℕ → Draft → Task
task_over values (draft.Make n m) = Make (over (slice_index values) m)
task_over values (draft.Turn n j t) = Turn (slice_index values j) t
task_over values (draft.Ask c) = Ask c (unwrap_or (value_of values (first_asked c.now)) 0) (value_of values (second_asked c.now))

-- the node that the draft makes has the value n
abbrev pub put_value : List ℕ → Draft → ℕ → List ℕ
put_value values (draft.Make k m) n = slice_set values k n
put_value values (draft.Turn k j t) n = slice_set values k n
put_value values (draft.Ask c) n = values

abbrev pub put_values : List ℕ → ℕ → List Draft → List ℕ
put_values values n [] = values
put_values values n (d ∷ drafts) = put_values (put_value values d n) (n + 1) drafts

-- the tasks of drafts whose numbers begin with n
abbrev pub tasks_over : List ℕ → ℕ → List Draft → List Task
tasks_over values n [] = []
tasks_over values n (d ∷ drafts) = task_over values d ∷ tasks_over (put_value values d n) (n + 1) drafts

abbrev pub tasks_in : List Step → List Task
tasks_in [] = []
tasks_in (s ∷ steps) = s.task ∷ tasks_in steps

-- the nodes of the draft are among the first n
abbrev pub IsDraftBelow : ℕ → Draft → Type 0
IsDraftBelow n (draft.Make k m) = (k < n) × NamesBelow n m
IsDraftBelow n (draft.Turn k j t) = (k < n) × (j < n)
IsDraftBelow n (draft.Ask c) = SpeaksOfFirst n c.now

-- each task looks at values with numbers below n
abbrev pub LookBelow : ℕ → List Task → Type 0
LookBelow n tasks = (i : ℕ) (t : Task) → slice_get tasks i ≡ Some t → (k : ℕ) → LooksAtValue t k → k < n

-- for each value the number of a task that none comes after which looks at it
abbrev pub AreLastUses : List Task → List ℕ → Type 0
AreLastUses tasks uses = (i k : ℕ) (t : Task) → slice_get tasks i ≡ Some t → LooksAtValue t k → i ≤ slice_index uses k

-- it is 0, or the number of a task that looks at the value
abbrev pub AreUses : List Task → List ℕ → Type 0
AreUses tasks uses = (k : ℕ) → (slice_index uses k ≡ 0) ⊎ ((t : Task) × (slice_get tasks (slice_index uses k) ≡ Some t) × LooksAtValue t k)

-- the value, if there is one, has its last use no later than at the number n
abbrev pub IsUsedBy : List ℕ → ℕ → Option ℕ → Type 0
IsUsedBy uses n value = (k : ℕ) → value ≡ Some k → slice_index uses k ≤ n

-- the step with the number i says of each value whether it has its last use there
pub record IsLastAt (uses : List ℕ) (i : ℕ) (s : Step) : Type 0 where
  pub first : (s.ends_first ≡ true) ↔ IsUsedBy uses i (first_value s.task)
  pub second : (s.ends_second ≡ true) ↔ IsUsedBy uses i (second_value s.task)
  pub made : (s.ends_made ≡ true) ↔ IsUsedBy uses i (Some i)
