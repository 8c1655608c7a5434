-- What is known of the commands of a script, and what their questions ask about.
use Rattle.std.specs.Prelude.{◌≡◌, ◌⊎◌, ℕ, ◌≤◌, Bool, true, false, List, All, Option, None, Some, length, filter, slice_get, take}
use Rattle.nef_expr.specs.declared.nodes.Node.{Node}
use Rattle.nef_script.specs.declared.script.Command.{Command}
use Rattle.nef_script.specs.declared.script.Command.TheVariants as command
use Rattle.nef_script.specs.Commands.{TurnsRight, AreBoundBefore, Binds}
use Rattle.nef_script.specs.Meaning.{SpeaksOfFirst}

-- what is known of the commands of a script that isn't refused: each is within the nodes, turns what it says, and looks at nodes that earlier ones bind
pub record AreWorkable (nodes : List Node) (commands : List Command) : Type 0 where
  pub within : All (SpeaksOfFirst (length nodes)) commands
  pub turned : All (TurnsRight nodes) commands
  pub bound_before : AreBoundBefore nodes commands

-- the command asks a question
abbrev pub is_question : Command → Bool
is_question (command.Bind line n) = false
is_question (command.Turn line n j t) = false
is_question _ = true

-- a line binds node k, and of the lines before it no more than q ask a question
abbrev pub IsDue : List Command → ℕ → ℕ → Type 0
IsDue commands q k = (p : ℕ) × (c : Command) × (slice_get commands p ≡ Some c) × Binds c k × (length (filter is_question (take p commands)) ≤ q)

-- the node of the first set that the command asks about, and of the second, if it asks about two
abbrev pub first_asked : Command → Option ℕ
first_asked (command.Bind line n) = None
first_asked (command.Turn line n j t) = None
first_asked (command.Has line n p) = Some n
first_asked (command.Joined line n p q) = Some n
first_asked (command.Ray line n p d) = Some n
first_asked (command.Same line i j) = Some i
first_asked (command.Count line n) = Some n
first_asked (command.Print line n name) = Some n

abbrev pub second_asked : Command → Option ℕ
second_asked (command.Same line i j) = Some j
second_asked _ = None

-- it asks about the set of node k
abbrev pub AsksAbout : Command → ℕ → Type 0
AsksAbout c k = (first_asked c ≡ Some k) ⊎ (second_asked c ≡ Some k)
