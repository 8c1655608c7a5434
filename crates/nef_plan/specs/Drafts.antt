-- Drafts of a script's steps, which make the sets of nodes.
use Rattle.std.specs.Prelude.{◌≡◌, ◌⊎◌, ℕ, ◌<◌, ◌≤◌, true, List, [], ◌∷◌, ◌++◌, Some, length, slice_get}
use Rattle.law_geometry.specs.turns.Turned.{turned_set}
use Rattle.nef_expr.specs.declared.nodes.Node.{Node}
use Rattle.nef_expr.specs.Nodes.{node_set, set_of, sets_after, NamesBelow, IsOperand}
use Rattle.nef_script.specs.declared.script.Command.{Command}
use Rattle.nef_script.specs.Meaning.{SpeaksOfFirst}
use Rattle.nef_plan.specs.declared.planner.Draft.{Draft}
use Rattle.nef_plan.specs.declared.planner.Draft.TheVariants.{Make, Turn, Ask}
use Rattle.nef_plan.specs.Alike.{AreAlike}
use Rattle.nef_plan.specs.Questions.{AsksAbout, IsDue, is_question}

-- the step makes the set of node k
abbrev pub Makes : Draft → ℕ → Type 0
Makes (Make n m) k = k ≡ n
Makes (Turn n j t) k = k ≡ n
Makes (Ask c) k = ⊥

-- the step looks at the set of node k: it makes another of it, or asks about it
abbrev pub DraftLooksAt : Draft → ℕ → Type 0
DraftLooksAt (Make n m) k = IsOperand k m
DraftLooksAt (Turn n j t) k = k ≡ j
DraftLooksAt (Ask c) k = AsksAbout c.now k

-- m, whose operands are nodes, is an expression for the set of the node n with the same planes
pub record IsMadeAs (nodes : List Node) (n : ℕ) (m : Node) : Type 0 where
  pub within : n < length nodes
  pub operands : NamesBelow (length nodes) m
  pub set : AreAlike (set_of (sets_after [] nodes) m) (node_set nodes n)

-- the set of node n is that of node j under the turn t
pub record IsTurnedFrom (nodes : List Node) (n j t : ℕ) : Type 0 where
  pub within : n < length nodes
  pub operand : j < length nodes
  pub turn : t < 48
  pub set : node_set nodes n ≡ turned_set t (node_set nodes j)

-- the step makes what it says, or asks a question about nodes
abbrev pub IsRightDraft : List Node → Draft → Type 0
IsRightDraft nodes (Make n m) = IsMadeAs nodes n m
IsRightDraft nodes (Turn n j t) = IsTurnedFrom nodes n j t
IsRightDraft nodes (Ask c) = (is_question c.now ≡ true) × SpeaksOfFirst (length nodes) c.now

-- some step makes the set of node k
abbrev pub IsMade : List Draft → ℕ → Type 0
IsMade steps k = (j : ℕ) × (d : Draft) × (slice_get steps j ≡ Some d) × Makes d k

-- the steps make the sets that s looks at, and none of them makes the set that s makes
pub record MayFollow (steps : List Draft) (s : Draft) : Type 0 where
  pub looks : (k : ℕ) → DraftLooksAt s k → IsMade steps k
  pub new : (k : ℕ) → Makes s k → IsMade steps k → ⊥

-- each step is right, and may follow those before it: so no node's set is made twice
pub record AreDrafts (nodes : List Node) (steps : List Draft) : Type 0 where
  pub right : (i : ℕ) (s : Draft) → slice_get steps i ≡ Some s → IsRightDraft nodes s
  pub follow : (front rest : List Draft) (s : Draft) → steps ≡ front ++ s ∷ rest → MayFollow front s

-- the questions of the steps, in order
abbrev pub asked : List Draft → List Command
asked [] = []
asked (Make n m ∷ steps) = asked steps
asked (Turn n j t ∷ steps) = asked steps
asked (Ask c ∷ steps) = c.now ∷ asked steps

-- the later list has nodes more, and the earlier ones have their sets there
pub record HasMore (old new : List Node) : Type 0 where
  pub as_many : length old ≤ length new
  pub sets : (k : ℕ) → k < length old → node_set new k ≡ node_set old k

-- node k isn't one of the first n, and the step makes its set of others
abbrev pub IsOfOthers : ℕ → Draft → ℕ → Type 0
IsOfOthers n s k = (n ≤ k) × ((m : ℕ) × DraftLooksAt s m)

-- no set is made before the questions of earlier lines are asked: the step that makes it stands behind the questions of all lines before one that binds its node, or no line can bind its node, and it's made of others, of which the same holds
pub record AreTimely (nodes : List Node) (commands : List Command) (steps : List Draft) : Type 0 where
  pub each : (front rest : List Draft) (s : Draft) → steps ≡ front ++ s ∷ rest → (k : ℕ) → Makes s k → IsDue commands (length (asked front)) k ⊎ IsOfOthers (length nodes) s k

-- of these steps the first that asks a question looks at the set of node k, or at a set that steps before it make of that one, or of others so made; where no question comes any more, a set may be made that none needs
abbrev pub IsNeeded : List Draft → ℕ → Type 0
IsNeeded [] k = Unit {0}
IsNeeded (Make n m ∷ rest) k = IsNeeded rest k ⊎ (IsOperand k m × IsNeeded rest n)
IsNeeded (Turn n j t ∷ rest) k = IsNeeded rest k ⊎ ((k ≡ j) × IsNeeded rest n)
IsNeeded (Ask c ∷ rest) k = AsksAbout c.now k

-- each set that is made is needed by the first question after it, if there is one
abbrev pub AreNeeded : List Draft → Type 0
AreNeeded [] = Unit {0}
AreNeeded (s ∷ rest) = ((k : ℕ) → Makes s k → IsNeeded rest k) × AreNeeded rest
