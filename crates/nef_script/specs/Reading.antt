-- What the reading of one line does.
use Rattle.std.specs.Prelude.{◌≡◌, ℕ, ◌+◌, ◌<◌, ◌≤◌, Bool, true, false, ℤ, get_or, List, [], ◌∷◌, ◌++◌, ◌⊎◌, None, Some, length, take, slice_get, if◌then◌else◌}
use Rattle.nef_space.specs.Points.{Form, form}
use Rattle.nef_lex.specs.Words.{words_of}
use Rattle.nef_expr.specs.Table.{NodeTable}
use Rattle.nef_expr.specs.Copying.{Extends}
use Rattle.nef_script.specs.Table.{binds, is_own}
use Rattle.nef_script.specs.Tests.{number_or_zero}
use Rattle.nef_script.specs.Refusal.{line_refusal, bound_name}
use Rattle.nef_script.specs.Meaning.{NamesNode, Sets, MeansCommand, MeansWords, SpeaksOfFirst, has_words, adds_base}
use Rattle.nef_script.specs.Commands.{LooksAt, Binds, TurnsRight}
use Rattle.nef_script.specs.declared.arguments.Verb.{Verb}
use Rattle.nef_script.specs.declared.script.Command.{Command}

-- there are two words, and the second names node i
abbrev pub SecondIs : List (List ℕ) → List ℕ → List (List ℕ) → ℕ → Type 0
SecondIs names bound (first ∷ second ∷ []) i = NamesNode names bound second i
SecondIs names bound args i = ⊥

-- there are three words, and the second and the third name nodes i and j
abbrev pub LastTwoAre : List (List ℕ) → List ℕ → List (List ℕ) → ℕ → ℕ → Type 0
LastTwoAre names bound (first ∷ second ∷ third ∷ []) i j = NamesNode names bound second i × NamesNode names bound third j
LastTwoAre names bound args i j = ⊥

-- what is read so far: the names with their nodes, the nodes with their origins, and the commands
pub record ReadState : Type 0 where
  pub names : List (List ℕ)
  pub bound : List ℕ
  pub table : NodeTable
  pub commands : List Command

abbrev pub state : List (List ℕ) → List ℕ → NodeTable → List Command → ReadState
state names bound table commands = record { names = names; bound = bound; table = table; commands = commands }

abbrev pub sets_of : ReadState → Sets
sets_of s = record { nodes = s.table.nodes; origins = s.table.origins; bound = s.bound }

-- each name has its node, and there are no more bases than names
pub record IsSoundState (s : ReadState) : Type 0 where
  pub level : length s.bound ≡ length s.names
  pub within : (i k : ℕ) → slice_get s.bound i ≡ Some k → k < length s.table.nodes
  pub few : s.table.bases ≤ length s.names

-- the new state has one command more than the old one
pub record ReadStep (old new : ReadState) (c : Command) : Type 0 where
  pub nodes_stay : Extends old.table.nodes new.table.nodes
  pub origins_stay : Extends old.table.origins new.table.origins
  pub bound_stay : Extends old.bound new.bound
  pub commands_are : new.commands ≡ old.commands ++ c ∷ []
  pub within : SpeaksOfFirst (length new.table.nodes) c
  pub turns : TurnsRight new.table.nodes c
  pub looks : (k : ℕ) → LooksAt new.table.nodes c k → (i : ℕ) × (slice_get old.bound i ≡ Some k)
  pub binds : (i k : ℕ) → slice_get new.bound i ≡ Some k → (slice_get old.bound i ≡ Some k) ⊎ Binds c k

-- what a command and the words after it add to the old state
pub record AddsWords (number : ℕ) (v : Verb) (args : List (List ℕ)) (old new : ReadState) : Type 0 where
  pub command : Command
  pub names_are : new.names ≡ old.names ++ (if binds v then take 1 args else [])
  pub bases_are : new.table.bases ≡ old.table.bases + (if is_own v then 1 else 0)
  pub sound : IsSoundState new
  pub step : ReadStep old new command
  pub means : MeansCommand old.names old.table.bases number v args (binds v) (sets_of new) command

-- what a line adds to the old state: nothing, or a command
abbrev pub AddsCommand : Bool → ℕ → List ℕ → ReadState → ReadState → Type 0
AddsCommand false number text old new = (new.bound ≡ old.bound) × (new.table ≡ old.table) × (new.commands ≡ old.commands)
AddsCommand true number text old new = (c : Command) × ReadStep old new c × MeansWords old.names old.table.bases number (words_of text) (sets_of new) c

pub record AddsLine (number : ℕ) (text : List ℕ) (old new : ReadState) : Type 0 where
  pub passes : line_refusal old.names text ≡ None
  pub names_are : new.names ≡ old.names ++ bound_name (words_of text)
  pub bases_are : new.table.bases ≡ old.table.bases + (if adds_base text then 1 else 0)
  pub sound : IsSoundState new
  pub command : AddsCommand (has_words text) number text old new

-- the number that word i spells, or 0
abbrev pub number_at : List (List ℕ) → ℕ → ℤ
number_at args i = number_or_zero (get_or args i [])

-- the form of the four numbers after the first word
abbrev pub words_form : List (List ℕ) → Form
words_form args = form (number_at args 1) (number_at args 2) (number_at args 3) (number_at args 4)
