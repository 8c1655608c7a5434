-- The texts in an output, and what they tell of their sets and of each other.
use Rattle.std.specs.Prelude.{◌≡◌, ◌∷◌, ◌++◌, ◌↔◌}
use Rattle.nef_plan.specs.Prelude.{ℕ, List, length, Node, node_set, Command}
use Rattle.nef_space.specs.Local.{SameSet}
use Rattle.nef_core.specs.declared.work.TextVersion.{TextVersion}
use Rattle.nef_script.specs.declared.script.Command.TheVariants.{Print}
use Rattle.nef_statement.specs.Output.{framed}
use Rattle.nef_shell.specs.Output.{IsOutput}
use Rattle.nef_shell.specs.Written.{TextTells}

-- The command with this number prints node k, and x is the text in its place in the output.
pub record IsPrinted (version : TextVersion) (nodes : List Node) (commands : List Command) (output : List ℕ) (number k : ℕ) (x : List ℕ) : Type 0 where
  pub front : List Command
  pub back : List Command
  pub line : ℕ
  pub name : List ℕ
  pub before : List ℕ
  pub after : List ℕ
  pub place : number ≡ length front
  pub command : commands ≡ front ++ Print line k name ∷ back
  pub first : IsOutput version nodes front before
  pub last : IsOutput version nodes back after
  pub whole : output ≡ before ++ framed name x ++ after

-- Each command that prints has its text in the output, and two texts are equal exactly where the sets are the same.
pub record AreTextsCompared (version : TextVersion) (nodes : List Node) (commands : List Command) (output : List ℕ) : Type 0 where
  pub printed : (front back : List Command) (line k : ℕ) (name : List ℕ) → commands ≡ front ++ Print line k name ∷ back → (x : List ℕ) × IsPrinted version nodes commands output (length front) k x
  pub compared : (i j k l : ℕ) (x y : List ℕ) → IsPrinted version nodes commands output i k x → IsPrinted version nodes commands output j l y → (x ≡ y) ↔ SameSet (node_set nodes k) (node_set nodes l)

-- Each text that is printed of a node tells the node's set: some complex is spelled by it, and a point of the frame belongs to each complex that it spells exactly where
-- the node's expression holds there.
abbrev pub AreTextsMeant : TextVersion → List Node → List Command → List ℕ → Type 0
AreTextsMeant version nodes commands output = (i k : ℕ) (x : List ℕ) → IsPrinted version nodes commands output i k x → TextTells version (node_set nodes k) x
