-- Each script has a meaning, and the sets of its meanings, which share nodes among names, are those of the lines.
use Rattle.std.specs.Prelude.{◌≡◌}
use Rattle.nef_space.specs.Prelude.{ℕ, List, [], Some, SameSet, Set}
use Rattle.nef_expr.specs.declared.nodes.Node.{Node}
use Rattle.nef_expr.specs.Nodes.{node_set, IsOrdered}
use Rattle.nef_script.specs.Refusal.{names_of, IsAccepted}
use Rattle.nef_script.specs.Meaning.{NamesNode, Sets, MeansLines, MeansScript}
use Rattle.nef_script.specs.declared.script.Command.{Command}
use Rattle.nef_statement.specs.Denotes.{set_named, denoted}

-- each accepted script has a meaning
abbrev pub EachMeans : Type 0
EachMeans = (bytes : List ℕ) → IsAccepted bytes → (nodes : List Node) × (commands : List Command) × MeansScript bytes nodes commands

-- in each meaning the lines give each name the set of its node
abbrev pub NodesDenote : Type 0
NodesDenote = (lines : List (List ℕ)) (sets : Sets) (commands : List Command) → MeansLines lines sets commands → IsOrdered sets.nodes → (name : List ℕ) (k : ℕ) → NamesNode (names_of lines) sets.bound name k → (s : Set) × (set_named (denoted [] lines) name ≡ Some s) × SameSet s (node_set sets.nodes k)
