-- What the commands of a script write.
use Rattle.std.specs.Prelude.{◌≡◌, ◌∷◌, ◌++◌}
use Rattle.nef_complex.specs.Prelude.{ℕ, List, [], HasLabel, Label, point_of, vector_of, text}
use Rattle.nef_complex.specs.declared.complex.Complex.{Complex}
use Rattle.nef_core.specs.declared.work.TextVersion.{TextVersion}
use Rattle.nef_complex.specs.declared.parts.Parts.{Parts}
use Rattle.nef_plan.specs.Prelude.{Node, node_set, Command}
use Rattle.nef_script.specs.declared.script.Command.TheVariants.{Bind, Turn, Has, Joined, Ray, Same, Count, Print}
use Rattle.nef_statement.specs.Output.{answer_of, framed, IsSameAnswer, IsJoinedAnswer, IsRayAnswer}
use Rattle.nef_statement.specs.Texts.{IsWrittenOf, count_line}

-- the text of a complex under its name
abbrev pub printed : TextVersion → List ℕ → Complex → Parts → List ℕ
printed version name c p = framed name (text version c p)

-- what one command writes, where texts are of this version: nothing where it binds a name, and else the answer to what it asks
abbrev pub IsPiece : TextVersion → List Node → Command → List ℕ → Type 0
IsPiece version nodes (Bind _ k) piece = piece ≡ []
IsPiece version nodes (Turn _ k i t) piece = piece ≡ []
IsPiece version nodes (Has _ k p) piece = (l : Label) × HasLabel (node_set nodes k) (point_of p) l × (piece ≡ answer_of l)
IsPiece version nodes (Joined _ k p q) piece = IsJoinedAnswer (node_set nodes k) (point_of p) (point_of q) piece
IsPiece version nodes (Ray _ k p d) piece = IsRayAnswer (node_set nodes k) (point_of p) (vector_of d) piece
IsPiece version nodes (Same _ i j) piece = IsSameAnswer (node_set nodes i) (node_set nodes j) piece
IsPiece version nodes (Count _ k) piece = IsWrittenOf (node_set nodes k) count_line piece
IsPiece version nodes (Print _ k name) piece = IsWrittenOf (node_set nodes k) (printed version name) piece

-- the pieces of the commands, in order
abbrev pub IsOutput : TextVersion → List Node → List Command → List ℕ → Type 0
IsOutput version nodes [] output = output ≡ []
IsOutput version nodes (c ∷ cs) output = (piece : List ℕ) × (rest : List ℕ) × IsPiece version nodes c piece × IsOutput version nodes cs rest × (output ≡ piece ++ rest)
