-- What is written of a command.
use Rattle.std.specs.Prelude.{ℕ, Bool, true, false, List, ◌++◌, codes}
use Rattle.nef_statement.specs.Output.{line_end}
use Rattle.nef_shell.specs.declared.piece.Piece.{Piece}
use Rattle.nef_shell.specs.declared.piece.Piece.TheVariants.{Line, Text}

abbrev pub piece_bytes : Piece → List ℕ
piece_bytes (Line line) = line.now
piece_bytes (Text text) = text.items

-- whether two sets are one
abbrev pub same_answer : Bool → List ℕ
same_answer true = codes "same" ++ line_end
same_answer false = codes "differs" ++ line_end

-- whether two points are joined
abbrev pub joined_answer : Bool → List ℕ
joined_answer true = codes "joined" ++ line_end
joined_answer false = codes "apart" ++ line_end
