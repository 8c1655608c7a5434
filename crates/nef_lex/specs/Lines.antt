-- The lines of a script.
use Rattle.std.specs.Prelude.{ℕ, ◌==◌, Bool, cond, List, [], ◌∷◌, map}
use Rattle.std.specs.List.{onto_first, enumerate_from}
use Rattle.nef_lex.specs.declared.line.Line.{Line}

abbrev pub line_feed : ℕ
line_feed = 10

abbrev pub carriage_return : ℕ
carriage_return = 13

-- the bytes cut at each line feed; what follows the last line feed is a piece if it isn't empty
abbrev pub pieces_of : List ℕ → List (List ℕ)
pieces_of [] = []
pieces_of (b ∷ bs) = cond (b == line_feed) ([] ∷ pieces_of bs) (onto_first b (pieces_of bs))

-- the bytes, without the last byte if that is a carriage return
abbrev pub without_return : List ℕ → List ℕ
without_return [] = []
without_return (b ∷ []) = cond (b == carriage_return) [] (b ∷ [])
without_return (b ∷ c ∷ bs) = b ∷ without_return (c ∷ bs)

-- the lines of a script, with their comments
abbrev pub lines_of : List ℕ → List (List ℕ)
lines_of bytes = map without_return (pieces_of bytes)

abbrev pub is_line_feed : ℕ → Bool
is_line_feed b = b == line_feed

-- a line as its number and its bytes
abbrev pub line_shown : Line → ℕ × List ℕ
line_shown line = (line.number, line.text.now)

-- the lines of the bytes, numbered from n on
abbrev pub numbered_lines : ℕ → List ℕ → List (ℕ × List ℕ)
numbered_lines n bytes = enumerate_from n (lines_of bytes)
