-- Laws of lines and words: bytes are made of their lines, and a line is made of its words and the gaps between them.
use Rattle.std.specs.Prelude.{◌≡◌, ℕ, ◌<◌, ◌==◌, Bool, true, false, List, [], ◌∷◌, ◌++◌, map, length, ◌⊎◌, ⊤, not, if◌then◌else◌}
use Rattle.std.specs.List.{All}
use Rattle.nef_lex.specs.Lines.{line_feed, carriage_return, is_line_feed, pieces_of, without_return}
use Rattle.nef_lex.specs.Words.{comment_mark, is_gap, words_of}

abbrev pub LacksFeed : List ℕ → Type 0
LacksFeed bytes = All (λ b. is_line_feed b ≡ false) bytes

-- each piece with a line feed after it, and then the rest
abbrev pub each_ended : List (List ℕ) → List ℕ → List ℕ
each_ended [] rest = rest
each_ended (piece ∷ pieces) rest = piece ++ (line_feed ∷ each_ended pieces rest)

-- the rest as a last piece, if it isn't empty
abbrev pub last_piece : List ℕ → List (List ℕ)
last_piece [] = []
last_piece (b ∷ bs) = (b ∷ bs) ∷ []

-- pieces that were ended by line feeds are cut apart again
abbrev pub PiecesOfEnded : Type 0
PiecesOfEnded = (pieces : List (List ℕ)) (rest : List ℕ) → All LacksFeed pieces → LacksFeed rest → pieces_of (each_ended pieces rest) ≡ pieces ++ last_piece rest

-- all bytes are pieces ended by line feeds, with a rest
abbrev pub EndedPieces : Type 0
EndedPieces = (bytes : List ℕ) → (pieces : List (List ℕ)) × (rest : List ℕ) × All LacksFeed pieces × LacksFeed rest × (bytes ≡ each_ended pieces rest)

-- of carriage returns at the end one is dropped; no other byte is dropped
abbrev pub ReturnDropped : Type 0
ReturnDropped = (bytes : List ℕ) → without_return (bytes ++ carriage_return ∷ []) ≡ bytes

abbrev pub OthersKept : Type 0
OthersKept = (bytes : List ℕ) (b : ℕ) → (b ≡ carriage_return → ⊥) → without_return (bytes ++ b ∷ []) ≡ bytes ++ b ∷ []

abbrev pub IsGap : List ℕ → Type 0
IsGap bytes = All (λ b. is_gap b ≡ true) bytes

abbrev pub is_comment_mark : ℕ → Bool
is_comment_mark b = b == comment_mark

-- the byte is no blank, tab or comment mark
abbrev pub is_word_byte : ℕ → Bool
is_word_byte b = if is_gap b then false else not (is_comment_mark b)

-- the bytes are a word: not empty, without blank, tab and comment mark
abbrev pub IsWord : List ℕ → Type 0
IsWord bytes = (0 < length bytes) × All (λ b. is_word_byte b ≡ true) bytes

-- the bytes are a gap, and then nothing or a comment
abbrev pub IsRest : List ℕ → Type 0
IsRest bytes = (gap : List ℕ) × IsGap gap × ((bytes ≡ gap) ⊎ ((text : List ℕ) × (bytes ≡ gap ++ comment_mark ∷ text)))

-- each word after its gap, and then the rest
abbrev pub spaced : List (List ℕ × List ℕ) → List ℕ → List ℕ
spaced [] rest = rest
spaced (p ∷ ps) rest = p.0 ++ (p.1 ++ spaced ps rest)

-- the gap before the first word isn't empty
abbrev pub BeginsApart : List (List ℕ × List ℕ) → Type 0
BeginsApart [] = ⊤
BeginsApart (p ∷ ps) = 0 < length p.0

-- gaps before words, of which only the first may be empty
abbrev pub IsParted : List (List ℕ × List ℕ) → Type 0
IsParted [] = ⊤
IsParted (p ∷ ps) = IsGap p.0 × IsWord p.1 × BeginsApart ps × IsParted ps

-- words with gaps between them are the words of their line
abbrev pub WordsOfSpaced : Type 0
WordsOfSpaced = (ps : List (List ℕ × List ℕ)) (rest : List ℕ) → IsParted ps → IsRest rest → words_of (spaced ps rest) ≡ map (λ p. p.1) ps

-- each line is made of gaps, words and a rest
abbrev pub SpacedWords : Type 0
SpacedWords = (line : List ℕ) → (ps : List (List ℕ × List ℕ)) × (rest : List ℕ) × IsParted ps × IsRest rest × (line ≡ spaced ps rest)
