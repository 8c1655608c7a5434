-- The first refusal of a script: the first line for which some test holds, and the first such test.
use Rattle.std.specs.Prelude.{◌≡◌, ◌+◌, ◌<◌, ◌≤◌, ◌∷◌, ◌++◌, if◌then◌else◌, ℕ, List, [], Option, Some, None, find, option_map, length, take, slice_get}
use Rattle.nef_lex.specs.Prelude.{lines_of, words_of}
use Rattle.nef_script.specs.Table.{verb_of, binds}
use Rattle.nef_script.specs.Tests.{line_tests, on_verb}
use Rattle.nef_script.specs.declared.script.ScriptKind.{ScriptKind}
use Rattle.nef_script.specs.declared.script.ScriptKind.TheVariants as kind

-- how many bytes a script has at most
abbrev pub script_limit : ℕ
script_limit = 1048576

-- the first kind of refusal that holds for a line, where these names are bound by earlier lines
abbrev pub line_refusal : List (List ℕ) → List ℕ → Option ScriptKind
line_refusal names line = option_map (λ t. t.0) (find (λ t. t.1) (line_tests names line))

-- the name that a line binds, if it binds one
abbrev pub bound_name : List (List ℕ) → List (List ℕ)
bound_name (word ∷ name ∷ rest) = if on_verb binds (verb_of word) then name ∷ [] else []
bound_name words = []

-- the names that lines bind, in order
abbrev pub names_of : List (List ℕ) → List (List ℕ)
names_of [] = []
names_of (line ∷ lines) = bound_name (words_of line) ++ names_of lines

-- line n, counted from 0, has this first kind of refusal, or none, where the lines before it bind the names
abbrev pub RefusalAt : List (List ℕ) → ℕ → Option ScriptKind → Type 0
RefusalAt lines n r = (line : List ℕ) × (slice_get lines n ≡ Some line) × (line_refusal (names_of (take n lines)) line ≡ r)

-- none of the first n lines is refused
abbrev pub NoneRefused : List (List ℕ) → ℕ → Type 0
NoneRefused lines n = (m : ℕ) → m < n → RefusalAt lines m None

pub data FirstRefusal (bytes : List ℕ) : ℕ → ScriptKind → Type 0 where
  too_long : script_limit < length bytes → FirstRefusal bytes 0 kind.ScriptTooLong
  at_line : (n : ℕ) (k : ScriptKind) → length bytes ≤ script_limit → RefusalAt (lines_of bytes) n (Some k) → NoneRefused (lines_of bytes) n → FirstRefusal bytes (n + 1) k

-- no line of the script is refused, and the script isn't too long
pub record IsAccepted (bytes : List ℕ) : Type 0 where
  pub short : length bytes ≤ script_limit
  pub passes : NoneRefused (lines_of bytes) (length (lines_of bytes))
