-- The tests on one line in order, where earlier lines have bound the names.
use Rattle.std.specs.Prelude.{ℕ, Bool, true, false, not, ◌&&◌, ◌||◌, nat_eq, nat_lt, nat_le, nat_abs, int_le, ℤ, pos, List, [], ◌∷◌, Option, Some, None, is_none, unwrap_or, codes, length}
use Rattle.std.specs.List.{list_any, zip}
use Rattle.std.specs.Str.{bytes_eq}
use Rattle.nef_lex.specs.Words.{words_of}
use Rattle.nef_lex.specs.Numbers.{number_of}
use Rattle.nef_lex.specs.Names.{is_name}
use Rattle.nef_script.specs.Table.{verb_of, roles, binds}
use Rattle.nef_script.specs.declared.arguments.Verb.{Verb}
use Rattle.nef_script.specs.declared.arguments.Verb.TheVariants as verb
use Rattle.nef_script.specs.Table.{Role, NewName, Operand, Coefficient, Mode, Weight, Index}
use Rattle.nef_script.specs.declared.script.ScriptKind.{ScriptKind}
use Rattle.nef_script.specs.declared.script.ScriptKind.TheVariants as kind

-- how many bytes a line has at most, without its end; how many names a script binds at most
abbrev pub line_limit : ℕ
line_limit = 256

abbrev pub name_count_limit : ℕ
name_count_limit = 4096

-- the byte is neither a tab nor a printable ASCII byte
abbrev pub is_bad_byte : ℕ → Bool
is_bad_byte b = not (nat_eq b 9 || (nat_le 32 b && nat_le b 126))

-- the whole number that a word spells, or 0; tests on numbers
abbrev pub number_or_zero : List ℕ → ℤ
number_or_zero word = unwrap_or (number_of word) (pos 0)

abbrev pub is_zero : ℤ → Bool
is_zero z = nat_eq (nat_abs z) 0

abbrev pub is_from : ℕ → ℕ → ℤ → Bool
is_from least most z = int_le (pos least) z && int_le z (pos most)

-- the test on a command, which fails where there is no command
abbrev pub on_verb : (Verb → Bool) → Option Verb → Bool
on_verb test None = false
on_verb test (Some v) = test v

-- whether a kind of refusal holds for a word, by the word's role and the bound names
abbrev pub word_test : ScriptKind → List (List ℕ) → Role × List ℕ → Bool
word_test kind.BadName names (NewName, word) = not (is_name word)
word_test kind.BadName names (Operand, word) = not (is_name word)
word_test kind.NameTaken names (NewName, word) = list_any (bytes_eq word) names
word_test kind.UnknownName names (Operand, word) = not (list_any (bytes_eq word) names)
word_test kind.NotANumber names (Coefficient limit, word) = is_none (number_of word)
word_test kind.NotANumber names (Weight most, word) = is_none (number_of word)
word_test kind.NotANumber names (Index most, word) = is_none (number_of word)
word_test kind.OutOfRange names (Coefficient limit, word) = nat_lt limit (nat_abs (number_or_zero word))
word_test kind.OutOfRange names (Index most, word) = not (is_from 0 most (number_or_zero word))
word_test kind.BadMode names (Mode, word) = not (bytes_eq word (codes "open") || bytes_eq word (codes "closed"))
word_test kind.BadWeight names (Weight most, word) = not (is_from 1 most (number_or_zero word))
word_test k names (role, word) = false

-- the command is a half whose a, b and c are all zero
abbrev pub has_zero_normal : Verb → List (List ℕ) → Bool
has_zero_normal verb.Half (name ∷ a ∷ b ∷ c ∷ rest) = is_zero (number_or_zero a) && is_zero (number_or_zero b) && is_zero (number_or_zero c)
has_zero_normal v args = false

-- the command is a ray whose dx, dy and dz are all zero
abbrev pub has_zero_direction : Verb → List (List ℕ) → Bool
has_zero_direction verb.Ray (name ∷ x ∷ y ∷ z ∷ w ∷ dx ∷ dy ∷ dz ∷ rest) = is_zero (number_or_zero dx) && is_zero (number_or_zero dy) && is_zero (number_or_zero dz)
has_zero_direction v args = false

-- the tests on a line with this command, or none, and these words after it, in order, each with its kind of refusal
abbrev pub command_tests : List (List ℕ) → Option Verb → List (List ℕ) → List (ScriptKind × Bool)
command_tests names None args = (kind.UnknownCommand, true) ∷ []
command_tests names (Some v) args =
    let some_word : ScriptKind → ScriptKind × Bool = λ k. (k, list_any (word_test k names) (zip (roles v) args)) in
    (kind.WordCount, not (nat_eq (length args) (length (roles v))))
    ∷ some_word kind.BadName
    ∷ some_word kind.NameTaken
    ∷ some_word kind.UnknownName
    ∷ some_word kind.NotANumber
    ∷ some_word kind.OutOfRange
    ∷ (kind.ZeroNormal, has_zero_normal v args)
    ∷ some_word kind.BadMode
    ∷ some_word kind.BadWeight
    ∷ (kind.ZeroDirection, has_zero_direction v args)
    ∷ (kind.TooManyNames, binds v && nat_le name_count_limit (length names))
    ∷ []

abbrev pub words_tests : List (List ℕ) → List (List ℕ) → List (ScriptKind × Bool)
words_tests names [] = []
words_tests names (word ∷ args) = command_tests names (verb_of word) args

abbrev pub line_tests : List (List ℕ) → List ℕ → List (ScriptKind × Bool)
line_tests names line = (kind.LineTooLong, nat_lt line_limit (length line)) ∷ (kind.BadByte, list_any is_bad_byte line) ∷ words_tests names (words_of line)
