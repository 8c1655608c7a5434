-- The tests on a command and the words after it, kind by kind.
use Rattle.std.specs.Prelude.{ℕ, Bool, false, not, ◌&&◌, nat_eq, nat_le, List, [], ◌∷◌, length}
use Rattle.std.specs.List.{list_any, zip}
use Rattle.nef_script.specs.Table.{verb_of, roles, binds}
use Rattle.nef_script.specs.Tests.{name_count_limit, on_verb, word_test, has_zero_normal, has_zero_direction}
use Rattle.nef_script.specs.declared.arguments.Verb.{Verb}
use Rattle.nef_script.specs.declared.script.ScriptKind.{ScriptKind}
use Rattle.nef_script.specs.declared.script.ScriptKind.TheVariants as kind

-- whether a kind of refusal holds for a command and the words after it
abbrev pub command_test : ScriptKind → List (List ℕ) → Verb → List (List ℕ) → Bool
command_test kind.WordCount names v args = not (nat_eq (length args) (length (roles v)))
command_test kind.ZeroNormal names v args = has_zero_normal v args
command_test kind.ZeroDirection names v args = has_zero_direction v args
command_test kind.TooManyNames names v args = binds v && nat_le name_count_limit (length names)
command_test k names v args = list_any (word_test k names) (zip (roles v) args)

-- a test on the command of a line's words and on the words after it; lines without a command pass
abbrev pub on_command : (Verb → List (List ℕ) → Bool) → List (List ℕ) → Bool
on_command test [] = false
on_command test (word ∷ args) = on_verb (λ v. test v args) (verb_of word)

-- the kinds that are tested on a command and the words after it, in the order of the tests
abbrev pub kinds : List ScriptKind
kinds =
    kind.WordCount
    ∷ kind.BadName
    ∷ kind.NameTaken
    ∷ kind.UnknownName
    ∷ kind.NotANumber
    ∷ kind.OutOfRange
    ∷ kind.ZeroNormal
    ∷ kind.BadMode
    ∷ kind.BadWeight
    ∷ kind.ZeroDirection
    ∷ kind.TooManyNames
    ∷ []
