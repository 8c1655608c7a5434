-- The command as which the words are read: four options that take one value each, and one that takes none.
use Rattle.std.specs.Prelude.{true, List, Some, Option, codes}
use Rattle.clap.specs.Words.{App, Rule, Text, first_of, matches_of, new_app, new_rule, with_rule}
use Rattle.clap.specs.declared.builder.ArgAction.{ArgAction}
use Rattle.clap.specs.declared.builder.ArgAction.TheVariants.{Set, SetTrue}

-- an option with one value (`Set`), or without a value, when its value is `true` if the words have it, else `false`
abbrev pub option_named : ArgAction → Text → Rule
option_named action id = record (new_rule id) { long = Some id; action = Some action }

-- the command, where words come without the program's name
abbrev pub without_name : App → App
without_name a = record a { top = record a.top { no_binary_name = true } }

abbrev pub usage : App
usage = with_rule (with_rule (with_rule (with_rule (with_rule (without_name (new_app (codes "nef"))) (option_named Set (codes "workers"))) (option_named Set (codes "board"))) (option_named Set (codes "stairs"))) (option_named Set (codes "text"))) (option_named SetTrue (codes "ahead"))

-- the value that the words give to an option
abbrev pub given : Text → List Text → Option Text
given id words = first_of id (matches_of usage words)
