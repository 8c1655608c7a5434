-- What the value of each option chooses.
use Rattle.std.specs.Prelude.{ℕ, Bool, List, [], Option, codes, option_map, unwrap_or, bytes_eq}
use Rattle.std.specs.Borrow.{Bor}
use Rattle.clap.specs.Words.{Text}
use Rattle.nef_core.specs.declared.work.BoardKind.{BoardKind}
use Rattle.nef_core.specs.declared.work.TextVersion.{TextVersion}
use Rattle.nef_words.specs.declared.words.Options.{Options}
use Rattle.nef_words.specs.Chosen.{number_to, board_named, version_named, stairs_of, options_from}

-- the options that were given, each with its value
abbrev pub GivenOptions : Type 0
GivenOptions = List (List ℕ × List ℕ)

-- the number of workers, the board and the version of the text that a value chooses
abbrev pub workers_of : Option Text → Option ℕ
workers_of value = number_to 64 (unwrap_or value (codes "1"))

abbrev pub board_of : Option Text → Option BoardKind
board_of value = board_named (unwrap_or value (codes "lock"))

abbrev pub text_of : Option Text → Option TextVersion
text_of value = version_named (unwrap_or value (codes "1"))

-- the flag is given
abbrev pub is_given : Option Text → Bool
is_given value = bytes_eq (unwrap_or value []) (codes "true")

-- the options that five values choose, for words without a fault
abbrev pub options_of_values : Option Text → Option Text → Option Text → Option Text → Option Text → Option Options
options_of_values workers board stairs text ahead = options_from [] (workers_of workers) (board_of board) (stairs_of stairs) (text_of text) (is_given ahead)

-- the text behind an optional reference
abbrev pub text_in : Option (Bor (List ℕ)) → Option Text
text_in option = option_map (λ s. s.now) option
