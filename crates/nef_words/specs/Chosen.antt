-- What words choose.
use Rattle.std.specs.Prelude.{ℕ, Bool, ◌&&◌, List, [], Some, None, Option, codes, nat_le, if◌then◌else◌, option_map, unwrap_or, bytes_eq}
use Rattle.nef_space.specs.Limits.{most_stairs}
use Rattle.clap.specs.Words.{Text, Kinds, fault_of}
use Rattle.nef_lex.specs.Numbers.{is_digits, decimal_value}
use Rattle.nef_core.specs.declared.work.BoardKind.{BoardKind}
use Rattle.nef_core.specs.declared.work.BoardKind.TheVariants.{Lock, Free}
use Rattle.nef_core.specs.declared.work.TextVersion.{TextVersion}
use Rattle.nef_core.specs.declared.work.TextVersion.TheVariants.{One, Two}
use Rattle.nef_words.specs.declared.words.Options.{Options}
use Rattle.nef_words.specs.Usage.{usage, given}

-- the number from 1 to most that one or more digits spell
abbrev pub number_to : ℕ → Text → Option ℕ
number_to most text = if is_digits text && nat_le 1 (decimal_value text) && nat_le (decimal_value text) most then Some (decimal_value text) else None

-- the board that a value names; the version of the text that a value names
abbrev pub board_named : Text → Option BoardKind
board_named text = if bytes_eq text (codes "lock") then Some Lock else (if bytes_eq text (codes "free") then Some Free else None)

abbrev pub version_named : Text → Option TextVersion
version_named text = if bytes_eq text (codes "1") then Some One else (if bytes_eq text (codes "2") then Some Two else None)

-- the number of boxes that a value gives, or no number without a value
abbrev pub stairs_of : Option Text → Option (Option ℕ)
stairs_of None = Some None
stairs_of (Some text) = option_map (λ n. Some n) (number_to most_stairs text)

-- the options, if the words have no fault and each value is of its form
abbrev pub options_from : Kinds → Option ℕ → Option BoardKind → Option (Option ℕ) → Option TextVersion → Bool → Option Options
options_from [] (Some workers) (Some board) (Some stairs) (Some text) ahead = Some (record { how = record { workers = workers; board = board }; stairs = stairs; text = text; ahead = ahead })
options_from faults workers board stairs text ahead = None

-- the options of the words: by default 1 worker, of at most 64, the board `lock`, no generated boxes, and version 1
unfoldable pub options_of : List Text → Option Options
options_of words = options_from (fault_of usage words)
    (number_to 64 (unwrap_or (given (codes "workers") words) (codes "1")))
    (board_named (unwrap_or (given (codes "board") words) (codes "lock")))
    (stairs_of (given (codes "stairs") words))
    (version_named (unwrap_or (given (codes "text") words) (codes "1")))
    (bytes_eq (unwrap_or (given (codes "ahead") words) []) (codes "true"))
