-- The plain grammar of words. From the left, each word is `--ahead`; or `--workers`, `--board`, `--stairs` or `--text`,
-- with its value in the next word or after a `=`; or `--` as the last word. Each option comes once at most. All other
-- words are refused.
use Rattle.std.specs.Prelude.{ℕ, Bool, true, ◌==◌, List, [], ◌∷◌, ◌++◌, Option, Some, None, codes, if◌then◌else◌, option_and_then, option_map, unwrap_or, find, bytes_eq}
use Rattle.std.specs.List.{list_any, before_first, after_first}
use Rattle.nef_core.specs.declared.work.BoardKind.{BoardKind}
use Rattle.nef_core.specs.declared.work.TextVersion.{TextVersion}
use Rattle.nef_words.specs.declared.words.Options.{Options}
use Rattle.nef_words.specs.Chosen.{number_to, board_named, version_named, stairs_of}

-- the value of an option, among the options that were given, each with its value
abbrev pub option_value : List ℕ → List (List ℕ × List ℕ) → Option (List ℕ)
option_value name given = option_map (λ g. g.1) (find (λ g. bytes_eq g.0 name) given)

-- the given options with one more, which wasn't given before
abbrev pub once : List ℕ → List ℕ → List (List ℕ × List ℕ) → Option (List (List ℕ × List ℕ))
once name value given = if list_any (λ g. bytes_eq g.0 name) given then None else Some (given ++ (name, value) ∷ [])

-- the option with a value that the word names: the word is `--` and the option's name, alone or before a `=`
abbrev pub option_in : List ℕ → Option (List ℕ)
option_in word = find (λ name. bytes_eq (codes "--" ++ name) (before_first (λ b. b == 61) word)) (codes "workers" ∷ codes "board" ∷ codes "stairs" ∷ codes "text" ∷ [])

-- the options that the words give, after those given before; a first name waits for its value; no word follows `--`
unfoldable pub read : Option (List ℕ) → List (List ℕ × List ℕ) → List (List ℕ) → Option (List (List ℕ × List ℕ))
read None given [] = Some given
read (Some name) given [] = None
read (Some name) given (word ∷ rest) = option_and_then (λ more. read None more rest) (once name word given)
read None given (word ∷ rest) =
    if bytes_eq word (codes "--") then (if list_any (λ next. true) rest then None else Some given)
    else (if bytes_eq (codes "--ahead") word then option_and_then (λ more. read None more rest) (once (codes "ahead") (codes "true") given)
    else option_and_then (λ name.
    if list_any (λ b. b == 61) word then option_and_then (λ more. read None more rest) (once name (after_first (λ b. b == 61) word) given)
    else read (Some name) given rest) (option_in word))

-- the options of formed values: by default 1 worker, of at most 64, the board `lock`, no generated boxes, and version 1
abbrev pub all_formed : Option ℕ → Option BoardKind → Option (Option ℕ) → Option TextVersion → Bool → Option Options
all_formed (Some workers) (Some board) (Some stairs) (Some text) ahead = Some (record { how = record { workers = workers; board = board }; stairs = stairs; text = text; ahead = ahead })
all_formed workers board stairs text ahead = None

abbrev pub choice : List (List ℕ × List ℕ) → Option Options
choice given = all_formed (number_to 64 (unwrap_or (option_value (codes "workers") given) (codes "1"))) (board_named (unwrap_or (option_value (codes "board") given) (codes "lock")))
    (stairs_of (option_value (codes "stairs") given)) (version_named (unwrap_or (option_value (codes "text") given) (codes "1"))) (bytes_eq (unwrap_or (option_value (codes "ahead") given) (codes "false")) (codes "true"))

-- the options that the words choose
unfoldable pub options_in : List (List ℕ) → Option Options
options_in words = option_and_then choice (read None [] words)
