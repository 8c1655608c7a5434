-- Clap's walk over the words of the one command, a word at a time.
use Rattle.nef_words.proofs.Prelude.{◌≡◌, ◌∙◌, ℕ, Bool, true, false, List, [], ◌∷◌, Option, Some, None, refl, codes, fold, unwrap_or, bytes_eq, is_some, Kinds, or_else, Shape, built, filled, with_index, help_rule, entered, Rule, Row, Text, Held, Walk, Waiting, idle, walk_from, nothing_held, settled, settled_rows, finished, first_of, with_default, turn_fault, settle_fault, defaults_fault, check_fault, entered_fault, BoardKind, TextVersion, Options, usage, option_named, number_to, board_named, version_named, stairs_of, options_from}
use Rattle.clap.specs.declared.builder.ArgAction.TheVariants.{Set, SetTrue}
use Rattle.clap.specs.Walk.{walked}
use Rattle.clap.specs.Faults.{walk_fault}
use Rattle.nef_words.specs.Chosen.{options_of}

-- a walk with nothing to skip
abbrev pub at : List Row → Option (Text × List Text) → Waiting → Bool → Walk
at rows p waiting trailing = record { held = record { rows = rows; pending = p; skip = 0 }; waiting = waiting; position = 1; is_trailing = trailing; stopped = None }

abbrev pub chosen : Kinds → List Row → Option Options
chosen ks rows = options_from ks
    (number_to 64 (unwrap_or (first_of (codes "workers") rows) (codes "1")))
    (board_named (unwrap_or (first_of (codes "board") rows) (codes "lock")))
    (stairs_of (first_of (codes "stairs") rows))
    (version_named (unwrap_or (first_of (codes "text") rows) (codes "1")))
    (bytes_eq (unwrap_or (first_of (codes "ahead") rows) []) (codes "true"))

abbrev pub last_fault : Shape → List Row → Kinds
last_fault s rows = or_else (defaults_fault rows s.rules) (check_fault s (fold with_default rows s.rules) false)

abbrev pub end_fault : Shape → Held → Kinds
end_fault s h = or_else (settle_fault s.rules s.args_override_self h) (last_fault s (settled s.rules h).rows)

-- what the walk comes to
unfoldable pub answer : Shape → Walk → List Text → Option Options
answer s w words = chosen (or_else (walk_fault s [] w words) (end_fault s (fold (walked s.rules []) w words).held)) (finished s.rules (fold (walked s.rules []) w words).held)

abbrev pub clear : Kinds → Option Options → Option Options
clear [] x = x
clear (k ∷ ks) x = None

pub clear_None : (ks : Kinds) → clear ks None ≡ None
clear_None [] = refl
clear_None (k ∷ ks) = refl

clear_step : (ks ls ms : Kinds) (a : Option ℕ) (b : Option BoardKind) (c : Option (Option ℕ)) (d : Option TextVersion) (e : Bool)
    → options_from (or_else (or_else ks ls) ms) a b c d e ≡ clear ks (options_from (or_else ls ms) a b c d e)
clear_step [] ls ms a b c d e = refl
clear_step (k ∷ ks) ls ms a b c d e = refl

pub walk_step : (s : Shape) (w : Walk) (word : Text) (rest : List Text) → answer s w (word ∷ rest) ≡ clear (turn_fault s [] w word) (answer s (walked s.rules [] w word) rest)
unfolding answer walk_fault
walk_step s w word rest = clear_step (turn_fault s [] w word) _ _ _ _ _ _ _

clear_both : (ks ls : Kinds) (a : Option ℕ) (b : Option BoardKind) (c : Option (Option ℕ)) (d : Option TextVersion) (e : Bool)
    → options_from (or_else ks ls) a b c d e ≡ clear ks (options_from ls a b c d e)
clear_both [] ls a b c d e = refl
clear_both (k ∷ ks) ls a b c d e = refl

-- the command's rules
abbrev pub valued_rule : Text → Rule
valued_rule id = with_index 1 (filled (option_named Set id))

abbrev pub ahead_rule : Rule
ahead_rule = with_index 1 (filled (option_named SetTrue (codes "ahead")))

abbrev pub last_rule : Rule
last_rule = with_index 1 (filled help_rule)

unfoldable pub rules : List Rule
rules = valued_rule (codes "workers") ∷ valued_rule (codes "board") ∷ valued_rule (codes "stairs") ∷ valued_rule (codes "text") ∷ ahead_rule ∷ last_rule ∷ []

abbrev pub top : Shape
top = record (built usage).top { rules = rules }

no_entry : (stop : Option (Text × List Text)) → (is_some (entered (built usage) stop) ≡ false) × (entered_fault (built usage) stop ≡ [])
no_entry None = (refl, refl)
no_entry (Some p) = (refl, refl)

pub options_answer : (words : List Text) → options_of words ≡ answer top (walk_from nothing_held) words
unfolding options_of answer rules
options_answer words =
    let n = no_entry (fold (walked rules []) (walk_from nothing_held) words).stopped in
    rw (n.0, n.1) refl

-- at the end
pub at_end : (rows : List Row) (p : Option (Text × List Text)) (w : Waiting) (t : Bool) → answer top (at rows p w t) [] ≡ clear (settle_fault rules false (record { rows = rows; pending = p; skip = 0 })) (chosen (last_fault top (settled_rows rules p rows)) (fold with_default (settled_rows rules p rows) rules))
unfolding answer walk_fault
at_end rows p w t = clear_both (settle_fault rules false (record { rows = rows; pending = p; skip = 0 })) _ _ _ _ _ _

-- no word may follow `--`
pub after_end : (rows : List Row) (p : Option (Text × List Text)) (w : Waiting) (word : Text) (rest : List Text) → answer top (at rows p w true) (word ∷ rest) ≡ None
unfolding rules
after_end rows p w word rest = walk_step top (at rows p w true) word rest

-- `--`
pub end_word : (rows : List Row) (p : Option (Text × List Text)) (word : Text) (rest : List Text) → bytes_eq word (codes "--") ≡ true → answer top (at rows p idle false) (word ∷ rest) ≡ answer top (at rows p idle true) rest
unfolding walked
end_word rows p word rest e = walk_step top (at rows p idle false) word rest ∙ rw e refl
