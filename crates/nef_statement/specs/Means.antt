-- What a run is asked for by its words and its source's bytes: how it ends and what it writes, where nothing fails.
use Rattle.std.specs.Prelude.{◌≡◌, ◌+◌, ◌⊎◌}
use Rattle.nef_geo.specs.Prelude.{ℕ, List, [], Option, Some, None, option_map, length, Set}
use Rattle.std.specs.Io.KnownBytes.{Consumes, IsAtEnd}
use Rattle.nef_core.specs.declared.work.TextVersion.{TextVersion}
use Rattle.nef_script.specs.Prelude.{lines_of, stairs_text}
use Rattle.nef_words.specs.Grammar.{options_in}
use Rattle.nef_words.specs.declared.words.Options.{Options}
use Rattle.nef_script.specs.Refusal.{script_limit, FirstRefusal, IsAccepted}
use Rattle.nef_script.specs.declared.script.ScriptKind.{ScriptKind}
use Rattle.nef_statement.specs.declared.status.Status.{Status}
use Rattle.nef_statement.specs.declared.status.Status.TheVariants.{Done, Refused, Words}
use Rattle.nef_statement.specs.Output.{refusal_line, words_line}
use Rattle.nef_statement.specs.Said.{AreSaid}

-- the words have the source read: they are accepted, and give no `--stairs`
abbrev pub ReadSource : List (List ℕ) → Type 0
ReadSource words = option_map (λ options. options.stairs) (options_in words) ≡ Some None

-- the bytes that were read: all that the source still had, or one byte more than a script may have
abbrev pub AreBytesRead : Option (List ℕ) → Option (List ℕ) → List ℕ → Type 0
AreBytesRead old new bytes = Consumes old new bytes × (IsAtEnd new ⊎ (length bytes ≡ script_limit + 1))

-- the status and the output that words and bytes mean: for refused words, a refused script, an accepted script, and the
-- generated script, which is never refused
pub data Means (Text : TextVersion → Set → List ℕ → Type 0) (words : List (List ℕ)) (bytes : List ℕ) : Status → List ℕ → Type 0 where
  refused_words : options_in words ≡ None → Means Text words bytes Words words_line
  refused : (line : ℕ) (kind : ScriptKind) → ReadSource words → FirstRefusal bytes line kind → Means Text words bytes (Refused line kind) (refusal_line line kind)
  worked : (options : Options) (output : List ℕ) → options_in words ≡ Some options → options.stairs ≡ None → IsAccepted bytes → AreSaid (Text options.text) [] (lines_of bytes) output → Means Text words bytes Done output
  generated : (options : Options) (boxes : ℕ) (output : List ℕ) → options_in words ≡ Some options → options.stairs ≡ Some boxes → AreSaid (Text options.text) [] (lines_of (stairs_text boxes)) output → Means Text words bytes Done output
