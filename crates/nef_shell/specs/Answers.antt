-- What a run with accepted words leaves of the source and of the sink.
use Rattle.std.specs.Prelude.{◌≡◌, ◌⊎◌, ℕ, List, Option, None, Some, take}
use Rattle.std.specs.Io.KnownBytes.{Consumes, IsAtEnd}
use Rattle.nef_io.specs.Bytes.{Rose, Grows, GrowsWithin}
use Rattle.nef_plan.specs.Prelude.{Node, Command}
use Rattle.nef_words.specs.Grammar.{options_in}
use Rattle.nef_words.specs.declared.words.Options.{Options}
use Rattle.nef_script.specs.declared.script.ScriptKind.{ScriptKind}
use Rattle.nef_script.specs.Prelude.{FirstRefusal, IsAccepted, MeansScript, stairs_text}
use Rattle.nef_statement.specs.declared.status.Status.{Status}
use Rattle.nef_statement.specs.Output.{refusal_line}
use Rattle.nef_statement.specs.Means.{ReadSource, AreBytesRead}
use Rattle.nef_statement.specs.Traffic.{Traffic}
use Rattle.nef_shell.specs.Output.{IsOutput}
use Rattle.nef_shell.specs.Status.{MatchStatus}

-- the script is accepted, and these are its nodes and its commands
pub record IsWorked (bytes : List ℕ) (nodes : List Node) (commands : List Command) : Type 0 where
  pub accepted : IsAccepted bytes
  pub means : MeansScript bytes nodes commands

-- the bytes are the script that is run: all that the source still had, which is then at its end; or, for a value of `--stairs`, the generated script, and the source
-- has what it had
abbrev pub IsScriptFor : Option ℕ → Option (List ℕ) → Option (List ℕ) → List ℕ → Type 0
IsScriptFor None old new bytes = Consumes old new bytes × IsAtEnd new
IsScriptFor (Some n) old new bytes = (bytes ≡ stairs_text n) × (new ≡ old)

-- what is said where there is no script to work: it is refused, a read failed, or memory was wanted; a count of faults rises where a read failed alone
pub record HasNoScript (stairs : Option ℕ) (old new : Option (List ℕ)) (faults faults' : ℕ) (status : Status) : Type 0 where
  pub said : MatchStatus status
      ⊥
      (λ line kind. (stairs ≡ None) × ((bytes : List ℕ) × AreBytesRead old new bytes × FirstRefusal bytes line kind × (faults' ≡ faults)))
      ⊥
      ((stairs ≡ None) × Rose faults faults')
      ⊥
      (faults' ≡ faults)

-- no count of faults rose
pub record IsQuiet (io : Traffic) : Type 0 where
  pub reads : io.after.read_faults ≡ io.before.read_faults
  pub writes : io.after.write_faults ≡ io.before.write_faults

-- the line of the refusal of the script that the source had
pub record HasRefusal (words : List (List ℕ)) (io : Traffic) (line : ℕ) (kind : ScriptKind) : Type 0 where
  pub source : ReadSource words
  pub bytes : List ℕ
  pub read : AreBytesRead io.before.rest io.after.rest bytes
  pub refused : FirstRefusal bytes line kind
  pub written : Grows io.before.written io.after.written (refusal_line line kind)

-- the whole output of the script that the words have run, with texts of the version that they choose
pub record HasOutput (words : List (List ℕ)) (io : Traffic) : Type 0 where
  pub options : Options
  pub bytes : List ℕ
  pub nodes : List Node
  pub commands : List Command
  pub output : List ℕ
  pub chosen : options_in words ≡ Some options
  pub script : IsScriptFor options.stairs io.before.rest io.after.rest bytes
  pub worked : IsWorked bytes nodes commands
  pub is_output : IsOutput options.text nodes commands output
  pub written : Grows io.before.written io.after.written output

-- some front of what the script defines: of the line of its refusal, where the source had it, or of the output of some number of its first commands
pub data HasFront (words : List (List ℕ)) (io : Traffic) : Type 0 where
  of_refusal : (bytes : List ℕ) (line : ℕ) (kind : ScriptKind) → ReadSource words → AreBytesRead io.before.rest io.after.rest bytes → FirstRefusal bytes line kind → GrowsWithin io.before.written io.after.written (refusal_line line kind) → HasFront words io
  of_output : (options : Options) (bytes : List ℕ) (nodes : List Node) (commands : List Command) (count : ℕ) (output : List ℕ) → options_in words ≡ Some options → IsScriptFor options.stairs io.before.rest io.after.rest bytes → IsWorked bytes nodes commands → IsOutput options.text nodes (take count commands) output → GrowsWithin io.before.written io.after.written output → HasFront words io

-- what each status says of a run with accepted words
abbrev pub HasEnded : List (List ℕ) → Status → Traffic → Type 0
HasEnded words status io =
    MatchStatus status
    (HasOutput words io × IsQuiet io)
    (λ line kind. HasRefusal words io line kind × IsQuiet io)
    ⊥
    (ReadSource words × Rose io.before.read_faults io.after.read_faults × (io.after.written ≡ io.before.written) × (io.after.write_faults ≡ io.before.write_faults))
    (Rose io.before.write_faults io.after.write_faults × HasFront words io × (io.after.read_faults ≡ io.before.read_faults))
    (((io.after.written ≡ io.before.written) ⊎ HasFront words io) × IsQuiet io)
