-- What runs of the program say of their scripts. Text version s x stands for: x is the text of set s in this version.
use Rattle.std.specs.Prelude.{◌≡◌, ◌↔◌, ◌⊎◌, ℕ, List, [], None, Some, drop, map, Result, Ok, Err, string_bytes}
use Rattle.nef_space.specs.Prelude.{error_kind, InvalidData, SameSet, Set}
use Rattle.std.specs.Vec.Iter.{into_iter_items}
use Rattle.std.specs.declared.io.Error.{Error}
use Rattle.std.specs.declared.string.String.{String}
use Rattle.std.specs.declared.vec.IntoIter.{IntoIter}
use Rattle.nef_core.specs.declared.work.TextVersion.{TextVersion}
use Rattle.nef_io.specs.Bytes.{Rose, Grows, GrowsWithin}
use Rattle.nef_script.specs.Prelude.{lines_of, IsAccepted}
use Rattle.nef_words.specs.Grammar.{options_in}
use Rattle.nef_statement.specs.declared.status.Status.{Status}
use Rattle.nef_statement.specs.declared.status.Status.TheVariants.{ReadFault, WriteFault, OutOfMemory}
use Rattle.nef_statement.specs.Means.{ReadSource, AreBytesRead, Means}
use Rattle.nef_statement.specs.Reader.{TextSays}
use Rattle.nef_statement.specs.Said.{AreSaid}
use Rattle.nef_statement.specs.Status.{status_code}
use Rattle.nef_statement.specs.Traffic.{Traffic}

-- by its words and the bytes that were read of its source a run is to end with this status and to write this output
abbrev pub IsMeant : (TextVersion → Set → List ℕ → Type 0) → List (List ℕ) → Traffic → Status → List ℕ → Type 0
IsMeant Text words io status output = (bytes : List ℕ) × (ReadSource words → AreBytesRead io.before.rest io.after.rest bytes) × Means Text words bytes status output

-- the sink took some front of an output that is meant
abbrev pub WroteFront : (TextVersion → Set → List ℕ → Type 0) → List (List ℕ) → Traffic → Type 0
WroteFront Text words io = (status : Status) × (output : List ℕ) × IsMeant Text words io status output × GrowsWithin io.before.written io.after.written output

-- how a run ended: by itself, with the whole output; by a failed read, with nothing; by a failed write; or for want of
-- memory, which may come before the script is read
pub data Ended (Text : TextVersion → Set → List ℕ → Type 0) (words : List (List ℕ)) (io : Traffic) : Status → Type 0 where
  by_itself : (status : Status) (output : List ℕ) → IsMeant Text words io status output → Grows io.before.written io.after.written output → Ended Text words io status
  read_fault : ReadSource words → Rose io.before.read_faults io.after.read_faults → io.after.written ≡ io.before.written → Ended Text words io ReadFault
  write_fault : Rose io.before.write_faults io.after.write_faults → WroteFront Text words io → Ended Text words io WriteFault
  out_of_memory : (io.after.written ≡ io.before.written) ⊎ WroteFront Text words io → Ended Text words io OutOfMemory

-- what a run with these words and this status says, where io tells of its source and its sink
pub record RunSays (Text : TextVersion → Set → List ℕ → Type 0) (words : List (List ℕ)) (status : Status) (io : Traffic) : Type 0 where
  pub ended : Ended Text words io status
  -- the source is read only where the words say so; a count of faults rises only with the status of its fault
  pub unread : (ReadSource words → ⊥) → io.after.rest ≡ io.before.rest
  pub reads : (status ≡ ReadFault → ⊥) → io.after.read_faults ≡ io.before.read_faults
  pub writes : (status ≡ WriteFault → ⊥) → io.after.write_faults ≡ io.before.write_faults

-- what all runs have in common
pub record Statement (Text : TextVersion → Set → List ℕ → Type 0) : Type 0 where
  -- two texts of one version are equal exactly where their sets are the same, and a text tells its set
  pub one_text : (version : TextVersion) (s t : Set) (x y : List ℕ) → Text version s x → Text version t y → (x ≡ y) ↔ SameSet s t
  pub text_says : (version : TextVersion) (s : Set) (x : List ℕ) → Text version s x → TextSays version s x
  -- an accepted script has an output, and no other output
  pub the_output : (version : TextVersion) (bytes : List ℕ) → IsAccepted bytes → (x : List ℕ) × AreSaid (Text version) [] (lines_of bytes) x × ((y : List ℕ) → AreSaid (Text version) [] (lines_of bytes) y → x ≡ y)
  -- where no count of faults rises, a run ends as meant, or for want of memory; a source that is read tells its bytes
  pub completes : (words : List (List ℕ)) (bytes output : List ℕ) (meant status : Status) (io : Traffic) → Means Text words bytes meant output → RunSays Text words status io
      → (ReadSource words → (io.before.rest ≡ Some bytes) × (Rose io.before.read_faults io.after.read_faults → ⊥)) → (Rose io.before.write_faults io.after.write_faults → ⊥) → (status ≡ meant) ⊎ (status ≡ OutOfMemory)

-- how the program ends, by its exit status: as a run with the words after the program's name; as a run with refused
-- words, where one of them isn't text; or for want of memory for the words, which never comes for words that aren't
-- text, with nothing read or written
pub data ProgramSays {Y Z : Type 0} (Text : TextVersion → Set → List ℕ → Type 0) (line : Result (IntoIter (String Y) Z) Error) (code : ℕ) (io : Traffic) : Type 0 where
  ran : (words : IntoIter (String Y) Z) (status : Status) → line ≡ Ok words → RunSays Text (map string_bytes (drop 1 (into_iter_items words))) status io → code ≡ status_code status → ProgramSays Text line code io
  no_text : (error : Error) (words : List (List ℕ)) (status : Status) → line ≡ Err error → error_kind error ≡ InvalidData → options_in words ≡ None → RunSays Text words status io → (status ≡ OutOfMemory → ⊥) → code ≡ status_code status → ProgramSays Text line code io
  no_memory : ((error : Error) → line ≡ Err error → error_kind error ≡ InvalidData → ⊥) → io.after ≡ io.before → code ≡ status_code OutOfMemory → ProgramSays Text line code io
