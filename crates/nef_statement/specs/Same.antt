-- What follows for all runs: lines say one output, words and bytes mean one thing, and runs asked for the same agree.
use Rattle.std.specs.Prelude.{◌≡◌, ℕ, List, [], ◌++◌, Some, None, take}
use Rattle.nef_space.specs.Sets.{Set}
use Rattle.nef_core.specs.declared.work.TextVersion.{TextVersion}
use Rattle.nef_io.specs.Bytes.{Grows, GrowsWithin}
use Rattle.nef_words.specs.Grammar.{options_in}
use Rattle.nef_words.specs.declared.words.Options.{Options}
use Rattle.nef_statement.specs.declared.status.Status.{Status}
use Rattle.nef_statement.specs.Means.{ReadSource, Means}
use Rattle.nef_statement.specs.Said.{AreSaid}
use Rattle.nef_statement.specs.Statement.{RunSays}
use Rattle.nef_statement.specs.Status.{EndsByItself}
use Rattle.nef_statement.specs.Traffic.{Traffic}

-- ---- lines
-- lines say one output at most, whether a script has these lines or not
abbrev pub OneOutput : (TextVersion → Set → List ℕ → Type 0) → Type 0
OneOutput Text = (version : TextVersion) (lines : List (List ℕ)) (x y : List ℕ) → AreSaid (Text version) [] lines x → AreSaid (Text version) [] lines y → x ≡ y

-- where lines say something, the first of them say a front of that: so do those of an accepted script
abbrev pub FirstLinesSay : (TextVersion → Set → List ℕ → Type 0) → Type 0
FirstLinesSay Text = (version : TextVersion) (lines : List (List ℕ)) (count : ℕ) (x : List ℕ) → AreSaid (Text version) [] lines x → (y : List ℕ) × (rest : List ℕ) × AreSaid (Text version) [] (take count lines) y × (x ≡ y ++ rest)

-- ---- meanings
-- all words and bytes mean one status and one output
abbrev pub OneMeaning : (TextVersion → Set → List ℕ → Type 0) → Type 0
OneMeaning Text = (words : List (List ℕ)) (bytes : List ℕ) → (s : Status) × (x : List ℕ) × Means Text words bytes s x × ((t : Status) (y : List ℕ) → Means Text words bytes t y → (s ≡ t) × (x ≡ y))

-- a run that ended with this status wrote a front of the output, and all of it where the run ended by itself
abbrev pub WroteOf : List ℕ → Status → Traffic → Type 0
WroteOf output status io = GrowsWithin io.before.written io.after.written output × (EndsByItself status → Grows io.before.written io.after.written output)

-- a run whose source tells its bytes, if read, writes of the meant output, and ends as meant where it ends by itself
abbrev pub AsMeant : (TextVersion → Set → List ℕ → Type 0) → Type 0
AsMeant Text = (words : List (List ℕ)) (bytes output : List ℕ) (meant status : Status) (io : Traffic) → Means Text words bytes meant output → RunSays Text words status io → (ReadSource words → io.before.rest ≡ Some bytes) → WroteOf output status io × (EndsByItself status → status ≡ meant)

-- ---- two runs
-- two runs are asked for the same: both have refused words; or their words choose one version and one script, which
-- both sources tell unless it is generated
pub data AskTheSame (words words' : List (List ℕ)) (io io' : Traffic) : Type 0 where
  of_words : options_in words ≡ None → options_in words' ≡ None → AskTheSame words words' io io'
  of_script : (o o' : Options) (bytes : List ℕ) → options_in words ≡ Some o → options_in words' ≡ Some o' → o.text ≡ o'.text → o.stairs ≡ o'.stairs → (o.stairs ≡ None → (io.before.rest ≡ Some bytes) × (io'.before.rest ≡ Some bytes)) → AskTheSame words words' io io'

-- runs that are asked for the same write fronts of one output, whatever else their words choose and however they end
abbrev pub SameOutput : (TextVersion → Set → List ℕ → Type 0) → Type 0
SameOutput Text = (words words' : List (List ℕ)) (status status' : Status) (io io' : Traffic) → RunSays Text words status io → RunSays Text words' status' io' → AskTheSame words words' io io' → (output : List ℕ) × WroteOf output status io × WroteOf output status' io'

-- runs that are asked for the same and end by themselves end in the same way
abbrev pub SameStatus : (TextVersion → Set → List ℕ → Type 0) → Type 0
SameStatus Text = (words words' : List (List ℕ)) (status status' : Status) (io io' : Traffic) → RunSays Text words status io → RunSays Text words' status' io' → AskTheSame words words' io io' → EndsByItself status → EndsByItself status' → status ≡ status'
