-- What the words of a line are read as: a value, or the first kind of refusal for these words.
use Rattle.std.specs.Prelude.{◌≡◌, ℕ, ◌<◌, Bool, true, false, ◌&&◌, ◌||◌, not, nat_eq, nat_le, List, [], ◌∷◌, Option, Some, None, Result, Ok, Err, IfOk, find, length, get_or, pos, if◌then◌else◌}
use Rattle.std.specs.List.{list_any, zip, position}
use Rattle.std.specs.Str.{bytes_eq}
use Rattle.nef_expr.specs.declared.nodes.Node.{Node}
use Rattle.nef_script.specs.Table.{begins_new, binds, is_own, verb_of}
use Rattle.nef_script.specs.Tests.{name_count_limit, number_or_zero, is_zero, word_test}
use Rattle.nef_script.specs.Checks.{command_test, kinds}
use Rattle.nef_script.specs.Limits.{KeepsRayLimits}
use Rattle.nef_script.specs.Meaning.{NamesNode, IsNodeOfLine, IsQuestion}
use Rattle.nef_script.specs.declared.arguments.Verb.{Verb}
use Rattle.nef_script.specs.declared.arguments.Verb.TheVariants as verb
use Rattle.nef_script.specs.Table.{Role}
use Rattle.nef_script.specs.declared.script.ScriptKind.{ScriptKind}
use Rattle.nef_script.specs.declared.script.ScriptKind.TheVariants as kind
use Rattle.nef_script.specs.declared.script.Command.TheVariants as command
use Rattle.nef_script.specs.declared.statement.Statement.{Statement}
use Rattle.nef_script.specs.declared.statement.Statement.TheVariants.{Bind, Turn, Ask, Print}

-- the number of a kind in the order of the tests
abbrev pub kind_number : ScriptKind → ℕ
kind_number kind.LineTooLong = 0
kind_number kind.BadByte = 1
kind_number kind.UnknownCommand = 2
kind_number kind.WordCount = 3
kind_number kind.BadName = 4
kind_number kind.NameTaken = 5
kind_number kind.UnknownName = 6
kind_number kind.NotANumber = 7
kind_number kind.OutOfRange = 8
kind_number kind.ZeroNormal = 9
kind_number kind.BadMode = 10
kind_number kind.BadWeight = 11
kind_number kind.ZeroDirection = 12
kind_number kind.TooManyNames = 13
kind_number kind.ScriptTooLong = 14

-- the first kind of refusal that holds, of the kinds that are tested on a command and its words
abbrev pub first_kind_of : (ScriptKind → Bool) → Option ScriptKind
first_kind_of holds = find holds kinds

-- the earlier of two kinds in the order of the tests
abbrev pub earlier : ScriptKind → ScriptKind → ScriptKind
earlier j k = if nat_le (kind_number j) (kind_number k) then j else k

-- both values, or the earlier of the refusals
abbrev pub both : {X Y : Type 0} → Result X ScriptKind → Result Y ScriptKind → Result (X × Y) ScriptKind
both {X} {Y} (Ok x) (Ok y) = Ok (x, y)
both {X} {Y} (Ok x) (Err k) = Err k
both {X} {Y} (Err j) (Ok y) = Err j
both {X} {Y} (Err j) (Err k) = Err (earlier j k)

-- the kind of the refusal, if there is one
abbrev pub refused : {X : Type 0} → Result X ScriptKind → Option ScriptKind
refused {X} (Ok x) = None
refused {X} (Err k) = Some k

-- r is the refusal of the first kind that holds, or a value with Means where no kind holds
pub record IsRead {X : Type 0} (holds : ScriptKind → Bool) (Means : X → Type 0) (r : Result X ScriptKind) : Type 0 where
  pub refusal : refused r ≡ first_kind_of holds
  pub value : IfOk r Means

-- ---- tests on words in their roles, beside those on one word

abbrev pub is_count : ScriptKind → Bool
is_count kind.WordCount = true
is_count k = false

abbrev pub is_room : ScriptKind → Bool
is_room kind.TooManyNames = true
is_room k = false

abbrev pub is_normal : ScriptKind → Bool
is_normal kind.ZeroNormal = true
is_normal k = false

abbrev pub is_direction : ScriptKind → Bool
is_direction kind.ZeroDirection = true
is_direction k = false

-- the three words spell zeros
abbrev pub are_zero : List ℕ → List ℕ → List ℕ → Bool
are_zero x y z = is_zero (number_or_zero x) && is_zero (number_or_zero y) && is_zero (number_or_zero z)

-- the kind is "too many names", and the script has no room for another name
abbrev pub no_room : List (List ℕ) → ScriptKind → Bool
no_room names k = is_room k && nat_le name_count_limit (length names)

-- for some word the kind holds in the word's role
abbrev pub some_fails : List (List ℕ) → List Role → List (List ℕ) → ScriptKind → Bool
some_fails names roles words k = list_any (word_test k names) (zip roles words)

-- the kinds that hold for the words after a command with these roles, except the kinds about zeros
abbrev pub roles_test : List (List ℕ) → List Role → List (List ℕ) → ScriptKind → Bool
roles_test names roles words k = (not (nat_eq (length words) (length roles)) && is_count k) || (some_fails names roles words k || (begins_new roles && no_room names k))

-- ---- what words mean

-- the first word is a name that isn't bound yet, and the script has room for one more name
pub record IsNewName (names args : List (List ℕ)) (name : List ℕ) : Type 0 where
  pub some : 0 < length args
  pub first : name ≡ get_or args 0 []
  pub free : position (bytes_eq name) names ≡ None
  pub room : length names < name_count_limit

-- the statement binds a new name to a node with IsIt
abbrev pub BindsNew : List (List ℕ) → List (List ℕ) → (Node → Type 0) → Statement → Type 0
BindsNew names args IsIt (Bind name n) = IsNewName names args name.now × IsIt n
BindsNew names args IsIt s = ⊥

-- the second word names node `from`, and the third is the number of the turn
pub record IsTurnOfNode (names : List (List ℕ)) (bound : List ℕ) (args : List (List ℕ)) (from turn : ℕ) : Type 0 where
  pub count : length args ≡ 3
  pub named : NamesNode names bound (get_or args 1 []) from
  pub number : number_or_zero (get_or args 2 []) ≡ pos turn
  pub below : turn < 48

-- the statement is what the command and the words after it mean
abbrev pub IsStatement : List (List ℕ) → List ℕ → ℕ → Verb → List (List ℕ) → Statement → Type 0
IsStatement names bound line v args (Bind name n) = (is_own v ≡ true) × IsNewName names args name.now × IsNodeOfLine names bound v args n
IsStatement names bound line v args (Turn name from t) = (v ≡ verb.Turn) × IsNewName names args name.now × IsTurnOfNode names bound args from t
IsStatement names bound line v args (Ask c) = (binds v ≡ false) × IsQuestion names bound line v args c × KeepsRayLimits c
IsStatement names bound line v args (Print k name) = (binds v ≡ false) × IsQuestion names bound line v args (command.Print line k name.now)

-- r is the refusal of the first test that holds, or the statement that the command and the words after it mean
abbrev pub Reads : List (List ℕ) → List ℕ → ℕ → Verb → List (List ℕ) → Result Statement ScriptKind → Type 0
Reads names bound line v args r = IsRead (λ k. command_test k names v args) (IsStatement names bound line v args) r

-- what a line with these words says, if it has words
abbrev pub LineSays : List (List ℕ) → List ℕ → ℕ → List (List ℕ) → Option Statement → Type 0
LineSays names bound line words None = words ≡ []
LineSays names bound line words (Some s) = (word : List ℕ) × (args : List (List ℕ)) × (v : Verb) × (words ≡ word ∷ args) × (verb_of word ≡ Some v) × IsStatement names bound line v args s
