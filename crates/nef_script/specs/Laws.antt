-- Laws of all scripts: a script is accepted or has one first refusal.
use Rattle.std.specs.Prelude.{◌≡◌, ℕ, List, [], ◌∷◌, ◌++◌, Some, codes, ◌⊎◌}
use Rattle.nef_script.specs.Table.{shape, verb_of}
use Rattle.nef_script.specs.Refusal.{FirstRefusal, IsAccepted}
use Rattle.nef_script.specs.declared.arguments.Verb.{Verb}
use Rattle.nef_script.specs.declared.script.ScriptKind.{ScriptKind}
use Rattle.nef_script.specs.declared.script.ScriptKind.TheVariants as kind

-- the word of each command is read as that command
abbrev pub CommandsFound : Type 0
CommandsFound = (v : Verb) → verb_of (shape v).0 ≡ Some v

-- a script has at most one first refusal
abbrev pub OneRefusal : Type 0
OneRefusal = (bytes : List ℕ) (m n : ℕ) (j k : ScriptKind) → FirstRefusal bytes m j → FirstRefusal bytes n k → (m ≡ n) × (j ≡ k)

-- an accepted script has no refusal
abbrev pub NeverBoth : Type 0
NeverBoth = (bytes : List ℕ) (n : ℕ) (k : ScriptKind) → FirstRefusal bytes n k → IsAccepted bytes → ⊥

-- a script that isn't accepted has a refusal
abbrev pub AcceptedOrRefused : Type 0
AcceptedOrRefused = (bytes : List ℕ) → IsAccepted bytes ⊎ ((n : ℕ) × (k : ScriptKind) × FirstRefusal bytes n k)

-- the bytes of a script with these lines, each with its line feed
abbrev pub script_of : List (List ℕ) → List ℕ
script_of [] = []
script_of (line ∷ lines) = line ++ (10 ∷ script_of lines)

-- worked examples
abbrev pub UnknownCommandExample : Type 0
UnknownCommandExample = FirstRefusal (script_of (codes "ball A" ∷ [])) 1 kind.UnknownCommand

abbrev pub WordCountExample : Type 0
WordCountExample = FirstRefusal (script_of (codes "half A 1 0 0 closed" ∷ [])) 1 kind.WordCount

abbrev pub BadNameExample : Type 0
BadNameExample = FirstRefusal (script_of (codes "empty 1A" ∷ [])) 1 kind.BadName

abbrev pub NameTakenExample : Type 0
NameTakenExample = FirstRefusal (script_of (codes "empty A" ∷ codes "full A" ∷ [])) 2 kind.NameTaken

abbrev pub UnknownNameExample : Type 0
UnknownNameExample = FirstRefusal (script_of (codes "and C A B" ∷ [])) 1 kind.UnknownName

abbrev pub OwnNameExample : Type 0
OwnNameExample = FirstRefusal (script_of (codes "not A A" ∷ [])) 1 kind.UnknownName

abbrev pub NotANumberExample : Type 0
NotANumberExample = FirstRefusal (script_of (codes "half A 1 0 0 1.5 closed" ∷ [])) 1 kind.NotANumber

abbrev pub ZeroNormalExample : Type 0
ZeroNormalExample = FirstRefusal (script_of (codes "half A 0 0 0 5 closed" ∷ [])) 1 kind.ZeroNormal

abbrev pub BadModeExample : Type 0
BadModeExample = FirstRefusal (script_of (codes "half A 1 0 0 0 shut" ∷ [])) 1 kind.BadMode

abbrev pub OutOfRangeExample : Type 0
OutOfRangeExample = FirstRefusal (script_of (codes "half A 2049 0 0 0 shut" ∷ [])) 1 kind.OutOfRange

abbrev pub BadWeightExample : Type 0
BadWeightExample = FirstRefusal (script_of (codes "empty A" ∷ codes "has A 0 0 0 0" ∷ [])) 2 kind.BadWeight

abbrev pub ZeroDirectionExample : Type 0
ZeroDirectionExample = FirstRefusal (script_of (codes "empty A" ∷ codes "ray A 0 0 0 1 0 -0 00" ∷ [])) 2 kind.ZeroDirection

abbrev pub LongDirectionExample : Type 0
LongDirectionExample = FirstRefusal (script_of (codes "empty A" ∷ codes "ray A 2097152 0 0 1024 0 0 1025" ∷ [])) 2 kind.OutOfRange

abbrev pub FarPointExample : Type 0
FarPointExample = FirstRefusal (script_of (codes "empty A" ∷ codes "has A 8796093022209 0 0 1" ∷ [])) 2 kind.OutOfRange

-- the first line decides, though its kind of refusal comes later in the order
abbrev pub FirstLineExample : Type 0
FirstLineExample = FirstRefusal (script_of (codes "half A 1 0 0 0 shut" ∷ codes "ball A" ∷ [])) 1 kind.BadMode

-- blanks, tabs, comments, and a name that is a command's word
abbrev pub AcceptedExample : Type 0
AcceptedExample = IsAccepted (script_of (codes "full has # a set" ∷ codes "" ∷ codes "  not   N has" ∷ codes "has N -0 007 0 1" ∷ []))
