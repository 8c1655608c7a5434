-- What is said of a run by its status.
use Rattle.std.specs.Prelude.{ℕ}
use Rattle.nef_script.specs.declared.script.ScriptKind.{ScriptKind}
use Rattle.nef_statement.specs.declared.status.Status.{Status}
use Rattle.nef_statement.specs.declared.status.Status.TheVariants.{Done, Refused, Words, ReadFault, WriteFault, OutOfMemory}

-- a fact for each status: done, refused at a line, words refused, read fault, write fault, out of memory
abbrev pub MatchStatus : Status → Type 0 → (ℕ → ScriptKind → Type 0) → Type 0 → Type 0 → Type 0 → Type 0 → Type 0
MatchStatus Done P Q R S T U = P
MatchStatus (Refused line kind) P Q R S T U = Q line kind
MatchStatus Words P Q R S T U = R
MatchStatus ReadFault P Q R S T U = S
MatchStatus WriteFault P Q R S T U = T
MatchStatus OutOfMemory P Q R S T U = U
