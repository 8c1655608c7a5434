-- What the program makes of the words of the command line.
use Rattle.std.specs.Prelude.{◌≡◌, ℕ, Result, Ok, Err, map, drop, string_bytes}
use Rattle.std.specs.Vec.Iter.{into_iter_items}
use Rattle.std.specs.declared.io.Error.{Error}
use Rattle.std.specs.declared.string.String.{String}
use Rattle.std.specs.declared.vec.IntoIter.{IntoIter}
use Rattle.std.specs.declared.vec.Vec.{Vec}
use Rattle.nef_statement.specs.declared.status.Status.TheVariants.{Done}
use Rattle.nef_statement.specs.Status.{status_code}
use Rattle.nef_statement.specs.Traffic.{Traffic}
use Rattle.nef_shell.specs.Ended.{RunEnds}

-- these are all the words of the line, or why they can't be had
abbrev pub IsCollected : {X Y Z : Type 0} → Result (IntoIter X Y) Error → Result (Vec X Z) Error → Type 0
IsCollected (Ok words) (Ok all) = all.items ≡ into_iter_items words
IsCollected (Err error) (Err same) = same ≡ error
IsCollected (Ok words) (Err same) = ⊥
IsCollected (Err error) (Ok all) = ⊥

-- how the program ends at exit status 0: as a run that is done, with the words behind the program's name
abbrev pub ProgramEnds : {Y Z : Type 0} → Result (IntoIter (String Y) Z) Error → ℕ → Traffic → Type 0
ProgramEnds {Y} {Z} line code io = (words : IntoIter (String Y) Z) → line ≡ Ok words → code ≡ status_code Done → RunEnds (map string_bytes (drop 1 (into_iter_items words))) Done io
