-- The texts of the refusals.
use Rattle.std.specs.Prelude.{ℕ, List, codes}
use Rattle.nef_script.specs.declared.script.ScriptKind.{ScriptKind}
use Rattle.nef_script.specs.declared.script.ScriptKind.TheVariants as kind

abbrev pub kind_text : ScriptKind → List ℕ
kind_text kind.LineTooLong = codes "line too long"
kind_text kind.BadByte = codes "bad byte"
kind_text kind.UnknownCommand = codes "unknown command"
kind_text kind.WordCount = codes "wrong number of words"
kind_text kind.BadName = codes "bad name"
kind_text kind.NameTaken = codes "name taken"
kind_text kind.UnknownName = codes "unknown name"
kind_text kind.NotANumber = codes "not a number"
kind_text kind.OutOfRange = codes "coefficient out of range"
kind_text kind.ZeroNormal = codes "zero normal"
kind_text kind.BadMode = codes "mode is not open or closed"
kind_text kind.BadWeight = codes "weight out of range"
kind_text kind.ZeroDirection = codes "zero direction"
kind_text kind.TooManyNames = codes "too many names"
kind_text kind.ScriptTooLong = codes "script too long"
