-- How a run ends.
use Rattle.std.specs.Prelude.{ℕ}
use Rattle.nef_io.specs.declared.traits.ReadAll.{ReadAll}
use Rattle.nef_io.specs.declared.traits.ReadAll.TheVariants as read
use Rattle.nef_script.specs.declared.script.ScriptFault.{ScriptFault}
use Rattle.nef_script.specs.declared.script.ScriptFault.TheVariants as fault
use Rattle.nef_script.specs.declared.script.ScriptKind.TheVariants.{ScriptTooLong}
use Rattle.nef_statement.specs.declared.status.Status.{Status}
use Rattle.nef_statement.specs.declared.status.Status.TheVariants.{Done, Refused, Words, ReadFault, WriteFault, OutOfMemory}

-- the exit status of a run
abbrev pub status_code : Status → ℕ
status_code Done = 0
status_code (Refused line kind) = 1
status_code Words = 2
status_code ReadFault = 3
status_code WriteFault = 4
status_code OutOfMemory = 5

-- the run ended by itself: the script was worked to its end, or the script or the words were refused
abbrev pub EndsByItself : Status → Type 0
EndsByItself Done = Unit {0}
EndsByItself (Refused line kind) = Unit {0}
EndsByItself Words = Unit {0}
EndsByItself _ = ⊥

-- the status of a run whose source wasn't read: too many bytes are a refusal of the whole script, line 0
abbrev pub unread : ReadAll → Status
unread read.ReadFault = ReadFault
unread read.TooLong = Refused 0 ScriptTooLong
unread read.OutOfMemory = OutOfMemory

-- the status of a run whose script wasn't accepted
abbrev pub unaccepted : ScriptFault → Status
unaccepted (fault.Refused line kind) = Refused line kind
unaccepted fault.OutOfMemory = OutOfMemory
