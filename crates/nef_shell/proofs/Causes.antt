-- Why there is no script to work.
use Rattle.nef_shell.proofs.Prelude.{◌≡◌, ℕ, ◌+◌, List, Option, None, Result, Err, length, arith, inr, Rose, script_limit, FirstRefusal, ScriptKind, AreBytesRead, unread, unaccepted, HasNoScript}
use Rattle.std.specs.Io.KnownBytes.{Consumes}
use Rattle.nef_io.specs.declared.traits.ReadAll.{ReadAll}
use Rattle.nef_io.specs.declared.traits.ReadAll.TheVariants as read
use Rattle.nef_script.specs.declared.script.ScriptFault.{ScriptFault}
use Rattle.nef_script.specs.declared.script.ScriptFault.TheVariants as fault
use Rattle.nef_script.specs.declared.script.ScriptKind.TheVariants.{ScriptTooLong}

-- more bytes were read than a script may have
too-long : (bytes : List ℕ) → length bytes ≡ script_limit + 1 → FirstRefusal bytes 0 ScriptTooLong
too-long bytes long = FirstRefusal.too_long (omega arith)

-- it couldn't be read, or has too many bytes
pub none-read : {X : Type 0} (stairs : Option ℕ) (old new : Option (List ℕ)) (faults faults' : ℕ) (r : Result X ReadAll) (e : ReadAll) → r ≡ Err e → stairs ≡ None → (r ≡ Err read.ReadFault → Rose faults faults')
    → (r ≡ Err read.TooLong → (bytes : List ℕ) × Consumes old new bytes × (length bytes ≡ script_limit + 1)) → (r ≡ Err read.TooLong → faults' ≡ faults) → (r ≡ Err read.OutOfMemory → faults' ≡ faults) → HasNoScript stairs old new faults faults' (unread e)
none-read stairs old new faults faults' r read.ReadFault was none rose long quiet wanted = record { said = (none, rose was) }
none-read stairs old new faults faults' r read.TooLong was none rose long quiet wanted =
    let (bytes, taken, most) = long was in
    record { said = (none, (bytes, (taken, inr most), too-long bytes most, quiet was)) }
none-read stairs old new faults faults' r read.OutOfMemory was none rose long quiet wanted = record { said = wanted was }

-- its bytes are refused, which the source had
pub none-accepted : {X : Type 0} (stairs : Option ℕ) (old new : Option (List ℕ)) (faults faults' : ℕ) (bytes : List ℕ) (r : Result X ScriptFault) (e : ScriptFault) → r ≡ Err e → ((line : ℕ) (kind : ScriptKind) → r ≡ Err (fault.Refused line kind) → FirstRefusal bytes line kind)
    → ((line : ℕ) (kind : ScriptKind) → FirstRefusal bytes line kind → (stairs ≡ None) × AreBytesRead old new bytes) → faults' ≡ faults → HasNoScript stairs old new faults faults' (unaccepted e)
none-accepted stairs old new faults faults' bytes r (fault.Refused line kind) was refused had quiet =
    let first = refused line kind was in
    let (none, taken) = had line kind first in
    record { said = (none, (bytes, taken, first, quiet)) }
none-accepted stairs old new faults faults' bytes r fault.OutOfMemory was refused had quiet = record { said = quiet }
